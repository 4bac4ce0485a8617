-- The parts of an address, one after another. Assumes nothing.
use Rattle.std.proofs.Common.{◌≡◌, ℕ, suc, ◌<◌, ◌≤◌, Bool, true, false, cond, ◌&&◌, ◌||◌, eqb, ltb, List, [], ◌∷◌, length, take, drop, sym, refl, ap, ◌∙◌, arith}
use Rattle.std.specs.List.{list_all}
use Rattle.std.specs.Prelude.{codes}
use Rattle.std.specs.Str.{bytes_eq}
use Rattle.std.proofs.Math.Bool.{or_assoc, or-false}
use Rattle.std.proofs.lemmas.List.{length-drop}
use Rattle.std.proofs.lemmas.Bool.Decides.{nat_tests}
use Rattle.std.proofs.lemmas.Bool.{both_ways}
use Rattle.wire.specs.Reading.{At, at, forward, before, begins_with}
use Rattle.address.specs.Addresses.{dot, is_scheme, is_symbol, all_symbols, is_segment, all_segments, longer_first, parts, rest_segments, scheme_first, scheme_and_more, is_address}

-- the parts after the first, of the bytes from the first dot on
abbrev pub after_dot : List ℕ → List (List ℕ)
after_dot [] = []
after_dot (b ∷ bs) = parts bs

split_at : (b : ℕ) (bs : List ℕ) (t : Bool) → parts bs ≡ take (before dot bs) bs ∷ after_dot (drop (before dot bs) bs) → cond t ([] ∷ parts bs) (longer_first b (parts bs)) ≡ take (cond t 0 (suc (before dot bs))) (b ∷ bs) ∷ after_dot (drop (cond t 0 (suc (before dot bs))) (b ∷ bs))
split_at b bs true e = refl
split_at b bs false e = ap (longer_first b) e

-- the first part ends at the first dot
pub parts_first : (bs : List ℕ) → parts bs ≡ take (before dot bs) bs ∷ after_dot (drop (before dot bs) bs)
parts_first [] = refl
parts_first (b ∷ bs) = split_at b bs (eqb b dot) (parts_first bs)

rest_at : (b : ℕ) (bs : List ℕ) (t : Bool) → eqb b dot ≡ t → all_segments (after_dot (drop (before dot bs) bs)) ≡ rest_segments (drop (before dot bs) bs) → all_segments (after_dot (drop (cond t 0 (suc (before dot bs))) (b ∷ bs))) ≡ rest_segments (drop (cond t 0 (suc (before dot bs))) (b ∷ bs))
rest_at b bs true e h = ap (λ t. t && all_segments (parts bs)) (sym e)
rest_at b bs false e h = h

pub rest-first : (bs : List ℕ) → all_segments (after_dot (drop (before dot bs) bs)) ≡ rest_segments (drop (before dot bs) bs)
rest-first [] = refl
rest-first (b ∷ bs) = rest_at b bs (eqb b dot) refl (rest-first bs)

-- one segment, and those behind it
pub segments-first : (bs : List ℕ) → all_segments (parts bs) ≡ (is_segment (take (before dot bs) bs) && rest_segments (drop (before dot bs) bs))
segments-first bs = ap all_segments (parts_first bs) ∙ ap (λ t. is_segment (take (before dot bs) bs) && t) (rest-first bs)

after-dot : (xs : List ℕ) → begins_with dot xs ≡ true → rest_segments xs ≡ all_segments (parts (drop 1 xs))
after-dot [] e = absurd (both_ways false refl e)
after-dot (x ∷ xs) e = rw e

-- a segment behind a dot is read, and the reader stands behind it
pub segment-read : (a b d : At) → begins_with dot a.rest ≡ true → b ≡ forward 1 a → d ≡ forward (before dot b.rest) b → rest_segments a.rest ≡ (is_segment (take (before dot b.rest) b.rest) && rest_segments d.rest)
unfolding forward
segment-read a b d begins first second =
    after-dot a.rest begins ∙ ap (λ at. all_segments (parts at.rest)) (sym first) ∙ segments-first b.rest
    ∙ ap (λ at. is_segment (take (before dot b.rest) b.rest) && rest_segments at.rest) (sym second)

shorter : (xs : List ℕ) → begins_with dot xs ≡ true → length (drop 1 xs) < length xs
shorter [] e = absurd (both_ways false refl e)
shorter (x ∷ xs) e = omega arith

pub rest-shorter : (a b d : At) → begins_with dot a.rest ≡ true → b ≡ forward 1 a → d ≡ forward (before dot b.rest) b → length d.rest < length a.rest
unfolding forward
rest-shorter a b d begins first second =
    omega (arith, shorter a.rest begins, ap (λ at. length at.rest) first, ap (λ at. length at.rest) second, length-drop (before dot b.rest) b.rest)

-- the scheme is read, and the reader stands behind it
pub scheme-read : (s : List ℕ) (a b : At) → a ≡ at 0 s → b ≡ forward (before dot a.rest) a → scheme_first (parts s) ≡ (is_scheme (take (before dot a.rest) a.rest) && rest_segments b.rest)
unfolding forward
scheme-read s a b start e =
    ap (λ at. scheme_first (parts at.rest)) (sym start) ∙ ap scheme_first (parts_first a.rest)
    ∙ ap (λ t. is_scheme (take (before dot a.rest) a.rest) && t) (rest-first a.rest)
    ∙ ap (λ at. is_scheme (take (before dot a.rest) a.rest) && rest_segments at.rest) (sym e)

more_parts : (p r : List ℕ) → scheme_and_more (p ∷ after_dot r) ≡ (ltb 0 (length r) && scheme_first (p ∷ after_dot r))
more_parts p [] = refl
more_parts p (b ∷ bs) = rw (parts_first bs) (grind (arith, nat_tests))

-- an address has more than its scheme
pub address_read : (s : List ℕ) (a b : At) → a ≡ at 0 s → b ≡ forward (before dot a.rest) a → scheme_and_more (parts s) ≡ (ltb 0 (length b.rest) && scheme_first (parts s))
unfolding forward
address_read s a b start e =
    let n : ℕ = before dot a.rest in
    ap (λ at. scheme_and_more (parts at.rest)) (sym start) ∙ ap scheme_and_more (parts_first a.rest)
    ∙ more_parts (take n a.rest) (drop n a.rest)
    ∙ ap (λ ps. ltb 0 (length (drop n a.rest)) && scheme_first ps) (sym (parts_first a.rest))
    ∙ ap (λ at. ltb 0 (length at.rest) && scheme_first (parts a.rest)) (sym e)
    ∙ ap (λ at. ltb 0 (length b.rest) && scheme_first (parts at.rest)) start

-- an address is not too long for its field
pub address-short : (s : List ℕ) → is_address s ≡ true → length s ≤ 1023
unfolding is_address
address-short s e = grind (arith, nat_tests)

-- each byte is a symbol
pub symbols-all : (s : List ℕ) → all_symbols s ≡ list_all is_symbol s
symbols-all [] = refl
symbols-all (b ∷ bs) = ap (λ t. is_symbol b && t) (symbols-all bs)

-- the schemes, looked for in a table
pub scheme_among : (s : List ℕ) → (bytes_eq s (codes "g") || (bytes_eq s (codes "private") || (bytes_eq s (codes "example") || (bytes_eq s (codes "peer") || (bytes_eq s (codes "self") || (bytes_eq s (codes "test") || (bytes_eq s (codes "test1") || (bytes_eq s (codes "test2") || (bytes_eq s (codes "test3") || (bytes_eq s (codes "local") || false)))))))))) ≡ is_scheme s
scheme_among s = simp (or_assoc, or-false) refl
