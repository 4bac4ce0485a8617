-- Lists of numbers, none twice. Assumes nothing.
use Rattle.std.proofs.Common.{◌≡◌, ℕ, zero, suc, ◌+◌, ◌-◌, ◌<◌, ◌≤◌, Bool, true, false, cond, eqb, List, [], ◌∷◌, ◌++◌, length, get_or, take, drop, sym, refl, ◌∙◌, arith, None, Some, position}
use Rattle.std.proofs.lemmas.Grind.{common_steps}
use Rattle.std.proofs.lemmas.Bool.{eqb-true, eq-eqb}
use Rattle.std.proofs.lemmas.Bool.Decides.{nat_tests}
use Rattle.std.proofs.lemmas.List.{drop-take, take-take, length-take-le}
use Rattle.std.proofs.lemmas.List.Edits.{take-paste}
use Rattle.std.proofs.lemmas.List.Quantifiers.{position-Some}
use Rattle.std.proofs.Math.Seq.{paste}
use Rattle.std.proofs.lemmas.List.Folds.{list_any-append, list_any_at}
use Rattle.std.specs.List.{remove, copy_within, list_any}
use Rattle.stage.specs.Numbers.{among, none_twice, without}

-- where a test comes first and yields no, a yes is of the second test alone
pub not_first : (a b : Bool) → cond a false b ≡ true → (a ≡ false) × (b ≡ true)
not_first true b h = (cc, cc)
not_first false b h = (refl, h)

pub once-push : (xs : List ℕ) (n : ℕ) → none_twice xs ≡ true → among xs n ≡ false → none_twice (xs ++ (n ∷ [])) ≡ true
once-push [] n o a = refl
once-push (y ∷ xs) n o a = let h = list_any-append (λ x. eqb x y) xs (n ∷ []) in let k = once-push xs n in grind (arith, nat_tests)

-- taking out a number that is not there changes nothing
pub without-none : (xs : List ℕ) (n : ℕ) → among xs n ≡ false → without xs n ≡ xs
without-none [] n a = refl
without-none (y ∷ xs) n a = let k = without-none xs n in grind (arith, nat_tests)

among-without : (xs : List ℕ) (n x : ℕ) → among xs x ≡ false → among (without xs n) x ≡ false
among-without [] n x a = refl
among-without (y ∷ xs) n x a = let k = among-without xs n x in grind (arith, nat_tests)

pub once-without : (xs : List ℕ) (n : ℕ) → none_twice xs ≡ true → none_twice (without xs n) ≡ true
once-without [] n o = refl
once-without (y ∷ xs) n o = let k = once-without xs n in let h = among-without xs n y in grind (arith, nat_tests)

-- a number that stands at a place is among the numbers
pub among-at : (xs : List ℕ) (n i : ℕ) → i < length xs → get_or xs i 0 ≡ n → among xs n ≡ true
among-at xs n i l e = list_any_at (λ x. eqb x n) xs i 0 l (eq-eqb _ n e)

-- taking out a number takes out its one place
pub without_at : (xs : List ℕ) (n i : ℕ) → none_twice xs ≡ true → i < length xs → get_or xs i 0 ≡ n → without xs n ≡ remove xs i
without_at [] n i o l e = absurd (omega arith)
without_at (x ∷ xs) n zero o l e = let k = without-none xs n in grind (arith, nat_tests)
without_at (x ∷ xs) n (suc i) o l e = let there = among-at xs n i (omega arith) e in let k = without_at xs n i in grind (arith, nat_tests)

-- moving what stands behind a place one down takes that place out
gap-at : (xs : List ℕ) (i m : ℕ) → suc i + m ≤ length xs → take (i + m) (paste xs i (drop (suc i) xs) m) ≡ remove (take (suc i + m) xs) i
gap-at xs i m h =
    let e = take-paste xs i (drop (suc i) xs) m in
    let f = take-take i (suc i + m) xs in
    let g = drop-take (suc i) m xs in
    grind (arith, common_steps)

pub gap-closed : (xs : List ℕ) (i n : ℕ) → i < n → n ≤ length xs → take (n - 1) (copy_within xs (i + 1) n i) ≡ remove (take n xs) i
gap-closed xs i n l h =
    let p : suc i + (n - (i + 1)) ≡ n = omega arith in
    let q : i + (n - (i + 1)) ≡ n - 1 = omega arith in
    let e = gap-at xs i (n - (i + 1)) in
    grind arith

-- a number that is found is there, and it alone is taken out
pub taken-out : (xs : List ℕ) (count n i : ℕ) → none_twice (take count xs) ≡ true → count ≤ length xs → position (λ x. eqb x n) (take count xs) ≡ Some i →
    (take (count - 1) (copy_within xs (i + 1) count i) ≡ without (take count xs) n) × (among (take count xs) n ≡ true)
taken-out xs count n i o h found =
    let at = position-Some (λ x. eqb x n) (take count xs) i 0 found in
    let l = length-take-le count xs h in
    let e = eqb-true _ n at.1 in
    (gap-closed xs i count (omega arith) h ∙ sym (without_at (take count xs) n i o at.0 e), among-at (take count xs) n i at.0 e)

-- what is not found is not there
pub none-found : (p : ℕ → Bool) (xs : List ℕ) → position p xs ≡ None → list_any p xs ≡ false
none-found p [] e = refl
none-found p (x ∷ xs) e = let k = none-found p xs in grind (arith, nat_tests)
