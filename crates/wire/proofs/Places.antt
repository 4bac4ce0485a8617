-- Where a reading stands. Assumes nothing.
use Rattle.std.proofs.Common.{◌≡◌, ◌==◌, ℕ, ◌+◌, ◌≤◌, cond, List, [], ◌∷◌, length, Option, refl, sym, ap, arith}
use Rattle.std.specs.List.{position}
use Rattle.std.specs.Option.{unwrap_or}
use Rattle.std.proofs.lemmas.List.Recursion.{is_position_or_len}
use Rattle.std.proofs.lemmas.List.{drop-drop, length-drop, take_rest}
use Rattle.std.proofs.lemmas.Bool.Decides.{nat_tests}
use Rattle.wire.specs.Reading.{at, forward, before}

pub forward-at : (n p : ℕ) (bytes : List ℕ) → forward n (at p bytes) ≡ at (p + n) bytes
unfolding forward
forward-at n p bytes = ap (λ l. record { place = p + n; rest = l }) (drop-drop n p bytes)

-- what the tests of a reader tell of the bytes that are left
pub ruleset reading = (nat_tests, take_rest, length-drop, forward-at)

upto : (b : ℕ) (xs : List ℕ) → before b xs ≤ length xs
upto b [] = omega arith
upto b (x ∷ xs) = grind (arith, nat_tests, upto b xs)

-- the place of the first stop byte, or the end where there is none
pub before_found : (b : ℕ) (xs : List ℕ) (r : Option ℕ) → r ≡ position (λ x. x == b) xs → unwrap_or r (length xs) ≡ before b xs
before_found b xs r e =
    let same = is_position_or_len (before b) (λ x. x == b) refl (λ x ys. ap (cond (x == b) 0) (omega arith)) xs in
    rw (e, sym same) (grind (arith, nat_tests, upto b xs))
