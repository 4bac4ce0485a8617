use Rattle.std.proofs.Common.{◌≡◌, ℕ, zero, suc, ◌+◌, ◌-◌, ◌<◌, List, get_or, rules, arith, ap, ◌∙◌}
use Rattle.std.specs.Fn.{Called}
use Rattle.std.specs.Array.{IsFromFnResultFrom, IsElementAt}
use denote.Param.Members.{Mut}
use Rattle.std.proofs.lemmas.List.FromFn.{fill_by_all}
use lib.Bits.{bit_xor}
use Rattle.condition.specs.Practice.{practice}
use Rattle.condition.proofs.practice.PracticeConditionHash.hash.Goals as goal

-- byte i of the hash
abbrev byte : List ℕ → ℕ → ℕ
byte input i = bit_xor (get_or input (31 - i) 0) 0x5a

module _ {F : Type 0} (g : Mut F (ℕ × Unit {0}) ℕ) (held : F → List ℕ) where
  -- calls that give the bytes of what is held, and hold it on, fill a list by these bytes
  filled : ((f : F) (i y : ℕ) (f' : F) → Called g f (i, tt) y f' → (y ≡ byte (held f) i) × (held f' ≡ held f))
      → (f : F) (ys : List ℕ) (i n : ℕ) → IsFromFnResultFrom g f ys i n → (k : ℕ) → k < n → get_or ys (i + k) 0 ≡ byte (held f) (i + k)
  filled gives f ys i zero all k l = absurd (omega arith)
  filled gives f ys i (suc n) (f', y, at, called, rest) zero l = let z : i + 0 ≡ i = omega arith in rw z (at.1 0 ∙ (gives f i y f' called).0)
  filled gives f ys i (suc n) (f', y, at, called, rest) (suc k) l =
      let z : i + suc k ≡ i + 1 + k = omega arith in
      rw z (filled gives f' ys (i + 1) n rest k (omega arith) ∙ ap (λ h. byte h (i + 1 + k)) (gives f i y f' called).1)

pub returns : goal.returns
unfolding practice
returns c =
    fill_by_all (byte c.args.input.now) c.from_fn.result 32 0 c.from_fn.ensures.items.long
    (λ k h. let z : 0 + k ≡ k = omega arith in rw z at (filled _ (λ f. f.0.now) (λ f i y f' e. search rules) _ c.from_fn.result 0 32 c.from_fn.ensures.items.each k h))
