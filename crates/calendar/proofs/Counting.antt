-- Counting off undoes adding up, for years and for months alike: `len` says how long each is, and `first` is the
-- number of the first.
use Rattle.std.proofs.Common.{◌≡◌, ℕ, zero, suc, ◌+◌, ◌-◌, ◌<◌, ◌≤◌, ltb, ap, ◌∙◌, inl, inr, add-zero, add-suc, arith}
use Rattle.std.proofs.lemmas.Bool.{cases_order, cond-false, cond-true, le-ltb, lt-ltb}
use Rattle.calendar.specs.Calendar.{count_off, total}

module _ (len : ℕ → ℕ) (first : ℕ) where
  pub total-more : (n : ℕ) → total len first (n + 1) ≡ total len first n + len (first + n)
  unfolding total
  total-more n = let e : n + 1 ≡ suc n = omega arith in ap (total len first) e

  total-up : (n k : ℕ) → total len first n ≤ total len first (n + k)
  unfolding total
  total-up n zero = rw add-zero (omega arith)
  total-up n (suc k) = rw add-suc (omega (arith, total-up n k))

  -- each ends before a later one begins
  pub total-apart : (n m : ℕ) → n < m → total len first n + len (first + n) ≤ total len first m
  total-apart n m l =
      let e : n + 1 + (m - (n + 1)) ≡ m = omega arith in
      omega (arith, total-more n, total-up (n + 1) (m - (n + 1)), ap (total len first) e)

  -- where `k` are counted off and `days` are left, the count ends at the place where the sum says
  counted-from : (most k n days rest : ℕ) → k ≤ n → n < k + most → total len first k + days ≡ total len first n + rest → rest < len (first + n) → count_off len (first + k) most days ≡ (first + n, rest)
  unfolding count_off
  counted-from zero k n days rest l h s r = absurd (omega arith)
  counted-from (suc most) k n days rest l h s r =
      elim (cases_order k n) [
        | inl q ↦
            let d : days ≡ rest = omega (arith, ap (total len first) q) in
            let t : days < len (first + k) = omega (arith, ap (λ i. len (first + i)) q) in
            cond-true (ltb days (len (first + k))) _ _ (lt-ltb days (len (first + k)) t) ∙ (cc)
        | inr o ↦
            let b : k < n = (elim o [ inl b ↦ b | inr b ↦ absurd (omega arith) ]) in
            let a = total-apart k n b in
            let e : first + k + 1 ≡ first + (k + 1) = omega arith in
            cond-false (ltb days (len (first + k))) _ _ (le-ltb days (len (first + k)) (omega arith)) ∙
            (ap (λ f. count_off len f most (days - len (first + k))) e ∙
            counted-from most (k + 1) n (days - len (first + k)) rest (omega arith) (omega arith) (omega (arith, total-more k)) r)
      ]

  pub counted : (most n days rest : ℕ) → n < most → total len first n + rest ≡ days → rest < len (first + n) → count_off len first most days ≡ (first + n, rest)
  unfolding total
  counted most n days rest h s r =
      let e : first ≡ first + 0 = omega arith in
      ap (λ f. count_off len f most days) e ∙ counted-from most 0 n days rest (omega arith) (omega arith) (omega arith) r

  -- where a day falls, of the first `most` years or months
  pub record Place (most days : ℕ) : Type 0 where
    pub n : ℕ
    pub rest : ℕ
    pub below : n < most
    pub sum : total len first n + rest ≡ days
    pub within : rest < len (first + n)

  pub place : (most days : ℕ) → days < total len first most → Place most days
  unfolding total
  place zero days h = absurd (omega arith)
  place (suc most) days h =
      elim (cases_order days (total len first most)) [
        | inl q ↦ record { n = most; rest = 0; below = omega arith; sum = omega arith; within = omega arith }
        | inr o ↦
            elim o [
              | inl l ↦
                  let p = place most days l in
                  record { n = p.n; rest = p.rest; below = omega arith; sum = p.sum; within = p.within }
              | inr g ↦ record { n = most; rest = days - total len first most; below = omega arith; sum = omega arith; within = omega arith }
            ]
      ]
