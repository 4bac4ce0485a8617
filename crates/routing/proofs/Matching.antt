-- What it says that a destination begins with a prefix. Assumes nothing.
use Rattle.std.proofs.Common.{◌≡◌, ℕ, Bool, nat_eq, List, ◌++◌, length, take, drop, Decides, sym, refl, ap, ◌∙◌}
use Rattle.std.specs.List.{starts_with}
use Rattle.std.proofs.lemmas.Slice.Eq.{bytes_eq-Decides}
use Rattle.std.proofs.lemmas.List.{take-append-drop, take_at}
use Rattle.routing.specs.Routes.{begins, Begins}

-- the bytes of the prefix stand in front
pub front_bytes : (d p : List ℕ) → Begins d p → p ≡ take (length p) d
front_bytes d p (rest, e) = sym (ap (take (length p)) e ∙ take_at p rest (length p) refl)

-- the test of the bytes in front tells it
pub begins-decides : (d p : List ℕ) → Decides (begins d p) (Begins d p)
unfolding begins
begins-decides d p =
    let same = bytes_eq-Decides p (take (length p) d) in (
      λ h. (drop (length p) d, sym (take-append-drop (length p) d) ∙ ap (λ l. l ++ drop (length p) d) (sym (same.0 h))),
      λ matches. same.1 (front_bytes d p matches),
    )

-- what a slice's `starts_with` answers, of a part that is the prefix
pub starts-begins : (d p q : List ℕ) (r : Bool) → r ≡ starts_with nat_eq d q → q ≡ p → r ≡ begins d p
unfolding begins
starts-begins d p q r answer same = answer ∙ ap (begins d) same
