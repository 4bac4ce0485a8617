-- The pair of two accounts, where they make one. Assumes nothing.
use Rattle.std.specs.Prelude.{◌≡◌, ℕ, Bool, true, false, not, ◌&&◌, Some, None, Option, ◌==◌, ◌≢◌, nat_lt, refl}
use Rattle.std.proofs.Common.{sym, ap, ◌∙◌}
use Rattle.std.proofs.lemmas.Bool.{and_parts, ltb-true, eq-eqb, true≢false}
use Rattle.stage.specs.declared.accounts.AccountPair.{AccountPair}

-- two different accounts of the eight that there can be
abbrev pub are_pair : ℕ → ℕ → Bool
are_pair a to = nat_lt a 8 && nat_lt to 8 && not (a == to)

pub differ : (a to : ℕ) → not (a == to) ≡ true → a ≢ to
differ a to h e = true≢false (sym h ∙ ap not (eq-eqb a to e))

abbrev pub pair_when : (a to : ℕ) (b : Bool) → are_pair a to ≡ b → Option AccountPair
pair_when a to false h = None
pair_when a to true h =
    let one = and_parts (nat_lt a 8 && nat_lt to 8) (not (a == to)) h in
    let two = and_parts (nat_lt a 8) (nat_lt to 8) one.0 in
    Some (record { incoming = a; outgoing = to; source = ltb-true a 8 two.0; target = ltb-true to 8 two.1; apart = differ a to one.1 })

unfoldable pub pair_of : ℕ → ℕ → Option AccountPair
pair_of a to = pair_when a to (are_pair a to) refl
