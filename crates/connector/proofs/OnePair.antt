-- Two accounts make one pair.
use Rattle.std.proofs.Common.{◌≡◌, ℕ, ◌<◌, Bool, true, false, not, ◌&&◌, eqb, ltb, Some, None, Option, sym, refl, ap, ◌∙◌}
use mathlib.Core.HLevel.{is_prop→PathP, Π_prop, ⊥_prop}
use native.Mathlib.Bridge.{le_prop}
use Rattle.std.proofs.lemmas.Bool.{and_from, and_parts, lt-ltb, ltb-true, ne_eqb, eqb-false, true≢false}
use Rattle.stage.specs.declared.accounts.AccountPair.{AccountPair}
use Rattle.stage.specs.Accounts.{Pairs}
use Rattle.protocol.specs.Pairs.{are_pair, pair_when, pair_of}

same-pair : (p q : AccountPair) → p.incoming ≡ q.incoming → p.outgoing ≡ q.outgoing → p ≡ q
same-pair p q a b = λ i. record {
  incoming = a i;
  outgoing = b i;
  source = is_prop→PathP (λ j. a j < 8) (λ j. le_prop) p.source q.source i;
  target = is_prop→PathP (λ j. b j < 8) (λ j. le_prop) p.target q.target i;
  apart = is_prop→PathP (λ j. a j ≡ b j → ⊥) (λ j. Π_prop (λ _. ⊥_prop)) p.apart q.apart i;
}

are-pair : (p : AccountPair) → are_pair p.incoming p.outgoing ≡ true
are-pair p = and_from _ _ (and_from _ _ (lt-ltb p.incoming 8 p.source) (lt-ltb p.outgoing 8 p.target)) (ap not (ne_eqb p.incoming p.outgoing p.apart))

made_so : (a to : ℕ) (b : Bool) (h : are_pair a to ≡ b) (p : AccountPair) → b ≡ true → p.incoming ≡ a → p.outgoing ≡ to → Some p ≡ pair_when a to b h
made_so a to true h p t e f = ap Some (same-pair p _ e f)
made_so a to false h p t e f = absurd (true≢false (sym t))

not_made : (a to : ℕ) (b : Bool) (h : are_pair a to ≡ b) → b ≡ false → None ≡ pair_when a to b h
not_made a to true h t = absurd (true≢false t)
not_made a to false h t = refl

no-pair : (a to : ℕ) → (a < 8 → to < 8 → (a ≡ to → ⊥) → ⊥) → (b : Bool) → are_pair a to ≡ b → b ≡ false
no-pair a to none true h =
    let one = and_parts (ltb a 8 && ltb to 8) (not (eqb a to)) h in
    let two = and_parts (ltb a 8) (ltb to 8) one.0 in
    absurd (none (ltb-true a 8 two.0) (ltb-true to 8 two.1) (λ e. true≢false (sym one.1 ∙ ap not (Rattle.std.proofs.lemmas.Bool.eq-eqb a to e))))
no-pair a to none false h = refl

pub pair_is : (a to : ℕ) (r : Option AccountPair) → Pairs a to r → r ≡ pair_of a to
unfolding pair_of
pair_is a to (Some p) h =
    made_so a to (are_pair a to) refl p (sym (ap (λ x. are_pair x p.outgoing) h.0 ∙ ap (are_pair a) h.1) ∙ are-pair p) h.0 h.1
pair_is a to None h = not_made a to (are_pair a to) refl (no-pair a to h (are_pair a to) refl)
