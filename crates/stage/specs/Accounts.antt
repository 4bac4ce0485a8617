-- What two accounts make a pair. Assumes nothing.
use Rattle.std.specs.Prelude.{◌≡◌, ℕ, ◌<◌, Some, None, Option, ◌≢◌}
use Rattle.stage.specs.declared.accounts.AccountPair.{AccountPair}

abbrev pub Pairs : ℕ → ℕ → Option AccountPair → Type 0
Pairs incoming outgoing (Some p) = (p.incoming ≡ incoming) × (p.outgoing ≡ outgoing)
Pairs incoming outgoing None = incoming < 8 → outgoing < 8 → (incoming ≢ outgoing) → ⊥
