use Rattle.std.proofs.Common.{◌≡◌}
use Rattle.example_host.proofs.delivery.deliver.Given as goal

abbrev pub invariant-loop : goal.invariant-loop
invariant-loop g l = (l.connector ≡ l.initial.connector) × (l.in_hand ≡ l.initial.in_hand)
