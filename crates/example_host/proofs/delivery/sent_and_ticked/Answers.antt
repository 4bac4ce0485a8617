use Rattle.std.proofs.Common.{inl}
use Rattle.example_host.proofs.delivery.sent_and_ticked.Goals as goal

pub returns-clause-does : goal.returns-clause-does
returns-clause-does g c = inl (c.sent.new.self, c.in_ok-sent.ensures.does, c.tick.ensures.does)
