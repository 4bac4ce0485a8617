use Rattle.std.proofs.Common.{rules}
use Rattle.routing.proofs.Matching.{starts-begins}
use Rattle.routing.proofs.entry.Entry.matches.Goals as goal

pub returns : goal.returns
returns c = search (rules, starts-begins)
