use Rattle.std.proofs.Common.{◌<◌, length, take, arith}
use Rattle.std.proofs.lemmas.List.{take_more_set, length-take-le}
use Rattle.stage.proofs.OpenLists.{once-push}
use Rattle.stage.proofs.numbers.OpenNumbers.add.Goals as goal

pub invariant_of-self-clause-once : goal.invariant_of-self-clause-once
invariant_of-self-clause-once c =
    let s = c.args.self.now in
    let room : s.count < length s.places = omega (arith, length-take-le s.count s.places (omega arith)) in
    rw (take_more_set s.places s.count c.args.number room) (once-push (take s.count s.places) c.args.number s.once c.requires.new)
