use Rattle.std.proofs.Common.{◌≡◌, ◌≤◌, length, take, vec_items, vec_len, vec_capacity}
use Rattle.stage.specs.Runs.{Run}
use Rattle.stage.proofs.run.execute.Given as goal

abbrev pub invariant-loop-change : goal.invariant-loop-change
invariant-loop-change g l =
    Run g.S.Stage.held g.S.Stage.rule l.initial.stage (take l.change-index l.changes) (vec_items l.answers) l.stage
    × (vec_len l.answers ≡ l.change-index)
    × (length l.changes ≤ vec_capacity l.answers)
