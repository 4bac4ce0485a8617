use Rattle.std.proofs.Common.{◌+◌, refl, arith}
use Rattle.std.proofs.lemmas.Grind.{common_steps}
use Rattle.calendar.specs.Calendar.{number_at}
use Rattle.calendar.proofs.Numbers.{most-four, most_more, number_more}
use Rattle.calendar.proofs.digits.number_at.Goals as goal

pub loop-digit-init : goal.loop-digit-init
unfolding number_at
loop-digit-init c = (refl, omega arith)

pub overflow_mul-number : goal.overflow_mul-number
overflow_mul-number c =
    omega (arith, c.loop-digit.invariant.1, most_more c.loop-digit.digit-index, most-four (c.loop-digit.digit-index + 1) (grind (arith, common_steps)))

pub overflow_add-number : goal.overflow_add-number
overflow_add-number c =
    omega (arith, c.loop-digit.invariant.1, most_more c.loop-digit.digit-index, most-four (c.loop-digit.digit-index + 1) (grind (arith, common_steps)))

pub loop-digit-preserved : goal.loop-digit-preserved
loop-digit-preserved c =
    let e = number_more c.args.digits.now c.args.at c.loop-digit.digit-index in
    let m = most_more c.loop-digit.digit-index in
    (grind (arith, common_steps), grind (arith, common_steps))
