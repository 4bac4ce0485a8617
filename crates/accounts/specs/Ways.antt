-- The two ways of a settlement and their numbers. Assumes nothing.
use Rattle.std.specs.Prelude.{◌≡◌, ℕ, cond, Some, None, Option, Result, ◌==◌}
use Rattle.std.specs.Option.{ok_or}
use Rattle.accounts.specs.declared.way.Way.{Way}
use Rattle.accounts.specs.declared.way.Way.TheVariants.{TheyPaid, WePaid}
use Rattle.accounts.specs.declared.way.UnknownWay.{UnknownWay}

abbrev pub way_number : Way → ℕ
way_number TheyPaid = 0
way_number WePaid = 1

-- the way of a number, if it has one
abbrev pub way_of : ℕ → Option Way
way_of n = cond (n == 0) (Some TheyPaid) (cond (n == 1) (Some WePaid) None)

-- a number made into a way: the way of the number, or the error where it has none
abbrev pub IsWayOf : ℕ → Result Way UnknownWay → Type 0
IsWayOf n r = r ≡ ok_or (way_of n) (record {})
