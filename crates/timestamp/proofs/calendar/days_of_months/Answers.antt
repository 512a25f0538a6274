-- `timestamp::calendar::days_of_months` meets its contract: the table holds the days before each month of a common year, and from March on a leap
-- year has one more.
-- Assumes nothing.
use Prim.Native.Nat.{◌-◌}
use native.Mathlib.Omega.{arith}
use mathlib.Core.Path.{sym}
use Rattle.timestamp.proofs.Dates.{in-leap-year, in-common-year}
use Rattle.timestamp.proofs.calendar.days_of_months.Goals as goal
use Rattle.timestamp.proofs.calendar.days_of_months.Goals.{else-m-gt2-via-then-m-gt2+else-leap, else-m-gt2-via-else-m-gt2}

pub returns-then-leap : goal.returns-then-leap
returns-then-leap c =
    let a = c.args in
    in-leap-year a.y (a.m - 1) (omega arith) (omega arith) c.if-leap.ensures

pub returns-else-m-gt2 : goal.returns-else-m-gt2
returns-else-m-gt2 c =
    let a = c.args in
    in-common-year a.y (a.m - 1) (omega arith)
    (λ l. elim c.else-m-gt2.branch [ else-m-gt2-via-then-m-gt2+else-leap w ↦ sym w.if-leap.ensures | else-m-gt2-via-else-m-gt2 w ↦ absurd (omega arith) ])
