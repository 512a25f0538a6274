-- `timestamp::calendar::days_of_month` meets its contract: 29 in February of a leap year, else by a table of a common year.
-- Assumes nothing.
use mathlib.Core.Path.{◌≡◌, sym, ◌∙◌}
use mathlib.Core.Bool.{false}
use mathlib.Core.List.{◌∷◌}
use lib.ListN.{get_or}
use Rattle.std.proofs.Common.{rules}
use Rattle.timestamp.specs.Calendar.{leap}
use Rattle.timestamp.proofs.Dates.{common, by-table, leap-february}
use Rattle.timestamp.proofs.calendar.days_of_month.Goals as goal
use Rattle.timestamp.proofs.calendar.days_of_month.Goals.{else-m-eq2-via-then-m-eq2+else-leap, else-m-eq2-via-else-m-eq2}

pub returns-then-leap : goal.returns-then-leap
returns-then-leap c = leap-february c.args.y c.args.m c.if-m-eq2.true (sym c.if-leap.ensures)

pub returns-else-m-eq2 : goal.returns-else-m-eq2
returns-else-m-eq2 c =
    let a = c.args in
    let listed : c.unwrap_or.result ≡ get_or (0 ∷ common) a.m 0 = search rules in
    let plain : a.m ≡ 2 → leap a.y ≡ false = λ e. elim c.else-m-eq2.branch [
      | else-m-eq2-via-then-m-eq2+else-leap w ↦ sym w.if-leap.ensures
      | else-m-eq2-via-else-m-eq2 w ↦ absurd (w.if-m-eq2.false e)
    ] in
    listed ∙ by-table a.y a.m plain
