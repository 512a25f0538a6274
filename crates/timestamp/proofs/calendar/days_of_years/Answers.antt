-- `timestamp::calendar::days_of_years` meets its contract: up to 2099 every fourth year is a leap year.
-- Assumes nothing.
use native.Mathlib.Omega.{arith}
use Rattle.timestamp.proofs.Dates.{every-fourth}
use Rattle.timestamp.proofs.calendar.days_of_years.Goals as goal

pub returns : goal.returns
returns c =
    (every-fourth c.args.n c.requires, omega arith)
