-- The calendar from 1970 on (document 02, R-3: "the date a real one"): which dates there are, and how many minutes lie between the start of 1 January
-- 1970 and a minute of such a date, on the same clock.
use Rattle.std.specs.Prelude.{ℕ, zero, suc, ◌+◌, ◌-◌, ◌*◌, ◌%◌, Bool, true, false, ◌&&◌, ◌||◌, not, List, [], ◌∷◌, eqb, ltb, leb, get_or, take}
use Rattle.le.specs.Bytes.{total}
use Rattle.timestamp.specs.declared.Moment.{Moment}

-- Every fourth year is a leap year; of the hundreds only every fourth.
abbrev pub leap : ℕ → Bool
leap y = eqb (y % 4) 0 && (not (eqb (y % 100) 0) || eqb (y % 400) 0)

abbrev pub february : Bool → ℕ
february true = 29
february false = 28

-- The days of the months, from January to December, of a leap year and of another; and of year y.
abbrev pub months_if : Bool → List ℕ
months_if b = 31 ∷ february b ∷ 31 ∷ 30 ∷ 31 ∷ 30 ∷ 31 ∷ 31 ∷ 30 ∷ 31 ∷ 30 ∷ 31 ∷ []

unfoldable pub months : ℕ → List ℕ
months y = months_if (leap y)

-- The days of month m, which counts from 1; none where there is no such month.
abbrev pub days_of_month : ℕ → ℕ → ℕ
days_of_month y m = get_or (0 ∷ months y) m 0

-- A minute of a day: year, month, day, hour and minute.
abbrev pub moment : ℕ → ℕ → ℕ → ℕ → ℕ → Moment
moment year month day hour minute = record { year = year; month = month; day = day; hour = hour; minute = minute }

-- "the date a real one. Hours are at most 23, minutes [..] 59".
unfoldable pub real : Moment → Bool
real t = leb 1 t.day && (leb t.day (days_of_month t.year t.month) && (leb t.hour 23 && leb t.minute 59))

-- The days of the first n years from 1970 on.
unfoldable pub days_of_years : ℕ → ℕ
days_of_years zero = 0
days_of_years (suc n) = days_of_years n + total (months (1970 + n))

-- The days before the date: those of the years before, of the months before, and of the month itself.
unfoldable pub days_before : Moment → ℕ
days_before t = days_of_years (t.year - 1970) + total (take (t.month - 1) (months t.year)) + (t.day - 1)

-- The minutes from the start of 1 January 1970 to the moment.
unfoldable pub minutes_before : Moment → ℕ
minutes_before t = (days_before t * 24 + t.hour) * 60 + t.minute

-- The minute that follows: the next of the hour, or else the first of the next hour, day, month or year.
abbrev pub or_else : Bool → Moment → Moment → Moment
or_else true next carried = next
or_else false next carried = carried

unfoldable pub next_month : Moment → Moment
next_month t = or_else (ltb t.month 12) (moment t.year (t.month + 1) 1 0 0) (moment (t.year + 1) 1 1 0 0)

unfoldable pub next_day : Moment → Moment
next_day t = or_else (ltb t.day (days_of_month t.year t.month)) (moment t.year t.month (t.day + 1) 0 0) (next_month t)

unfoldable pub next_hour : Moment → Moment
next_hour t = or_else (ltb t.hour 23) (moment t.year t.month t.day (t.hour + 1) 0) (next_day t)

unfoldable pub next_minute : Moment → Moment
next_minute t = or_else (ltb t.minute 59) (moment t.year t.month t.day t.hour (t.minute + 1)) (next_hour t)
