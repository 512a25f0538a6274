-- The minutes count time. They start at 0 with 1 January 1970 (`starts`), and from each minute of a real date to the next they rise by exactly one,
-- in every year from 1970 on, and the next minute is of a real date again (`rises`); so do the minutes of UTC, whatever the zone (`utc-rises`):
--     starts : minutes_before (moment 1970 1 1 0 0) ≡ 0
--     rises : (t : Moment) → 1970 ≤ t.year → real t ≡ true → Risen t
--     utc-rises : (t : Moment) (z : ℤ) → 1970 ≤ t.year → real t ≡ true → utc_minutes (next_minute t) z ≡ suc_ℤ (utc_minutes t z)
-- Assumes nothing.
use Prim.Native.Nat.{ℕ, suc, ◌+◌, ◌-◌, ◌≤◌, ◌<◌}
use native.Mathlib.Omega.{arith}
use mathlib.Core.Path.{◌≡◌, refl, ap, ◌∙◌}
use mathlib.Core.Bool.{Bool, true, false}
use lib.Dec.{ltb, lit≤}
use lib.IntN.{ℤ, pos, neg_ℤ, ◌-ℤ◌, suc_ℤ, suc_ℤ-+ℤ}
use lib.ListN.{take}
use borrow.Author.Tests.{ltb-true, ltb-false}
use Rattle.le.specs.Bytes.{total}
use Rattle.timestamp.specs.declared.Moment.{Moment}
use Rattle.timestamp.specs.Calendar.{moment, months, days_of_month, real, days_of_years, days_before, minutes_before, or_else, next_month, next_day, next_hour, next_minute}
use Rattle.timestamp.specs.Timestamp.{utc_minutes}
use Rattle.timestamp.proofs.Dates.{month-bounds, month-added, year-added, Real, is_real, real-is, within}

pub starts : minutes_before (moment 1970 1 1 0 0) ≡ 0
unfolding minutes_before days_before days_of_years total
starts = refl

pub record Risen (t : Moment) : Type 0 where
  pub one_more : minutes_before (next_minute t) ≡ suc (minutes_before t)
  pub still-real : real (next_minute t) ≡ true
  pub still-since : 1970 ≤ (next_minute t).year

-- ---- the carries

or-else : (P : Moment → Type 0) (a b : ℕ) (next carried : Moment) → (a < b → P next) → (b ≤ a → P carried) → P (or_else (ltb a b) next carried)
or-else P a b next carried f g = by-test (ltb a b) refl
  where
    by-test : (t : Bool) → ltb a b ≡ t → P (or_else t next carried)
    by-test true e = f (ltb-true a b e)
    by-test false e = g (ltb-false a b e)

-- u is a real minute from 1970 on, with n minutes before it
record Counts (n : ℕ) (u : Moment) : Type 0 where
  count : minutes_before u ≡ n
  date : Real u
  since : 1970 ≤ u.year

-- the first minute of a month that there is
first_of : (y m : ℕ) → 1 ≤ m → m ≤ 12 → Real (moment y m 1 0 0)
first_of y m l h = record { from_first = lit≤ tt; to_last = (month-bounds y m l h).0; hours = lit≤ tt; minutes = lit≤ tt }

module _ (t : Moment) (r : Real t) (since : 1970 ≤ t.year) where
  abbrev Follows : Moment → Type 0
  Follows u = Counts (suc (minutes_before t)) u

  month-passed : 23 ≤ t.hour → 59 ≤ t.minute → days_of_month t.year t.month ≤ t.day → Follows (next_month t)
  unfolding next_month minutes_before days_before total
  month-passed hh mm dd =
      let y : ℕ = t.year in
      let m : ℕ = t.month in
      let w = within t r in
      let days = month-added y m w.month-from in
      or-else Follows m 12 (moment y (m + 1) 1 0 0) (moment (y + 1) 1 1 0 0)
      (λ l.
      let same : m + 1 - 1 ≡ m = omega arith in
      let before = ap (λ (k : ℕ). total (take k (months y))) same in
      record { count = omega arith; date = first_of y (m + 1) (omega arith) (omega arith); since = since })
      (λ l.
      let twelve : m ≡ 12 = omega arith in
      let before = ap (λ (k : ℕ). total (take k (months y))) twelve in
      let year = year-added y since in
      record { count = omega arith; date = first_of (y + 1) 1 (lit≤ tt) (lit≤ tt); since = omega arith })

  day-passed : 23 ≤ t.hour → 59 ≤ t.minute → Follows (next_day t)
  unfolding next_day minutes_before days_before
  day-passed hh mm =
      or-else Follows t.day (days_of_month t.year t.month) (moment t.year t.month (t.day + 1) 0 0) (next_month t)
      (λ l. record { count = omega arith; date = record { from_first = omega arith; to_last = omega arith; hours = lit≤ tt; minutes = lit≤ tt }; since = since })
      (month-passed hh mm)

  hour-passed : 59 ≤ t.minute → Follows (next_hour t)
  unfolding next_hour minutes_before days_before
  hour-passed mm =
      or-else Follows t.hour 23 (moment t.year t.month t.day (t.hour + 1) 0) (next_day t)
      (λ l. record { count = omega arith; date = record { from_first = r.from_first; to_last = r.to_last; hours = omega arith; minutes = lit≤ tt }; since = since })
      (λ l. day-passed l mm)

  minute-passed : Follows (next_minute t)
  unfolding next_minute minutes_before days_before
  minute-passed =
      or-else Follows t.minute 59 (moment t.year t.month t.day t.hour (t.minute + 1)) (next_hour t)
      (λ l. record { count = omega arith; date = record { from_first = r.from_first; to_last = r.to_last; hours = r.hours; minutes = omega arith }; since = since })
      hour-passed

-- ---- the theorems

pub rises : (t : Moment) → 1970 ≤ t.year → real t ≡ true → Risen t
rises t since e =
    let next = minute-passed t (is_real t e) since in
    record { one_more = next.count; still-real = real-is (next_minute t) next.date; still-since = next.since }

pub utc-rises : (t : Moment) (z : ℤ) → 1970 ≤ t.year → real t ≡ true → utc_minutes (next_minute t) z ≡ suc_ℤ (utc_minutes t z)
utc-rises t z since e =
    ap (λ (n : ℕ). pos n -ℤ z) (rises t since e).one_more ∙ suc_ℤ-+ℤ (pos (minutes_before t)) (neg_ℤ z)
