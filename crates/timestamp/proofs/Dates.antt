-- Laws of the calendar: which months there are, what the code's tables hold, the days of the years up to 2099 in closed form, and what a month and a
-- year add to the days before a date. The code's tables are those of a common year, `0 ∷ common` and `passed 0 common`: that they hold these very
-- numbers is computed where a law is cited. A bound on all entries is one test that is computed, in a leap year and in another.
-- Assumes nothing.
use Prim.Native.Nat.{ℕ, zero, suc, ◌+◌, ◌-◌, ◌*◌, ◌/◌, ◌≤◌, ◌<◌}
use native.Mathlib.Nat.{not-suc-le-zero, le_of_suc-le-suc, le_trans, eq-or-lt_of_le}
use native.Mathlib.Omega.{arith}
use mathlib.Core.Path.{◌≡◌, refl, sym, ap, subst, ◌∙◌}
use mathlib.Core.Bool.{Bool, true, false, ◌&&◌}
use mathlib.Core.List.{List, [], ◌∷◌}
use mathlib.Core.Logic.{⊎_elim}
use lib.Dec.{T, eqb, ltb, leb, eqb→eq, leb→le, ltb→lt, lit<}
use lib.ListN.{length, get_or, take, get_or-eq_default}
use lib.Seq.{take-nil}
use borrow.Author.Tests.{le-leb, leb-true}
use Rattle.le.specs.Bytes.{total}
use Rattle.le.proofs.Rows.{both_left, both_right, and_left, and_right}
use Rattle.timestamp.specs.declared.Moment.{Moment}
use Rattle.timestamp.specs.Calendar.{leap, february, months_if, months, days_of_month, real, days_of_years, days_before, minutes_before}

-- ---- one test for all entries

-- the test passes at every number below n
abbrev all_below : (ℕ → Bool) → ℕ → Bool
all_below test zero = true
all_below test (suc n) = test n && all_below test n

at : (test : ℕ → Bool) (n : ℕ) → T (all_below test n) → (k : ℕ) → k < n → T (test k)
at test zero t k h = absurd (not-suc-le-zero h)
at test (suc n) t k h =
    ⊎_elim (λ (e : k ≡ n). subst (λ (j : ℕ). T (test j)) (sym e) (both_left (test n) (all_below test n) t))
    (λ (l : k < n). at test n (both_right (test n) (all_below test n) t) k l)
    (eq-or-lt_of_le (le_of_suc-le-suc h))

abbrev pub common : List ℕ
common = months_if false

abbrev in_both : (Bool → ℕ → Bool) → ℕ → Bool
in_both test n = all_below (test true) n && all_below (test false) n

at_both : (test : Bool → ℕ → Bool) (n : ℕ) → T (in_both test n) → (b : Bool) (k : ℕ) → k < n → T (test b k)
at_both test n t true = at (test true) n (both_left (all_below (test true) n) (all_below (test false) n) t)
at_both test n t false = at (test false) n (both_right (all_below (test true) n) (all_below (test false) n) t)

-- ---- the days of a month

pub no-month : (y m : ℕ) → 12 < m → days_of_month y m ≡ 0
unfolding months
no-month y m h = get_or-eq_default (0 ∷ months y) 0 h

pub is-month : (y m : ℕ) → 1 ≤ days_of_month y m → (1 ≤ m) × (m ≤ 12)
is-month y zero h = absurd (not-suc-le-zero h)
is-month y (suc m) h =
    let none : 12 < suc m → ⊥ = λ l. omega (arith, no-month y (suc m) l) in
    (omega arith, omega arith)

pub month-bounds : (y m : ℕ) → 1 ≤ m → m ≤ 12 → (1 ≤ days_of_month y m) × (days_of_month y m ≤ 31)
unfolding months
month-bounds y zero l h = absurd (not-suc-le-zero l)
month-bounds y (suc m) l h =
    let d : ℕ = get_or (months y) m 0 in
    let t : T (leb 1 d && leb d 31) = at_both (λ b k. leb 1 (get_or (months_if b) k 0) && leb (get_or (months_if b) k 0) 31) 12 tt (leap y) m h in
    (leb→le 1 d (both_left (leb 1 d) (leb d 31) t), leb→le d 31 (both_right (leb 1 d) (leb d 31) t))

-- the table of a common year holds them, but for February of a leap year
pub by-table : (y m : ℕ) → (m ≡ 2 → leap y ≡ false) → get_or (0 ∷ common) m 0 ≡ days_of_month y m
unfolding months
by-table y zero n = refl
by-table y (suc zero) n = refl
by-table y (suc (suc zero)) n = ap february (sym (n refl))
by-table y (suc (suc (suc m))) n = refl

pub leap-february : (y m : ℕ) → m ≡ 2 → leap y ≡ true → 29 ≡ days_of_month y m
unfolding months
leap-february y m e q = sym (ap (days_of_month y) e ∙ ap february q)

-- ---- the days of the months before

-- what comes before each number of the list, from n on
abbrev pub passed : ℕ → List ℕ → List ℕ
passed n [] = []
passed n (x ∷ xs) = n ∷ passed (n + x) xs

passed-at : (xs : List ℕ) (n k : ℕ) → k < length xs → get_or (passed n xs) k 0 ≡ n + total (take k xs)
unfolding total
passed-at [] n k h = absurd (not-suc-le-zero h)
passed-at (x ∷ xs) n zero h = omega arith
passed-at (x ∷ xs) n (suc k) h = passed-at xs (n + x) k (le_of_suc-le-suc h) ∙ omega arith

days-small : (y k : ℕ) → k < 12 → total (take k (months y)) < 366
unfolding months total
days-small y k h =
    ltb→lt (total (take k (months y))) 366 (at_both (λ b j. ltb (total (take j (months_if b))) 366) 12 tt (leap y) k h)

-- n is the days of the first k months of year y
abbrev pub Counted : ℕ → ℕ → ℕ → Type 0
Counted y k n = (n ≡ total (take k (months y))) × (n < 366)

-- from March on a leap year has a day more behind it
march : (y k : ℕ) (b : Bool) → 2 ≤ k → k < 12 → b ≡ leap y → get_or (passed 0 common) k 0 + february b ≡ total (take k (months y)) + 28
unfolding months total
march y zero b l h q = absurd (not-suc-le-zero l)
march y (suc zero) b l h q = absurd (not-suc-le-zero (le_of_suc-le-suc l))
march y (suc (suc k)) b l h q = omega (arith, passed-at common 0 (suc (suc k)) h, ap february q)

pub in-leap-year : (y k : ℕ) → 2 ≤ k → k < 12 → true ≡ leap y → Counted y k (get_or (passed 0 common) k 0 + 1)
in-leap-year y k l h q = (omega (arith, march y k true l h q), omega (arith, march y k true l h q, days-small y k h))

-- the table holds them in a common year, and in each year up to February
pub in-common-year : (y k : ℕ) → k < 12 → (2 ≤ k → leap y ≡ false) → Counted y k (get_or (passed 0 common) k 0)
unfolding months total
in-common-year y zero h q = (refl, lit< tt)
in-common-year y (suc zero) h q = (refl, lit< tt)
in-common-year y (suc (suc k)) h q =
    let l : 2 ≤ suc (suc k) = omega arith in
    let e = march y (suc (suc k)) false l h (sym (q l)) in
    (omega (arith, e), omega (arith, e, days-small y (suc (suc k)) h))

total-take : (xs : List ℕ) (k : ℕ) → total (take (suc k) xs) ≡ total (take k xs) + get_or xs k 0
unfolding total
total-take [] k = rw (take-nil k)
total-take (x ∷ xs) zero = omega arith
total-take (x ∷ xs) (suc k) = omega (arith, total-take xs k)

-- a month is over
pub month-added : (y m : ℕ) → 1 ≤ m → total (take m (months y)) ≡ total (take (m - 1) (months y)) + days_of_month y m
month-added y zero l = absurd (not-suc-le-zero l)
month-added y (suc m) l =
    let e : m ≡ suc m - 1 = omega arith in
    total-take (months y) m ∙ ap (λ (k : ℕ). total (take k (months y)) + get_or (months y) m 0) e

-- ---- the days of the years before

-- up to 2099 every fourth year is a leap year
pub every-fourth : (n : ℕ) → n < 130 → 365 * n + (n + 1) / 4 ≡ days_of_years n
unfolding days_of_years total months
every-fourth n h =
    eqb→eq (365 * n + (n + 1) / 4) (days_of_years n)
    (at (λ (k : ℕ). eqb (365 * k + (k + 1) / 4) (days_of_years k)) 130 tt n h)

-- a year is over
pub year-added : (y : ℕ) → 1970 ≤ y → days_of_years (y + 1 - 1970) ≡ days_of_years (y - 1970) + total (take 12 (months y))
unfolding days_of_years months
year-added y h =
    let n : ℕ = y - 1970 in
    let next : y + 1 - 1970 ≡ suc n = omega arith in
    let this : 1970 + n ≡ y = omega arith in
    ap days_of_years next ∙ ap (λ (k : ℕ). days_of_years n + total (months k)) this

-- ---- real dates

pub record Real (t : Moment) : Type 0 where
  pub from_first : 1 ≤ t.day
  pub to_last : t.day ≤ days_of_month t.year t.month
  pub hours : t.hour ≤ 23
  pub minutes : t.minute ≤ 59

pub is_real : (t : Moment) → real t ≡ true → Real t
unfolding real
is_real t e =
    let days : ℕ = days_of_month t.year t.month in
    let times : Bool = leb t.hour 23 && leb t.minute 59 in
    let e₁ : (leb t.day days && times) ≡ true = and_right (leb 1 t.day) (leb t.day days && times) e in
    let e₂ : times ≡ true = and_right (leb t.day days) times e₁ in
    record {
      from_first = leb-true 1 t.day (and_left (leb 1 t.day) (leb t.day days && times) e);
      to_last = leb-true t.day days (and_left (leb t.day days) times e₁);
      hours = leb-true t.hour 23 (and_left (leb t.hour 23) (leb t.minute 59) e₂);
      minutes = leb-true t.minute 59 (and_right (leb t.hour 23) (leb t.minute 59) e₂);
    }

pub real-is : (t : Moment) → Real t → real t ≡ true
unfolding real
real-is t r =
    rw (le-leb 1 t.day r.from_first, le-leb t.day (days_of_month t.year t.month) r.to_last, le-leb t.hour 23 r.hours, le-leb t.minute 59 r.minutes)

-- the bounds of a real date's numbers
pub record Within (t : Moment) : Type 0 where
  pub month-from : 1 ≤ t.month
  pub month-to : t.month ≤ 12
  pub day-from : 1 ≤ t.day
  pub day-to : t.day ≤ 31
  pub hour-to : t.hour ≤ 23
  pub minute-to : t.minute ≤ 59

pub within : (t : Moment) → Real t → Within t
within t r =
    let y : ℕ = t.year in
    let some : 1 ≤ days_of_month y t.month = le_trans r.from_first r.to_last in
    let m = is-month y t.month some in
    let d = month-bounds y t.month m.0 m.1 in
    record { month-from = m.0; month-to = m.1; day-from = r.from_first; day-to = le_trans r.to_last d.1; hour-to = r.hours; minute-to = r.minutes }

pub real_within : (t : Moment) → real t ≡ true → Within t
real_within t e = within t (is_real t e)

pub minutes-small : (t : Moment) → 1970 ≤ t.year → t.year ≤ 2099 → Real t → minutes_before t < 100000000
unfolding minutes_before days_before
minutes-small t since until r =
    let w = within t r in
    let years = every-fourth (t.year - 1970) (omega arith) in
    let days = days-small t.year (t.month - 1) (omega arith) in
    omega arith
