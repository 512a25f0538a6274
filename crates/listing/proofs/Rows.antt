-- The rows of a listing, one look back after another, on plain values.
-- Assumes nothing.
use Prim.Native.Nat.{ℕ, zero, suc, ◌+◌, ◌-◌, ◌*◌, ◌≤◌, ◌<◌}
use native.Mathlib.Nat.{not-suc-le-zero}
use native.Mathlib.Omega.{arith}
use mathlib.Core.Path.{◌≡◌, refl, sym, ap, ◌∙◌}
use mathlib.Core.Bool.{Bool, true, false}
use mathlib.Core.List.{List, [], ◌∷◌, ◌++◌}
use lib.Dec.{eqb}
use lib.ListN.{length, length-append}
use lib.Seq.{sets}
use borrow.Author.Tests.{eq-eqb, ne_eqb}
use Rattle.le.proofs.Bytes.{sets-append}
use Rattle.disc.specs.Disc.{Disc}
use Rattle.volume.specs.Volume.{unpack}
use Rattle.recorder.specs.Calls.{mount, look_back}
use Rattle.recorder.specs.Effects.{After, after}
use Rattle.recorder.specs.declared.Refusal.{Refusal}
use Rattle.recorder.specs.Refused.{number}
use Rattle.listing.specs.Text.{column, row_line, heading, clean_line, dirty_line, broken_line, refused_line, used}
use Rattle.listing.specs.Listing.{outcome_in, second_in, spare, last_line, row_of, row_or, rows_from, most_listed, listed_if, listed}
use Rattle.listing.proofs.Lines.{length-column, length-refused}

-- ---- an answer's outcome and second number

pub refused-outcome : (r : Refusal) → outcome_in (number r * 4294967296) ≡ number r
refused-outcome r = omega arith

pub done-outcome : (n : ℕ) → n < 4294967296 → outcome_in n ≡ 0
done-outcome n h = omega arith

pub done-second : (n : ℕ) → n < 4294967296 → second_in n ≡ n
done-second n h = omega arith

-- ---- rows

pub length-row : (k block size count : ℕ) → length (row_line k block size count) ≡ 25
unfolding row_line
length-row k block size count =
    let a : List ℕ = column 3 k in
    let b : List ℕ = column 7 block in
    let c : List ℕ = column 5 size in
    let d : List ℕ = column 5 count in
    let e : List ℕ = 10 ∷ [] in
    rw (length-append a (b ++ (c ++ (d ++ e))), length-append b (c ++ (d ++ e)), length-append c (d ++ e), length-append d e, length-column 3 k, length-column 7 block, length-column 5 size, length-column 5 count)

pub row-of : (k : ℕ) (a : After) → row_line k (second_in a.answer) (unpack a.ledger).size (used (unpack a.ledger).entries) ≡ row_of k a
unfolding row_of
row-of k a = refl

module _ (d : Disc) (clean : Bool) where
  abbrev here : ℕ → After
  here k = after d spare (look_back k)

  rows_on : (left k : ℕ) → outcome_in (here k).answer ≡ 0 → rows_from d clean (suc left) k ≡ row_of k (here k) ++ rows_from d clean left (k + 1)
  unfolding rows_from
  rows_on left k e = rw (eq-eqb (outcome_in (here k).answer) 0 e)

  -- a refusal ends the rows
  pub rows-stop : (left k : ℕ) → 0 < left → (outcome_in (here k).answer ≡ 0 → ⊥) → last_line (eqb (outcome_in (here k).answer) 8) clean ≡ rows_from d clean left k
  unfolding rows_from
  rows-stop zero k h e = absurd (not-suc-le-zero h)
  rows-stop (suc left) k h e = rw (ne_eqb (outcome_in (here k).answer) 0 e)

  pub rows_end : (left k : ℕ) → left ≡ 0 → last_line false clean ≡ rows_from d clean left k
  unfolding rows_from
  rows_end zero k e = refl
  rows_end (suc left) k e = absurd (omega arith)

  -- one row more, and those that follow
  module _ (left k : ℕ) (some : 0 < left) (done : outcome_in (here k).answer ≡ 0) (one : List ℕ) (is : one ≡ row_of k (here k)) where
    turned : one ++ rows_from d clean (left - 1) (k + 1) ≡ rows_from d clean left k
    turned =
        let left' : suc (left - 1) ≡ left = omega arith in
        ap (λ (l : List ℕ). l ++ rows_from d clean (left - 1) (k + 1)) is ∙ sym (rows_on (left - 1) k done) ∙ ap (λ (n : ℕ). rows_from d clean n k) left'

    long : length one ≡ 25
    long = ap length (is ∙ sym (row-of k (here k))) ∙ length-row k (second_in (here k).answer) (unpack (here k).ledger).size (used (unpack (here k).ledger).entries)

    pub row-put-on : (out : List ℕ) (at : ℕ) → sets (sets out at one) (at + 25) (rows_from d clean (left - 1) (k + 1)) ≡ sets out at (rows_from d clean left k)
    row-put-on out at =
        ap (λ (n : ℕ). sets (sets out at one) (at + n) (rows_from d clean (left - 1) (k + 1))) (sym long)
        ∙ sym (sets-append one (rows_from d clean (left - 1) (k + 1)) out at)
        ∙ ap (sets out at) turned

    pub row-length-on : (at : ℕ) → at + 25 + length (rows_from d clean (left - 1) (k + 1)) ≡ at + length (rows_from d clean left k)
    row-length-on at =
        let all : length (rows_from d clean left k) ≡ length one + length (rows_from d clean (left - 1) (k + 1)) =
        ap length (sym turned) ∙ length-append one (rows_from d clean (left - 1) (k + 1)) in
        omega (arith, all, long)

-- ---- the whole

module _ (d : Disc) where
  abbrev told : ℕ
  told = (after d spare mount).answer

  pub listed-refused : (outcome_in told ≡ 0 → ⊥) → refused_line (outcome_in told) ≡ listed d
  unfolding listed
  listed-refused h = rw (ne_eqb (outcome_in told) 0 h)

  pub listed-rows : outcome_in told ≡ 0 → heading ++ rows_from d (eqb (second_in told) 1) (most_listed + 1) 0 ≡ listed d
  unfolding listed
  listed-rows e = rw (eq-eqb (outcome_in told) 0 e)

pub heading-put : (out rows : List ℕ) → sets (sets out 0 heading) 25 rows ≡ sets out 0 (heading ++ rows)
unfolding heading
heading-put out rows = sym (sets-append heading rows out 0)

pub heading-length : (rows : List ℕ) → 25 + length rows ≡ length (heading ++ rows)
unfolding heading
heading-length rows = sym (length-append heading rows)

-- ---- how long a listing can be

last-short : (broken clean : Bool) → length (last_line broken clean) ≤ 7
unfolding broken_line clean_line dirty_line
last-short true clean = omega arith
last-short false true = omega arith
last-short false false = omega arith

rows_short : (d : Disc) (clean : Bool) (left k : ℕ) → length (rows_from d clean left k) ≤ 25 * left + 7
unfolding rows_from
rows_short d clean zero k = last-short false clean
rows_short d clean (suc left) k = go (eqb (outcome_in (after d spare (look_back k)).answer) 0) (rows_short d clean left (k + 1))
  where
    go : (t : Bool) → length (rows_from d clean left (k + 1)) ≤ 25 * left + 7
        → length (row_or t (row_of k (after d spare (look_back k))) (rows_from d clean left (k + 1)) (last_line (eqb (outcome_in (after d spare (look_back k)).answer) 8) clean)) ≤ 25 * suc left + 7
    go true h =
        let one : List ℕ = row_of k (after d spare (look_back k)) in
        let long : length one ≡ 25 =
        ap length (sym (row-of k (after d spare (look_back k)))) ∙ length-row k (second_in (after d spare (look_back k)).answer) (unpack (after d spare (look_back k)).ledger).size (used (unpack (after d spare (look_back k)).ledger).entries) in
        omega (arith, length-append one (rows_from d clean left (k + 1)), long)
    go false h = omega (arith, last-short (eqb (outcome_in (after d spare (look_back k)).answer) 8) clean)

pub listed-short : (d : Disc) → length (listed d) ≤ 832
unfolding listed
listed-short d = go (eqb (outcome_in (after d spare mount).answer) 0)
  where
    go : (t : Bool) → length (listed_if t (heading ++ rows_from d (eqb (second_in (after d spare mount).answer) 1) (most_listed + 1) 0) (refused_line (outcome_in (after d spare mount).answer))) ≤ 832
    go true =
        omega (arith, heading-length (rows_from d (eqb (second_in (after d spare mount).answer) 1) (most_listed + 1) 0), rows_short d (eqb (second_in (after d spare mount).answer) 1) 32 0)
    go false = omega (arith, length-refused (outcome_in (after d spare mount).answer))
