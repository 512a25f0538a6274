-- The outcome of a call that goes on with `?`: what its first tests refuse, what is left of it behind tests that it passed, and what it then knows.
-- Assumes nothing.
use Prim.Native.Nat.{ℕ, zero, suc, ◌+◌, ◌≤◌, ◌<◌}
use native.Mathlib.Omega.{arith}
use mathlib.Core.Path.{◌≡◌, refl, sym, ap, ◌∙◌}
use mathlib.Core.Bool.{Bool, true, false, ◌&&◌, not, and-true}
use mathlib.Core.List.{List, [], ◌∷◌, ◌++◌}
use Rattle.std.specs.Prelude.{Option, None, Some, Result, Ok, Err, IsErrAnd}
use lib.Dec.{eqb, leb, ltb}
use lib.ListN.{length, get_or}
use borrow.Author.Tests.{ltb-true, le-ltb, lt-ltb, le-leb, lt-leb}
use Rattle.le.proofs.Rows.{and_right}
use Rattle.vat.specs.Table.{limit, unused, most_own}
use Rattle.vat.specs.Sector.{table_bytes}
use Rattle.disc.specs.Disc.{Disc, sized, blanks}
use Rattle.disc.specs.Tables.{newest}
use Rattle.disc.specs.Session.{session_closed}
use Rattle.disc.specs.Again.{fresh_of}
use Rattle.disc.proofs.Recording.{Sound, leading_le, sized-tells, sound-sized}
use Rattle.disc.proofs.Found.{newest-table, walk-table, length-time}
use Rattle.disc.proofs.Save.{save-count}
use Rattle.volume.specs.declared.Volume.{Volume}
use Rattle.volume.specs.Volume.{ledger_length, read_only, unpack, map_of}
use Rattle.volume.proofs.Fit.{entries_below}
use Rattle.recorder.specs.declared.Refusal.{Refusal}
use Rattle.recorder.specs.Calls.{write}
use Rattle.recorder.specs.Refused.{number, outcome_of}
use Rattle.recorder.specs.Refusals.{Test, test, or_else, first, links, reserve_if, reserve, basic, ledger_lent, block_lent, unfit, gate, number_tests, block_tests, write_tests, no_room, not_in_use, is_some, walk_tests, tests, outcome}
use Rattle.recorder.proofs.Done.{none_left, stopped, resumed, coded, none-applies, Basic, basic-passed, fitting_tests, working_tests, Fits, Admitted, fitting-admits, working-admits, links-few, entry-recorded, shown-within}
use Rattle.recorder.proofs.Sectors.{own-few}
use Rattle.recorder.proofs.Refused.{number-above}

-- ---- tests, and others behind them

-- one test, or two
pub one-test : (n : ℕ) (a : Bool) → first (test n a ∷ []) ≡ or_else a n 0
unfolding first
one-test n a = refl

pub two-tests : (n m : ℕ) (a b : Bool) → first (test n a ∷ test m b ∷ []) ≡ or_else a n (first (test m b ∷ []))
unfolding first
two-tests n m a b = refl

-- tests that refuse a call refuse it whatever follows
pub refused : {A : Type 0} (xs ys : List Test) (told : Result A Refusal) (r : Refusal) → IsErrAnd told (λ e. e ≡ r) → number r ≡ first xs → outcome_of told ≡ first (xs ++ ys)
refused xs ys (Ok done) r h e = absurd h
refused xs ys (Err other) r h e = ap number h ∙ e ∙ sym (stopped xs ys (λ z. omega (arith, e, z, number-above r)))

-- the outcome of tests, and else of those behind them
abbrev pub behind : ℕ → ℕ → ℕ
behind zero rest = rest
behind (suc n) rest = suc n

pub behind-refusal : (r : Refusal) (rest : ℕ) → behind (number r) rest ≡ number r
behind-refusal r rest = go (number r) (number-above r)
  where
    go : (n : ℕ) → 0 < n → behind n rest ≡ n
    go zero h = absurd (omega arith)
    go (suc n) h = refl

split : (xs ys : List Test) → coded xs ≡ true → first (xs ++ ys) ≡ behind (first xs) (first ys)
split xs ys k = go (first xs) refl
  where
    go : (n : ℕ) → first xs ≡ n → first (xs ++ ys) ≡ behind n (first ys)
    go zero e = resumed xs ys k e
    go (suc n) e = stopped xs ys (λ z. omega (arith, e, z)) ∙ e

-- 1, 2, 3 and 7
abbrev pub found_tests : Disc → Bool → List Test
found_tests d lengths = basic d lengths ++ (test 7 (not (is_some (newest d))) ∷ [])

module _ (d : Disc) (lengths : Bool) (rest : List Test) where
  pub behind-basic : first (basic d lengths ++ rest) ≡ behind (first (basic d lengths)) (first rest)
  behind-basic = split (basic d lengths) rest refl

  pub behind-found : first (found_tests d lengths ++ rest) ≡ behind (first (found_tests d lengths)) (first rest)
  behind-found = split (found_tests d lengths) rest refl

  pub behind-walk : (k : ℕ) → first (basic d lengths ++ (walk_tests d k ++ rest)) ≡ behind (first (basic d lengths ++ walk_tests d k)) (first rest)
  behind-walk k = split (basic d lengths ++ walk_tests d k) rest refl

  pub behind-fitting : (l : List ℕ) → first (fitting_tests d l lengths ++ rest) ≡ behind (first (fitting_tests d l lengths)) (first rest)
  behind-fitting l = split (fitting_tests d l lengths) rest refl

  pub behind-working : (l : List ℕ) → first (working_tests d l lengths ++ rest) ≡ behind (first (working_tests d l lengths)) (first rest)
  behind-working l = split (working_tests d l lengths) rest refl

pub behind-number : (v : Volume) (n : Option ℕ) (rest : List Test) → first (number_tests v n ++ rest) ≡ behind (first (number_tests v n)) (first rest)
behind-number v None rest = split [] rest refl
behind-number v (Some n) rest = split (test 13 (leb limit n) ∷ test 12 (ltb v.size n) ∷ []) rest refl

-- ---- a numbered write, behind 1 to 5 and 17

module _ (d : Disc) (l block : List ℕ) (z : first (working_tests d l (block_lent l block)) ≡ 0) where
  write-rest : (n : Option ℕ) → outcome d l (write n block) ≡ first (write_tests d (unpack l) n block)
  unfolding outcome tests
  write-rest n = resumed (working_tests d l (block_lent l block)) (write_tests d (unpack l) n block) refl z

  pub write-13 : (n : ℕ) → limit ≤ n → outcome d l (write (Some n) block) ≡ 13
  unfolding first
  write-13 n h = write-rest (Some n) ∙ rw (le-leb limit n h)

  pub write-12 : (n : ℕ) → n < limit → (unpack l).size < n → outcome d l (write (Some n) block) ≡ 12
  unfolding first
  write-12 n m h = write-rest (Some n) ∙ rw (lt-leb limit n m, lt-ltb (unpack l).size n h)

  pub write-tested : (n : ℕ) → n < limit → n ≤ (unpack l).size → outcome d l (write (Some n) block) ≡ first (block_tests d (unpack l) block)
  unfolding first
  write-tested n m s = write-rest (Some n) ∙ rw (lt-leb limit n m, le-ltb (unpack l).size n s)

-- ---- what a call knows that was let pass

-- by 1, 2 and 3
pub record Sounded (d : Disc) (lengths : Bool) : Type 0 where
  pub right-size : sized d ≡ true
  pub sound-disc : Sound d
  pub lengths-right : lengths ≡ true

pub basic-tells : (d : Disc) (lengths : Bool) (rest : List Test) → 0 ≡ first (basic d lengths ++ rest) → Sounded d lengths
basic-tells d lengths rest e =
    let b : Basic d lengths rest = basic-passed d lengths rest (sym e) in
    record { right-size = sound-sized d b.sound-disc; sound-disc = b.sound-disc; lengths-right = b.lent }

-- by `fitting`: nor does 4 apply
pub record Fitted (d : Disc) (l : List ℕ) (whole : Bool) : Type 0 where
  pub right-size : sized d ≡ true
  pub sound-disc : Sound d
  pub ledger-long : length l ≡ ledger_length
  pub lent-whole : whole ≡ true
  pub fit : Fits d (unpack l)

-- by `working`: nor do 5 and 17
pub record Worked (d : Disc) (l : List ℕ) (whole : Bool) : Type 0 where
  pub fitted : Fitted d l whole
  pub not-looking : eqb (unpack l).mode read_only ≡ false
  pub not-closed : session_closed d ≡ false

module _ (d : Disc) (l : List ℕ) (whole : Bool) where
  admitted : (rest : List Test) → Admitted d l whole → 0 ≡ first (basic d (ledger_lent l && whole) ++ rest) → Fitted d l whole
  admitted rest a e =
      let b : Sounded d (ledger_lent l && whole) = basic-tells d (ledger_lent l && whole) rest e in
      record {
        right-size = b.right-size;
        sound-disc = a.sound-disc;
        ledger-long = a.ledger-long;
        lent-whole = and_right (ledger_lent l) whole b.lengths-right;
        fit = a.fit;
      }

  pub fitting-tells : 0 ≡ first (fitting_tests d l (ledger_lent l && whole)) → Fitted d l whole
  fitting-tells e = admitted (unfit d l ∷ []) (fitting-admits d l whole (sym e)) e

  pub working-tells : 0 ≡ first (working_tests d l (ledger_lent l && whole)) → Worked d l whole
  working-tells e =
      let none = none-applies (working_tests d l (ledger_lent l && whole)) refl (sym e) in
      record { fitted = admitted (gate d l) (working-admits d l whole (sym e)) e; not-looking = none.1.1.1.1.0; not-closed = none.1.1.1.1.1.0 }

-- ---- numbers that fit

pub reserve-few : (n : ℕ) → reserve n ≤ 264
unfolding reserve
reserve-few n = go (leb 1000 n)
  where
    go : (t : Bool) → reserve_if t ≤ 264
    go true = omega arith
    go false = omega arith

-- an entry that is in use names a sector of the disc
pub entry-there : (d : Disc) (v : Volume) (n : ℕ) → Fits d v → not_in_use v n ≡ false → get_or v.entries n unused < length d.kinds
entry-there d v n fit e = omega (arith, (entry-recorded d v n fit e).1, leading_le d.kinds)

-- room for more is room for less
pub less-room : (d : Disc) (v : Volume) (few many : ℕ) → few ≤ many → first (no_room d v many ∷ []) ≡ 0 → first (no_room d v few ∷ []) ≡ 0
unfolding first
less-room d v few many h z = go (ltb (blanks d) (links v + few)) refl
  where
    short : blanks d < links v + few → first (no_room d v many ∷ []) ≡ 14
    short low = rw (lt-ltb (blanks d) (links v + many) (omega arith))

    go : (t : Bool) → ltb (blanks d) (links v + few) ≡ t → first (no_room d v few ∷ []) ≡ 0
    go false e = rw e
    go true e = let told = short (ltb-true (blanks d) (links v + few) e) in absurd (omega (arith, told, z))

-- and for the most own sectors it is room for those that are recorded
pub most-room : (d : Disc) (v : Volume) → v.size ≤ limit → first (no_room d v (most_own + 1) ∷ []) ≡ 0
    → first (no_room d v (length (fresh_of d (table_bytes (map_of v) v.last) v.last) + 1) ∷ []) ≡ 0
most-room d v few z = less-room d v (length (fresh_of d (table_bytes (map_of v) v.last) v.last) + 1) (most_own + 1) (omega (arith, own-few d v few)) z

-- ---- what the check is to know, beside what a call promises

-- of the calls that look for a table
pub ruleset looking = (one-test, two-tests, none_left, behind-refusal, behind-basic, behind-found, behind-walk, basic-tells, leading_le, newest-table, walk-table, shown-within, length-time)

-- of those on the working state
pub ruleset recording = (one-test, two-tests, none_left, and-true, le-ltb, behind-refusal, behind-fitting, behind-working, behind-number, fitting-tells, working-tells, save-count)

-- of the numbers that they compare
pub ruleset bounds = (one-test, two-tests, none_left, sized-tells, leading_le, entries_below, links-few, reserve-few, most-room, own-few)
