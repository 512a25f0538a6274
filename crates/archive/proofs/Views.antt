-- A read and a view with a ledger that fits the disc: what they tell is settled by the block that the number names. On discs with the same data below what
-- was recorded they tell the same of a block there.
--     Fit, fit_of               what is known of a ledger that fits
--     read-tells, view_tells_lem    what they tell
--     read_same, view-same      the same on both discs
-- Assumes nothing.
use Prim.Native.Nat.{ℕ, zero, suc, ◌-◌, ◌*◌, ◌≤◌, ◌<◌}
use native.Mathlib.Omega.{arith}
use mathlib.Core.Path.{◌≡◌, refl, sym, ap, ap₂, ◌∙◌, subst}
use mathlib.Core.Bool.{Bool, true, false, ◌&&◌, ◌||◌, not}
use mathlib.Core.List.{List, [], ◌∷◌}
use lib.Dec.{eqb, ltb, leb}
use lib.ListN.{length, get_or, take, drop}
use lib.Seq.{get_or-drop}
use borrow.Author.Tests.{eq-eqb, eqb-true, leb-true, not-false}
use Rattle.le.specs.Bytes.{every}
use Rattle.le.proofs.Rows.{and_left, and_right}
use Rattle.vat.specs.Table.{sector_length, unused}
use Rattle.extent.specs.declared.Extent.{Extent}
use Rattle.extent.specs.Extents.{total_length}
use Rattle.disc.specs.Disc.{Disc, recorded, kind_at, sector_at}
use Rattle.disc.proofs.Recording.{Sound, sound-sized, sound-order}
use Rattle.volume.specs.declared.Volume.{Volume}
use Rattle.volume.specs.Volume.{ledger_length, is_unused, unpack, fits}
use Rattle.recorder.specs.Calls.{read}
use Rattle.recorder.specs.Refusals.{Test, test, first, ledger_lent, block_of, not_in_use, tests, outcome}
use Rattle.recorder.specs.Effects.{settled, effect, after}
use Rattle.recorder.proofs.Done.{coded, NoneApplies, none-applies, Fits, Admitted, fitting_tests, fitting-admits, entry-recorded}
use Rattle.run.specs.Entry.{entry_at}
use Rattle.run.specs.View.{most_viewed, run_tests, view_outcome, shown_from, filled_with, view_effect, view}
use Rattle.archive.specs.Earlier.{Seen, showing, seen, Fitting}
use Rattle.archive.proofs.Runs.{SameBelow, data-same, sector-same, extents-same, entry-same, run-same}

-- ---- a ledger that fits

pub record Fit (d : Disc) (l : List ℕ) : Type 0 where
  pub sound-disc : Sound d
  pub long : length l ≡ ledger_length
  pub fit : fits d (unpack l) ≡ true
  pub parts : Fits d (unpack l)

and-nothing : (t : Bool) → (t && true) ≡ t
and-nothing true = refl
and-nothing false = refl

pub fit_of : (d : Disc) (l : List ℕ) → Fitting d l → Fit d l
fit_of d l e =
    let a : Admitted d l true = fitting-admits d l true (subst (λ (t : Bool). first (fitting_tests d l t) ≡ 0) (sym (and-nothing (ledger_lent l))) e) in
    record {
      sound-disc = a.sound-disc;
      long = a.ledger-long;
      fit = not-false (fits d (unpack l)) (none-applies (fitting_tests d l (ledger_lent l)) refl e).1.1.1.0;
      parts = a.fit;
    }

pub fitting-of : (d : Disc) (l : List ℕ) → Sound d → length l ≡ ledger_length → fits d (unpack l) ≡ true → Fitting d l
unfolding first
fitting-of d l ok long fit = rw (sound-sized d ok, eq-eqb (length l) ledger_length long, sound-order d ok, fit)

-- from size on no number is in use
unused-behind : (xs : List ℕ) (i : ℕ) → every is_unused xs ≡ true → get_or xs i unused ≡ unused
unfolding every
unused-behind [] i e = refl
unused-behind (x ∷ xs) zero e = eqb-true x unused (and_left (is_unused x) (every is_unused xs) e)
unused-behind (x ∷ xs) (suc i) e = unused-behind xs i (and_right (is_unused x) (every is_unused xs) e)

module _ (d : Disc) (v : Volume) (f : Fits d v) (n : ℕ) where
  pub by-its-block : not_in_use v n ≡ eqb (block_of v n) unused
  by-its-block = go (leb v.size n) refl
    where
      go : (t : Bool) → leb v.size n ≡ t → (leb v.size n || eqb (block_of v n) unused) ≡ eqb (block_of v n) unused
      go true z =
          let low : v.size ≤ n = leb-true v.size n z in
          let none-there : block_of v n ≡ unused =
          ap (λ (i : ℕ). get_or v.entries i unused) (omega arith) ∙ sym (get_or-drop v.size v.entries (n - v.size) unused) ∙ unused-behind (drop v.size v.entries) (n - v.size) f.rest-unused in
          rw z (sym (eq-eqb (block_of v n) unused none-there))
      go false z = rw z

  pub block-recorded : eqb (block_of v n) unused ≡ false → block_of v n < recorded d
  block-recorded used = (entry-recorded d v n f (by-its-block ∙ used)).1

-- ---- what is told of the block that a number names

-- by the outcome and the bytes shown
abbrev read_tells : List ℕ → ℕ → List ℕ → Seen
read_tells block zero bytes = showing 0 bytes
read_tells block (suc n) bytes = showing (suc n * 4294967296) block

abbrev view_tells : List ℕ → ℕ → List ℕ → Seen
view_tells buffer zero bytes = showing (length bytes) (filled_with bytes buffer)
view_tells buffer (suc n) bytes = showing (suc n * 4294967296) buffer

-- the tests that are left
abbrev of_block : Disc → ℕ → Bool → List Test → List Test
of_block d x lent rest = test 2 (not lent) ∷ test 10 (eqb x unused) ∷ test 11 (not (eqb (kind_at d x) 1)) ∷ rest

abbrev read_tests : Disc → ℕ → List ℕ → List Test
read_tests d x block = of_block d x (eqb (length block) sector_length) []

abbrev view_tests : Disc → ℕ → ℕ → List ℕ → List Test
view_tests d x offset buffer = of_block d x (leb (length buffer) most_viewed) (run_tests d x offset)

abbrev pub read_told : Disc → ℕ → List ℕ → Seen
read_told d x block = read_tells block (first (read_tests d x block)) (sector_at d x)

abbrev pub view_told : Disc → ℕ → ℕ → List ℕ → Seen
view_told d x offset buffer = view_tells buffer (first (view_tests d x offset buffer)) (shown_from d x offset (length buffer))

module _ (d : Disc) (l : List ℕ) (h : Fit d l) (n : ℕ) where
  abbrev named : ℕ
  named = block_of (unpack l) n

  read-outcome : (block : List ℕ) → outcome d l (read n block) ≡ first (read_tests d named block)
  unfolding outcome tests first
  read-outcome block =
      rw (sound-sized d h.sound-disc, eq-eqb (length l) ledger_length h.long, sound-order d h.sound-disc, h.fit, by-its-block d (unpack l) h.parts n)

  pub read-tells : (block : List ℕ) → seen (after d l (read n block)) ≡ read_told d named block
  unfolding after effect
  read-tells block = go (outcome d l (read n block)) ∙ ap (λ (o : ℕ). read_tells block o (sector_at d named)) (read-outcome block)
    where
      go : (o : ℕ) → seen (settled d l block o (effect d l (read n block))) ≡ read_tells block o (sector_at d named)
      go zero = refl
      go (suc m) = refl

  view-outcome : (offset : ℕ) (buffer : List ℕ) → view_outcome d l n offset buffer ≡ first (view_tests d named offset buffer)
  unfolding view_outcome first
  view-outcome offset buffer =
      rw (sound-sized d h.sound-disc, eq-eqb (length l) ledger_length h.long, sound-order d h.sound-disc, h.fit, by-its-block d (unpack l) h.parts n)

  pub view_tells_lem : (offset : ℕ) (buffer : List ℕ) → seen (view d l n offset buffer) ≡ view_told d named offset buffer
  unfolding view view_effect
  view_tells_lem offset buffer =
      go (view_outcome d l n offset buffer) ∙ ap (λ (o : ℕ). view_tells buffer o (shown_from d named offset (length buffer))) (view-outcome offset buffer)
    where
      go : (o : ℕ) → seen (settled d l buffer o (view_effect d l n offset buffer)) ≡ view_tells buffer o (shown_from d named offset (length buffer))
      go zero = refl
      go (suc m) = refl

-- ---- two discs

-- tests behind one that applies are not asked
behind_test : (n : ℕ) (a : Bool) (ts us : List Test) → (a ≡ false → first ts ≡ first us) → first (test n a ∷ ts) ≡ first (test n a ∷ us)
unfolding first
behind_test n true ts us h = refl
behind_test n false ts us h = h refl

-- what is shown counts only where no test applies
shown-only : (tells : ℕ → List ℕ → Seen) → ((o : ℕ) (xs ys : List ℕ) → tells (suc o) xs ≡ tells (suc o) ys)
    → (ts : List Test) → coded ts ≡ true → (xs ys : List ℕ) → (NoneApplies ts → xs ≡ ys) → tells (first ts) xs ≡ tells (first ts) ys
shown-only tells refused ts k xs ys h = go (first ts) refl
  where
    go : (o : ℕ) → first ts ≡ o → tells o xs ≡ tells o ys
    go zero z = ap (tells 0) (h (none-applies ts k z))
    go (suc o) z = refused o xs ys

module _ {r : ℕ} {d d' : Disc} (e : SameBelow r d d') (x : ℕ) (inside : eqb x unused ≡ false → x < r) where
  abbrev is_data : Bool
  is_data = eqb (kind_at d x) 1

  tests_same : (lent : Bool) (rest rest' : List Test) → (x < r → is_data ≡ true → first rest' ≡ first rest) → first (of_block d' x lent rest') ≡ first (of_block d x lent rest)
  tests_same lent rest rest' h =
      behind_test 2 (not lent) (test 10 (eqb x unused) ∷ test 11 (not (eqb (kind_at d' x) 1)) ∷ rest') (test 10 (eqb x unused) ∷ test 11 (not is_data) ∷ rest)
      (λ fit. behind_test 10 (eqb x unused) (test 11 (not (eqb (kind_at d' x) 1)) ∷ rest') (test 11 (not is_data) ∷ rest)
      (λ used. ap (λ (t : Bool). first (test 11 (not t) ∷ rest')) (data-same e x (inside used))
      ∙ behind_test 11 (not is_data) rest' rest (λ holding. h (inside used) (not-false is_data holding))))

  pub read_same : (block : List ℕ) → read_told d' x block ≡ read_told d x block
  read_same block =
      ap (λ (o : ℕ). read_tells block o (sector_at d' x)) (tests_same (eqb (length block) sector_length) [] [] (λ below is. refl))
      ∙ shown-only (read_tells block) (λ o xs ys. refl) (read_tests d x block) refl (sector_at d' x) (sector_at d x)
      (λ passed. sector-same e x (inside passed.1.0) (not-false is_data passed.1.1.0))

  pub view-same : (offset : ℕ) (buffer : List ℕ) → view_told d' x offset buffer ≡ view_told d x offset buffer
  unfolding shown_from
  view-same offset buffer =
      let room : ℕ = length buffer in
      ap (λ (o : ℕ). view_tells buffer o (shown_from d' x offset room))
      (tests_same (leb room most_viewed) (run_tests d x offset) (run_tests d' x offset)
      (λ below is. ap₂ (λ (t : Bool) (es : List Extent). first (test 19 (not t) ∷ test 20 (ltb (total_length es) offset) ∷ [])) (entry-same e x below is) (extents-same e x below is)))
      ∙ shown-only (view_tells buffer) (λ o xs ys. refl) (view_tests d x offset buffer) refl (shown_from d' x offset room) (shown_from d x offset room)
      (λ passed.
      let holding : is_data ≡ true = not-false is_data passed.1.1.0 in
      ap (λ (bytes : List ℕ). take room (drop offset bytes)) (run-same e x (inside passed.1.0) holding (not-false (entry_at d x) passed.1.1.1.0)))
