-- A closing can be done, proved: on a blank disc with room for it.
--     closes-blank   a begin is done, and then a closing
-- Assumes nothing.
use Prim.Native.Nat.{ℕ, zero, suc, ◌+◌, ◌*◌, ◌≤◌, ◌<◌}
use native.Mathlib.Omega.{arith}
use mathlib.Core.Path.{◌≡◌, refl, sym, ap, ◌∙◌, subst}
use mathlib.Core.Bool.{Bool, true, false, not}
use mathlib.Core.List.{List, [], ◌∷◌, ◌++◌}
use lib.Dec.{eqb, ltb, leb}
use lib.ListN.{length, replicate, length-replicate}
use borrow.Author.Tests.{eq-eqb, le-ltb, lt-leb}
use Rattle.le.specs.Bytes.{every}
use Rattle.vat.specs.Table.{sector_length, limit, unused}
use Rattle.extent.specs.declared.Extent.{Extent}
use Rattle.anchor.specs.Anchor.{farthest_start}
use Rattle.disc.specs.Disc.{Disc, lent, most_sectors, leading, recorded, blanks, puts}
use Rattle.disc.specs.Tables.{newest_below, newest}
use Rattle.disc.specs.Session.{closing_length, session_closed}
use Rattle.disc.proofs.Recording.{Sound}
use Rattle.volume.specs.declared.Volume.{Volume}
use Rattle.volume.specs.Volume.{ledger_length, read_only, unpack, pack, is_unused, fits, begun}
use Rattle.volume.proofs.State.{Proper, unpack-pack, length-pack, proper-begun}
use Rattle.recorder.specs.Calls.{begin, close_session}
use Rattle.recorder.specs.Refusals.{Test, test, links, ledger_lent, gate, closing_tests, is_some, tests, outcome}
use Rattle.recorder.specs.Effects.{After, effect, after}
use Rattle.recorder.proofs.Done.{skip, none_left, skip-basic}
use Rattle.history.specs.Closed.{ClosesBlank}

all_alike : (f : ℕ → Bool) (x : ℕ) → f x ≡ true → (n : ℕ) → every f (replicate n x) ≡ true
unfolding every
all_alike f x e zero = refl
all_alike f x e (suc n) = rw (e, all_alike f x e n)

of_none : (f : ℕ → Bool) → every f [] ≡ true
unfolding every
of_none f = refl

none-recorded : (n : ℕ) → leading (replicate n 0) ≡ 0
unfolding leading
none-recorded zero = refl
none-recorded (suc n) = refl

module _ (image l : List ℕ) (n : ℕ) (enough : closing_length < n) (few : n ≤ most_sectors) (whole : length image ≡ sector_length * n) (long : length l ≡ ledger_length) where
  abbrev d : Disc
  d = lent image (replicate n 0)

  sound-blank : Sound d
  sound-blank =
      record {
        some-sectors = rw (length-replicate {A = ℕ} n 0) (omega arith);
        few = rw (length-replicate {A = ℕ} n 0) few;
        whole = rw (length-replicate {A = ℕ} n 0) whole;
        known = all_alike (λ k. leb k 3) 0 refl n;
        blank = rw (none-recorded n) (all_alike (λ k. eqb k 0) 0 refl n);
      }

  no_table : is_some (newest d) ≡ false
  unfolding newest_below
  no_table = rw (none-recorded n)

  begins : outcome d l begin ≡ 0
  unfolding outcome tests
  begins = skip-basic d (ledger_lent l) (test 6 (is_some (newest d)) ∷ []) sound-blank (eq-eqb (length l) ledger_length long) ∙ skip 6 (is_some (newest d)) [] no_table ∙ none_left

  -- the ledger that it leaves
  abbrev v : Volume
  v = begun (recorded d)

  begun-proper : Proper v
  begun-proper = proper-begun (recorded d) (omega (arith, none-recorded n))

  abbrev m : List ℕ
  m = pack v

  unpacked : unpack m ≡ v
  unpacked = unpack-pack v begun-proper

  begun-left : after d l begin ≡ record { answer = 0; disc = d; ledger = m; buffer = [] }
  unfolding after effect puts
  begun-left = rw (begins, none-recorded n)

  begun-fits : fits d v ≡ true
  unfolding fits begun
  begun-fits = rw (all_alike is_unused unused refl limit, of_none (Rattle.vat.specs.Table.unused_or_below (recorded d)), eq-eqb (recorded d) (recorded d) refl)

  not-looking : eqb v.mode read_only ≡ false
  unfolding begun
  not-looking = refl

  not-closed : session_closed d ≡ false
  unfolding session_closed
  not-closed = rw (lt-leb (closing_length + 1) (recorded d) (omega (arith, none-recorded n)))

  no-links : links v ≡ 0
  unfolding links begun
  no-links = rw (none-recorded n)

  room : ltb (blanks d) (links (unpack m) + (closing_length + 1)) ≡ false
  room = le-ltb (blanks d) (links (unpack m) + (closing_length + 1)) (omega (arith, ap links unpacked, no-links, none-recorded n, length-replicate {A = ℕ} n 0))

  closes : (main reserve : Extent) (start : ℕ) → start ≤ farthest_start → outcome d m (close_session main reserve start) ≡ 0
  unfolding outcome tests
  closes main reserve start near =
      let four : Bool = not (fits d (unpack m)) in
      let five : Bool = eqb (unpack m).mode read_only in
      let seventeen : Bool = session_closed d in
      let eighteen : Bool = ltb farthest_start start in
      let fourteen : Bool = ltb (blanks d) (links (unpack m) + (closing_length + 1)) in
      let last : List Test = test 18 eighteen ∷ test 14 fourteen ∷ [] in
      skip-basic d (ledger_lent m) (gate d m ++ closing_tests d (unpack m) start) sound-blank (eq-eqb (length m) ledger_length (length-pack v begun-proper))
      ∙ skip 4 four (test 5 five ∷ test 17 seventeen ∷ last) (ap not (ap (fits d) unpacked ∙ begun-fits))
      ∙ skip 5 five (test 17 seventeen ∷ last) (ap (λ (u : Volume). eqb u.mode read_only) unpacked ∙ not-looking)
      ∙ skip 17 seventeen last not-closed
      ∙ skip 18 eighteen (test 14 fourteen ∷ []) (le-ltb farthest_start start near)
      ∙ skip 14 fourteen [] room
      ∙ none_left

  pub closes-blank : ClosesBlank d l
  closes-blank = (begins, λ main reserve start near. subst (λ (a : After). outcome a.disc a.ledger (close_session main reserve start) ≡ 0) (sym begun-left) (closes main reserve start near))
