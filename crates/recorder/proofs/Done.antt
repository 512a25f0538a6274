-- What is known of a call that is done: none of its tests applies. And what a call answers on a sound disc, where its tests settle it.
-- Assumes nothing.
use Prim.Native.Nat.{ℕ, zero, suc, ◌+◌, ◌-◌, ◌*◌, ◌≤◌, ◌<◌}
use native.Mathlib.Omega.{arith}
use native.Mathlib.Nat.{add-zero, zero-add}
use mathlib.Core.Path.{◌≡◌, refl, sym, ap, ◌∙◌, subst}
use mathlib.Core.Bool.{Bool, true, false, ◌&&◌, ◌||◌, not}
use mathlib.Core.List.{List, [], ◌∷◌, ◌++◌}
use Rattle.std.specs.Prelude.{Option, None, Some}
use lib.Dec.{eqb, ltb, leb}
use lib.ListN.{length, get_or, drop, length-replicate}
use lib.Seq.{get_or-take}
use borrow.Author.Tests.{eqb-true, eqb-false, ltb-true, ltb-false, leb-true, leb-false, not-false}
use Rattle.le.specs.Bytes.{every}
use Rattle.le.proofs.Rows.{and_left, and_right}
use Rattle.timestamp.specs.Timestamp.{stamp_length, told_length, valid}
use Rattle.vat.specs.Table.{sector_length, limit, unused, unused_or_below, is_table}
use Rattle.vat.specs.Sector.{no_stamp, table_bytes}
use Rattle.extent.specs.declared.Extent.{Extent}
use Rattle.anchor.specs.Anchor.{farthest_start, anchor_tagged}
use Rattle.disc.specs.Disc.{Disc, sized, in_order, recorded, blanks, kind_at, Sector}
use Rattle.disc.specs.Tables.{Walk}
use Rattle.std.specs.Prelude.{Ok, Err}
use Rattle.disc.specs.declared.Stop.TheVariants.{Broken, Ended}
use Rattle.disc.specs.Tables.{below, table_at, newest}
use Rattle.disc.specs.Session.{closing_length, session_closed}
use Rattle.disc.specs.Again.{fresh_of}
use Rattle.disc.specs.Save.{save_sectors}
use Rattle.disc.proofs.Recording.{sized-tells, Sound, sound, sound-sized, sound-order, AllWhole}
use Rattle.disc.proofs.Found.{sector-end, table-within}
use Rattle.disc.proofs.Save.{save-count}
use Rattle.volume.specs.declared.Volume.{Volume}
use Rattle.volume.specs.Volume.{ledger_length, idle, packet_open, read_only, map_of, unpack, is_unused, fits, grown, size_with}
use Rattle.recorder.specs.Calls.{Call, begin, mount, write, release, close_packet, commit, close_session, read, look_back, time_of, stamp_of}
use Rattle.recorder.specs.Refusals.{Test, test, or_else, first, link_count, links_if, links, target, reserve, basic, ledger_lent, block_lent, stamp_long, stamp_lent, answer_lent, unfit, gate, forbidden_at, number_tests, write_tests, stamp_wrong, commit_tests, closing_tests, block_of, not_in_use, numbered_tests, is_some, walked, is_broken, is_ended, walk_tests, time_back, time_wrong, tests, outcome}
use Rattle.recorder.specs.Effects.{closing_first}
use Rattle.recorder.proofs.Sectors.{closing-whole, length-closing, own-few}

-- ---- lists of tests

passed : (n : ℕ) (a : Bool) (ts : List Test) → first (test (suc n) a ∷ ts) ≡ 0 → a ≡ false
unfolding first
passed n true ts e = absurd (omega arith)
passed n false ts e = refl

later : (n : ℕ) (a : Bool) (ts : List Test) → first (test (suc n) a ∷ ts) ≡ 0 → first ts ≡ 0
unfolding first
later n true ts e = absurd (omega arith)
later n false ts e = e

pub skip : (n : ℕ) (a : Bool) (ts : List Test) → a ≡ false → first (test n a ∷ ts) ≡ first ts
unfolding first
skip n a ts e = rw e

pub stop : (n : ℕ) (a : Bool) (ts : List Test) → a ≡ true → first (test n a ∷ ts) ≡ n
unfolding first
stop n a ts e = rw e

pub none_left : first [] ≡ 0
unfolding first
none_left = refl

-- tests that stop a call stop it whatever follows
pub stopped : (xs ys : List Test) → (first xs ≡ 0 → ⊥) → first (xs ++ ys) ≡ first xs
unfolding first
stopped [] ys h = absurd (h refl)
stopped (t ∷ ts) ys h = go t.applies t.number h (stopped ts ys)
  where
    go : (a : Bool) (n : ℕ) → (or_else a n (first ts) ≡ 0 → ⊥) → ((first ts ≡ 0 → ⊥) → first (ts ++ ys) ≡ first ts)
        → or_else a n (first (ts ++ ys)) ≡ or_else a n (first ts)
    go true n h ih = refl
    go false n h ih = ih h

-- no test has the number 0, which says done
abbrev pub coded : List Test → Bool
coded [] = true
coded (t ∷ ts) = ltb 0 t.number && coded ts

-- tests that are passed: none of them applies
abbrev pub NoneApplies : List Test → Type 0
NoneApplies [] = Unit
NoneApplies (t ∷ ts) = (t.applies ≡ false) × NoneApplies ts

pub none-applies : (ts : List Test) → coded ts ≡ true → first ts ≡ 0 → NoneApplies ts
unfolding first
none-applies [] k e = tt
none-applies (t ∷ ts) k e = go t.applies t.number (and_left (ltb 0 t.number) (coded ts) k) e (none-applies ts (and_right (ltb 0 t.number) (coded ts) k))
  where
    go : (a : Bool) (n : ℕ) → ltb 0 n ≡ true → or_else a n (first ts) ≡ 0 → (first ts ≡ 0 → NoneApplies ts) → (a ≡ false) × NoneApplies ts
    go true n k e ih = absurd (let above : 0 < n = ltb-true 0 n k in omega (arith, e))
    go false n k e ih = (refl, ih e)

-- tests that are passed leave those that follow
pub resumed : (xs ys : List Test) → coded xs ≡ true → first xs ≡ 0 → first (xs ++ ys) ≡ first ys
unfolding first
resumed [] ys k e = refl
resumed (t ∷ ts) ys k e = go t.applies t.number (and_left (ltb 0 t.number) (coded ts) k) e (resumed ts ys (and_right (ltb 0 t.number) (coded ts) k))
  where
    go : (a : Bool) (n : ℕ) → ltb 0 n ≡ true → or_else a n (first ts) ≡ 0 → (first ts ≡ 0 → first (ts ++ ys) ≡ first ys) → or_else a n (first (ts ++ ys)) ≡ first ys
    go true n k e ih = absurd (let above : 0 < n = ltb-true 0 n k in omega (arith, e))
    go false n k e ih = ih e

-- 1, 2, 3, one by one
module _ (d : Disc) (lengths : Bool) where
  pub refusal-1 : sized d ≡ false → first (basic d lengths) ≡ 1
  unfolding first
  refusal-1 e = rw e

  pub refusal-2 : sized d ≡ true → lengths ≡ false → first (basic d lengths) ≡ 2
  unfolding first
  refusal-2 s e = rw (s, e)

  pub refusal-3 : sized d ≡ true → lengths ≡ true → in_order d.kinds ≡ false → first (basic d lengths) ≡ 3
  unfolding first
  refusal-3 s l e = rw (s, l, e)

  pub no-refusal : sized d ≡ true → lengths ≡ true → in_order d.kinds ≡ true → first (basic d lengths) ≡ 0
  unfolding first
  no-refusal s l e = rw (s, l, e)

-- 1, 2, 3 do not apply
pub record Basic (d : Disc) (lengths : Bool) (rest : List Test) : Type 0 where
  pub sound-disc : Sound d
  pub lent : lengths ≡ true
  pub rest-passed : first rest ≡ 0

pub basic-passed : (d : Disc) (lengths : Bool) (rest : List Test) → first (basic d lengths ++ rest) ≡ 0 → Basic d lengths rest
basic-passed d lengths rest e =
    let one : Bool = not (sized d) in
    let three : Bool = not (in_order d.kinds) in
    let e₂ : first (test 2 (not lengths) ∷ test 3 three ∷ rest) ≡ 0 = later 0 one (test 2 (not lengths) ∷ test 3 three ∷ rest) e in
    let e₃ : first (test 3 three ∷ rest) ≡ 0 = later 1 (not lengths) (test 3 three ∷ rest) e₂ in
    record {
      sound-disc = sound d (not-false (sized d) (passed 0 one (test 2 (not lengths) ∷ test 3 three ∷ rest) e)) (not-false (in_order d.kinds) (passed 2 three rest e₃));
      lent = not-false lengths (passed 1 (not lengths) (test 3 three ∷ rest) e₂);
      rest-passed = later 2 three rest e₃;
    }

pub skip-basic : (d : Disc) (lengths : Bool) (rest : List Test) → Sound d → lengths ≡ true → first (basic d lengths ++ rest) ≡ first rest
skip-basic d lengths rest s h =
    let three : Test = test 3 (not (in_order d.kinds)) in
    skip 1 (not (sized d)) (test 2 (not lengths) ∷ three ∷ rest) (ap not (sound-sized d s))
    ∙ skip 2 (not lengths) (three ∷ rest) (ap not h)
    ∙ skip 3 (not (in_order d.kinds)) rest (ap not (sound-order d s))

-- ---- the state fits

pub record Fits (d : Disc) (v : Volume) : Type 0 where
  pub few : v.size ≤ limit
  pub rest-unused : every is_unused (drop v.size v.entries) ≡ true
  pub entries_below : every (unused_or_below v.recorded) (map_of v) ≡ true
  pub same-recorded : v.recorded ≡ recorded d
  pub last-known : (eqb v.last unused || table_at d v.last) ≡ true

fitting : (d : Disc) (v : Volume) → fits d v ≡ true → Fits d v
unfolding fits
fitting d v e =
    let a : Bool = leb v.size limit in
    let b : Bool = every is_unused (drop v.size v.entries) in
    let c : Bool = every (unused_or_below v.recorded) (map_of v) in
    let f : Bool = eqb v.recorded (recorded d) in
    let g : Bool = eqb v.last unused || table_at d v.last in
    let h : Bool = leb v.mode read_only in
    let i : Bool = not (eqb v.mode packet_open) || (ltb 0 v.recorded && eqb (kind_at d (v.recorded - 1)) 1) in
    let e₁ : (b && (c && (f && (g && (h && i))))) ≡ true = and_right a (b && (c && (f && (g && (h && i))))) e in
    let e₂ : (c && (f && (g && (h && i)))) ≡ true = and_right b (c && (f && (g && (h && i)))) e₁ in
    let e₃ : (f && (g && (h && i))) ≡ true = and_right c (f && (g && (h && i))) e₂ in
    let e₄ : (g && (h && i)) ≡ true = and_right f (g && (h && i)) e₃ in
    record {
      few = leb-true v.size limit (and_left a (b && (c && (f && (g && (h && i))))) e);
      rest-unused = and_left b (c && (f && (g && (h && i)))) e₁;
      entries_below = and_left c (f && (g && (h && i))) e₂;
      same-recorded = eqb-true v.recorded (recorded d) (and_left f (g && (h && i)) e₃);
      last-known = and_left g (h && i) e₄;
    }

-- 4, 5 and 17 do not apply
pub record Working (d : Disc) (l : List ℕ) (rest : List Test) : Type 0 where
  pub fit : Fits d (unpack l)
  pub not-looking : eqb (unpack l).mode read_only ≡ false
  pub rest-passed : first rest ≡ 0

pub working-passed : (d : Disc) (l : List ℕ) (rest : List Test) → first (gate d l ++ rest) ≡ 0 → Working d l rest
working-passed d l rest e =
    let four : Bool = not (fits d (unpack l)) in
    let five : Bool = eqb (unpack l).mode read_only in
    let seventeen : Bool = session_closed d in
    let e₂ : first (test 5 five ∷ test 17 seventeen ∷ rest) ≡ 0 = later 3 four (test 5 five ∷ test 17 seventeen ∷ rest) e in
    let e₃ : first (test 17 seventeen ∷ rest) ≡ 0 = later 4 five (test 17 seventeen ∷ rest) e₂ in
    record {
      fit = fitting d (unpack l) (not-false (fits d (unpack l)) (passed 3 four (test 5 five ∷ test 17 seventeen ∷ rest) e));
      not-looking = passed 4 five (test 17 seventeen ∷ rest) e₂;
      rest-passed = later 16 seventeen rest e₃;
    }

-- ---- the tests that several calls begin with

abbrev pub fitting_tests : Disc → List ℕ → Bool → List Test
fitting_tests d l lengths = basic d lengths ++ (unfit d l ∷ [])

abbrev pub working_tests : Disc → List ℕ → Bool → List Test
working_tests d l lengths = basic d lengths ++ gate d l

-- 1 to 4 do not apply
pub record Admitted (d : Disc) (l : List ℕ) (whole : Bool) : Type 0 where
  pub sound-disc : Sound d
  pub ledger-long : length l ≡ ledger_length
  pub fit : Fits d (unpack l)

pub ledger-lent : (l : List ℕ) (whole : Bool) → (ledger_lent l && whole) ≡ true → length l ≡ ledger_length
ledger-lent l whole e = eqb-true (length l) ledger_length (and_left (ledger_lent l) whole e)

admitted : (d : Disc) (l : List ℕ) (whole : Bool) (rest : List Test) → first (basic d (ledger_lent l && whole) ++ (unfit d l ∷ rest)) ≡ 0 → Admitted d l whole
admitted d l whole rest e =
    let b : Basic d (ledger_lent l && whole) (unfit d l ∷ rest) = basic-passed d (ledger_lent l && whole) (unfit d l ∷ rest) e in
    let four : Bool = not (fits d (unpack l)) in
    record {
      sound-disc = b.sound-disc;
      ledger-long = ledger-lent l whole b.lent;
      fit = fitting d (unpack l) (not-false (fits d (unpack l)) (passed 3 four rest b.rest-passed));
    }

pub fitting-admits : (d : Disc) (l : List ℕ) (whole : Bool) → first (fitting_tests d l (ledger_lent l && whole)) ≡ 0 → Admitted d l whole
fitting-admits d l whole e = admitted d l whole [] e

pub working-admits : (d : Disc) (l : List ℕ) (whole : Bool) → first (working_tests d l (ledger_lent l && whole)) ≡ 0 → Admitted d l whole
working-admits d l whole e = admitted d l whole (test 5 (eqb (unpack l).mode read_only) ∷ test 17 (session_closed d) ∷ []) e

pub links-few : (v : Volume) → links v ≤ link_count
unfolding links
links-few v = go (eqb v.mode idle && ltb 0 v.recorded)
  where
    go : (t : Bool) → links_if t ≤ link_count
    go true = omega arith
    go false = omega arith

-- ---- call by call

-- a ledger that was accepted has its length
lent-long : (d : Disc) (l : List ℕ) (whole : Bool) (rest : List Test) → first (basic d (ledger_lent l && whole) ++ rest) ≡ 0 → length l ≡ ledger_length
lent-long d l whole rest e = ledger-lent l whole (basic-passed d (ledger_lent l && whole) rest e).lent

alone-long : (d : Disc) (l : List ℕ) (rest : List Test) → first (basic d (ledger_lent l) ++ rest) ≡ 0 → length l ≡ ledger_length
alone-long d l rest e = eqb-true (length l) ledger_length (basic-passed d (ledger_lent l) rest e).lent

pub ledger-accepted : (d : Disc) (l : List ℕ) (c : Call) → outcome d l c ≡ 0 → length l ≡ ledger_length
unfolding outcome tests
ledger-accepted d l begin e = alone-long d l (test 6 (is_some (newest d)) ∷ []) e
ledger-accepted d l mount e = alone-long d l (test 7 (not (is_some (newest d))) ∷ []) e
ledger-accepted d l (write n block) e =
    lent-long d l (eqb (length block) sector_length)
    (gate d l ++ write_tests d (unpack l) n block) e
ledger-accepted d l (release n) e = alone-long d l (gate d l ++ (test 10 (not_in_use (unpack l) n) ∷ [])) e
ledger-accepted d l close_packet e = alone-long d l (gate d l) e
ledger-accepted d l (commit stamp) e = lent-long d l (stamp_long stamp) (gate d l ++ commit_tests d (unpack l) stamp) e
ledger-accepted d l (close_session main reserve start) e = alone-long d l (gate d l ++ closing_tests d (unpack l) start) e
ledger-accepted d l (read n block) e =
    lent-long d l (eqb (length block) sector_length)
    (numbered_tests d l n) e
ledger-accepted d l (look_back k) e = alone-long d l (walk_tests d k) e
ledger-accepted d l (time_of k answer) e = lent-long d l (eqb (length answer) told_length) (walk_tests d k ++ (time_wrong d k ∷ [])) e

pub record ReadDone (d : Disc) (l : List ℕ) (n : ℕ) (block : List ℕ) : Type 0 where
  pub sound-disc : Sound d
  pub block-long : length block ≡ sector_length
  pub fit : Fits d (unpack l)
  pub used : not_in_use (unpack l) n ≡ false
  pub data-kind : kind_at d (block_of (unpack l) n) ≡ 1

pub read_done : (d : Disc) (l : List ℕ) (n : ℕ) (block : List ℕ) → outcome d l (read n block) ≡ 0 → ReadDone d l n block
unfolding outcome tests
read_done d l n block e =
    let four : Bool = not (fits d (unpack l)) in
    let ten : Bool = not_in_use (unpack l) n in
    let kind : ℕ = kind_at d (block_of (unpack l) n) in
    let eleven : Bool = not (eqb kind 1) in
    let rest : List Test = test 10 ten ∷ test 11 eleven ∷ [] in
    let b : Basic d (block_lent l block) (unfit d l ∷ rest) = basic-passed d (block_lent l block) (unfit d l ∷ rest) e in
    let e₁ : first rest ≡ 0 = later 3 four rest b.rest-passed in
    record {
      sound-disc = b.sound-disc;
      block-long = eqb-true (length block) sector_length (and_right (ledger_lent l) (eqb (length block) sector_length) b.lent);
      fit = fitting d (unpack l) (not-false (fits d (unpack l)) (passed 3 four rest b.rest-passed));
      used = passed 9 ten (test 11 eleven ∷ []) e₁;
      data-kind = eqb-true kind 1 (not-false (eqb kind 1) (passed 10 eleven [] (later 9 ten (test 11 eleven ∷ []) e₁)));
    }

-- a table that is shown lies within the image
pub shown-within : (d : Disc) (b : ℕ) → Sound d → table_at d b ≡ true → sector_length * b + sector_length ≤ length d.image
shown-within d b s e = sector-end d (sized-tells d (sound-sized d s)) b (table-within d b e)

none_found : (o : Option ℕ) → is_some o ≡ false → o ≡ None
none_found None e = refl
none_found (Some b) e = absurd (true-false e)
  where
    true-false : true ≡ false → ⊥
    true-false e = mathlib.Core.Bool.true≢false e

some-found : (o : Option ℕ) → not (is_some o) ≡ false → (b : ℕ) × (o ≡ Some b)
some-found None e = absurd (mathlib.Core.Bool.true≢false e)
some-found (Some b) e = (b, refl)

pub begin-done : (d : Disc) (l : List ℕ) → outcome d l begin ≡ 0 → Sound d × (newest d ≡ None)
unfolding outcome tests
begin-done d l e =
    let six : Bool = is_some (newest d) in
    let b : Basic d (ledger_lent l) (test 6 six ∷ []) = basic-passed d (ledger_lent l) (test 6 six ∷ []) e in
    (b.sound-disc, none_found (newest d) (passed 5 six [] b.rest-passed))

pub mount-done : (d : Disc) (l : List ℕ) → outcome d l mount ≡ 0 → Sound d × ((b : ℕ) × (newest d ≡ Some b))
unfolding outcome tests
mount-done d l e =
    let seven : Bool = not (is_some (newest d)) in
    let b : Basic d (ledger_lent l) (test 7 seven ∷ []) = basic-passed d (ledger_lent l) (test 7 seven ∷ []) e in
    (b.sound-disc, some-found (newest d) (passed 6 seven [] b.rest-passed))

-- what is known of a number that may be written
abbrev pub Writable : Volume → Option ℕ → Type 0
Writable v None = Unit
Writable v (Some n) = (n < limit) × (n ≤ v.size)

pub size_fits : (v : Volume) (n : Option ℕ) → Writable v n → v.size ≤ limit → size_with n v.size ≤ limit
size_fits v None w few = few
size_fits v (Some n) w few = go (eqb n v.size) refl
  where
    go : (t : Bool) → eqb n v.size ≡ t → grown t v.size ≤ limit
    go true e = let same : n ≡ v.size = eqb-true n v.size e in omega (arith, w.0, same)
    go false e = few

pub record WriteDone (d : Disc) (l : List ℕ) (n : Option ℕ) (block : List ℕ) : Type 0 where
  pub sound-disc : Sound d
  pub block-long : length block ≡ sector_length
  pub fit : Fits d (unpack l)
  pub not-looking : eqb (unpack l).mode read_only ≡ false
  pub writable : Writable (unpack l) n
  pub room : links (unpack l) + 1 + reserve (length d.kinds) ≤ blanks d
  pub no_table : is_table (below d (target (unpack l))) block (target (unpack l)) ≡ false

neither : (a b : Bool) → (a || b) ≡ false → a ≡ false
neither true b e = e
neither false b e = refl

-- 13 and 12 passed, and what comes behind them
numbered : (v : Volume) (n : Option ℕ) (rest : List Test) → first (number_tests v n ++ rest) ≡ 0 → Writable v n × (first rest ≡ 0)
numbered v None rest e = (tt, e)
numbered v (Some n) rest e =
    let thirteen : Bool = leb limit n in
    let twelve : Bool = ltb v.size n in
    let e₁ : first (test 12 twelve ∷ rest) ≡ 0 = later 12 thirteen (test 12 twelve ∷ rest) e in
    ((leb-false limit n (passed 12 thirteen (test 12 twelve ∷ rest) e), ltb-false v.size n (passed 11 twelve rest e₁)), later 11 twelve rest e₁)

pub write_done : (d : Disc) (l : List ℕ) (n : Option ℕ) (block : List ℕ) → outcome d l (write n block) ≡ 0 → WriteDone d l n block
unfolding outcome tests
write_done d l n block e =
    let v : Volume = unpack l in
    let needed : ℕ = links v + 1 + reserve (length d.kinds) in
    let fourteen : Bool = ltb (blanks d) needed in
    let fifteen : Bool = forbidden_at d (target v) block in
    let behind : List Test = test 14 fourteen ∷ test 15 fifteen ∷ [] in
    let rest : List Test = write_tests d v n block in
    let b : Basic d (block_lent l block) (gate d l ++ rest) = basic-passed d (block_lent l block) (gate d l ++ rest) e in
    let w : Working d l rest = working-passed d l rest b.rest-passed in
    let number = numbered v n behind w.rest-passed in
    record {
      sound-disc = b.sound-disc;
      block-long = eqb-true (length block) sector_length (and_right (ledger_lent l) (eqb (length block) sector_length) b.lent);
      fit = w.fit;
      not-looking = w.not-looking;
      writable = number.0;
      room = ltb-false (blanks d) needed (passed 13 fourteen (test 15 fifteen ∷ []) number.1);
      no_table = neither (is_table (below d (target v)) block (target v)) (anchor_tagged block (target v)) (passed 14 fifteen [] (later 13 fourteen (test 15 fifteen ∷ []) number.1));
    }

in_use_lem : (v : Volume) (n : ℕ) → not_in_use v n ≡ false → n < v.size
in_use_lem v n e = go (leb v.size n) refl e
  where
    go : (t : Bool) → leb v.size n ≡ t → (t || eqb (get_or v.entries n unused) unused) ≡ false → n < v.size
    go true z e = absurd (mathlib.Core.Bool.true≢false e)
    go false z e = leb-false v.size n z

-- an entry that is in use names a recorded sector
named : (b : ℕ) (xs : List ℕ) (i : ℕ) → every (unused_or_below b) xs ≡ true → unused_or_below b (get_or xs i unused) ≡ true
unfolding every
named b [] i e = go (ltb unused b)
  where
    go : (t : Bool) → (t || true) ≡ true
    go true = refl
    go false = refl
named b (x ∷ xs) zero e = and_left (unused_or_below b x) (every (unused_or_below b) xs) e
named b (x ∷ xs) (suc i) e = named b xs i (and_right (unused_or_below b x) (every (unused_or_below b) xs) e)

is_below : (b x : ℕ) → (x ≡ unused → ⊥) → unused_or_below b x ≡ true → x < b
is_below b x u e = go (ltb x b) refl e
  where
    go : (t : Bool) → ltb x b ≡ t → (t || eqb x unused) ≡ true → x < b
    go true h e = ltb-true x b h
    go false h e = absurd (u (eqb-true x unused e))

not-unused : (v : Volume) (n : ℕ) → not_in_use v n ≡ false → get_or v.entries n unused ≡ unused → ⊥
not-unused v n e u = go (leb v.size n) e
  where
    go : (t : Bool) → (t || eqb (get_or v.entries n unused) unused) ≡ false → ⊥
    go true e = mathlib.Core.Bool.true≢false e
    go false e = eqb-false (get_or v.entries n unused) unused e u

pub entry-recorded : (d : Disc) (v : Volume) (n : ℕ) → Fits d v → not_in_use v n ≡ false → (n < v.size) × (get_or v.entries n unused < recorded d)
entry-recorded d v n fit e =
    let inside : n < v.size = in_use_lem v n e in
    let same : get_or (map_of v) n unused ≡ get_or v.entries n unused = get_or-take v.size v.entries n unused inside in
    let ok : unused_or_below v.recorded (get_or v.entries n unused) ≡ true =
    ap (unused_or_below v.recorded) (sym same) ∙ named v.recorded (map_of v) n fit.entries_below in
    (inside, subst (λ (r : ℕ). get_or v.entries n unused < r) fit.same-recorded (is_below v.recorded (get_or v.entries n unused) (not-unused v n e) ok))

-- release and close packet: a working state; of a release the number is below size
pub release-done : (d : Disc) (l : List ℕ) (n : ℕ) → outcome d l (release n) ≡ 0 → Sound d × Working d l (test 10 (not_in_use (unpack l) n) ∷ []) × (n < (unpack l).size)
unfolding outcome tests
release-done d l n e =
    let ten : Bool = not_in_use (unpack l) n in
    let b : Basic d (ledger_lent l) (gate d l ++ (test 10 ten ∷ [])) = basic-passed d (ledger_lent l) (gate d l ++ (test 10 ten ∷ [])) e in
    let w : Working d l (test 10 ten ∷ []) = working-passed d l (test 10 ten ∷ []) b.rest-passed in
    (b.sound-disc, w, in_use_lem (unpack l) n (passed 9 ten [] w.rest-passed))

pub close-done : (d : Disc) (l : List ℕ) → outcome d l close_packet ≡ 0 → Sound d × Working d l []
unfolding outcome tests
close-done d l e =
    let b : Basic d (ledger_lent l) (gate d l) = basic-passed d (ledger_lent l) (gate d l) e in
    (b.sound-disc, working-passed d l [] b.rest-passed)

-- the sectors of a save of the working state, behind its links and what it puts first
abbrev pub save_of : Disc → List ℕ → List Sector → List ℕ → List Sector
save_of d l first stamp =
    let v : Volume = unpack l in
    save_sectors d (table_bytes (map_of v) v.last) v.last stamp (target v + length first)

-- a save, with what it puts first, and the timestamp of the table
pub record SaveDone (d : Disc) (l : List ℕ) (first : List Sector) (stamp : List ℕ) : Type 0 where
  pub sound-disc : Sound d
  pub timely : length stamp ≡ stamp_length
  pub fit : Fits d (unpack l)
  pub not-looking : eqb (unpack l).mode read_only ≡ false
  pub whole : AllWhole first
  pub room : links (unpack l) + (length first + length (save_of d l first stamp)) ≤ blanks d

stamp-long : (stamp : Option (List ℕ)) → stamp_long stamp ≡ true → length (stamp_of stamp) ≡ stamp_length
stamp-long None e = refl
stamp-long (Some stamp) e = eqb-true (length stamp) stamp_length e

pub record CommitDone (d : Disc) (l : List ℕ) (stamp : Option (List ℕ)) : Type 0 where
  pub right-stamp : stamp_wrong stamp ≡ false
  pub saving : SaveDone d l [] (stamp_of stamp)

pub commit-done : (d : Disc) (l : List ℕ) (stamp : Option (List ℕ)) → outcome d l (commit stamp) ≡ 0 → CommitDone d l stamp
unfolding outcome tests
commit-done d l stamp e =
    let v : Volume = unpack l in
    let save : List Sector = save_sectors d (table_bytes (map_of v) v.last) v.last (stamp_of stamp) (target v) in
    let needed : ℕ = links v + length save in
    let sixteen : Bool = stamp_wrong stamp in
    let fourteen : Bool = ltb (blanks d) needed in
    let rest : List Test = commit_tests d (unpack l) stamp in
    let b : Basic d (stamp_lent l stamp) (gate d l ++ rest) = basic-passed d (stamp_lent l stamp) (gate d l ++ rest) e in
    let w : Working d l rest = working-passed d l rest b.rest-passed in
    record {
      right-stamp = passed 15 sixteen (test 14 fourteen ∷ []) w.rest-passed;
      saving =
          record {
            sound-disc = b.sound-disc;
            timely = stamp-long stamp (and_right (ledger_lent l) (stamp_long stamp) b.lent);
            fit = w.fit;
            not-looking = w.not-looking;
            whole = tt;
            room =
                rw (add-zero (target v), zero-add (length save))
                (ltb-false (blanks d) needed (passed 13 fourteen [] (later 15 sixteen (test 14 fourteen ∷ []) w.rest-passed)));
          };
    }

pub record ClosingDone (d : Disc) (l : List ℕ) (main reserve : Extent) (start : ℕ) : Type 0 where
  pub near : start ≤ farthest_start
  pub saving : SaveDone d l (closing_first d (unpack l) main reserve start) no_stamp

pub closing-done : (d : Disc) (l : List ℕ) (main reserve : Extent) (start : ℕ) → outcome d l (close_session main reserve start) ≡ 0 → ClosingDone d l main reserve start
unfolding outcome tests
closing-done d l main reserve start e =
    let v : Volume = unpack l in
    let needed : ℕ = links v + (closing_length + 1) in
    let table : List ℕ = table_bytes (map_of v) v.last in
    let own : ℕ = length (fresh_of d table v.last) in
    let first : List Sector = closing_first d v main reserve start in
    let eighteen : Bool = ltb farthest_start start in
    let fourteen : Bool = ltb (blanks d) needed in
    let rest : List Test = closing_tests d v start in
    let b : Basic d (ledger_lent l) (gate d l ++ rest) = basic-passed d (ledger_lent l) (gate d l ++ rest) e in
    let w : Working d l rest = working-passed d l rest b.rest-passed in
    let enough : needed ≤ blanks d = ltb-false (blanks d) needed (passed 13 fourteen [] (later 17 eighteen (test 14 fourteen ∷ []) w.rest-passed)) in
    record {
      near = ltb-false farthest_start start (passed 17 eighteen (test 14 fourteen ∷ []) w.rest-passed);
      saving =
          record {
            sound-disc = b.sound-disc;
            timely = length-replicate {A = ℕ} stamp_length 0;
            fit = w.fit;
            not-looking = w.not-looking;
            whole = closing-whole main reserve start (target v) own;
            room =
                omega (arith, length-closing main reserve start (target v) own (omega (arith, own-few d v w.fit.few)), save-count d table v.last no_stamp (target v + length first), enough);
          };
    }

way-reached : (w : Walk) → is_broken w ≡ false → is_ended w ≡ false → (b : ℕ) × (w ≡ Ok b)
way-reached (Ok b) p q = (b, refl)
way-reached (Err Broken) p q = absurd (mathlib.Core.Bool.true≢false p)
way-reached (Err Ended) p q = absurd (mathlib.Core.Bool.true≢false q)

-- 7, 8 and 9 do not apply: a table was reached
pub record Walked (d : Disc) (k : ℕ) (rest : List Test) : Type 0 where
  pub block : ℕ
  pub reached : walked d k ≡ Ok block
  pub rest-passed : first rest ≡ 0

walk-passed : (d : Disc) (k : ℕ) (rest : List Test) → first (walk_tests d k ++ rest) ≡ 0 → Walked d k rest
walk-passed d k rest e =
    let seven : Bool = not (is_some (newest d)) in
    let eight : Bool = is_broken (walked d k) in
    let nine : Bool = is_ended (walked d k) in
    let e₁ : first (test 8 eight ∷ test 9 nine ∷ rest) ≡ 0 = later 6 seven (test 8 eight ∷ test 9 nine ∷ rest) e in
    let e₂ : first (test 9 nine ∷ rest) ≡ 0 = later 7 eight (test 9 nine ∷ rest) e₁ in
    let way = way-reached (walked d k) (passed 7 eight (test 9 nine ∷ rest) e₁) (passed 8 nine rest e₂) in
    record { block = way.0; reached = way.1; rest-passed = later 8 nine rest e₂ }

pub skip-walk : (d : Disc) (k b t : ℕ) (rest : List Test) → newest d ≡ Some b → walked d k ≡ Ok t → first (walk_tests d k ++ rest) ≡ first rest
skip-walk d k b t rest n way =
    let seven : Bool = not (is_some (newest d)) in
    let eight : Bool = is_broken (walked d k) in
    let nine : Bool = is_ended (walked d k) in
    skip 7 seven (test 8 eight ∷ test 9 nine ∷ rest) (ap (λ (o : Option ℕ). not (is_some o)) n)
    ∙ skip 8 eight (test 9 nine ∷ rest) (ap is_broken way)
    ∙ skip 9 nine rest (ap is_ended way)

pub look-back-done : (d : Disc) (l : List ℕ) (k : ℕ) → outcome d l (look_back k) ≡ 0 → Sound d × ((b : ℕ) × (walked d k ≡ Ok b))
unfolding outcome tests
look-back-done d l k e =
    let b : Basic d (ledger_lent l) (walk_tests d k) = basic-passed d (ledger_lent l) (walk_tests d k) e in
    let w : Walked d k [] = walk-passed d k [] b.rest-passed in
    (b.sound-disc, (w.block, w.reached))

pub record TimeDone (d : Disc) (k : ℕ) (answer : List ℕ) : Type 0 where
  pub sound-disc : Sound d
  pub answer-long : length answer ≡ told_length
  pub block : ℕ
  pub reached : walked d k ≡ Ok block
  pub right-time : valid (time_back d k) ≡ true

pub time-done : (d : Disc) (l : List ℕ) (k : ℕ) (answer : List ℕ) → outcome d l (time_of k answer) ≡ 0 → TimeDone d k answer
unfolding outcome tests
time-done d l k answer e =
    let sixteen : Bool = not (valid (time_back d k)) in
    let rest : List Test = test 16 sixteen ∷ [] in
    let b : Basic d (answer_lent l answer) (walk_tests d k ++ rest) = basic-passed d (answer_lent l answer) (walk_tests d k ++ rest) e in
    let w : Walked d k rest = walk-passed d k rest b.rest-passed in
    record {
      sound-disc = b.sound-disc;
      answer-long = eqb-true (length answer) told_length (and_right (ledger_lent l) (eqb (length answer) told_length) b.lent);
      block = w.block;
      reached = w.reached;
      right-time = not-false (valid (time_back d k)) (passed 15 sixteen [] w.rest-passed);
    }
