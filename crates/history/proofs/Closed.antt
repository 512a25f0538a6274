-- Closed discs, proved: a closing that is done leaves one, and no event changes it.
--     closed-discs   the claim of specs/Closed.antt
-- Assumes nothing.
use Prim.Native.Nat.{ℕ, zero, suc, ◌+◌, ◌-◌, ◌≤◌, ◌<◌}
use native.Mathlib.Nat.{add-zero}
use native.Mathlib.Numerals.{add-one}
use native.Mathlib.Omega.{arith}
use mathlib.Core.Path.{◌≡◌, refl, sym, ap, ◌∙◌, subst, subst₂}
use mathlib.Core.Bool.{Bool, true, false, not}
use mathlib.Core.List.{List, [], ◌∷◌, ◌++◌}
use mathlib.Core.Logic.{inl, inr}
use Rattle.std.specs.Prelude.{Option, Some}
use lib.Dec.{eqb}
use lib.ListN.{length, take, drop, replicate, length-append, length-replicate}
use lib.Seq.{drop-cons}
use borrow.Author.Tests.{le-leb}
use Rattle.le.specs.Bytes.{every}
use Rattle.extent.specs.declared.Extent.{Extent}
use Rattle.vat.specs.Sector.{table_bytes}
use Rattle.vat.specs.Table.{tag_version}
use Rattle.anchor.specs.Anchor.{anchor, anchor_tagged}
use Rattle.anchor.proofs.Theorems.{tagged-anchor}
use Rattle.disc.specs.Disc.{Disc, sized, in_order, recorded, kind_at, sector_at, content, Sector, link, plain, torn, put, puts}
use Rattle.disc.specs.Session.{zero_sectors, zero_sector, closing, closing_length, session_closed}
use Rattle.disc.specs.Again.{fresh_of}
use Rattle.disc.proofs.Recording.{Sound, AllWhole, whole_append, Recorded, put-recorded, puts-append}
use Rattle.disc.proofs.Save.{NoTables, AllData, own-count, own-whole, own-data}
use Rattle.volume.specs.Volume.{ledger_length, read_only, unpack, map_of, fits}
use Rattle.volume.proofs.State.{Proper}
use Rattle.recorder.specs.Calls.{Call, begin, mount, write, release, close_packet, commit, close_session, read, look_back, time_of, may_record}
use Rattle.recorder.specs.Refusals.{Test, test, first, basic, gate, links, target, ledger_lent, block_lent, stamp_lent, write_tests, commit_tests, closing_tests, not_in_use, tests, outcome}
use Rattle.recorder.specs.Effects.{closing_first, effect, after, sectors_of}
use Rattle.recorder.proofs.Done.{ClosingDone, closing-done}
use Rattle.recorder.proofs.Sectors.{links-whole, closing-whole, length-closing, own-few}
use Rattle.history.specs.History.{Snapshot, History, Fed, feed}
use Rattle.history.specs.Events.{World, Event, calls, cuts, ledger_held, cut_disc, AllAllowed, next, fed, runs, remembers, after_call, begun_history, mounted_history}
use Rattle.history.specs.Claim.{DoneShowing, Mounts, Claim}
use Rattle.history.specs.Closed.{ClosedShowing, Closes, TurnedAway, ClosedDiscs}
use Rattle.history.proofs.Log.{none-some, Extends}
use Rattle.disc.proofs.Told.{data-there}
use Rattle.history.proofs.Growth.{F, data-within, plain-content, Grown, puts_plain, links-no-tables, behind-counted, behind-extends}
use Rattle.history.proofs.Saving.{Saving, closing-saving, own, table_sector, before_table, length_before_lem, before-whole, before-no-tables, room, sector-long, saved_disc, save}
use Rattle.history.proofs.Steps.{done-fed, refused-records-none, records-nothing}
use Rattle.history.proofs.Recorded.{after-disc, cut-nothing}
use Rattle.history.proofs.Blank.{closes-blank}
use Rattle.history.proofs.Theorem.{Kept, all-kept, claimed, begun_kept, mounted-kept, drafted, saved-page, saved-disc, remounts}

-- ---- sectors stand where they were recorded

abbrev Stands : Disc → ℕ → List Sector → Type 0
Stands d b [] = Unit
Stands d b (link ∷ ss) = ⊥
Stands d b (plain s ∷ ss) = (content d b ≡ Some s) × Stands d (suc b) ss
Stands d b (torn s ∷ ss) = ⊥

zeros-data : (n : ℕ) → AllData (replicate n zero_sector)
zeros-data zero = tt
zeros-data (suc n) = zeros-data n

pub closing-data : (main reserve : Extent) (start b own : ℕ) → AllData (closing main reserve start b own)
unfolding closing
closing-data main reserve start b own = zeros-data (zero_sectors - own)

-- those behind others
no-tables-behind : (xs ys : List Sector) (b : ℕ) → NoTables b (xs ++ ys) → NoTables (b + length xs) ys
no-tables-behind [] ys b n = subst (λ (k : ℕ). NoTables k ys) (sym (add-zero b)) n
no-tables-behind (x ∷ xs) ys b n =
    let e : suc b + length xs ≡ b + suc (length xs) = omega arith in
    subst (λ (k : ℕ). NoTables k ys) e (no-tables-behind xs ys (suc b) n.1)

data-append : (xs ys : List Sector) → AllData xs → AllData ys → AllData (xs ++ ys)
data-append [] ys p q = q
data-append (link ∷ xs) ys p q = absurd p
data-append (torn s ∷ xs) ys p q = absurd p
data-append (plain s ∷ xs) ys p q = data-append xs ys p q

stand : (ss : List Sector) (d : Disc) → Sound d → recorded d + length ss ≤ length d.kinds → AllWhole ss → AllData ss → NoTables (recorded d) ss → Stands (puts d (recorded d) ss) (recorded d) ss
unfolding puts
stand [] d ok room w a n = tt
stand (link ∷ ss) d ok room w a n = absurd a
stand (torn s ∷ ss) d ok room w a n = absurd a
stand (plain s ∷ ss) d ok room w a n =
    let here : recorded d < length d.kinds = omega arith in
    let d₁ : Disc = put d (recorded d) (plain s) in
    let r : Recorded d d₁ (plain s) = put-recorded d ok here (plain s) w.0 in
    let next-block : recorded d + 1 ≡ recorded d₁ = add-one (recorded d) ∙ sym r.one_more in
    let inside : recorded d₁ + length ss ≤ length d₁.kinds = omega (arith, r.one_more, r.same_length) in
    let further : NoTables (recorded d₁) ss = subst (λ (b : ℕ). NoTables b ss) (sym r.one_more) n.1 in
    let more : Grown d₁ (puts d₁ (recorded d₁) ss) (length ss) = puts_plain ss d₁ r.still-sound inside w.1 further in
    subst (λ (b : ℕ). Stands (puts d₁ b ss) (recorded d) (plain s ∷ ss)) (sym next-block)
    (more.plainly.extends.contents (recorded d) (omega (arith, r.one_more)) ∙ plain-content d ok here s w.0, subst (λ (b : ℕ). Stands (puts d₁ (recorded d₁) ss) b ss) r.one_more (stand ss d₁ r.still-sound inside w.1 a further))

stand-on : {d d' : Disc} → Extends F d d' → (ss : List Sector) (b : ℕ) → b + length ss ≤ recorded d → Stands d b ss → Stands d' b ss
stand-on e [] b h s = tt
stand-on e (link ∷ ss) b h s = absurd s
stand-on e (torn t ∷ ss) b h s = absurd s
stand-on e (plain t ∷ ss) b h s = (e.contents b (omega arith) ∙ s.0, stand-on e ss (suc b) (omega arith) s.1)

kinds-of : (ss : List Sector) (d : Disc) (b : ℕ) → Stands d b ss → every (λ k. eqb k 1) (take (length ss) (drop b d.kinds)) ≡ true
unfolding every
kinds-of [] d b s = refl
kinds-of (link ∷ ss) d b s = absurd s
kinds-of (torn t ∷ ss) d b s = absurd s
kinds-of (plain t ∷ ss) d b s =
    let is : kind_at d b ≡ 1 = (data-there d b t s.0).0 in
    rw (drop-cons d.kinds b 0 (data-within d.kinds b is), is) (kinds-of ss d (suc b) s.1)

first_of : (main reserve : Extent) (start b n : ℕ) (own : List Sector) (d : Disc) (at : ℕ) → Stands d at (closing main reserve start b n ++ own)
    → content d at ≡ Some (anchor tag_version main reserve (start + b))
unfolding closing
first_of main reserve start b n own d at s = s.0

-- ---- what a closing leaves

module _ (d : Disc) (l : List ℕ) (ok : Sound d) (good : Proper (unpack l)) (main reserve : Extent) (start : ℕ) (f : ClosingDone d l main reserve start) where
  abbrev s : Saving d l (close_session main reserve start)
  s = closing-saving d l main reserve start f

  -- what the save's table has before its ICB, and all data before that: pointer, zero sectors and these
  abbrev own-part : List Sector
  own-part = own d l ok good (close_session main reserve start) s

  -- how many own sectors are recorded, and what is put before them
  abbrev own_count : ℕ
  own_count = length (fresh_of d (table_bytes (map_of (unpack l)) (unpack l).last) (unpack l).last)

  abbrev ahead-part : List Sector
  ahead-part = closing_first d (unpack l) main reserve start

  abbrev between : List Sector
  between = ahead-part ++ own-part

  between-long : length between ≡ closing_length
  between-long =
      let t : List ℕ = table_bytes (map_of (unpack l)) (unpack l).last in
      let long : length between ≡ length ahead-part + length own-part = length-append ahead-part own-part in
      omega (arith, long, length-closing main reserve start (target (unpack l)) own_count (omega (arith, own-few d (unpack l) f.saving.fit.few)), own-count d t (unpack l).last)

  between-whole : AllWhole between
  between-whole =
      whole_append ahead-part own-part (closing-whole main reserve start (target (unpack l)) own_count)
      (own-whole d (table_bytes (map_of (unpack l)) (unpack l).last) (unpack l).last)

  between-data : AllData between
  between-data =
      data-append ahead-part own-part (closing-data main reserve start (target (unpack l)) own_count)
      (own-data d (table_bytes (map_of (unpack l)) (unpack l).last) (unpack l).last)

  -- as they stand behind the links
  between-no-tables : NoTables (recorded d + links (unpack l)) between
  between-no-tables =
      let n : ℕ = links (unpack l) in
      subst (λ (k : ℕ). NoTables (recorded d + k) between) (length-replicate n link)
      (no-tables-behind (replicate n link) between (recorded d) (before-no-tables d l ok good (close_session main reserve start) s))

  abbrev left : Disc
  left = saved_disc d l ok good (close_session main reserve start) s

  -- the pointer's block, behind the links, and the table's
  abbrev pointer : ℕ
  pointer = recorded d + links (unpack l)

  abbrev table : ℕ
  table = recorded d + length (before_table d l ok good (close_session main reserve start) s)

  at_pointer : target (unpack l) ≡ pointer
  at_pointer = ap (λ (r : ℕ). r + links (unpack l)) f.saving.fit.same-recorded

  counted : table ≡ pointer + closing_length
  counted = omega (arith, length_before_lem d l ok good (close_session main reserve start) s, length-append ahead-part own-part, between-long)

  linked : Disc
  linked = puts d (recorded d) (replicate (links (unpack l)) link)

  linked-grown : Grown d linked (links (unpack l))
  unfolding linked
  linked-grown =
      let n : ℕ = links (unpack l) in
      subst (λ (k : ℕ). Grown d (puts d (recorded d) (replicate n link)) k) (length-replicate n link)
      (puts_plain (replicate n link) d ok (omega (arith, length-replicate {A = Sector} n link, room d l ok good (close_session main reserve start) s, length_before_lem d l ok good (close_session main reserve start) s)) (links-whole n) (links-no-tables n (recorded d)))

  -- pointer and zero sectors, where they were recorded
  standing : Stands left pointer between
  unfolding linked
  standing =
      let n : ℕ = links (unpack l) in
      let c : Call = close_session main reserve start in
      let ss : List Sector = before_table d l ok good c s in
      let before : Disc = puts d (recorded d) ss in
      let split : before ≡ puts linked (recorded linked) between =
      puts-append (replicate n link) between d (recorded d) ∙ ap (λ (k : ℕ). puts linked k between) (ap (λ (k : ℕ). recorded d + k) (length-replicate n link) ∙ sym linked-grown.counted) in
      let inside : recorded linked + length between ≤ length linked.kinds = omega (arith, linked-grown.counted, linked-grown.same_length, counted, between-long, room d l ok good c s) in
      let there : Stands (puts linked (recorded linked) between) (recorded linked) between =
      stand between linked linked-grown.still-sound inside between-whole between-data (subst (λ (b : ℕ). NoTables b between) (sym linked-grown.counted) between-no-tables) in
      let all : Grown d before (length ss) = puts_plain ss d ok (omega (arith, room d l ok good c s)) (before-whole d l ok good c s) (before-no-tables d l ok good c s) in
      stand-on (behind-extends d ok ss (before-whole d l ok good c s) (before-no-tables d l ok good c s) (table_sector d l ok good c s) (sector-long d l ok good c s) (room d l ok good c s))
      between pointer (omega (arith, all.counted, counted, between-long))
      (subst₂ (λ (x : Disc) (b : ℕ). Stands x b between) (sym split) linked-grown.counted there)

  -- the first of them is the pointer
  pointed : sector_at left pointer ≡ anchor tag_version main reserve (start + target (unpack l))
  pointed =
      let b : ℕ = target (unpack l) in
      (data-there left pointer (anchor tag_version main reserve (start + b)) (first_of main reserve start b own_count own-part left pointer standing)).1

  tagged : anchor_tagged (sector_at left pointer) pointer ≡ true
  tagged =
      let b : ℕ = target (unpack l) in
      subst (λ (x : List ℕ). anchor_tagged x pointer ≡ true) (sym pointed)
      (tagged-anchor tag_version main reserve (start + b) (omega (arith, f.near, at_pointer, counted, ok.few, room d l ok good (close_session main reserve start) s)) pointer (omega (arith, at_pointer)) (omega (arith, at_pointer, f.near)))

  pub is-closed : session_closed left ≡ true
  unfolding session_closed
  is-closed =
      let c : Call = close_session main reserve start in
      let ss : List Sector = before_table d l ok good c s in
      let all : recorded left ≡ suc table = behind-counted d ok ss (before-whole d l ok good c s) (before-no-tables d l ok good c s) (table_sector d l ok good c s) (sector-long d l ok good c s) (room d l ok good c s) in
      let last : recorded left - 1 ≡ table = omega (arith, all) in
      let first : recorded left - 1 - closing_length ≡ pointer = omega (arith, all, counted) in
      let all-data : every (λ k. eqb k 1) (take closing_length (drop pointer left.kinds)) ≡ true =
      subst (λ (n : ℕ). every (λ k. eqb k 1) (take n (drop pointer left.kinds)) ≡ true) between-long (kinds-of between left pointer standing) in
      rw (le-leb (closing_length + 1) (recorded left) (omega (arith, all, counted)), first, tagged, all-data, last) (save d l ok good c s).a-table

-- ---- on a closed disc

-- 17 stops what 1 to 5 do not
stopped-at-17 : (a b c e f : Bool) (rest : List Test) → TurnedAway (first (test 1 a ∷ test 2 b ∷ test 3 c ∷ test 4 e ∷ test 5 f ∷ test 17 true ∷ rest))
unfolding first
stopped-at-17 true b c e f rest = inr (omega arith, omega arith)
stopped-at-17 false true c e f rest = inr (omega arith, omega arith)
stopped-at-17 false false true e f rest = inr (omega arith, omega arith)
stopped-at-17 false false false true f rest = inr (omega arith, omega arith)
stopped-at-17 false false false false true rest = inr (omega arith, omega arith)
stopped-at-17 false false false false false rest = inl refl

module _ (d : Disc) (closed : session_closed d ≡ true) (l : List ℕ) where
  at-the-gate : (lengths : Bool) (rest : List Test) → TurnedAway (first (basic d lengths ++ (gate d l ++ rest)))
  at-the-gate lengths rest =
      subst (λ (t : Bool). TurnedAway (first (test 1 (not (sized d)) ∷ test 2 (not lengths) ∷ test 3 (not (in_order d.kinds)) ∷ test 4 (not (fits d (unpack l))) ∷ test 5 (eqb (unpack l).mode read_only) ∷ test 17 t ∷ rest))) (sym closed)
      (stopped-at-17 (not (sized d)) (not lengths) (not (in_order d.kinds)) (not (fits d (unpack l))) (eqb (unpack l).mode read_only) rest)

  turned-away : (c : Call) → may_record c ≡ true → TurnedAway (outcome d l c)
  unfolding outcome tests
  turned-away begin m = absurd (mathlib.Core.Bool.false≢true m)
  turned-away mount m = absurd (mathlib.Core.Bool.false≢true m)
  turned-away (write n block) m = at-the-gate (block_lent l block) (write_tests d (unpack l) n block)
  turned-away (release n) m = at-the-gate (ledger_lent l) (test 10 (not_in_use (unpack l) n) ∷ [])
  turned-away close_packet m = at-the-gate (ledger_lent l) []
  turned-away (commit stamp) m = at-the-gate (stamp_lent l stamp) (commit_tests d (unpack l) stamp)
  turned-away (close_session main reserve start) m = at-the-gate (ledger_lent l) (closing_tests d (unpack l) start)
  turned-away (read n block) m = absurd (mathlib.Core.Bool.false≢true m)
  turned-away (look_back k) m = absurd (mathlib.Core.Bool.false≢true m)
  turned-away (time_of k answer) m = absurd (mathlib.Core.Bool.false≢true m)

  refused_none : (c : Call) (n : ℕ) → outcome d l c ≡ n → TurnedAway n → sectors_of d l c ≡ []
  refused_none c zero e (inl z) = absurd (omega arith)
  refused_none c zero e (inr z) = absurd (omega (arith, z.0))
  refused_none c (suc n) e t = refused-records-none d l c n e

  nothing : (c : Call) → sectors_of d l c ≡ []
  nothing begin = records-nothing d l begin tt
  nothing mount = records-nothing d l mount tt
  nothing (write n block) = refused_none (write n block) (outcome d l (write n block)) refl (turned-away (write n block) refl)
  nothing (release n) = records-nothing d l (release n) tt
  nothing close_packet = records-nothing d l close_packet tt
  nothing (commit stamp) = refused_none (commit stamp) (outcome d l (commit stamp)) refl (turned-away (commit stamp) refl)
  nothing (close_session main reserve start) = refused_none (close_session main reserve start) (outcome d l (close_session main reserve start)) refl (turned-away (close_session main reserve start) refl)
  nothing (read n block) = records-nothing d l (read n block) tt
  nothing (look_back k) = records-nothing d l (look_back k) tt
  nothing (time_of k answer) = records-nothing d l (time_of k answer) tt

same_next : (w : World) → session_closed w.disc ≡ true → (e : Event) → (next w e).disc ≡ w.disc
unfolding next puts
same_next w closed (calls c junk) =
    let l : List ℕ = ledger_held w.ledger junk in
    after-disc w.disc l c ∙ ap (puts w.disc (recorded w.disc)) (nothing w.disc closed l c)
same_next w closed (cuts c junk j tear) =
    ap (λ (ss : List Sector). cut_disc w.disc ss j tear) (nothing w.disc closed (ledger_held w.ledger junk) c) ∙ cut-nothing w.disc j tear

same-disc : (es : List Event) (w : World) → session_closed w.disc ≡ true → (runs w es).disc ≡ w.disc
unfolding runs
same-disc [] w closed = refl
same-disc (e ∷ es) w closed =
    let same : (next w e).disc ≡ w.disc = same_next w closed e in
    same-disc es (next w e) (ap session_closed same ∙ closed) ∙ same

-- ---- the claim

module _ (d : Disc) (l : List ℕ) (h : History) (k : Kept (record { disc = d; ledger = Some l }) h) (main reserve : Extent) (start : ℕ) (e : outcome d l (close_session main reserve start) ≡ 0) where
  abbrev call : Call
  call = close_session main reserve start

  -- the draft is the newest page, which mount shows
  shows-draft : (m : List ℕ) → length m ≡ ledger_length → DoneShowing (after d l call).disc m mount (drafted d l h k call refl e).0
  unfolding AllAllowed runs remembers next feed
  shows-draft m long =
      let w : World = record { disc = d; ledger = Some l } in
      let pages : (feed h (fed w (calls call []))).pages ≡ (drafted d l h k call refl e).0 ∷ h.pages =
      ap (λ (f : Fed). (feed h f).pages) (done-fed w call [] e) ∙ saved-page d l h k call refl e (effect d l call).second in
      let claim : Claim (after d l call).disc (feed h (fed w (calls call []))) = claimed (next w (calls call [])) (feed h (fed w (calls call []))) (all-kept (calls call [] ∷ []) w h k (λ z. absurd (none-some l (sym z)), tt)) in
      subst (λ (ps : List Snapshot). Mounts (after d l call).disc m ps) pages (claim.mounts m long)

  shows-closed : ClosedShowing (after d l call).disc (drafted d l h k call refl e).0
  shows-closed =
      let ok : Sound d = k.good.sound-disc in
      let good : Proper (unpack l) = k.good.ledger-good in
      let f : ClosingDone d l main reserve start = closing-done d l main reserve start e in
      record {
        is-closed = ap session_closed (saved-disc d l ok good call (closing-saving d l main reserve start f) e) ∙ is-closed d l ok good main reserve start f;
        clean = λ m long. (remounts d l good call refl e m long).clean;
        mounts = shows-draft;
      }

closes : (w : World) (h : History) → Kept w h → Closes w h
closes w h k l here main reserve start e =
    let k' : Kept (record { disc = w.disc; ledger = Some l }) h = subst (λ (o : Option (List ℕ)). Kept (record { disc = w.disc; ledger = o }) h) here k in
    let p = drafted w.disc l h k' (close_session main reserve start) refl e in
    (p.0, p.1, shows-closed w.disc l h k' main reserve start e)

pub closed-discs : ClosedDiscs
closed-discs =
    record {
      on-blank = closes-blank;
      after-begin = λ d l e es a.
          closes (runs (after_call d l begin) es) (remembers (after_call d l begin) begun_history es) (all-kept es (after_call d l begin) begun_history (begun_kept d l e) a);
      after-mount = λ d l e es a.
          closes (runs (after_call d l mount) es) (remembers (after_call d l mount) (mounted_history d) es) (all-kept es (after_call d l mount) (mounted_history d) (mounted-kept d l e) a);
      turned-away = turned-away;
      unchanged = λ w closed es. same-disc es w closed;
    }
