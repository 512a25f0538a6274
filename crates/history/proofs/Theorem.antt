-- Demand 3, proved: after every list of events that document 01 allows, mount and look back show the history's pages.
--     power-cuts         the claim of specs/Claim.antt
--     begun_kept, mounted-kept, all-kept  what holds of disc, ledger and history after a begin or a mount, and after any events that follow
--     all-extends, all-since  these only add to the disc, and leave each save where it was, further back by the saves that they make
--     remounts           a save that is done, then a mount or a look back on the disc that it leaves
--     save-then-mount    the same of any 16,364 bytes as ledger
-- Assumes nothing.
use Prim.Native.Nat.{ℕ, suc, ◌+◌, ◌*◌, ◌<◌}
use native.Mathlib.Omega.{arith}
use mathlib.Core.Path.{◌≡◌, refl, sym, ap, ◌∙◌, subst, subst₂}
use mathlib.Core.Bool.{Bool, true, false, ◌||◌, not}
use mathlib.Core.List.{List, [], ◌∷◌}
use Rattle.std.specs.Prelude.{Option, None, Some}
use lib.Dec.{eqb, lit<}
use native.Mathlib.Numerals.{add-one}
use borrow.Author.Tests.{eq-eqb, ne_eqb}
use lib.ListN.{length, get_or}
use Rattle.vat.specs.Table.{unused}
use Rattle.disc.specs.Disc.{Disc, recorded, puts}
use Rattle.disc.specs.Tables.{Walk}
use Rattle.std.specs.Prelude.{Ok, Err}
use Rattle.disc.specs.declared.Stop.TheVariants.{Ended}
use Rattle.disc.specs.Tables.{table_at, map_at, previous_at, newest, walk, block_found}
use Rattle.disc.proofs.Recording.{Sound}
use Rattle.disc.proofs.Found.{newest-table, table-recorded}
use Rattle.le.proofs.Runs.{AllBytes}
use Rattle.volume.specs.declared.Volume.{Volume}
use Rattle.volume.specs.Volume.{ledger_length, idle, read_only, unpack, pack, map_of, filled}
use Rattle.volume.proofs.State.{Proper, unpack-pack, proper-unpack, map-filled, length-map}
use Rattle.recorder.specs.Calls.{Call, begin, mount, look_back, saves, only_tells}
use Rattle.recorder.specs.Refusals.{test, ledger_lent, is_some, walk_from, walked, is_broken, is_ended, walk_tests, tests, outcome}
use Rattle.recorder.specs.Effects.{effect, block_reached, clean_number, after, shown_at}
use Rattle.recorder.proofs.Done.{skip, stop, none_left, skip-basic, skip-walk, begin-done, mount-done, SaveDone}
use Rattle.recorder.proofs.Answers.{walked-table}
use Rattle.history.specs.History.{Snapshot, History, Told, saved, done, feed}
use Rattle.history.specs.Events.{World, Event, calls, ledger_held, AllAllowed, next, told, fed, runs, remembers, shown, page_of, after_call, begun_history, mounted_history}
use Rattle.history.specs.Times.{saved_stamp}
use Rattle.history.specs.Claim.{Shows, DoneShowing, Mounts, Claim, PowerCuts}
use Rattle.history.proofs.Log.{Extends, extends-same, extends-on, HeldIf, Inv, Pages, Saved, page_from, newest-saved, kept, head-link, working}
use Rattle.history.proofs.Back.{step-extends, way-walk, Behind, page-behind, Since, since-kept}
use Rattle.history.proofs.Growth.{F, names-below}
use Rattle.history.proofs.Steps.{Good, GoodStep, state_of, event-step, proper-table}
use Rattle.history.proofs.Saving.{told-save, Saving, saving-done, before_table, table_block, at_table, leaves-behind, saved_disc, save, save-sound}
use Rattle.history.proofs.Shown.{shows-table}

-- ---- the invariant over a list

pub record Kept (w : World) (h : History) : Type 0 where
  pub good : Good w
  pub inv : Inv F (state_of w) h

pub all-kept : (es : List Event) (w : World) (h : History) → Kept w h → AllAllowed w es → Kept (runs w es) (remembers w h es)
unfolding AllAllowed runs remembers
all-kept [] w h r a = r
all-kept (e ∷ es) w h r a =
    let s : GoodStep w (fed w e) (next w e) = event-step w e r.good a.0 in
    all-kept es (next w e) (feed h (fed w e)) (record { good = s.good; inv = kept F names-below h s.step r.inv }) a.1

pub all-extends : (es : List Event) (w : World) → Good w → AllAllowed w es → Extends F w.disc (runs w es).disc
unfolding AllAllowed runs
all-extends [] w g a = extends-same F w.disc
all-extends (e ∷ es) w g a =
    let s : GoodStep w (fed w e) (next w e) = event-step w e g a.0 in
    extends-on F (step-extends F s.step) (all-extends es (next w e) s.good a.1)

pub all-since : (es : List Event) (w : World) (h : History) → Kept w h → AllAllowed w es → {m k b : ℕ}
    → Since F w.disc h.pages m k b → Since F (runs w es).disc (remembers w h es).pages m k b
unfolding AllAllowed runs remembers
all-since [] w h r a s = s
all-since (e ∷ es) w h r a s =
    let step : GoodStep w (fed w e) (next w e) = event-step w e r.good a.0 in
    all-since es (next w e) (feed h (fed w e)) (all-kept (e ∷ []) w h r (a.0, tt)) a.1 (since-kept F h step.step r.inv s)

pub walked-behind : (d : Disc) (k t : ℕ) → Behind F d k t → walked d k ≡ Ok t
unfolding walked
walked-behind d k t r = ap (walk_from d k) r.is-newest ∙ way-walk F d k r.newest t r.way

-- ---- what mount and look back answer on a sound disc

module _ (d : Disc) (l : List ℕ) (ok : Sound d) (long : length l ≡ ledger_length) where
  mount-none : newest d ≡ None → outcome d l mount ≡ 7
  unfolding outcome tests
  mount-none n =
      let seven : Bool = not (is_some (newest d)) in
      skip-basic d (ledger_lent l) (test 7 seven ∷ []) ok (eq-eqb (length l) ledger_length long) ∙ stop 7 seven [] (ap (λ (o : Option ℕ). not (is_some o)) n)

  mount-some : (b : ℕ) → newest d ≡ Some b → outcome d l mount ≡ 0
  unfolding outcome tests
  mount-some b n =
      let seven : Bool = not (is_some (newest d)) in
      skip-basic d (ledger_lent l) (test 7 seven ∷ []) ok (eq-eqb (length l) ledger_length long) ∙ skip 7 seven [] (ap (λ (o : Option ℕ). not (is_some o)) n) ∙ none_left

  mount-leaves : (b : ℕ) → newest d ≡ Some b → (after d l mount).ledger ≡ pack (shown_at d b idle)
  unfolding after effect
  mount-leaves b n = rw (mount-some b n) (ap (λ (o : Option ℕ). pack (shown_at d (block_found o) idle)) n)

  -- mount shows the newest table
  pub mount-shows : (b : ℕ) → newest d ≡ Some b → DoneShowing d l mount (page_from F d (map_at d b))
  mount-shows b n =
      record {
        is-done = mount-some b n;
        showing =
            subst (λ (m : List ℕ). Shows d m (page_from F d (map_at d b))) (sym (mount-leaves b n))
            (shows-table d ok b idle (lit< tt) (refl, refl) (newest-table (table_at d) (recorded d) b n));
      }

  look-back-some : (k b t : ℕ) → newest d ≡ Some b → walked d k ≡ Ok t → outcome d l (look_back k) ≡ 0
  unfolding outcome tests
  look-back-some k b t n e =
      skip-basic d (ledger_lent l) (walk_tests d k) ok (eq-eqb (length l) ledger_length long) ∙ skip-walk d k b t [] n e ∙ none_left

  pub look-back-leaves : (k b t : ℕ) → newest d ≡ Some b → walked d k ≡ Ok t → (after d l (look_back k)).ledger ≡ pack (shown_at d t read_only)
  unfolding after effect
  look-back-leaves k b t n e =
      rw (look-back-some k b t n e) (ap (λ (w : Walk). pack (shown_at d (block_reached w) read_only)) e)

  look-back-tells : (k b t : ℕ) → newest d ≡ Some b → walked d k ≡ Ok t → (after d l (look_back k)).answer ≡ t
  unfolding after effect
  look-back-tells k b t n e = rw (look-back-some k b t n e) (ap block_reached e)

  look-back-ends : (k b : ℕ) → newest d ≡ Some b → walked d k ≡ (Err Ended) → (after d l (look_back k)).answer ≡ 9 * 4294967296
  unfolding outcome tests after
  look-back-ends k b n e =
      let seven : Bool = not (is_some (newest d)) in
      let eight : Bool = is_broken (walked d k) in
      let nine : Bool = is_ended (walked d k) in
      let ends : outcome d l (look_back k) ≡ 9 =
      skip-basic d (ledger_lent l) (test 7 seven ∷ test 8 eight ∷ test 9 nine ∷ []) ok (eq-eqb (length l) ledger_length long)
      ∙ skip 7 seven (test 8 eight ∷ test 9 nine ∷ []) (ap (λ (o : Option ℕ). not (is_some o)) n)
      ∙ skip 8 eight (test 9 nine ∷ []) (ap is_broken e)
      ∙ stop 9 nine [] (ap is_ended e) in
      rw ends

  pub look-back-shows : (k b t : ℕ) → newest d ≡ Some b → walked d k ≡ Ok t → DoneShowing d l (look_back k) (page_from F d (map_at d t))
  look-back-shows k b t n e =
      record {
        is-done = look-back-some k b t n e;
        showing =
            subst (λ (m : List ℕ). Shows d m (page_from F d (map_at d t))) (sym (look-back-leaves k b t n e))
            (shows-table d ok t read_only (lit< tt) (refl, refl) (walked-table d k t e));
      }

-- ---- the claim

mounts-pages : (d : Disc) (l : List ℕ) → Sound d → length l ≡ ledger_length → (ps : List Snapshot) → Pages F d ps → Mounts d l ps
mounts-pages d l ok long [] n = mount-none d l ok long n
mounts-pages d l ok long (p ∷ ps) n =
    subst (λ (q : Snapshot). DoneShowing d l mount q) (sym (head-link F n.0 p ps n.2).page) (mount-shows d l ok long n.0 n.1)

looks-pages : (d : Disc) (l : List ℕ) → Sound d → length l ≡ ledger_length → (ps : List Snapshot) → Pages F d ps → (k : ℕ) → k < length ps
    → DoneShowing d l (look_back k) (get_or ps k [])
looks-pages d l ok long ps n k h =
    let page = page-behind F d ps n k h in
    subst (λ (q : Snapshot). DoneShowing d l (look_back k) q) (sym page.2.page)
    (look-back-shows d l ok long k page.1.newest page.0 page.1.is-newest (walked-behind d k page.0 page.1))

pub claimed : (w : World) (h : History) → Kept w h → Claim w.disc h
claimed w h r =
    record {
      mounts = λ l long. mounts-pages w.disc l r.good.sound-disc long h.pages r.inv.pages;
      looks = λ l long k below. looks-pages w.disc l r.good.sound-disc long h.pages r.inv.pages k below;
    }

-- ---- the start

abbrev pub lost_world : Disc → World
lost_world d = record { disc = d; ledger = None }

-- a call that is done leaves a ledger, lost or not before
pub started : (w : World) (l : List ℕ) (c : Call) → only_tells c ≡ false → outcome w.disc (ledger_held w.ledger l) c ≡ 0
    → next w (calls c l) ≡ after_call w.disc (ledger_held w.ledger l) c
unfolding next
started w l c t e = rw (t, e)

pub begun_kept : (d : Disc) (l : List ℕ) → outcome d l begin ≡ 0 → Kept (after_call d l begin) begun_history
unfolding feed fed
begun_kept d l e =
    let facts = begin-done d l e in
    let g : Good (lost_world d) = record { sound-disc = facts.0; ledger-good = tt } in
    let s : GoodStep (lost_world d) (fed (lost_world d) (calls begin l)) (next (lost_world d) (calls begin l)) = event-step (lost_world d) (calls begin l) g (λ z y. refl) in
    let h : History = record { pages = []; draft = None } in
    let i : Inv F (state_of (lost_world d)) h = record { pages = facts.1; draft = refl } in
    let fed-begin : feed h (fed (lost_world d) (calls begin l)) ≡ begun_history = rw e in
    subst₂ (λ (w : World) (k : History). Kept w k) (started (lost_world d) l begin refl e) fed-begin (record { good = s.good; inv = kept F names-below h s.step i })

pub mounted-kept : (d : Disc) (l : List ℕ) → outcome d l mount ≡ 0 → Kept (after_call d l mount) (mounted_history d)
unfolding feed fed shown
mounted-kept d l e =
    let facts = mount-done d l e in
    let b : ℕ = facts.1.0 in
    let n : newest d ≡ Some b = facts.1.1 in
    let table : table_at d b ≡ true = newest-table (table_at d) (recorded d) b n in
    let g : Good (lost_world d) = record { sound-disc = facts.0; ledger-good = tt } in
    let s : GoodStep (lost_world d) (fed (lost_world d) (calls mount l)) (next (lost_world d) (calls mount l)) = event-step (lost_world d) (calls mount l) g (λ z y. refl) in
    let p : Snapshot = page_of d (map_at d (block_found (newest d))) in
    let same : p ≡ page_from F d (map_at d b) = ap (λ (o : Option ℕ). page_from F d (map_at d (block_found o))) n in
    let h : History = record { pages = p ∷ []; draft = None } in
    let i : Inv F (state_of (lost_world d)) h =
    record { pages = (b, n, record { is-table = table; inside = table-recorded d facts.0 b table; page = same }); draft = refl } in
    let fed-mount : feed h (fed (lost_world d) (calls mount l)) ≡ mounted_history d = rw e in
    subst₂ (λ (w : World) (k : History). Kept w k) (started (lost_world d) l mount refl e) fed-mount (record { good = s.good; inv = kept F names-below h s.step i })

pub power-cuts : PowerCuts
power-cuts =
    record {
      after-begin = λ d l e es a.
          claimed (runs (after_call d l begin) es) (remembers (after_call d l begin) begun_history es) (all-kept es (after_call d l begin) begun_history (begun_kept d l e) a);
      after-mount = λ d l e es a.
          claimed (runs (after_call d l mount) es) (remembers (after_call d l mount) (mounted_history d) es) (all-kept es (after_call d l mount) (mounted_history d) (mounted-kept d l e) a);
    }

-- ---- a save makes the draft a page

module _ (d : Disc) (l : List ℕ) (h : History) (k : Kept (record { disc = d; ledger = Some l }) h) (c : Call) (is-save : saves c ≡ true) (e : outcome d l c ≡ 0) where
  -- a save that is done has a draft
  pub drafted : (p : Snapshot) × (h.draft ≡ Some p)
  drafted =
      let v : Volume = unpack l in
      let held = subst (λ (t : Bool). HeldIf F t d (map_of v) v.last h.draft) (saving-done d l c is-save e).done.not-looking k.inv.draft in
      (_, held.shown)

  pub saved-page : (second : ℕ) → (done (told c) second h).pages ≡ drafted.0 ∷ h.pages
  saved-page second = ap (λ (t : Told). (done t second h).pages) (told-save c is-save) ∙ ap (λ (o : Option Snapshot). saved o h.pages) drafted.1

-- ---- a save, then a mount

-- what mount and look back 1 say of the disc that a save left, lent any 16,364 bytes: the same map and size, that block as last table, clean; and one
-- step back the table that was the ledger's last, if there was one
pub record Remounted (d : Disc) (l : List ℕ) (c : Call) (m : List ℕ) : Type 0 where
  pub clean : (after (after d l c).disc m mount).answer ≡ 1
  pub same_map : map_of (unpack (after (after d l c).disc m mount).ledger) ≡ map_of (unpack l)
  pub same_size : (unpack (after (after d l c).disc m mount).ledger).size ≡ (unpack l).size
  pub that-block : (unpack (after (after d l c).disc m mount).ledger).last ≡ (after d l c).answer
  pub one-back : ((unpack l).last ≡ unused → ⊥) → (after (after d l c).disc m (look_back 1)).answer ≡ (unpack l).last
  pub none-back : (unpack l).last ≡ unused → (after (after d l c).disc m (look_back 1)).answer ≡ 9 * 4294967296

pub saved-disc : (d : Disc) (l : List ℕ) (ok : Sound d) (good : Proper (unpack l)) (c : Call) (s : Saving d l c) → outcome d l c ≡ 0 → (after d l c).disc ≡ saved_disc d l ok good c s
unfolding after
saved-disc d l ok good c s e = rw e (ap (puts d (recorded d)) (leaves-behind d l ok good c s))

saved-block : (d : Disc) (l : List ℕ) (ok : Sound d) (good : Proper (unpack l)) (c : Call) (s : Saving d l c) → outcome d l c ≡ 0 → (after d l c).answer ≡ table_block d l ok good c s
unfolding after
saved-block d l ok good c s e = rw e (ap (λ x. x.second) s.leaves)

mount-clean : (d : Disc) (m : List ℕ) → Sound d → length m ≡ ledger_length → (b : ℕ) → newest d ≡ Some b → recorded d ≡ suc b → (after d m mount).answer ≡ 1
unfolding after effect
mount-clean d m ok long b n last =
    let clean : eqb (b + 1) (recorded d) ≡ true = eq-eqb (b + 1) (recorded d) (add-one b ∙ sym last) in
    rw (mount-some d m ok long b n) (ap (λ (o : Option ℕ). clean_number (eqb (block_found o + 1) (recorded d))) n ∙ ap clean_number clean)

-- one step from a table whose previous is known
module _ (d : Disc) (b t : ℕ) (n : newest d ≡ Some b) (named : previous_at d b ≡ t) where
  steps-to : (t ≡ unused → ⊥) → table_at d t ≡ true → walked d 1 ≡ Ok t
  unfolding walked walk
  steps-to used table = ap (walk_from d 1) n ∙ rw (named, ne_eqb t unused used, table)

  steps-off : t ≡ unused → walked d 1 ≡ (Err Ended)
  unfolding walked walk
  steps-off none-there = ap (walk_from d 1) n ∙ rw (named, eq-eqb t unused none-there)

pub remounts : (d : Disc) (l : List ℕ) → Proper (unpack l) → (c : Call) → saves c ≡ true → outcome d l c ≡ 0 → (m : List ℕ) → length m ≡ ledger_length → Remounted d l c m
unfolding filled
remounts d l good c is-save e m long =
    let v : Volume = unpack l in
    let s : Saving d l c = saving-done d l c is-save e in
    let f : SaveDone d l s.first (saved_stamp c) = s.done in
    let ok : Sound d = f.sound-disc in
    let b : ℕ = recorded d + length (before_table d l ok good c s) in
    let d' : Disc = saved_disc d l ok good c s in
    let same : (after d l c).disc ≡ d' = saved-disc d l ok good c s e in
    let ok' : Sound d' = save-sound d l ok good c s in
    let made : Saved F d d' (working F (map_of v) v.last) b = save d l ok good c s in
    let n : newest d' ≡ Some b = newest-saved F (working F (map_of v) v.last) b made in
    let state : Volume = shown_at d' b idle in
    let proper : Proper state = proper-table d' ok' b idle (lit< tt) made.a-table in
    let left : unpack (after d' m mount).ledger ≡ state = ap unpack (mount-leaves d' m ok' long b n) ∙ unpack-pack state proper in
    let map : map_of state ≡ map_of v = map-filled (map_at d' b) b (recorded d') idle ∙ made.its_map in
    let counted : length (map_of v) ≡ v.size = length-map v (omega (arith, f.fit.few, good.long)) in
    let old-table : (v.last ≡ unused → ⊥) → table_at d v.last ≡ true = λ used. ap (λ (t : Bool). t || table_at d v.last) (sym (ne_eqb v.last unused used)) ∙ f.fit.last-known in
    let all : (e : Disc) → e ≡ d' → unpack (after e m mount).ledger ≡ state = λ e p. ap (λ (x : Disc). unpack (after x m mount).ledger) p ∙ left in
    record {
      clean = ap (λ (x : Disc). (after x m mount).answer) same ∙ mount-clean d' m ok' long b n made.last-sector;
      same_map = ap map_of (all (after d l c).disc same) ∙ map;
      same_size = ap (λ (x : Volume). x.size) (all (after d l c).disc same) ∙ ap length made.its_map ∙ counted;
      that-block = ap (λ (x : Volume). x.last) (all (after d l c).disc same) ∙ sym (saved-block d l ok good c s e ∙ at_table d l ok good c s);
      one-back = λ used.
          let inside : v.last < recorded d = table-recorded d ok v.last (old-table used) in
          ap (λ (x : Disc). (after x m (look_back 1)).answer) same
          ∙ look-back-tells d' m ok' long 1 b v.last n (steps-to d' b v.last n made.its-previous used (made.extends.tables v.last inside ∙ old-table used));
      none-back = λ none-there.
          ap (λ (x : Disc). (after x m (look_back 1)).answer) same ∙ look-back-ends d' m ok' long 1 b n (steps-off d' b v.last n made.its-previous none-there);
    }

pub save-then-mount : (d : Disc) (l : List ℕ) → AllBytes l → (c : Call) → saves c ≡ true → outcome d l c ≡ 0 → (m : List ℕ) → length m ≡ ledger_length → Remounted d l c m
save-then-mount d l bytes = remounts d l (proper-unpack l bytes)
