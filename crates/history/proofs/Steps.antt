-- Each event on a good world is a step of the log, and leaves a good world: the real calls keep the log's rules.
-- Assumes nothing.
use Prim.Native.Nat.{ℕ, zero, suc, ◌+◌, ◌≤◌, ◌<◌}
use native.Mathlib.Omega.{arith}
use mathlib.Core.Path.{◌≡◌, refl, sym, ap, ap₂, ◌∙◌, subst, subst₂}
use mathlib.Core.Bool.{Bool, true, false, ◌&&◌}
use mathlib.Core.List.{List, [], ◌∷◌}
use mathlib.Core.Logic.{inl, inr}
use Rattle.std.specs.Prelude.{Option, None, Some}
use lib.Dec.{eqb, lit<, eqb-suc-zero}
use lib.ListN.{length, replicate, length-replicate}
use lib.Arith.{lt_of_le-ne}
use borrow.Author.Tests.{eqb-true, eqb-false}
use Rattle.le.proofs.Runs.{Words}
use Rattle.vat.specs.Table.{limit, unused, Lower, is_table}
use Rattle.vat.proofs.Theorems.{Named}
use Rattle.disc.specs.Disc.{Disc, recorded, content, Sector, link, puts}
use Rattle.disc.specs.Tables.{below, table_at, map_at, newest, block_found}
use Rattle.disc.proofs.Recording.{Sound, leading_le}
use Rattle.disc.proofs.Told.{few-at}
use Rattle.disc.proofs.Save.{NoTables}
use Rattle.disc.proofs.Found.{table-recorded, newest-table}
use Rattle.volume.specs.declared.Volume.{Volume}
use Rattle.volume.specs.Volume.{idle, read_only, unpack, pack, map_of, begun, filled, wrote, released, closed, committed}
use Rattle.volume.proofs.State.{Proper, unpack-pack, proper-begun, proper-filled, proper-wrote, proper-released, proper-closed, proper-committed, grown_map, map-filled, map-wrote, map-released, length-map}
use Rattle.recorder.specs.Calls.{Call, begin, mount, write, release, close_packet, commit, close_session, read, look_back, time_of, restores, saves, only_tells, buffer_of}
use Rattle.recorder.specs.Refusals.{links, target, walked, outcome}
use Rattle.recorder.specs.Effects.{Effect, block_reached, saved, effect, settled, after, second_number, sectors_if, sectors_of, shown_at}
use Rattle.recorder.proofs.Done.{Writable, WriteDone, begin-done, mount-done, write_done, release-done, close-done, look-back-done}
use Rattle.recorder.proofs.Answers.{walked-table}
use Rattle.history.specs.History.{History, Told, Fed, answered, cut, cut_commit, feed}
use Rattle.history.specs.Events.{World, Event, calls, cuts, ledger_held, CountsAsDone, Follows, Torn, Allowed, cut_disc, ledger_after, next, told, kept, cut_short, fed}
use Rattle.history.proofs.Log.{AllBelow, written_map, View, State, Step, plain-same, at, working}
use Rattle.recorder.proofs.Sectors.{links-whole, behind, length-behind}
use Rattle.history.specs.Times.{saved_stamp}
use Rattle.history.proofs.Growth.{F, names-below, Grown, links-no-tables, links-below, behind-content, behind-counted, behind-grown, Left, cut-before-left, cut_all, cut-none}
use Rattle.history.proofs.Saving.{Saving, saving-done, enough, table_sector, before_table, before-whole, before-no-tables, room, small, table_block, at_table, leaves-behind, saved_disc, save, save-sound}

-- ---- the world as the log sees it

abbrev pub view_is : Volume → View
view_is v = record { map = map_of v; last = v.last; looking = eqb v.mode read_only }

abbrev pub view_of : Option (List ℕ) → Option View
view_of None = None
view_of (Some l) = Some (view_is (unpack l))

abbrev pub state_of : World → State F
state_of w = at F w.disc (view_of w.ledger)

-- a lost ledger may hold anything; any other is what a call left
abbrev pub GoodLedger : Option (List ℕ) → Type 0
GoodLedger None = Unit
GoodLedger (Some l) = Proper (unpack l)

pub record Good (w : World) : Type 0 where
  pub sound-disc : Sound w.disc
  pub ledger-good : GoodLedger w.ledger

pub record GoodStep (w : World) (f : Fed) (w' : World) : Type 0 where
  pub good : Good w'
  pub step : Step F (state_of w) f (state_of w')

-- ---- states that calls leave

module _ (v : Volume) (ok : Proper v) where
  packed-view : view_is (unpack (pack v)) ≡ view_is v
  packed-view = ap view_is (unpack-pack v ok)

  packed-good : Proper (unpack (pack v))
  packed-good = subst Proper (sym (unpack-pack v ok)) ok

-- not looking only
working-view : (v : Volume) → eqb v.mode read_only ≡ false → view_is v ≡ working F (map_of v) v.last
working-view v e = λ i. record { map = map_of v; last = v.last; looking = e i }

words-below : (b : ℕ) (xs : List ℕ) → b < 4294967296 → AllBelow b xs → Words xs
words-below b [] h a = tt
words-below b (x ∷ xs) h a = (go a.0, words-below b xs h a.1)
  where
    go : Named b x → x < 4294967296
    go (inl l) = omega arith
    go (inr e) = omega arith

few-recorded : (d : Disc) → Sound d → recorded d < 4294967296
few-recorded d ok = omega (arith, leading_le d.kinds, ok.few)

-- a state filled from a table
pub proper-table : (d : Disc) → Sound d → (b mode : ℕ) → mode < 4294967296 → table_at d b ≡ true → Proper (shown_at d b mode)
proper-table d ok b mode hm e =
    let r : ℕ = recorded d in
    let inside : b < r = table-recorded d ok b e in
    let small : r < 4294967296 = few-recorded d ok in
    proper-filled (map_at d b) b r mode (few-at d b e) (words-below b (map_at d b) (omega arith) (names-below d b e)) (omega arith) small hm

-- ---- a call that is done or refused

-- what the two look like, once the outcome is known
pub refused-next : (w : World) (c : Call) (junk : List ℕ) (n : ℕ) → outcome w.disc (ledger_held w.ledger junk) c ≡ suc n → next w (calls c junk) ≡ w
unfolding next after
refused-next w c junk n e = rw e (λ i. record { disc = w.disc; ledger = still (only_tells c) i })
  where
    still : (t : Bool) → ledger_after t (suc n) w.ledger (ledger_held w.ledger junk) ≡ w.ledger
    still true = refl
    still false = refl

pub refused-fed : (w : World) (c : Call) (junk : List ℕ) (n : ℕ) → outcome w.disc (ledger_held w.ledger junk) c ≡ suc n → fed w (calls c junk) ≡ answered (told c) (suc n) 0
unfolding fed second_number
refused-fed w c junk n e = rw e

abbrev done_world : World → List ℕ → Call → World
done_world w l c = record { disc = puts w.disc (recorded w.disc) (effect w.disc l c).sectors; ledger = Some (effect w.disc l c).ledger }

done_next : (w : World) (c : Call) (junk : List ℕ) → only_tells c ≡ false → outcome w.disc (ledger_held w.ledger junk) c ≡ 0 → next w (calls c junk) ≡ done_world w (ledger_held w.ledger junk) c
unfolding next after
done_next w c junk t e = rw (t, e)

pub done-fed : (w : World) (c : Call) (junk : List ℕ) → outcome w.disc (ledger_held w.ledger junk) c ≡ 0
    → fed w (calls c junk) ≡ answered (told c) 0 (effect w.disc (ledger_held w.ledger junk) c).second
unfolding fed second_number
done-fed w c junk e = rw e

refused-step : (w : World) (c : Call) (n second : ℕ) → Good w → GoodStep w (answered (told c) (suc n) second) w
unfolding feed
refused-step w c n second g = record { good = g; step = Step.quiet (λ h. refl) }

begin-step : (w : World) (l : List ℕ) → Good w → outcome w.disc l begin ≡ 0 → GoodStep w (answered Told.begin 0 (effect w.disc l begin).second) (done_world w l begin)
unfolding effect puts begun
begin-step w l g e =
    let d : Disc = w.disc in
    let facts = begin-done d l e in
    let ok : Proper (begun (recorded d)) = proper-begun (recorded d) (few-recorded d g.sound-disc) in
    record {
      good = record { sound-disc = g.sound-disc; ledger-good = packed-good (begun (recorded d)) ok };
      step =
          subst (λ (v : View). Step F (state_of w) (answered Told.begin 0 0) (at F d (Some v))) (sym (packed-view (begun (recorded d)) ok)) (Step.begun 0 facts.1);
    }

filled-view : (map : List ℕ) (b r : ℕ) → view_is (filled map b r idle) ≡ working F map b
unfolding filled
filled-view map b r = λ i. record { map = map-filled map b r idle i; last = b; looking = false }

mount-step : (w : World) (l : List ℕ) → Good w → outcome w.disc l mount ≡ 0 → GoodStep w (answered Told.mount 0 (effect w.disc l mount).second) (done_world w l mount)
unfolding effect puts
mount-step w l g e =
    let d : Disc = w.disc in
    let facts = mount-done d l e in
    let b : ℕ = facts.1.0 in
    let here : block_found (newest d) ≡ b = ap block_found facts.1.1 in
    let table : table_at d b ≡ true = newest-table (table_at d) (recorded d) b facts.1.1 in
    let v : Volume = shown_at d b idle in
    let ok : Proper v = proper-table d g.sound-disc b idle (lit< tt) table in
    let view : view_is (unpack (pack v)) ≡ working F (map_at d b) b = packed-view v ok ∙ filled-view (map_at d b) b (recorded d) in
    subst (λ (x : ℕ). GoodStep w (answered Told.mount 0 (effect d l mount).second) (record { disc = d; ledger = Some (pack (shown_at d x idle)) })) (sym here)
    (record {
      good = record { sound-disc = g.sound-disc; ledger-good = packed-good v ok };
      step =
          subst (λ (u : View). Step F (state_of w) (answered Told.mount 0 (effect d l mount).second) (at F d (Some u))) (sym view)
          (Step.mounted (effect d l mount).second b facts.1.1);
    })

looking-view : (map : List ℕ) (b r : ℕ) → (view_is (filled map b r read_only)).looking ≡ true
unfolding filled
looking-view map b r = refl

look-back-step : (w : World) (l : List ℕ) (k : ℕ) → Good w → outcome w.disc l (look_back k) ≡ 0
    → GoodStep w (answered (Told.look_back k) 0 (effect w.disc l (look_back k)).second) (done_world w l (look_back k))
unfolding effect puts
look-back-step w l k g e =
    let d : Disc = w.disc in
    let facts = look-back-done d l k e in
    let b : ℕ = facts.1.0 in
    let second : ℕ = block_reached (walked d k) in
    let here : block_reached (walked d k) ≡ b = ap block_reached facts.1.1 in
    let v : Volume = shown_at d b read_only in
    let ok : Proper v = proper-table d g.sound-disc b read_only (lit< tt) (walked-table d k b facts.1.1) in
    subst (λ (x : ℕ). GoodStep w (answered (Told.look_back k) 0 second) (record { disc = d; ledger = Some (pack (shown_at d x read_only)) })) (sym here)
    (record {
      good = record { sound-disc = g.sound-disc; ledger-good = packed-good v ok };
      step =
          Step.looked k second (view_is (unpack (pack v)))
          (ap (λ (u : View). u.looking) (packed-view v ok) ∙ looking-view (map_at d b) b (recorded d));
    })

-- ---- calls on a working state

released-view : (v : Volume) (n : ℕ) → n < v.size → eqb v.mode read_only ≡ false → view_is (released n v) ≡ working F (grown_map false (map_of v) n unused) v.last
unfolding released
released-view v n h e = λ i. record { map = map-released v n h i; last = v.last; looking = e i }

closed-view : (v : Volume) → view_is (closed v) ≡ working F (map_of v) v.last
unfolding closed
closed-view v = refl

wrote-view : (v : Volume) (n : Option ℕ) (b : ℕ) → Writable v n → v.size ≤ length v.entries → length v.entries ≡ limit
    → view_is (wrote n b v) ≡ working F (written_map n (map_of v) b) v.last
unfolding wrote
wrote-view v None b w enough long = refl
wrote-view v (Some n) b w enough long =
    let counted : eqb n v.size ≡ eqb n (length (map_of v)) = ap (eqb n) (sym (length-map v enough)) in
    let maps : map_of (wrote (Some n) b v) ≡ grown_map (eqb n (length (map_of v))) (map_of v) n b =
    map-wrote v n b w.1 enough (omega (arith, w.0, long)) ∙ ap (λ (t : Bool). grown_map t (map_of v) n b) counted in
    λ i. record { map = maps i; last = v.last; looking = false }

committed-view : (v : Volume) (b : ℕ) → view_is (committed b v) ≡ working F (map_of v) b
unfolding committed
committed-view v b = refl

-- a write's block is no table behind its links, below which the disc reads as it did
pub written-grown : (d : Disc) (l : List ℕ) (n : Option ℕ) (block : List ℕ) → WriteDone d l n block → let ss : List Sector = behind (replicate (links (unpack l)) link) block in
    Grown d (puts d (recorded d) ss) (length ss)
written-grown d l n block f =
    let m : ℕ = links (unpack l) in
    let ss : List Sector = replicate m link in
    let ok : Sound d = f.sound-disc in
    let count : length ss ≡ m = length-replicate m link in
    let here : target (unpack l) ≡ recorded d + length ss = omega (arith, count, f.fit.same-recorded) in
    behind-grown d ok ss (links-whole m) (links-no-tables m (recorded d)) block f.block-long (omega (arith, count, f.room))
    (ap (λ (lower : Lower). is_table lower block (recorded d + length ss)) (links-below d ok m (recorded d + length ss)) ∙ subst (λ (b : ℕ). is_table (below d b) block b ≡ false) here f.no_table)

-- the ledger is there, since a lost one lets only begin, mount and look back be done
module _ (d : Disc) (l : List ℕ) (sound : Sound d) (good : Proper (unpack l)) where
  release-step : (n : ℕ) → outcome d l (release n) ≡ 0
      → GoodStep (record { disc = d; ledger = Some l }) (answered (Told.release n) 0 0) (record { disc = d; ledger = Some (pack (released n (unpack l))) })
  release-step n e =
      let facts = release-done d l n e in
      let v : Volume = released n (unpack l) in
      let ok : Proper v = proper-released (unpack l) good n in
      let before : view_is (unpack l) ≡ working F (map_of (unpack l)) (unpack l).last = working-view (unpack l) facts.1.not-looking in
      let after-view : view_is (unpack (pack v)) ≡ working F (grown_map false (map_of (unpack l)) n unused) (unpack l).last =
      packed-view v ok ∙ released-view (unpack l) n facts.2 facts.1.not-looking in
      record {
        good = record { sound-disc = sound; ledger-good = packed-good v ok };
        step =
            subst₂ (λ (a b : View). Step F (at F d (Some a)) (answered (Told.release n) 0 0) (at F d (Some b))) (sym before) (sym after-view)
            (Step.released (map_of (unpack l)) (unpack l).last n 0);
      }

  close-step : outcome d l close_packet ≡ 0
      → GoodStep (record { disc = d; ledger = Some l }) (answered Told.close_packet 0 0) (record { disc = d; ledger = Some (pack (closed (unpack l))) })
  unfolding feed
  close-step e =
      let facts = close-done d l e in
      let v : Volume = closed (unpack l) in
      let ok : Proper v = proper-closed (unpack l) good in
      let same : view_is (unpack l) ≡ view_is (unpack (pack v)) =
      working-view (unpack l) facts.1.not-looking ∙ sym (packed-view v ok ∙ closed-view (unpack l)) in
      record {
        good = record { sound-disc = sound; ledger-good = packed-good v ok };
        step =
            subst (λ (b : View). Step F (at F d (Some (view_is (unpack l)))) (answered Told.close_packet 0 0) (at F d (Some b))) same
            (Step.quiet (λ h. refl));
      }

  read_step : (n : ℕ) (second : ℕ) → GoodStep (record { disc = d; ledger = Some l }) (answered (Told.read n) 0 second) (record { disc = d; ledger = Some l })
  unfolding feed
  read_step n second = record { good = record { sound-disc = sound; ledger-good = good }; step = Step.quiet (λ h. refl) }

  write_step : (n : Option ℕ) (block : List ℕ) → outcome d l (write n block) ≡ 0
      → GoodStep (record { disc = d; ledger = Some l }) (answered (Told.write n block) 0 (target (unpack l)))
      (record { disc = puts d (recorded d) (behind (replicate (links (unpack l)) link) block); ledger = Some (pack (wrote n (target (unpack l)) (unpack l))) })
  write_step n block e =
      let f : WriteDone d l n block = write_done d l n block e in
      let v : Volume = unpack l in
      let ss : List Sector = replicate (links v) link in
      let count : length ss ≡ links v = length-replicate (links v) link in
      let here : target v ≡ recorded d + length ss = omega (arith, count, f.fit.same-recorded) in
      let fits : recorded d + (length ss + 1) ≤ length d.kinds = omega (arith, count, f.room) in
      let lower : recorded d + length ss < unused = omega (arith, fits, sound.few) in
      let plain-links : NoTables (recorded d) ss = links-no-tables (links v) (recorded d) in
      let d' : Disc = puts d (recorded d) (behind ss block) in
      let g : Grown d d' (length (behind ss block)) = written-grown d l n block f in
      let ok : Proper (wrote n (target v) v) = proper-wrote v good n (target v) f.fit.few (omega arith) in
      let before : view_is v ≡ working F (map_of v) v.last = working-view v f.not-looking in
      let after-view : view_is (unpack (pack (wrote n (target v) v))) ≡ working F (written_map n (map_of v) (target v)) v.last =
      packed-view (wrote n (target v) v) ok ∙ wrote-view v n (target v) f.writable (enough d l sound good f.fit) good.long in
      record {
        good = record { sound-disc = g.still-sound; ledger-good = packed-good (wrote n (target v) v) ok };
        step =
            subst₂ (λ (a b : View). Step F (at F d (Some a)) (answered (Told.write n block) 0 (target v)) (at F d' (Some b))) (sym before) (sym after-view)
            (Step.wrote (map_of v) v.last n (target v) block g.plainly
            (omega (arith, behind-counted d sound ss (links-whole (links v)) plain-links block f.block-long fits)) (λ z. omega arith)
            (ap (content d') here ∙ behind-content d sound ss (links-whole (links v)) plain-links block f.block-long fits));
      }

  -- a save, whichever call makes it
  save-step : (c : Call) → saves c ≡ true → outcome d l c ≡ 0
      → GoodStep (record { disc = d; ledger = Some l }) (answered Told.commit 0 (effect d l c).second) (done_world (record { disc = d; ledger = Some l }) l c)
  save-step c is-save e =
      let s : Saving d l c = saving-done d l c is-save e in
      let v : Volume = unpack l in
      let b : ℕ = table_block d l sound good c s in
      let end : ℕ = recorded d + length (before_table d l sound good c s) in
      let d' : Disc = saved_disc d l sound good c s in
      let ok : Proper (committed b v) = proper-committed v good b (omega (arith, at_table d l sound good c s, small d l sound good c s)) in
      let before : view_is v ≡ working F (map_of v) v.last = working-view v s.done.not-looking in
      let records : (saved d v (map_of v) v.last s.first (saved_stamp c) (buffer_of c)).sectors ≡ behind (before_table d l sound good c s) (table_sector d l sound good c s) =
      ap (λ (x : Effect). x.sectors) (sym s.leaves) ∙ leaves-behind d l sound good c s in
      let after-view : view_is (unpack (pack (committed b v))) ≡ working F (map_of v) end =
      packed-view (committed b v) ok ∙ committed-view v b ∙ ap (working F (map_of v)) (at_table d l sound good c s) in
      subst (λ (x : Effect). GoodStep (record { disc = d; ledger = Some l }) (answered Told.commit 0 x.second) (record { disc = puts d (recorded d) x.sectors; ledger = Some x.ledger })) (sym s.leaves)
      (subst (λ (ss : List Sector). GoodStep (record { disc = d; ledger = Some l }) (answered Told.commit 0 b) (record { disc = puts d (recorded d) ss; ledger = Some (pack (committed b v)) })) (sym records)
      (record {
        good = record { sound-disc = save-sound d l sound good c s; ledger-good = packed-good (committed b v) ok };
        step =
            subst₂ (λ (x y : View). Step F (at F d (Some x)) (answered Told.commit 0 b) (at F d' (Some y))) (sym before) (sym after-view)
            (Step.committed (map_of v) v.last end b (save d l sound good c s));
      }))

done-step : (d : Disc) (o : Option (List ℕ)) (c : Call) (junk : List ℕ) → only_tells c ≡ false → Good (record { disc = d; ledger = o }) → Follows (record { disc = d; ledger = o }) c junk
    → outcome d (ledger_held o junk) c ≡ 0
    → GoodStep (record { disc = d; ledger = o }) (answered (told c) 0 (effect d (ledger_held o junk) c).second) (done_world (record { disc = d; ledger = o }) (ledger_held o junk) c)
unfolding effect puts
done-step d o begin junk t g f e = begin-step (record { disc = d; ledger = o }) (ledger_held o junk) g e
done-step d o mount junk t g f e = mount-step (record { disc = d; ledger = o }) (ledger_held o junk) g e
done-step d o (look_back k) junk t g f e = look-back-step (record { disc = d; ledger = o }) (ledger_held o junk) k g e
done-step d o (time_of k answer) junk t g f e = absurd (mathlib.Core.Bool.true≢false t)
done-step d None (write n block) junk t g f e = absurd (mathlib.Core.Bool.false≢true (f refl (e, refl)))
done-step d None (release n) junk t g f e = absurd (mathlib.Core.Bool.false≢true (f refl (e, refl)))
done-step d None close_packet junk t g f e = absurd (mathlib.Core.Bool.false≢true (f refl (e, refl)))
done-step d None (commit stamp) junk t g f e = absurd (mathlib.Core.Bool.false≢true (f refl (e, refl)))
done-step d None (close_session main reserve start) junk t g f e = absurd (mathlib.Core.Bool.false≢true (f refl (e, refl)))
done-step d None (read n block) junk t g f e = absurd (mathlib.Core.Bool.false≢true (f refl (e, refl)))
done-step d (Some l) (write n block) junk t g f e = write_step d l g.sound-disc g.ledger-good n block e
done-step d (Some l) (release n) junk t g f e = release-step d l g.sound-disc g.ledger-good n e
done-step d (Some l) close_packet junk t g f e = close-step d l g.sound-disc g.ledger-good e
done-step d (Some l) (commit stamp) junk t g f e = save-step d l g.sound-disc g.ledger-good (commit stamp) refl e
done-step d (Some l) (close_session main reserve start) junk t g f e = save-step d l g.sound-disc g.ledger-good (close_session main reserve start) refl e
done-step d (Some l) (read n block) junk t g f e = read_step d l g.sound-disc g.ledger-good n 0

settled-step : (w : World) (c : Call) (junk : List ℕ) → only_tells c ≡ false → Good w → Follows w c junk → GoodStep w (fed w (calls c junk)) (next w (calls c junk))
settled-step w c junk t g f = go (outcome w.disc (ledger_held w.ledger junk) c) refl
  where
    go : (n : ℕ) → outcome w.disc (ledger_held w.ledger junk) c ≡ n → GoodStep w (fed w (calls c junk)) (next w (calls c junk))
    go zero e = subst₂ (λ (x : Fed) (y : World). GoodStep w x y) (sym (done-fed w c junk e)) (sym (done_next w c junk t e)) (done-step w.disc w.ledger c junk t g f e)
    go (suc n) e = subst₂ (λ (x : Fed) (y : World). GoodStep w x y) (sym (refused-fed w c junk n e)) (sym (refused-next w c junk n e)) (refused-step w c n 0 g)

-- a time that is asked for changes nothing, told or refused
time-step : (w : World) (k : ℕ) (answer junk : List ℕ) → Good w → GoodStep w (fed w (calls (time_of k answer) junk)) (next w (calls (time_of k answer) junk))
unfolding next after effect puts fed feed
time-step w k answer junk g = go (outcome w.disc (ledger_held w.ledger junk) (time_of k answer))
  where
    second : ℕ
    second = second_number w.disc (ledger_held w.ledger junk) (time_of k answer)

    left : ℕ → World
    left n = record { disc = (settled w.disc (ledger_held w.ledger junk) answer n (effect w.disc (ledger_held w.ledger junk) (time_of k answer))).disc; ledger = w.ledger }

    go : (n : ℕ) → GoodStep w (answered (Told.time_of k) n second) (left n)
    go zero = record { good = g; step = Step.quiet (λ h. refl) }
    go (suc n) = record { good = g; step = Step.quiet (λ h. refl) }

call_step : (w : World) (c : Call) (junk : List ℕ) → Good w → Follows w c junk → GoodStep w (fed w (calls c junk)) (next w (calls c junk))
call_step w begin junk g f = settled-step w begin junk refl g f
call_step w mount junk g f = settled-step w mount junk refl g f
call_step w (write n block) junk g f = settled-step w (write n block) junk refl g f
call_step w (release n) junk g f = settled-step w (release n) junk refl g f
call_step w close_packet junk g f = settled-step w close_packet junk refl g f
call_step w (commit stamp) junk g f = settled-step w (commit stamp) junk refl g f
call_step w (close_session main reserve start) junk g f = settled-step w (close_session main reserve start) junk refl g f
call_step w (read n block) junk g f = settled-step w (read n block) junk refl g f
call_step w (look_back k) junk g f = settled-step w (look_back k) junk refl g f
call_step w (time_of k answer) junk g f = time-step w k answer junk g

-- ---- a call that is cut

abbrev cut_world : Disc → World
cut_world d = record { disc = d; ledger = None }

abbrev Clears : Fed → Type 0
Clears f = (h : History) → feed h f ≡ record { pages = h.pages; draft = None }

lost-step : (w : World) (f : Fed) (d' : Disc) → Clears f → Left w.disc d' → GoodStep w f (cut_world d')
lost-step w f d' clears left = record { good = record { sound-disc = left.still-sound; ledger-good = tt }; step = Step.lost f clears left.plainly }

cut-clears : (c : Told) → Clears (cut c)
unfolding feed
cut-clears c h = refl

unsaved-clears : Clears (cut_commit false)
unfolding feed
unsaved-clears h = refl

-- nothing was recorded
nothing_left : (d : Disc) → Sound d → (ss : List Sector) (j : ℕ) (tear : Option (List ℕ)) → ss ≡ [] → j ≤ length ss → Left d (cut_disc d ss j tear)
nothing_left d ok ss j tear e h =
    subst (λ (x : Disc). Left d x) (sym (ap (λ (l : List Sector). cut_disc d l j tear) e ∙ cut-none d j tear (subst (λ (l : List Sector). j ≤ length l) e h)))
    (record { plainly = plain-same F d; still-sound = ok })

records-none : (n : ℕ) → sectors_if n [] ≡ []
records-none zero = refl
records-none (suc n) = refl

pub refused-records-none : (d : Disc) (l : List ℕ) (c : Call) (n : ℕ) → outcome d l c ≡ suc n → sectors_of d l c ≡ []
unfolding sectors_of
refused-records-none d l c n e = rw e

pub done-records : (d : Disc) (l : List ℕ) (c : Call) → outcome d l c ≡ 0 → sectors_of d l c ≡ (effect d l c).sectors
unfolding sectors_of
done-records d l c e = rw e

write-records : (d : Disc) (l : List ℕ) (n : Option ℕ) (block : List ℕ) → (effect d l (write n block)).sectors ≡ behind (replicate (links (unpack l)) link) block
unfolding effect
write-records d l n block = refl

not-all : (j n m : ℕ) → j ≤ n → (j ≡ n → ⊥) → n ≡ m + 1 → j ≤ m
not-all j n m h ne e = let less : j < n = lt_of_le-ne h ne in omega arith

cut-written : (d : Disc) (l : List ℕ) (n : Option ℕ) (block : List ℕ) (j : ℕ) (tear : Option (List ℕ)) → WriteDone d l n block
    → let ss : List Sector = behind (replicate (links (unpack l)) link) block in j ≤ length ss → Torn tear → (t : Bool) → eqb j (length ss) ≡ t → Left d (cut_disc d ss j tear)
cut-written d l n block j tear w h t true z =
    let ss : List Sector = behind (replicate (links (unpack l)) link) block in
    let g : Grown d (puts d (recorded d) ss) (length ss) = written-grown d l n block w in
    subst (λ (e : Disc). Left d e) (sym (cut_all ss d tear j (eqb-true j (length ss) z))) (record { plainly = g.plainly; still-sound = g.still-sound })
cut-written d l n block j tear w h t false z =
    let m : ℕ = links (unpack l) in
    let ss : List Sector = replicate m link in
    let count : length ss ≡ m = length-replicate m link in
    let fewer : j ≤ length ss = not-all j (length (behind ss block)) (length ss) h (eqb-false j (length (behind ss block)) z) (length-behind ss block) in
    cut-before-left ss block d j tear w.sound-disc (links-whole m) (links-no-tables m (recorded d)) (omega (arith, count, w.room)) fewer t

cut-write-left : (d : Disc) (o : Option (List ℕ)) (n : Option ℕ) (block junk : List ℕ) (j : ℕ) (tear : Option (List ℕ)) → Good (record { disc = d; ledger = o })
    → Follows (record { disc = d; ledger = o }) (write n block) junk → j ≤ length (sectors_of d (ledger_held o junk) (write n block)) → Torn tear
    → (m : ℕ) → outcome d (ledger_held o junk) (write n block) ≡ m → Left d (cut_disc d (sectors_of d (ledger_held o junk) (write n block)) j tear)
cut-write-left d o n block junk j tear g f h t (suc m) e =
    nothing_left d g.sound-disc (sectors_of d (ledger_held o junk) (write n block)) j tear (refused-records-none d (ledger_held o junk) (write n block) m e) h
cut-write-left d None n block junk j tear g f h t zero e = absurd (mathlib.Core.Bool.false≢true (f refl (e, refl)))
cut-write-left d (Some l) n block junk j tear g f h t zero e =
    let same : sectors_of d l (write n block) ≡ behind (replicate (links (unpack l)) link) block = done-records d l (write n block) e ∙ write-records d l n block in
    subst (λ (x : List Sector). Left d (cut_disc d x j tear)) (sym same)
    (cut-written d l n block j tear (write_done d l n block e) (subst (λ (x : List Sector). j ≤ length x) same h) t (eqb j (length (behind (replicate (links (unpack l)) link) block))) refl)

-- a save does not bring a lost ledger back
pub no-save-follows : (d : Disc) (l : List ℕ) (c : Call) → saves c ≡ true → (CountsAsDone d l c → restores c ≡ true) → outcome d l c ≡ 0 → ⊥
no-save-follows d l begin s f e = mathlib.Core.Bool.false≢true s
no-save-follows d l mount s f e = mathlib.Core.Bool.false≢true s
no-save-follows d l (write n block) s f e = mathlib.Core.Bool.false≢true (f (e, refl))
no-save-follows d l (release n) s f e = mathlib.Core.Bool.false≢true (f (e, refl))
no-save-follows d l close_packet s f e = mathlib.Core.Bool.false≢true (f (e, refl))
no-save-follows d l (commit stamp) s f e = mathlib.Core.Bool.false≢true (f (e, refl))
no-save-follows d l (close_session main reserve start) s f e = mathlib.Core.Bool.false≢true (f (e, refl))
no-save-follows d l (read n block) s f e = mathlib.Core.Bool.false≢true (f (e, refl))
no-save-follows d l (look_back k) s f e = mathlib.Core.Bool.false≢true s
no-save-follows d l (time_of k answer) s f e = mathlib.Core.Bool.false≢true s

-- a save that would have been done, cut after j of its sectors
module _ (d : Disc) (l : List ℕ) (g : Good (record { disc = d; ledger = Some l })) (c : Call) (s : Saving d l c) (e : outcome d l c ≡ 0) where
  abbrev firsts : List Sector
  firsts = before_table d l g.sound-disc g.ledger-good c s

  abbrev table : List ℕ
  table = table_sector d l g.sound-disc g.ledger-good c s

  all-records : sectors_of d l c ≡ behind firsts table
  all-records = done-records d l c e ∙ leaves-behind d l g.sound-disc g.ledger-good c s

  cut-done-step : (j : ℕ) (tear : Option (List ℕ)) → j ≤ length (sectors_of d l c) → Torn tear → (t : Bool) → eqb j (length (sectors_of d l c)) ≡ t
      → GoodStep (record { disc = d; ledger = Some l }) (cut_commit (kept d l c j)) (cut_world (cut_disc d (sectors_of d l c) j tear))
  cut-done-step j tear h t true z =
      let is-kept : kept d l c j ≡ true = ap₂ (λ (x : ℕ) (y : Bool). eqb x 0 && y) e z in
      let all : cut_disc d (sectors_of d l c) j tear ≡ saved_disc d l g.sound-disc g.ledger-good c s =
      cut_all (sectors_of d l c) d tear j (eqb-true j (length (sectors_of d l c)) z) ∙ ap (puts d (recorded d)) all-records in
      subst₂ (λ (x : Bool) (y : Disc). GoodStep (record { disc = d; ledger = Some l }) (cut_commit x) (cut_world y)) (sym is-kept) (sym all)
      (record {
        good = record { sound-disc = save-sound d l g.sound-disc g.ledger-good c s; ledger-good = tt };
        step =
            subst (λ (v : View). Step F (at F d (Some v)) (cut_commit true) (at F (saved_disc d l g.sound-disc g.ledger-good c s) None)) (sym (working-view (unpack l) s.done.not-looking))
            (Step.lost-saved (map_of (unpack l)) (unpack l).last (recorded d + length firsts) (save d l g.sound-disc g.ledger-good c s));
      })
  cut-done-step j tear h t false z =
      let not-kept : kept d l c j ≡ false = ap₂ (λ (x : ℕ) (y : Bool). eqb x 0 && y) e z in
      let fewer : j ≤ length firsts = not-all j (length (sectors_of d l c)) (length firsts) h (eqb-false j (length (sectors_of d l c)) z) (ap length all-records ∙ length-behind firsts table) in
      subst₂ (λ (x : Bool) (y : List Sector). GoodStep (record { disc = d; ledger = Some l }) (cut_commit x) (cut_world (cut_disc d y j tear))) (sym not-kept) (sym all-records)
      (lost-step (record { disc = d; ledger = Some l }) (cut_commit false) (cut_disc d (behind firsts table) j tear) unsaved-clears
      (cut-before-left firsts table d j tear g.sound-disc (before-whole d l g.sound-disc g.ledger-good c s) (before-no-tables d l g.sound-disc g.ledger-good c s) (room d l g.sound-disc g.ledger-good c s) fewer t))

cut-save-step : (d : Disc) (o : Option (List ℕ)) (c : Call) → saves c ≡ true → (junk : List ℕ) (j : ℕ) (tear : Option (List ℕ)) → Good (record { disc = d; ledger = o })
    → Follows (record { disc = d; ledger = o }) c junk → j ≤ length (sectors_of d (ledger_held o junk) c) → Torn tear
    → (m : ℕ) → outcome d (ledger_held o junk) c ≡ m
    → GoodStep (record { disc = d; ledger = o }) (cut_commit (kept d (ledger_held o junk) c j)) (cut_world (cut_disc d (sectors_of d (ledger_held o junk) c) j tear))
cut-save-step d o c is-save junk j tear g f h t (suc m) e =
    let l : List ℕ = ledger_held o junk in
    let unsaved : kept d l c j ≡ false = ap (λ (x : ℕ). eqb x 0 && eqb j (length (sectors_of d l c))) e ∙ ap (λ (x : Bool). x && eqb j (length (sectors_of d l c))) (eqb-suc-zero m) in
    subst (λ (x : Bool). GoodStep (record { disc = d; ledger = o }) (cut_commit x) (cut_world (cut_disc d (sectors_of d l c) j tear))) (sym unsaved)
    (lost-step (record { disc = d; ledger = o }) (cut_commit false) (cut_disc d (sectors_of d l c) j tear) unsaved-clears
    (nothing_left d g.sound-disc (sectors_of d l c) j tear (refused-records-none d l c m e) h))
cut-save-step d None c is-save junk j tear g f h t zero e = absurd (no-save-follows d junk c is-save (f refl) e)
cut-save-step d (Some l) c is-save junk j tear g f h t zero e =
    cut-done-step d l g c (saving-done d l c is-save e) e j tear h t (eqb j (length (sectors_of d l c))) refl

-- the calls that record nothing
abbrev pub Idle : Call → Type 0
Idle begin = Unit
Idle mount = Unit
Idle (write n block) = ⊥
Idle (release n) = Unit
Idle close_packet = Unit
Idle (commit stamp) = ⊥
Idle (close_session main reserve start) = ⊥
Idle (read n block) = Unit
Idle (look_back k) = Unit
Idle (time_of k answer) = Unit

pub records-nothing : (d : Disc) (l : List ℕ) (c : Call) → Idle c → sectors_of d l c ≡ []
unfolding sectors_of effect
records-nothing d l begin i = records-none (outcome d l begin)
records-nothing d l mount i = records-none (outcome d l mount)
records-nothing d l (write n block) i = absurd i
records-nothing d l (release n) i = records-none (outcome d l (release n))
records-nothing d l close_packet i = records-none (outcome d l close_packet)
records-nothing d l (commit stamp) i = absurd i
records-nothing d l (close_session main reserve start) i = absurd i
records-nothing d l (read n block) i = records-none (outcome d l (read n block))
records-nothing d l (look_back k) i = records-none (outcome d l (look_back k))
records-nothing d l (time_of k answer) i = records-none (outcome d l (time_of k answer))

idle-cut : (d : Disc) (o : Option (List ℕ)) (c : Call) (junk : List ℕ) (j : ℕ) (tear : Option (List ℕ)) → Good (record { disc = d; ledger = o })
    → j ≤ length (sectors_of d (ledger_held o junk) c) → sectors_of d (ledger_held o junk) c ≡ []
    → GoodStep (record { disc = d; ledger = o }) (cut (told c)) (cut_world (cut_disc d (sectors_of d (ledger_held o junk) c) j tear))
idle-cut d o c junk j tear g h none-recorded =
    lost-step (record { disc = d; ledger = o }) (cut (told c)) (cut_disc d (sectors_of d (ledger_held o junk) c) j tear) (cut-clears (told c))
    (nothing_left d g.sound-disc (sectors_of d (ledger_held o junk) c) j tear none-recorded h)

cut_step : (d : Disc) (o : Option (List ℕ)) (c : Call) (junk : List ℕ) (j : ℕ) (tear : Option (List ℕ)) → Good (record { disc = d; ledger = o })
    → Follows (record { disc = d; ledger = o }) c junk → j ≤ length (sectors_of d (ledger_held o junk) c) → Torn tear
    → GoodStep (record { disc = d; ledger = o }) (cut_short d (ledger_held o junk) c j) (cut_world (cut_disc d (sectors_of d (ledger_held o junk) c) j tear))
cut_step d o begin junk j tear g f h t = idle-cut d o begin junk j tear g h (records-nothing d (ledger_held o junk) begin tt)
cut_step d o mount junk j tear g f h t = idle-cut d o mount junk j tear g h (records-nothing d (ledger_held o junk) mount tt)
cut_step d o (write n block) junk j tear g f h t =
    lost-step (record { disc = d; ledger = o }) (cut (Told.write n block)) (cut_disc d (sectors_of d (ledger_held o junk) (write n block)) j tear) (cut-clears (Told.write n block))
    (cut-write-left d o n block junk j tear g f h t (outcome d (ledger_held o junk) (write n block)) refl)
cut_step d o (release n) junk j tear g f h t = idle-cut d o (release n) junk j tear g h (records-nothing d (ledger_held o junk) (release n) tt)
cut_step d o close_packet junk j tear g f h t = idle-cut d o close_packet junk j tear g h (records-nothing d (ledger_held o junk) close_packet tt)
cut_step d o (commit stamp) junk j tear g f h t = cut-save-step d o (commit stamp) refl junk j tear g f h t (outcome d (ledger_held o junk) (commit stamp)) refl
cut_step d o (close_session main reserve start) junk j tear g f h t =
    cut-save-step d o (close_session main reserve start) refl junk j tear g f h t (outcome d (ledger_held o junk) (close_session main reserve start)) refl
cut_step d o (read n block) junk j tear g f h t = idle-cut d o (read n block) junk j tear g h (records-nothing d (ledger_held o junk) (read n block) tt)
cut_step d o (look_back k) junk j tear g f h t = idle-cut d o (look_back k) junk j tear g h (records-nothing d (ledger_held o junk) (look_back k) tt)
cut_step d o (time_of k answer) junk j tear g f h t = idle-cut d o (time_of k answer) junk j tear g h (records-nothing d (ledger_held o junk) (time_of k answer) tt)

-- every event is a step
pub event-step : (w : World) (e : Event) → Good w → Allowed w e → GoodStep w (fed w e) (next w e)
unfolding fed next
event-step w (calls c junk) g a = call_step w c junk g a
event-step w (cuts c junk j tear) g a = cut_step w.disc w.ledger c junk j tear g a.0 a.1 a.2
