-- The time of each save, proved: a call's time is told of its save, k saves back when k saves have followed it.
--     retells, save-then-time     of the disc that a save leaves, right away
--     save-times                  the claim of specs/Times.antt
-- Assumes nothing.
use Prim.Native.Nat.{ℕ, zero, suc, ◌+◌, ◌<◌}
use native.Mathlib.Omega.{arith}
use mathlib.Core.Path.{◌≡◌, refl, sym, ap, ap₂, ◌∙◌, subst, subst₂}
use mathlib.Core.Bool.{Bool, true, false, not}
use mathlib.Core.List.{List, [], ◌∷◌, ◌++◌}
use Rattle.std.specs.Prelude.{Option, None, Some}
use lib.Dec.{eqb}
use lib.ListN.{length}
use borrow.Author.Tests.{eq-eqb, eqb-true}
use Rattle.le.proofs.Rows.{and_left, and_right}
use Rattle.le.proofs.Runs.{AllBytes}
use Rattle.timestamp.specs.Timestamp as stamps
use Rattle.timestamp.specs.Timestamp.{told_length, valid}
use Rattle.disc.specs.Disc.{Disc, Sector, recorded, puts}
use Rattle.disc.specs.Tables.{Walk}
use Rattle.std.specs.Prelude.{Ok}
use Rattle.disc.specs.Tables.{time_at, newest}
use Rattle.disc.proofs.Recording.{Sound}
use Rattle.volume.specs.Volume.{ledger_length, unpack, map_of}
use Rattle.volume.proofs.State.{Proper, proper-unpack}
use Rattle.recorder.specs.Calls.{Call, begin, mount, time_of, saves}
use Rattle.recorder.specs.Refusals.{Test, test, first, answer_lent, walked, walk_tests, time_reached, time_back, tests, outcome}
use Rattle.recorder.specs.Effects.{effect, After, after, sectors_of}
use Rattle.recorder.proofs.Done.{skip, stop, none_left, skip-basic, skip-walk}
use Rattle.history.specs.History.{History, Fed, feed}
use Rattle.history.specs.Events.{World, Event, calls, cuts, ledger_held, Follows, Allowed, AllAllowed, cut_disc, next, told, kept, cut_if, fed, runs, remembers, after_call, begun_history, mounted_history}
use Rattle.history.specs.Times.{telling, TellsTime, call_of, saved_stamp, Saves, ToldLater, EachTold, SaveTimes}
use Rattle.history.proofs.Log.{newest-saved, working}
use Rattle.history.proofs.Growth.{F, cut_all}
use Rattle.history.proofs.Steps.{Good, refused-fed, done-fed, done-records, no-save-follows}
use Rattle.history.proofs.Saving.{unsaved, Saving, saving-done, before_table, leaves-behind, saved_disc, save, save-sound, save-time}
use Rattle.history.proofs.Theorem.{Kept, all-kept, all-extends, all-since, walked-behind, begun_kept, mounted-kept, saved-disc}
use Rattle.history.proofs.Back.{Behind, Since}

-- ---- what is told on a sound disc

module _ (d : Disc) (l answer : List ℕ) (ok : Sound d) (long : length l ≡ ledger_length) (whole : length answer ≡ told_length) (k b t : ℕ) (n : newest d ≡ Some b) (way : walked d k ≡ Ok t) where
  asked : outcome d l (time_of k answer) ≡ first (test 16 (not (valid (time_at d t))) ∷ [])
  unfolding outcome tests
  asked =
      let rest : List Test = test 16 (not (valid (time_back d k))) ∷ [] in
      let lent : answer_lent l answer ≡ true = rw (eq-eqb (length l) ledger_length long, eq-eqb (length answer) told_length whole) in
      skip-basic d (answer_lent l answer) (walk_tests d k ++ rest) ok lent
      ∙ skip-walk d k b t rest n way
      ∙ ap (λ (w : Walk). first (test 16 (not (valid (time_reached d w))) ∷ [])) way

  tells-time : after d l (time_of k answer) ≡ telling (valid (time_at d t)) d l answer (time_at d t)
  unfolding after effect puts
  tells-time = go (valid (time_at d t)) refl
    where
      go : (u : Bool) → valid (time_at d t) ≡ u → after d l (time_of k answer) ≡ telling (valid (time_at d t)) d l answer (time_at d t)
      go true z =
          let done : outcome d l (time_of k answer) ≡ 0 = asked ∙ skip 16 (not (valid (time_at d t))) [] (ap not z) ∙ none_left in
          rw (done, z) (ap {B = After} (λ (w : Walk). record { answer = 0; disc = d; ledger = l; buffer = stamps.told (time_reached d w) }) way)
      go false z =
          let refused : outcome d l (time_of k answer) ≡ 16 = asked ∙ stop 16 (not (valid (time_at d t))) [] (ap not z) in
          rw (refused, z)

-- a save k steps back tells its time
behind-tells : (d : Disc) → Sound d → (k b : ℕ) → Behind F d k b → TellsTime d k (time_at d b)
behind-tells d ok k b r l answer long whole = tells-time d l answer ok long whole k r.newest b r.is-newest (walked-behind d k b r)

-- ---- a call makes its save

-- the newest table on the disc, and its time
abbrev Made : Disc → List ℕ → Type 0
Made d stamp = (b : ℕ) × Behind F d 0 b × (b < recorded d) × (time_at d b ≡ stamp)

saved-made : (d : Disc) (l : List ℕ) (ok : Sound d) (good : Proper (unpack l)) (c : Call) (s : Saving d l c) → Made (saved_disc d l ok good c s) (saved_stamp c)
saved-made d l ok good c s =
    let t = save d l ok good c s in
    let b : ℕ = recorded d + length (before_table d l ok good c s) in
    let inside : b < recorded (saved_disc d l ok good c s) = omega (arith, t.last-sector) in
    let behind : Behind F (saved_disc d l ok good c s) 0 b =
    record { newest = b; is-newest = newest-saved F (working F (map_of (unpack l)) (unpack l).last) b t; way = (refl, inside) } in
    (b, behind, inside, save-time d l ok good c s)

-- of the disc that a save leaves, on a ledger whose state is proper; and on any that holds bytes
pub retells : (d : Disc) (l : List ℕ) → Proper (unpack l) → (c : Call) → saves c ≡ true → outcome d l c ≡ 0 → TellsTime (after d l c).disc 0 (saved_stamp c)
retells d l good c is-save e =
    let s : Saving d l c = saving-done d l c is-save e in
    let ok : Sound d = s.done.sound-disc in
    let made = saved-made d l ok good c s in
    subst₂ (λ (x : Disc) (stamp : List ℕ). TellsTime x 0 stamp) (sym (saved-disc d l ok good c s e)) made.3
    (behind-tells (saved_disc d l ok good c s) (save-sound d l ok good c s) 0 made.0 made.1)

pub save-then-time : (d : Disc) (l : List ℕ) → AllBytes l → (c : Call) → saves c ≡ true → outcome d l c ≡ 0 → TellsTime (after d l c).disc 0 (saved_stamp c)
save-then-time d l bytes = retells d l (proper-unpack l bytes)

-- ---- an event that makes a save

not_more : {A : Type 0} (n : ℕ) → n ≡ suc n → A
not_more n e = absurd (omega arith)

-- what a save records makes one
held-made : (d : Disc) (o : Option (List ℕ)) (c : Call) (junk : List ℕ) → Good (record { disc = d; ledger = o }) → Follows (record { disc = d; ledger = o }) c junk
    → saves c ≡ true → outcome d (ledger_held o junk) c ≡ 0 → Made (puts d (recorded d) (effect d (ledger_held o junk) c).sectors) (saved_stamp c)
held-made d None c junk g f is e = absurd (no-save-follows d junk c is (f refl) e)
held-made d (Some l) c junk g f is e =
    let s : Saving d l c = saving-done d l c is e in
    subst (λ (ss : List Sector). Made (puts d (recorded d) ss) (saved_stamp c)) (sym (leaves-behind d l g.sound-disc g.ledger-good c s)) (saved-made d l g.sound-disc g.ledger-good c s)

module _ (d : Disc) (o : Option (List ℕ)) (h : History) (c : Call) (junk : List ℕ) (g : Good (record { disc = d; ledger = o })) (f : Follows (record { disc = d; ledger = o }) c junk) where
  abbrev w : World
  w = record { disc = d; ledger = o }

  abbrev held : List ℕ
  held = ledger_held o junk

  call-made : Saves w h (calls c junk) → (t : Bool) → saves c ≡ t → (m : ℕ) → outcome d held c ≡ m → Made (next w (calls c junk)).disc (saved_stamp c)
  unfolding next after feed
  call-made more t is (suc m) e =
      not_more (length h.pages) (ap (λ (x : Fed). length (feed h x).pages) (sym (refused-fed w c junk m e)) ∙ more)
  call-made more false is zero e =
      not_more (length h.pages) (ap length (sym (unsaved c is (effect d held c).second h)) ∙ ap (λ (x : Fed). length (feed h x).pages) (sym (done-fed w c junk e)) ∙ more)
  call-made more true is zero e = rw e (held-made d o c junk g f is e)

  cut-made : (j : ℕ) (tear : Option (List ℕ)) → Saves w h (cuts c junk j tear) → (t : Bool) → saves c ≡ t → (k : Bool) → kept d held c j ≡ k → Made (next w (cuts c junk j tear)).disc (saved_stamp c)
  unfolding next fed feed
  cut-made j tear more false is k z =
      not_more (length h.pages) (ap (λ (t : Bool). length (feed h (cut_if t (told c) (kept d held c j))).pages) (sym is) ∙ more)
  cut-made j tear more true is false z =
      not_more (length h.pages) (ap₂ (λ (t x : Bool). length (feed h (cut_if t (told c) x)).pages) (sym is) (sym z) ∙ more)
  cut-made j tear more true is true z =
      let out : Bool = eqb (outcome d held c) 0 in
      let all : Bool = eqb j (length (sectors_of d held c)) in
      let e : outcome d held c ≡ 0 = eqb-true (outcome d held c) 0 (and_left out all z) in
      let same : cut_disc d (sectors_of d held c) j tear ≡ puts d (recorded d) (effect d held c).sectors =
      cut_all (sectors_of d held c) d tear j (eqb-true j (length (sectors_of d held c)) (and_right out all z)) ∙ ap (puts d (recorded d)) (done-records d held c e) in
      subst (λ (x : Disc). Made x (saved_stamp c)) (sym same) (held-made d o c junk g f is e)

made : (w : World) (h : History) → Good w → (e : Event) → Allowed w e → Saves w h e → Made (next w e).disc (saved_stamp (call_of e))
made w h g (calls c junk) a more = call-made w.disc w.ledger h c junk g a more (saves c) refl (outcome w.disc (ledger_held w.ledger junk) c) refl
made w h g (cuts c junk j tear) a more = cut-made w.disc w.ledger h c junk g a.0 j tear more (saves c) refl (kept w.disc (ledger_held w.ledger junk) c j) refl

-- ---- and any events that follow

each-told : (w : World) (h : History) → Kept w h → EachTold w h
unfolding AllAllowed runs remembers
each-told w h r es a e allowed more later follow k counted =
    let w₁ : World = runs w es in
    let h₁ : History = remembers w h es in
    let w₂ : World = next w₁ e in
    let h₂ : History = feed h₁ (fed w₁ e) in
    let r₁ : Kept w₁ h₁ = all-kept es w h r a in
    let r₂ : Kept w₂ h₂ = all-kept (e ∷ []) w₁ h₁ r₁ (allowed, tt) in
    let r₃ : Kept (runs w₂ later) (remembers w₂ h₂ later) = all-kept later w₂ h₂ r₂ follow in
    let b = made w₁ h₁ r₁.good e allowed more in
    let s : Since F w₂.disc h₂.pages (length h₂.pages) 0 b.0 = record { followed = 0; counted = omega arith; behind = b.1 } in
    let t : Since F (runs w₂ later).disc (remembers w₂ h₂ later).pages (length h₂.pages) 0 b.0 = all-since later w₂ h₂ r₂ follow s in
    let same : t.followed ≡ k = omega (arith, t.counted, counted) in
    let time : time_at (runs w₂ later).disc b.0 ≡ saved_stamp (call_of e) = (all-extends later w₂ r₂.good follow).times b.0 b.2 ∙ b.3 in
    subst₂ (λ (n : ℕ) (stamp : List ℕ). TellsTime (runs w₂ later).disc n stamp) same time
    (behind-tells (runs w₂ later).disc r₃.good.sound-disc t.followed b.0 t.behind)

pub save-times : SaveTimes
save-times =
    record {
      after-begin = λ d l e. each-told (after_call d l begin) begun_history (begun_kept d l e);
      after-mount = λ d l e. each-told (after_call d l mount) (mounted_history d) (mounted-kept d l e);
    }

-- the claim, put to the world and the history that the events before the save are known to leave
pub told-there : (w : World) (h : History) → EachTold w h → (es : List Event) → AllAllowed w es → {w₁ : World} {h₁ : History} → runs w es ≡ w₁ → remembers w h es ≡ h₁
    → (e : Event) → Allowed w₁ e → Saves w₁ h₁ e → ToldLater (next w₁ e) (feed h₁ (fed w₁ e)) (saved_stamp (call_of e))
told-there w h claim es a p q e =
    subst₂ (λ (x : World) (y : History). Allowed x e → Saves x y e → ToldLater (next x e) (feed y (fed x e)) (saved_stamp (call_of e))) p q (claim es a e)
