-- The time of a save, put to a day on which every call is done: a save among any calls, told as many saves back as saves follow it.
-- Assumes nothing.
use Prim.Native.Nat.{ℕ, ◌*◌}
use mathlib.Core.Path.{◌≡◌, sym, ap, ◌∙◌, subst, subst₂}
use mathlib.Core.Bool.{Bool, true, false}
use mathlib.Core.List.{List, [], ◌∷◌, ◌++◌}
use Rattle.std.specs.Prelude.{Some}
use lib.ListN.{length}
use borrow.Author.Tests.{not-false}
use Rattle.timestamp.specs.Timestamp as stamps
use Rattle.timestamp.specs.Timestamp.{told_length, valid}
use Rattle.timestamp.proofs.Stamps.{zeros-wrong}
use Rattle.vat.specs.Sector.{no_stamp}
use Rattle.disc.specs.Disc.{Disc, lent}
use Rattle.volume.specs.Volume.{ledger_length}
use Rattle.recorder.specs.Calls.{Call, commit, time_of}
use Rattle.recorder.specs.Refusals.{outcome}
use Rattle.recorder.specs.Effects.{After, left, after}
use Rattle.recorder.proofs.Done.{commit-done}
use Rattle.history.specs.History.{History, feed}
use Rattle.history.specs.Events.{World, calls, fed, after_call}
use Rattle.history.specs.Times.{telling, TellsTime, saved_stamp, ToldLater, EachTold}
use Rattle.history.proofs.Times.{save-times, told-there}
use Rattle.space.specs.Called.{as_events}
use Rattle.client.specs.Day.{Day, day, opening, saves_among, world}
use Rattle.client.proofs.Claimed.{not-lost, next-done, fed-done, start_history, opened, remembered}
use Rattle.client.proofs.Since.{Went, went, up_to, saved, book, SavedThere}

-- ---- a save, and calls behind it

start-told : (fresh : Bool) (d : Disc) (l : List ℕ) → outcome d l (opening fresh) ≡ 0 → EachTold (after_call d l (opening fresh)) (start_history fresh d)
start-told true d l e = save-times.after-begin d l e
start-told false d l e = save-times.after-mount d l e

module _ (x : Day) (fresh : Bool) (before since : List Call) (c : Call) (s : SavedThere x fresh before c since) where
  -- from the save on its time is told
  told-later : ToldLater (world (saved x fresh before c)) (book x fresh before c) (saved_stamp c)
  told-later =
      let o : Day = opened x fresh in
      let h : History = start_history fresh x.disc in
      let y : Day = up_to x fresh before in
      let hy : History = remembered x fresh before in
      let w : Went o h before = went before o h s.opened-done s.before-done in
      let fed-here : feed hy (fed (world y) (calls c [])) ≡ book x fresh before c = fed-done y c s.is-done hy in
      subst₂ (λ (v : World) (g : History). ToldLater v g (saved_stamp c)) (next-done y c s.is-done) fed-here
      (told-there (world o) h (start-told fresh x.disc x.ledger s.start-done) (as_events before) w.allowed w.ended w.recalled
      (calls c []) (λ n. absurd (not-lost y.ledger n)) (ap (λ (g : History). length g.pages) fed-here ∙ s.a-page))

  pub told-since : TellsTime (day x (opening fresh ∷ (before ++ (c ∷ since)))).disc (saves_among since) (saved_stamp c)
  told-since =
      subst (λ (d : Disc). TellsTime d (saves_among since) (saved_stamp c)) s.same-disc (told-later (as_events since) s.went-since.allowed (saves_among since) s.counted)

-- a commit that was done with a timestamp was given a right one
pub right-stamp : (x : Day) (fresh : Bool) (before since : List Call) (s : List ℕ) → SavedThere x fresh before (commit (Some s)) since → valid s ≡ true
right-stamp x fresh before since s there =
    not-false (valid s) (commit-done (up_to x fresh before).disc (up_to x fresh before).ledger (Some s) there.is-done).right-stamp

-- ---- what a program is told

module _ (x : Day) (fresh : Bool) (before since : List Call) (c : Call) (s : SavedThere x fresh before c since) (i k l : List ℕ) (n : ℕ) (answer : List ℕ) (there : lent i k ≡ (day x (opening fresh ∷ (before ++ (c ∷ since)))).disc) (counted : saves_among since ≡ n) (long : length l ≡ ledger_length) (whole : length answer ≡ told_length) {r : ℕ} {got : List ℕ} (e : left r i k l got ≡ after (lent i k) l (time_of n answer)) where
  shown : {stamp : List ℕ} → saved_stamp c ≡ stamp → left r i k l got ≡ telling (valid stamp) (lent i k) l answer stamp
  shown is =
      let t : TellsTime (lent i k) n (saved_stamp c) = subst₂ (λ (d : Disc) (k : ℕ). TellsTime d k (saved_stamp c)) (sym there) counted (told-since x fresh before since c s) in
      e ∙ t l answer long whole ∙ ap (λ (stamp : List ℕ). telling (valid stamp) (lent i k) l answer stamp) is

  pub time-given : {stamp : List ℕ} → saved_stamp c ≡ stamp → valid stamp ≡ true → (r ≡ 0) × (got ≡ stamps.told stamp)
  time-given {stamp} is right =
      let both = shown is ∙ ap (λ (b : Bool). telling b (lent i k) l answer stamp) right in
      (ap (λ (x : After). x.answer) both, ap (λ (x : After). x.buffer) both)

  -- zeros are no time
  pub no-time-given : saved_stamp c ≡ no_stamp → (r ≡ 16 * 4294967296) × (got ≡ answer)
  no-time-given is =
      let both = shown is ∙ ap (λ (b : Bool). telling b (lent i k) l answer no_stamp) zeros-wrong in
      (ap (λ (x : After). x.answer) both, ap (λ (x : After). x.buffer) both)
