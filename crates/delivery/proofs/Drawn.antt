-- Some of what the page says, written out for every list, call and save, so that a definition behind it that says less is refused here.
-- Assumes nothing.
use Prim.Native.Nat.{ℕ, ◌+◌, ◌≤◌, ◌<◌}
use mathlib.Core.Bool.{true}
use mathlib.Core.List.{List, []}
use mathlib.Core.Logic.{◌⊎◌}
use Rattle.std.specs.Prelude.{Some}
use mathlib.Core.Path.{◌≡◌, ap}
use lib.ListN.{length, get_or}
use Rattle.vat.specs.Table.{unused}
use Rattle.extent.specs.declared.Extent.{Extent}
use Rattle.disc.specs.Disc.{Disc}
use Rattle.disc.specs.Session.{session_closed}
use Rattle.volume.specs.Volume.{unpack}
use Rattle.recorder.specs.Calls.{Call, mount, close_session, look_back, time_of, may_record}
use Rattle.recorder.specs.Refusals.{outcome}
use Rattle.recorder.specs.Effects.{after}
use Rattle.run.specs.View.{view}
use Rattle.history.specs.History.{unused_entry, History, feed}
use Rattle.history.specs.Events.{World, Event, Allowed, next, fed, AllAllowed, runs, remembers, after_call, mounted_history}
use Rattle.history.specs.Times.{telling, call_of, saved_stamp, Saves}
use Rattle.timestamp.specs.Timestamp.{valid}
use Rattle.history.specs.Claim.{block_number}
use Rattle.alike.specs.Alike.{Alike}
use Rattle.delivery.proofs.Delivered.{delivered}

-- after every list, also one with cuts behind a mount, look back k shows the entries of the page k before the newest
module _ (d : Disc) (l : List ℕ) (e : outcome d l mount ≡ 0) (es : List Event) (a : AllAllowed (after_call d l mount) es) where
  abbrev w : World
  w = runs (after_call d l mount) es

  abbrev past : History
  past = remembers (after_call d l mount) (mounted_history d) es

  pub looks-back : (m : List ℕ) → length m ≡ 16364 → (k : ℕ) → k < length past.pages → (n : ℕ)
      → get_or (unpack (after w.disc m (look_back k)).ledger).entries n unused ≡ block_number (get_or (get_or past.pages k []) n unused_entry)
  looks-back m long k below n = ((delivered.power-cuts.after-mount d l e es a).looks m long k below).showing.entry n

  -- a closing that is done closes the disc, which mounts clean
  pub closes : (m : List ℕ) → w.ledger ≡ Some m → (main reserve : Extent) (start : ℕ) → outcome w.disc m (close_session main reserve start) ≡ 0
      → let left : Disc = (after w.disc m (close_session main reserve start)).disc in
      (session_closed left ≡ true) × ((held : List ℕ) → length held ≡ 16364 → (after left held mount).answer ≡ 1)
  closes m here main reserve start c =
      let closed = (delivered.closed-discs.after-mount d l e es a m here main reserve start c).2 in
      (closed.is-closed, closed.clean)

  -- and each save that is there is seen later as it is now
  pub seen_back_lem : (later : List Event) → AllAllowed w later → (m : ℕ)
      → length (remembers w past later).pages ≡ m + length past.pages
      → (k : ℕ) (now then : List ℕ) → outcome w.disc now (look_back k) ≡ 0 → length then ≡ 16364 → (n offset : ℕ) (buffer : List ℕ)
      → (view (runs w later).disc (after (runs w later).disc then (look_back (m + k))).ledger n offset buffer).buffer ≡ (view w.disc (after w.disc now (look_back k)).ledger n offset buffer).buffer
  seen_back_lem later follow m counted k now then done long n offset buffer =
      ap (λ s. s.buffer) (delivered.earlier-entries.after-mount d l e es a later follow m counted k now then done long n offset buffer)

  -- and of each save that an event makes its time is told, however many saves later
  pub tells-time : (made : Event) → Allowed w made → Saves w past made → (later : List Event) → AllAllowed (next w made) later
      → (k : ℕ) → length (remembers (next w made) (feed past (fed w made)) later).pages ≡ k + length (feed past (fed w made)).pages
      → (m answer : List ℕ) → length m ≡ 16364 → length answer ≡ 8
      → after (runs (next w made) later).disc m (time_of k answer) ≡ telling (valid (saved_stamp (call_of made))) (runs (next w made) later).disc m answer (saved_stamp (call_of made))
  tells-time made allowed saving later follow k counted = delivered.save-times.after-mount d l e es a made allowed saving later follow k counted

-- every call that 17 turns away
pub turned-away : (d : Disc) → session_closed d ≡ true → (l : List ℕ) (c : Call) → may_record c ≡ true → (outcome d l c ≡ 17) ⊎ ((0 < outcome d l c) × (outcome d l c ≤ 5))
turned-away = delivered.closed-discs.turned-away

-- the buffer of every call
pub same-buffer : (d e : Disc) → Alike d e → (l : List ℕ) (c : Call) → (after d l c).buffer ≡ (after e l c).buffer
same-buffer d e a l c = (delivered.mean-nothing.calls d e a l c).same-buffer
