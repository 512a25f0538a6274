-- The time of each save (document 02, R-3: "A new call tells, for k saves back, the modification time"), after any list of events.
use Rattle.std.specs.Prelude.{ℕ, suc, ◌+◌, ◌*◌, Bool, true, false, List, ◌≡◌, length}
use Rattle.timestamp.specs.Timestamp.{told_length, valid, told}
use Rattle.disc.specs.Disc.{Disc}
use Rattle.volume.specs.Volume.{ledger_length}
use Rattle.vat.specs.Sector.{no_stamp}
use Rattle.recorder.specs.Calls.{Call, begin, mount, write, release, close_packet, commit, close_session, read, look_back, time_of, stamp_of}
use Rattle.recorder.specs.Refusals.{outcome}
use Rattle.recorder.specs.Effects.{After, after}
use Rattle.history.specs.History.{History, feed}
use Rattle.history.specs.Events.{World, Event, calls, cuts, Allowed, AllAllowed, next, fed, runs, remembers, after_call, begun_history, mounted_history}

-- What is told of a table with this modification time: its minutes and mark, or 16 where it "breaks these limits".
abbrev pub telling : Bool → Disc → List ℕ → List ℕ → List ℕ → After
telling true d l answer stamp = record { answer = 0; disc = d; ledger = l; buffer = told stamp }
telling false d l answer stamp = record { answer = 16 * 4294967296; disc = d; ledger = l; buffer = answer }

-- Of the save k saves back this time is told, lent any 16,364 bytes, since "the ledger is not read", and any 8 bytes for the answer.
abbrev pub TellsTime : Disc → ℕ → List ℕ → Type 0
TellsTime d k stamp =
    (l answer : List ℕ) → length l ≡ ledger_length → length answer ≡ told_length → after d l (time_of k answer) ≡ telling (valid stamp) d l answer stamp

-- The call of an event, done, refused or cut.
abbrev pub call_of : Event → Call
call_of (calls c junk) = c
call_of (cuts c junk j tear) = c

-- The timestamp that a save's table has: a commit's; a closing has none. The other calls make no save.
abbrev pub saved_stamp : Call → List ℕ
saved_stamp begin = no_stamp
saved_stamp mount = no_stamp
saved_stamp (write n block) = no_stamp
saved_stamp (release n) = no_stamp
saved_stamp close_packet = no_stamp
saved_stamp (commit stamp) = stamp_of stamp
saved_stamp (close_session main reserve start) = no_stamp
saved_stamp (read n block) = no_stamp
saved_stamp (look_back k) = no_stamp
saved_stamp (time_of k answer) = no_stamp

-- The event makes a save: the history has one page more.
abbrev pub Saves : World → History → Event → Type 0
Saves w h e = length (feed h (fed w e)).pages ≡ suc (length h.pages)

-- From a save with this timestamp on: whatever events follow and make k saves more, of the save k saves back its time is told.
abbrev pub ToldLater : World → History → List ℕ → Type 0
ToldLater w h stamp =
    (later : List Event) → AllAllowed w later → (k : ℕ) → length (remembers w h later).pages ≡ k + length h.pages → TellsTime (runs w later).disc k stamp

-- Whatever events come first, so it is of each one that makes a save.
abbrev pub EachTold : World → History → Type 0
EachTold w h =
    (es : List Event) → AllAllowed w es
    → (e : Event) → Allowed (runs w es) e → Saves (runs w es) (remembers w h es) e
    → ToldLater (next (runs w es) e) (feed (remembers w h es) (fed (runs w es) e)) (saved_stamp (call_of e))

-- Whatever disc and state a begin or a mount was done on.
pub record SaveTimes : Type 0 where
  pub after-begin : (d : Disc) (l : List ℕ) → outcome d l begin ≡ 0 → EachTold (after_call d l begin) begun_history
  pub after-mount : (d : Disc) (l : List ℕ) → outcome d l mount ≡ 0 → EachTold (after_call d l mount) (mounted_history d)
