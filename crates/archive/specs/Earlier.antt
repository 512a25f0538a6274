-- "A later save never alters what an earlier entry shows" (document 02, R-6), after any list of events.
use Rattle.std.specs.Prelude.{ℕ, ◌+◌, List, [], ◌∷◌, ◌++◌, ◌≡◌, length}
use Rattle.disc.specs.Disc.{Disc}
use Rattle.volume.specs.Volume.{ledger_length, unpack}
use Rattle.recorder.specs.Calls.{begin, mount, read, look_back}
use Rattle.recorder.specs.Refusals.{first, basic, ledger_lent, unfit, block_of, outcome}
use Rattle.recorder.specs.Effects.{After, after}
use Rattle.run.specs.View.{view}
use Rattle.history.specs.History.{History}
use Rattle.history.specs.Events.{World, Event, AllAllowed, runs, remembers, after_call, begun_history, mounted_history}

-- What a read or a view tells: its answer, and the buffer with what it fills in.
pub record Seen : Type 0 where
  pub answer : ℕ
  pub buffer : List ℕ

abbrev pub showing : ℕ → List ℕ → Seen
showing answer buffer = record { answer = answer; buffer = buffer }

abbrev pub seen : After → Seen
seen x = showing x.answer x.buffer

-- None of 1 to 4 applies to this disc and ledger.
abbrev pub Fitting : Disc → List ℕ → Type 0
Fitting d l = first (basic d (ledger_lent l) ++ (unfit d l ∷ [])) ≡ 0

-- Number m of the ledger l' on the disc d' is read, and seen from every offset, as number n of l on d.
pub record ShownAlike (d d' : Disc) (l l' : List ℕ) (n m : ℕ) : Type 0 where
  pub reads : (block : List ℕ) → seen (after d' l' (read m block)) ≡ seen (after d l (read n block))
  pub views : (offset : ℕ) (buffer : List ℕ) → seen (view d' l' m offset buffer) ≡ seen (view d l n offset buffer)

-- Whatever there is on the disc, and whatever events follow, allowed or not: a number that then names the block that a number names now shows then what
-- that one shows now, whether a save has the entry or not, with any ledgers that fit, now and then.
abbrev pub EntriesStay : Type 0
EntriesStay =
    (w : World) (es : List Event) (now then : List ℕ) → Fitting w.disc now → Fitting (runs w es).disc then
    → (n m : ℕ) → block_of (unpack then) m ≡ block_of (unpack now) n → ShownAlike w.disc (runs w es).disc now then n m

-- Number n of the save k before the newest, seen from the offset on: a look back, lent these bytes as ledger, and a view.
abbrev pub seen_back : Disc → List ℕ → ℕ → ℕ → ℕ → List ℕ → Seen
seen_back d l k n offset buffer = seen (view d (after d l (look_back k)).ledger n offset buffer)

-- From here on: whatever events follow and make m saves more, each number of each save that a look back reaches now, also of one from before the list, is
-- seen as it is seen now. Any 16,364 bytes may be lent as ledger, now and then.
abbrev pub SeenLater : World → History → Type 0
SeenLater w h =
    (later : List Event) → AllAllowed w later
    → (m : ℕ) → length (remembers w h later).pages ≡ m + length h.pages
    → (k : ℕ) (now then : List ℕ) → outcome w.disc now (look_back k) ≡ 0 → length then ≡ ledger_length
    → (n offset : ℕ) (buffer : List ℕ)
    → seen_back (runs w later).disc then (m + k) n offset buffer ≡ seen_back w.disc now k n offset buffer

-- Whatever disc and state a begin or a mount was done on, and whatever events lead here: directly behind a save its page is the one with k 0.
pub record EarlierEntries : Type 0 where
  pub after-begin : (d : Disc) (l : List ℕ) → outcome d l begin ≡ 0 → (es : List Event) → AllAllowed (after_call d l begin) es
      → SeenLater (runs (after_call d l begin) es) (remembers (after_call d l begin) begun_history es)
  pub after-mount : (d : Disc) (l : List ℕ) → outcome d l mount ≡ 0 → (es : List Event) → AllAllowed (after_call d l mount) es
      → SeenLater (runs (after_call d l mount) es) (remembers (after_call d l mount) (mounted_history d) es)
