-- The claim about power cuts (demand 3; document 01, 'The book', last paragraph), for the disc and the history that a list of events leaves.
use Rattle.std.specs.Prelude.{ℕ, ◌*◌, ◌<◌, List, [], ◌∷◌, ◌≡◌, length, get_or}
use Rattle.std.specs.Prelude.{None, Some}
use Rattle.vat.specs.Table.{sector_length, unused}
use Rattle.disc.specs.Disc.{Disc}
use Rattle.volume.specs.Volume.{ledger_length, unpack}
use Rattle.recorder.specs.Calls.{Call, begin, mount, read, look_back}
use Rattle.recorder.specs.Refusals.{outcome}
use Rattle.recorder.specs.Effects.{After, after}
use Rattle.history.specs.History.{Entry, unused_entry, shows, Snapshot, History}
use Rattle.history.specs.Events.{Event, AllAllowed, runs, remembers, after_call, begun_history, mounted_history}

-- The block number of an entry.
abbrev pub block_number : Entry → ℕ
block_number unused_entry = unused
block_number (shows b bytes) = b

-- "Read of v, lent 2048 bytes, then gives what that page has for v, or 10 if not in use."
abbrev pub reading : Disc → List ℕ → List ℕ → Entry → After
reading d l block unused_entry = record { answer = 10 * 4294967296; disc = d; ledger = l; buffer = block }
reading d l block (shows b (Some bytes)) = record { answer = 0; disc = d; ledger = l; buffer = bytes }
reading d l block (shows b None) = record { answer = 11 * 4294967296; disc = d; ledger = l; buffer = block }

-- The ledger l on the disc d shows the page p: "size and entries are the .. page's", and every number reads what the page has.
pub record Shows (d : Disc) (l : List ℕ) (p : Snapshot) : Type 0 where
  pub size : (unpack l).size ≡ length p
  pub entry : (n : ℕ) → get_or (unpack l).entries n unused ≡ block_number (get_or p n unused_entry)
  pub reads : (n : ℕ) (block : List ℕ) → length block ≡ sector_length → after d l (read n block) ≡ reading d l block (get_or p n unused_entry)

-- A call c is done and what it leaves shows the page p.
pub record DoneShowing (d : Disc) (l : List ℕ) (c : Call) (p : Snapshot) : Type 0 where
  pub is-done : outcome d l c ≡ 0
  pub showing : Shows d (after d l c).ledger p

-- "a mount, lent any 1,848 bytes as ledger, is done exactly if there is a page, else 7": any of the ledger's length.
abbrev pub Mounts : Disc → List ℕ → List Snapshot → Type 0
Mounts d l [] = outcome d l mount ≡ 7
Mounts d l (p ∷ ps) = DoneShowing d l mount p

-- "Look back k, for every k below the number of pages, is done with the page k before the newest, and reads likewise."
pub record Claim (d : Disc) (h : History) : Type 0 where
  pub mounts : (l : List ℕ) → length l ≡ ledger_length → Mounts d l h.pages
  pub looks : (l : List ℕ) → length l ≡ ledger_length → (k : ℕ) → k < length h.pages → DoneShowing d l (look_back k) (get_or h.pages k [])

-- Demand 3: whatever disc and state a begin or a mount was done on, and whatever list of events follows.
pub record PowerCuts : Type 0 where
  pub after-begin : (d : Disc) (l : List ℕ) → outcome d l begin ≡ 0
      → (es : List Event) → AllAllowed (after_call d l begin) es
      → Claim (runs (after_call d l begin) es).disc (remembers (after_call d l begin) begun_history es)
  pub after-mount : (d : Disc) (l : List ℕ) → outcome d l mount ≡ 0
      → (es : List Event) → AllAllowed (after_call d l mount) es
      → Claim (runs (after_call d l mount) es).disc (remembers (after_call d l mount) (mounted_history d) es)
