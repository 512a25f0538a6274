-- What is recorded, after any list of events, allowed or not: "Sectors are recorded in ascending order and never twice" (the tender), and "After each call
-- that is done, the ledger's recorded equals the disc's" (document 01).
use Rattle.std.specs.Prelude.{ℕ, ◌*◌, false, List, ◌≡◌, take}
use Rattle.std.specs.Prelude.{Some}
use Rattle.vat.specs.Table.{sector_length}
use Rattle.disc.specs.Disc.{Disc, recorded}
use Rattle.volume.specs.Volume.{unpack}
use Rattle.recorder.specs.Calls.{Call, only_tells}
use Rattle.recorder.specs.Refusals.{outcome}
use Rattle.history.specs.Events.{World, Event, runs, after_call}

-- What was recorded on the disc d stands on d' as it stood: every kind and every byte of it.
pub record Untouched (d d' : Disc) : Type 0 where
  pub kinds : take (recorded d) d'.kinds ≡ take (recorded d) d.kinds
  pub bytes : take (sector_length * recorded d) d'.image ≡ take (sector_length * recorded d) d.image

-- "never twice": no event alters a recorded sector, whatever disc and ledger there were.
abbrev pub WriteOnce : Type 0
WriteOnce = (w : World) (es : List Event) → Untouched w.disc (runs w es).disc

-- "After each call that is done, the ledger's recorded equals the disc's", and so it is after whatever events follow, where the ledger is not lost. A call
-- that only tells counts as a refused one.
abbrev pub RecordedSame : Type 0
RecordedSame =
    (d : Disc) (l : List ℕ) (c : Call) → outcome d l c ≡ 0 → only_tells c ≡ false
    → (es : List Event) (m : List ℕ) → (runs (after_call d l c) es).ledger ≡ Some m → (unpack m).recorded ≡ recorded (runs (after_call d l c) es).disc
