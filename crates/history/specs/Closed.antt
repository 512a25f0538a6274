-- Closed discs (document 02, R-5): a closing that is done leaves one, and on a closed disc nothing is recorded any more.
use Rattle.std.specs.Prelude.{ℕ, ◌*◌, ◌≤◌, ◌<◌, true, List, ◌⊎◌, ◌≡◌, length, replicate}
use Rattle.std.specs.Prelude.{Some}
use Rattle.vat.specs.Table.{sector_length}
use Rattle.extent.specs.declared.Extent.{Extent}
use Rattle.anchor.specs.Anchor.{farthest_start}
use Rattle.disc.specs.Disc.{Disc, lent, most_sectors}
use Rattle.disc.specs.Session.{closing_length, session_closed}
use Rattle.volume.specs.Volume.{ledger_length}
use Rattle.recorder.specs.Calls.{Call, begin, mount, close_session, may_record}
use Rattle.recorder.specs.Refusals.{outcome}
use Rattle.recorder.specs.Effects.{after}
use Rattle.history.specs.History.{Snapshot, History}
use Rattle.history.specs.Events.{World, Event, AllAllowed, runs, remembers, after_call, begun_history, mounted_history}
use Rattle.history.specs.Claim.{DoneShowing}

-- A closed disc on which a mount, lent any 16,364 bytes as ledger, is done, finds its table clean and shows the page p.
pub record ClosedShowing (d : Disc) (p : Snapshot) : Type 0 where
  pub is-closed : session_closed d ≡ true
  pub clean : (m : List ℕ) → length m ≡ ledger_length → (after d m mount).answer ≡ 1
  pub mounts : (m : List ℕ) → length m ≡ ledger_length → DoneShowing d m mount p

-- What a closing leaves that is done in this world: there was a draft, and the disc shows it.
abbrev pub Closes : World → History → Type 0
Closes w h =
    (l : List ℕ) → w.ledger ≡ Some l → (main reserve : Extent) (start : ℕ) → outcome w.disc l (close_session main reserve start) ≡ 0
    → (p : Snapshot) × (h.draft ≡ Some p) × ClosedShowing (after w.disc l (close_session main reserve start)).disc p

-- 17, unless one of 1 to 5 comes first.
abbrev pub TurnedAway : ℕ → Type 0
TurnedAway n = (n ≡ 17) ⊎ ((0 < n) × (n ≤ 5))

-- A closing can be done: on the disc d a begin is done, and then a closing.
abbrev pub ClosesBlank : Disc → List ℕ → Type 0
ClosesBlank d l =
    (outcome d l begin ≡ 0)
    × ((main reserve : Extent) (start : ℕ) → start ≤ farthest_start → outcome (after d l begin).disc (after d l begin).ledger (close_session main reserve start) ≡ 0)

pub record ClosedDiscs : Type 0 where
  -- Blank discs of 257 sectors or more.
  pub on-blank : (image l : List ℕ) (n : ℕ) → closing_length < n → n ≤ most_sectors → length image ≡ sector_length * n → length l ≡ ledger_length
      → ClosesBlank (lent image (replicate n 0)) l
  pub after-begin : (d : Disc) (l : List ℕ) → outcome d l begin ≡ 0 → (es : List Event) → AllAllowed (after_call d l begin) es
      → Closes (runs (after_call d l begin) es) (remembers (after_call d l begin) begun_history es)
  pub after-mount : (d : Disc) (l : List ℕ) → outcome d l mount ≡ 0 → (es : List Event) → AllAllowed (after_call d l mount) es
      → Closes (runs (after_call d l mount) es) (remembers (after_call d l mount) (mounted_history d) es)
  pub turned-away : (d : Disc) → session_closed d ≡ true → (l : List ℕ) (c : Call) → may_record c ≡ true → TurnedAway (outcome d l c)
  pub unchanged : (w : World) → session_closed w.disc ≡ true → (es : List Event) → (runs w es).disc ≡ w.disc
