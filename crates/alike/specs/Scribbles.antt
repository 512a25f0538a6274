-- Lists of events between which bytes that mean nothing change (document 01: "Bytes of a sector whose kind is not 1 mean nothing."): what a program
-- leaves that stores a sector's bytes before it marks the sector as recorded, and stops in between. The claim about power cuts holds of them too.
use Rattle.std.specs.Prelude.{ℕ, List, [], ◌∷◌, ◌≡◌}
use Rattle.disc.specs.Disc.{Disc}
use Rattle.recorder.specs.Calls.{begin, mount}
use Rattle.recorder.specs.Refusals.{outcome}
use Rattle.alike.specs.Alike.{Alike}
use Rattle.history.specs.History.{History, feed}
use Rattle.history.specs.Events.{World, Event, Allowed, next, fed, after_call, begun_history, mounted_history}
use Rattle.history.specs.Claim.{Claim}

-- An event; or the disc is replaced by an alike one, of which the history is not told.
pub data Happening : Type 0 where
  event : Event → Happening
  scribble : Disc → Happening

abbrev pub on_disc : World → Disc → World
on_disc w d = record { disc = d; ledger = w.ledger }

unfoldable pub AllHappen : World → List Happening → Type 0
AllHappen w [] = Unit
AllHappen w (event e ∷ hs) = Allowed w e × AllHappen (next w e) hs
AllHappen w (scribble d ∷ hs) = Alike w.disc d × AllHappen (on_disc w d) hs

unfoldable pub ends : World → List Happening → World
ends w [] = w
ends w (event e ∷ hs) = ends (next w e) hs
ends w (scribble d ∷ hs) = ends (on_disc w d) hs

unfoldable pub recalls : World → History → List Happening → History
recalls w h [] = h
recalls w h (event e ∷ hs) = recalls (next w e) (feed h (fed w e)) hs
recalls w h (scribble d ∷ hs) = recalls (on_disc w d) h hs

-- Demand 3 of such lists.
pub record ScribbledPowerCuts : Type 0 where
  pub after-begin : (d : Disc) (l : List ℕ) → outcome d l begin ≡ 0
      → (hs : List Happening) → AllHappen (after_call d l begin) hs
      → Claim (ends (after_call d l begin) hs).disc (recalls (after_call d l begin) begun_history hs)
  pub after-mount : (d : Disc) (l : List ℕ) → outcome d l mount ≡ 0
      → (hs : List Happening) → AllHappen (after_call d l mount) hs
      → Claim (ends (after_call d l mount) hs).disc (recalls (after_call d l mount) (mounted_history d) hs)
