-- A save, and whatever happens since that makes no save.
--     whatever-reads   what was saved is read
-- Assumes nothing.
use Prim.Native.Nat.{ℕ, ◌<◌}
use mathlib.Core.Path.{◌≡◌, refl, subst, subst₂}
use mathlib.Core.Bool.{Bool}
use mathlib.Core.List.{List, [], ◌∷◌}
use Rattle.std.specs.Prelude.{Option, Some}
use lib.ListN.{length}
use Rattle.vat.specs.Table.{sector_length}
use Rattle.disc.specs.Disc.{Disc}
use Rattle.volume.specs.Volume.{ledger_length}
use Rattle.recorder.specs.Calls.{Call, mount, write, commit}
use Rattle.alike.specs.Alike.{Alike}
use Rattle.alike.specs.Scribbles.{Happening, event, scribble, AllHappen, ends, recalls}
use Rattle.history.specs.History.{History, feed}
use Rattle.history.specs.Events.{World, Event, AllAllowed, next, fed, runs, remembers}
use Rattle.history.specs.Claim.{Mounts, Claim}
use Rattle.client.specs.Day.{Day, day, AllDone, opening, world, NoSave}
use Rattle.client.proofs.Days.{Fit}
use Rattle.client.proofs.Claimed.{remembered, claim-behind}
use Rattle.client.proofs.Saves.{first-there}
use Rattle.client.proofs.Shown.{Reads, mount-reads}

-- the events, and then other bytes that mean nothing
abbrev heard : List Event → Disc → List Happening
heard [] d = scribble d ∷ []
heard (e ∷ es) d = event e ∷ heard es d

all-happen : (es : List Event) (w : World) (d : Disc) → AllAllowed w es → Alike (runs w es).disc d → AllHappen w (heard es d)
unfolding AllAllowed runs AllHappen
all-happen [] w d a alike = (alike, tt)
all-happen (e ∷ es) w d a alike = (a.0, all-happen es (next w e) d a.1 alike)

ends_there : (es : List Event) (w : World) (d : Disc) → (ends w (heard es d)).disc ≡ d
unfolding ends
ends_there [] w d = refl
ends_there (e ∷ es) w d = ends_there es (next w e) d

recalls-all : (es : List Event) (w : World) (h : History) (d : Disc) → recalls w h (heard es d) ≡ remembers w h es
unfolding recalls remembers
recalls-all [] w h d = refl
recalls-all (e ∷ es) w h d = recalls-all es (next w e) (feed h (fed w e)) d

module _ (x : Day) (fresh : Bool) (ok : x.answer < 4294967296) (v : ℕ) (stamp : Option (List ℕ)) (block : List ℕ) (since : List Event) where
  abbrev calls-made : List Call
  calls-made = write (Some v) block ∷ commit stamp ∷ []

  abbrev left_behind : World
  left_behind = world (day x (opening fresh ∷ calls-made))

  pub whatever-reads : AllDone x (opening fresh ∷ calls-made) → AllAllowed left_behind since → NoSave left_behind since
      → (y : Day) (out : List ℕ) → y.answer < 4294967296 → Fit y → Alike (runs left_behind since).disc y.disc → length y.ledger ≡ ledger_length → length out ≡ sector_length
      → Reads y mount v out 0 block
  whatever-reads a allowed no-save y out y-ok fit alike long whole =
      let h : History = remembered x fresh calls-made in
      let claim : Claim y.disc (remembers left_behind h since) =
      subst₂ Claim (ends_there since left_behind y.disc) (recalls-all since left_behind h y.disc)
      (claim-behind x fresh ok calls-made a (heard since y.disc) (all-happen since left_behind y.disc allowed alike)) in
      mount-reads y y-ok fit v out whole (subst (Mounts y.disc y.ledger) (no-save h) (claim.mounts y.ledger long)) (first-there x fresh ok v block (commit stamp ∷ []) a)
