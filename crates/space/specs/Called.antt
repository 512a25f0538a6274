-- What the exported calls leave, which are lent roles, and what the claims about lists of calls speak of: such a call is refused for its lengths and alters
-- nothing, or it answers and leaves what it does without roles, whatever bytes these hold.
use Rattle.std.specs.Prelude.{ℕ, ◌*◌, List, [], map, ◌⊎◌, ◌≡◌, length}
use Rattle.std.specs.Prelude.{Some}
use Rattle.disc.specs.Disc.{Disc}
use Rattle.recorder.specs.Calls.{Call, buffer_of}
use Rattle.recorder.specs.Effects.{after}
use Rattle.roles.specs.Keeping.{after_roles}
use Rattle.history.specs.Events.{World, Event, calls, AllAllowed, runs}
use Rattle.space.specs.Space.{Lent, leaves_all}

-- 1, or 2 for the roles: "a lent role buffer of another length than the kinds gives 2".
abbrev pub RefusedForLengths : Disc → List ℕ → List ℕ → Call → Type 0
RefusedForLengths d roles l c =
    (n : ℕ) × ((n ≡ 1) ⊎ (n ≡ 2))
    × (after_roles d roles l c ≡ record { call = record { answer = n * 4294967296; disc = d; ledger = l; buffer = buffer_of c }; roles = roles })

-- The calls as events of a list, on the disc and the ledger.
abbrev pub as_events : List Call → List Event
as_events cs = map (λ c. calls c []) cs

abbrev pub world_of : Lent → World
world_of s = record { disc = s.disc; ledger = Some s.ledger }

pub record AsWithoutRoles : Type 0 where
  pub each-call : (d : Disc) (roles l : List ℕ) (c : Call) → RefusedForLengths d roles l c ⊎ ((after_roles d roles l c).call ≡ after d l c)
  -- as many roles as kinds: the second of these
  pub as_many : (d : Disc) (roles l : List ℕ) (c : Call) → length roles ≡ length d.kinds → (after_roles d roles l c).call ≡ after d l c
  -- and what such calls leave is what an allowed list of events leaves
  pub lists : (s : Lent) (cs : List Call) → length s.roles ≡ length s.disc.kinds
      → AllAllowed (world_of s) (as_events cs) × (world_of (leaves_all s cs) ≡ runs (world_of s) (as_events cs))
