-- What a host learns from the roles: where the space went (document 02, R-7: "Operators see a full disc with few runs on it").
use Rattle.std.specs.Prelude.{ℕ, Bool, true, ◌&&◌, not, List, ◌∷◌, ◌≡◌, eqb}
use Rattle.disc.specs.Disc.{kind_at}
use Rattle.volume.specs.Volume.{unpack, map_of}
use Rattle.recorder.specs.Calls.{Call, restores}
use Rattle.roles.specs.Roles.{names, of_table}
use Rattle.roles.specs.Keeping.{outcome_roles}
use Rattle.space.specs.Space.{Lent, leaves_all}

-- The roles that a host's calls left: a begin, mount or look back that was done, whatever was lent to it, and whatever calls followed, done or refused.
pub record RolesLeft (s : Lent) (c : Call) (cs : List Call) (roles : List ℕ) : Type 0 where
  pub restoring : restores c ≡ true
  pub is-done : outcome_roles s.disc s.roles s.ledger c ≡ 0
  pub all_left : (leaves_all s (c ∷ cs)).roles ≡ roles

-- Block b is data and no table's, and the ledger's map names it.
abbrev pub holding : Lent → ℕ → Bool
holding s b = eqb (kind_at s.disc b) 1 && (not (of_table s.disc b) && names (map_of (unpack s.ledger)) b)
