-- `roles::name_blocks` meets its contract: the roles so far are those with the entries so far as the map.
-- Assumes nothing.
use mathlib.Core.Path.{◌≡◌}
use mathlib.Core.List.{[]}
use lib.ListN.{take}
use Rattle.disc.specs.Disc.{Disc}
use Rattle.volume.specs.Volume.{unpack}
use Rattle.roles.specs.Roles.{roles_of}
use Rattle.roles.proofs.name_blocks.Given as goal

abbrev pub invariant-loop-n : goal.invariant-loop-n
invariant-loop-n l = (d : Disc) → l.initial.roles ≡ roles_of d [] [] → l.roles ≡ roles_of d (take l.n (unpack l.ledger).entries) []
