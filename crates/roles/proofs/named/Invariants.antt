-- `roles::named` meets its contract: what was found so far, and what is left of both halves of the map, make the answer.
-- Assumes nothing.
use mathlib.Core.Path.{◌≡◌}
use mathlib.Core.Bool.{not}
use Rattle.le.specs.Bytes.{every}
use Rattle.le.proofs.Halves.{left_of}
use Rattle.volume.specs.Volume.{unpack, map_of}
use Rattle.roles.proofs.Roles.{differs}
use Rattle.roles.proofs.named.Given as goal

abbrev pub invariant-loop-n : goal.invariant-loop-n
invariant-loop-n l = left_of (differs l.b) (map_of (unpack l.ledger)) l.half l.turns l.n (not l.found) ≡ every (differs l.b) (map_of (unpack l.ledger))
