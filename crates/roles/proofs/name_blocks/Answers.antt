-- `roles::name_blocks` meets its contract: the roles so far are those with the entries so far as the map.
-- Assumes nothing.
use Prim.Native.Nat.{ℕ, ◌≤◌}
use native.Mathlib.Omega.{arith}
use lib.ListN.{take}
use Rattle.vat.specs.Table.{limit}
use Rattle.volume.specs.Volume.{unpack}
use Rattle.roles.proofs.Naming.{map-suc}
use Rattle.roles.proofs.name_blocks.Goals as goal

pub loop-n-preserved : goal.loop-n-preserved
loop-n-preserved c d e =
    let n : ℕ = c.loop-n.n in
    let few : c.size-size.result ≤ limit = rw c.size-size.ensures c.requires.1 in
    rw (map-suc c.args.ledger.now n (omega (arith, few)), ← c.entry.ensures) (c.name_block.ensures d (take n (unpack c.args.ledger.now).entries) (c.loop-n.invariant d e))
