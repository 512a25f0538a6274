-- `vat::sector::put_descriptors` meets its contract: the descriptors that are left, put from here, give the whole.
-- Assumes nothing.
use Prim.Native.Nat.{◌+◌, ◌-◌, ◌*◌}
use native.Mathlib.Omega.{arith}
use mathlib.Core.Path.{◌≡◌, sym, ◌∙◌}
use Rattle.vat.specs.Table.{sector_length, table_start}
use Rattle.vat.proofs.Described.{descriptor-put, none-put}
use Rattle.vat.proofs.sector.put_descriptors.Goals as goal

pub loop-i-preserved : goal.loop-i-preserved
loop-i-preserved c =
    let l = c.loop-i in
    let blocks = c.args.blocks.now in
    let next : table_start 0 + 8 * (l.i + 1) ≡ table_start 0 + 8 * l.i + 8 = omega arith in
    let full : c.min-length.result + (l.left - sector_length) ≡ l.left = omega arith in (
      omega arith,
      rw (next, c.put32-in-loop-i.ensures, c.put32.ensures) (descriptor-put l.s blocks (table_start 0 + 8 * l.i) l.i l.left c.min-length.result (omega arith) full (omega arith) (omega arith) ∙ l.invariant.1),
    )

pub returns : goal.returns
returns c =
    let l = c.loop-i in
    sym (none-put l.s c.args.blocks.now (table_start 0 + 8 * l.i) l.left l.i (omega arith)) ∙ l.invariant.1
