-- `sector_log::write` meets its contract.
-- Assumes nothing.
use Prim.Native.Nat.{ℕ, ◌≤◌, ◌<◌}
use native.Mathlib.Omega.{arith}
use mathlib.Core.Path.{sym, subst}
use mathlib.Core.List.{List}
use Rattle.std.specs.Prelude.{Option, None, Some, IfSome}
use Rattle.vat.specs.Table.{limit}
use Rattle.volume.specs.declared.Volume.{Volume}
use Rattle.volume.specs.Volume.{places, unpack}
use Rattle.volume.proofs.Standing.{entries-wrote, entries-unnumbered}
use Rattle.recorder.proofs.Done.{Writable, write_done}
use Rattle.calls.proofs.Left.{write-records, write-left}
use Rattle.sector_log.proofs.Refused.{refused}
use Rattle.sector_log.proofs.write.Goals as goal

-- a number that may be written has a place
may-take : (n : Option ℕ) (v : Volume) → Writable v n → v.size ≤ limit → IfSome n (λ k. (k < places) × (v.size ≤ limit))
may-take None v w few = tt
may-take (Some n) v w few = (omega (arith, w.0), few)

pub returns-in_err-write : goal.returns-in_err-write
returns-in_err-write c = refused _ _ _ _ _ c.in_err-write.ensures c.from_residual.ensures.1

pub record_block-b-requires : goal.record_block-b-requires
record_block-b-requires c = write-records _ _ _ _ (sym c.in_ok-write.ensures)

pub load-requires : goal.load-requires
load-requires c = (write-records _ _ _ _ (sym c.in_ok-write.ensures)).0

pub wrote-state-requires : goal.wrote-state-requires
wrote-state-requires c =
    let asked = write-records _ _ _ _ (sym c.in_ok-write.ensures) in
    let told = write_done _ _ _ _ (sym c.in_ok-write.ensures) in
    (subst (λ (v : Volume). IfSome c.args.v (λ k. (k < places) × (v.size ≤ limit))) (sym c.load.ensures) (may-take c.args.v (unpack c.args.ledger.now) told.writable told.fit.few), omega (arith, c.record_block-b.ensures.0, asked.2, asked.3))

pub store_entry-requires : goal.store_entry-requires
store_entry-requires c =
    let L : List ℕ = c.args.ledger.now in
    let done = sym c.in_ok-write.ensures in
    let told : Writable (unpack L) (Some c.in-Some.n) = subst (Writable (unpack L)) c.in-Some.is (write_done _ _ _ _ done).writable in
    ((write-records _ _ _ _ done).0, omega (arith, told.0), cc (entries-wrote (unpack L) c.in-Some.n c.record_block-b.result))

pub store_fields-requires : goal.store_fields-requires
store_fields-requires c = ((write-records _ _ _ _ (sym c.in_ok-write.ensures)).0, cc (entries-unnumbered (unpack c.args.ledger.now) c.record_block-b.result))

pub returns-in-Some : goal.returns-in-Some
returns-in-Some c = write-left _ _ _ _ (sym c.in_ok-write.ensures) c.record_block-b.ensures.0 c.record_block-b.ensures.1 cc

pub returns-in-None : goal.returns-in-None
returns-in-None c = write-left _ _ _ _ (sym c.in_ok-write.ensures) c.record_block-b.ensures.0 c.record_block-b.ensures.1 cc
