-- `sector_log::release` meets its contract.
-- Assumes nothing.
use native.Mathlib.Omega.{arith}
use mathlib.Core.Path.{sym}
use Rattle.disc.specs.Disc.{lent}
use Rattle.volume.specs.Volume.{unpack}
use Rattle.volume.proofs.Standing.{entries-released}
use Rattle.recorder.proofs.Done.{ledger-accepted, release-done}
use Rattle.calls.proofs.Left.{release-left}
use Rattle.sector_log.proofs.Refused.{refused}
use Rattle.sector_log.proofs.release.Goals as goal

pub returns-in_err-release : goal.returns-in_err-release
returns-in_err-release c = refused _ _ _ _ _ c.in_err-release.ensures c.from_residual.ensures.1

pub load-requires : goal.load-requires
load-requires c = ledger-accepted _ _ _ (sym c.in_ok-release.ensures)

pub released-requires : goal.released-requires
released-requires c =
    let d = release-done _ _ _ (sym c.in_ok-release.ensures) in
    omega (arith, d.2, d.1.fit.few)

pub store_entry-requires : goal.store_entry-requires
store_entry-requires c =
    let d = release-done _ _ _ (sym c.in_ok-release.ensures) in (
      ledger-accepted _ _ _ (sym c.in_ok-release.ensures),
      omega (arith, d.2, d.1.fit.few),
      cc (entries-released (unpack c.args.ledger.now) c.args.v),
    )

pub returns : goal.returns
returns c = cc (release-left (lent c.args.image.now c.args.kinds.now) c.args.ledger.now c.args.v (sym c.in_ok-release.ensures))
