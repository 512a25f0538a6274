-- `sector_log::close_packet` meets its contract.
-- Assumes nothing.
use mathlib.Core.Path.{sym}
use Rattle.disc.specs.Disc.{lent}
use Rattle.volume.specs.Volume.{unpack}
use Rattle.volume.proofs.Standing.{entries-closed}
use Rattle.recorder.proofs.Done.{ledger-accepted}
use Rattle.calls.proofs.Left.{close-left}
use Rattle.sector_log.proofs.Refused.{refused}
use Rattle.sector_log.proofs.close_packet.Goals as goal

pub returns-in_err-close_packet : goal.returns-in_err-close_packet
returns-in_err-close_packet c = refused _ _ _ _ _ c.in_err-close_packet.ensures c.from_residual.ensures.1

pub load-requires : goal.load-requires
load-requires c = ledger-accepted _ _ _ (sym c.in_ok-close_packet.ensures)

pub store_fields-requires : goal.store_fields-requires
store_fields-requires c = (ledger-accepted _ _ _ (sym c.in_ok-close_packet.ensures), cc (entries-closed (unpack c.args.ledger.now)))

pub returns : goal.returns
returns c = cc (close-left (lent c.args.image.now c.args.kinds.now) c.args.ledger.now (sym c.in_ok-close_packet.ensures))
