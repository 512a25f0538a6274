-- `crc::by_table` meets its contract: the table's rule is one test over the whole of it, computed here.
-- Assumes nothing.
use mathlib.Core.Path.{refl}
use Rattle.crc.specs.Crc.{byte_step, crc_from}
use Rattle.crc.proofs.Entries.{one-byte-sums}
use Rattle.crc.proofs.by_table.Goals as goal

pub sum-requires : goal.sum-requires
unfolding byte_step crc_from
sum-requires c =
    one-byte-sums _ refl tt
