-- `crc::head` meets its contract: what is read so far is the number of the bytes so far.
-- Assumes nothing.
use Prim.Native.Nat.{◌%◌}
use mathlib.Core.Path.{◌≡◌}
use Rattle.crc.specs.Number.{number_at}
use Rattle.crc.proofs.head.Given as goal

abbrev pub invariant-loop-byte : goal.invariant-loop-byte
invariant-loop-byte l = l.x ≡ number_at l.s 0 l.byte-index % 18446744073709551616
