-- `crc::sum` meets its contract: the CRC so far and the bytes that are left give the answer.
-- Assumes nothing.
use Prim.Native.Nat.{◌-◌, ◌*◌}
use mathlib.Core.Path.{◌≡◌}
use lib.Bits.{bit_xor}
use Rattle.crc.specs.Number.{crc_of_number, zero_bits}
use Rattle.crc.proofs.sum.Given as goal

abbrev pub invariant-loop-byte : goal.invariant-loop-byte
invariant-loop-byte l = bit_xor (zero_bits (8 * (8 - l.byte-index)) l.c) (crc_of_number (8 * (8 - l.byte-index)) l.x) ≡ crc_of_number 64 l.x
