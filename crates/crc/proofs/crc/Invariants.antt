-- `crc::crc` meets its contract: the four words, carried over the bytes that are left, give the answer.
-- Assumes nothing.
use Prim.Native.Nat.{◌+◌, ◌*◌, ◌%◌}
use mathlib.Core.Path.{◌≡◌}
use lib.ListN.{length, drop}
use Rattle.crc.specs.Crc.{crc_from, crc_of}
use Rattle.crc.proofs.Folding.{four}
use Rattle.crc.proofs.crc.Given as goal

abbrev pub invariant-loop-word : goal.invariant-loop-word
invariant-loop-word l = crc_from (four l.a l.b l.c l.d) (drop (length l.s % 8 + 8 * l.word-index) l.s) ≡ crc_of l.s
