-- The refusals' numbers, and the answers that have them.
-- Assumes nothing.
use Prim.Native.Nat.{ℕ, ◌+◌, ◌*◌, ◌<◌, ◌≤◌}
use native.Mathlib.Omega.{arith}
use Rattle.recorder.specs.declared.Refusal.{Refusal}
use Rattle.recorder.specs.declared.Refusal.TheVariants.{DiscSize, LentLength, DiscUnsound, LedgerUnfit, ReadOnly, VatExists, NoVat, ChainBroken, ChainEnded, NotInUse, Unreadable, AboveSize, AboveLimit, NoRoom, WouldBeVat, BadTimestamp, SessionClosed, PartitionStart, NotARun, BeyondTheRun}
use Rattle.recorder.specs.Refused.{number, answer_of}
use Rattle.std.specs.Prelude.{Err}

pub number-above : (r : Refusal) → 0 < number r
number-above DiscSize = omega arith
number-above LentLength = omega arith
number-above DiscUnsound = omega arith
number-above LedgerUnfit = omega arith
number-above ReadOnly = omega arith
number-above VatExists = omega arith
number-above NoVat = omega arith
number-above ChainBroken = omega arith
number-above ChainEnded = omega arith
number-above NotInUse = omega arith
number-above Unreadable = omega arith
number-above AboveSize = omega arith
number-above AboveLimit = omega arith
number-above NoRoom = omega arith
number-above WouldBeVat = omega arith
number-above BadTimestamp = omega arith
number-above SessionClosed = omega arith
number-above PartitionStart = omega arith
number-above NotARun = omega arith
number-above BeyondTheRun = omega arith

-- A refusal is told by an answer from 4,294,967,296 on.
pub refusal-high : (r : Refusal) → 4294967296 ≤ number r * 4294967296
refusal-high r = omega (arith, number-above r)
