-- The refusals by name, and what a call answers with one of them or without (document 01, 'Refusals, by who causes them', and document 02).
use Rattle.std.specs.Prelude.{ℕ, ◌*◌, List, Option, None, Some, Result, Ok, Err}
use denote.Bor.{Bor}
use Rattle.disc.specs.declared.Stop.{Stop}
use Rattle.disc.specs.declared.Stop.TheVariants.{Broken, Ended}
use Rattle.recorder.specs.declared.Refusal.{Refusal}
use Rattle.recorder.specs.declared.Refusal.TheVariants.{DiscSize, LentLength, DiscUnsound, LedgerUnfit, ReadOnly, VatExists, NoVat, ChainBroken, ChainEnded, NotInUse, Unreadable, AboveSize, AboveLimit, NoRoom, WouldBeVat, BadTimestamp, SessionClosed, PartitionStart, NotARun, BeyondTheRun}

abbrev pub number : Refusal → ℕ
number DiscSize = 1
number LentLength = 2
number DiscUnsound = 3
number LedgerUnfit = 4
number ReadOnly = 5
number VatExists = 6
number NoVat = 7
number ChainBroken = 8
number ChainEnded = 9
number NotInUse = 10
number Unreadable = 11
number AboveSize = 12
number AboveLimit = 13
number NoRoom = 14
number WouldBeVat = 15
number BadTimestamp = 16
number SessionClosed = 17
number PartitionStart = 18
number NotARun = 19
number BeyondTheRun = 20

-- A walk back that fails gives 8 or 9.
abbrev pub walk_refused : Stop → Refusal
walk_refused Broken = ChainBroken
walk_refused Ended = ChainEnded

-- The outcome: 0 done, else the refusal.
abbrev pub outcome_of : {A : Type 0} → Result A Refusal → ℕ
outcome_of (Ok done) = 0
outcome_of (Err refusal) = number refusal

-- "outcome × 4,294,967,296 + second number", where "a refusal's second number is 0".
abbrev pub answer_of : Result ℕ Refusal → ℕ
answer_of (Ok second) = second
answer_of (Err refusal) = number refusal * 4294967296

-- The timestamp that a commit is lent, or none.
abbrev pub stamp_given : Option (Bor (List ℕ)) → Option (List ℕ)
stamp_given None = None
stamp_given (Some stamp) = Some stamp.now
