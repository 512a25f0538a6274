-- `disc::own::OwnTable::copied` meets its contract: the pieces so far, and then those that are left, are all entries.
-- Assumes nothing.
use Rattle.std.proofs.Common.{◌≡◌, ◌+◌, ◌*◌, ◌%◌, length}
use Rattle.std.proofs.lemmas.List.Edits.{sets}
use Rattle.le.specs.Field.{words, le_words}
use Rattle.disc.specs.Own.{own_bytes}
use Rattle.disc.proofs.own.OwnTable.copied.Given as goal

abbrev pub invariant-loop-left : goal.invariant-loop-left
invariant-loop-left l =
    (length l.l ≡ length l.initial.l)
    × (l.j + 4 * l.left ≡ 4 * l.n)
    × (l.j % 4 ≡ 0)
    × (sets l.l l.j (le_words (words l.left (own_bytes l.self) l.j)) ≡ sets l.initial.l 0 (le_words (words l.n (own_bytes l.self) 0)))

abbrev pub decreases-loop-left : goal.decreases-loop-left
decreases-loop-left l = l.left
