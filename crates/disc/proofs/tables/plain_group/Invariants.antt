-- `disc::tables::plain_group` meets its contract: while no sector is tagged, none of those looked at is a table.
-- Assumes nothing.
use Prim.Native.Nat.{ℕ, ◌+◌, ◌≤◌, ◌<◌}
use mathlib.Core.Path.{◌≡◌}
use mathlib.Core.Bool.{true, false}
use Rattle.disc.specs.Disc.{lent}
use Rattle.disc.specs.Tables.{table_at}
use Rattle.disc.proofs.tables.plain_group.Given as goal

abbrev pub invariant-loop-i : goal.invariant-loop-i
invariant-loop-i l = l.plain ≡ true → (c : ℕ) → l.b ≤ c → c < l.b + l.i → table_at (lent l.image l.kinds) c ≡ false
