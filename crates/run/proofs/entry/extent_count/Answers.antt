-- `run::entry::extent_count` meets its contract: one field, of which the descriptors take eight bytes each.
-- Assumes nothing.
use Prim.Native.Nat.{ℕ, ◌/◌}
use mathlib.Core.Path.{ap}
use Rattle.run.specs.Entry.{extent_count}
use Rattle.run.proofs.entry.extent_count.Goals as goal

pub returns : goal.returns
unfolding extent_count
returns c =
    ap (λ (n : ℕ). n / 8) c.read32.ensures
