-- `disc::own::names_other` meets its contract: the own sector has its previous table there, and would be found with it.
-- Assumes nothing.
use Prim.Native.Nat.{ℕ, ◌+◌, ◌-◌, ◌*◌}
use native.Mathlib.Omega.{arith}
use mathlib.Core.Path.{◌∙◌}
use lib.Dec.{eqb}
use borrow.Author.Tests.{eqb-false, not-true}
use Rattle.le.specs.Field.{words}
use Rattle.le.proofs.Runs.{length-words}
use Rattle.vat.specs.Table.{sector_length}
use Rattle.disc.proofs.Fresh.{other-named}
use Rattle.disc.proofs.own.names_other.Goals as goal

pub returns : goal.returns
returns c map e =
    let a = c.args in
    let k : ℕ = 4 * a.n + 32 - sector_length * a.i in
    other-named a.image.now (words a.n map 0) a.at a.previous a.i k (omega arith) (rw (length-words a.n map 0) (omega arith)) (omega arith)
    (λ z. eqb-false c.read32.result a.previous (not-true (eqb c.read32.result a.previous) e) (c.read32.ensures ∙ z))
