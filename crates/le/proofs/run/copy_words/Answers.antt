-- `le::run::copy_words` meets its contract: the fields' bytes are those that stand in l.
-- Assumes nothing.
use Prim.Native.Nat.{◌+◌, ◌-◌, ◌*◌}
use native.Mathlib.Omega.{arith}
use mathlib.Core.Path.{◌≡◌}
use Rattle.le.proofs.Runs.{all-bytes, le_words-words}
use Rattle.le.proofs.run.copy_words.Goals as goal

pub returns : goal.returns
returns c =
    let a = c.args in
    let whole : a.from + 4 * a.n - a.from ≡ 4 * a.n = omega arith in
    rw (le_words-words a.n a.l.now a.from (all-bytes a.l.now (λ i. omega (arith, c.type_inv.l i))) c.requires.1, ← whole) c.put_text.ensures
