-- `le::read64` meets its contract: two fields of 32 bits side by side are one of 64.
-- Assumes nothing.
use Prim.Native.Nat.{ℕ, ◌+◌, ◌*◌}
use mathlib.Core.Path.{◌∙◌, sym, ap₂}
use Rattle.le.proofs.Fields.{read-add}
use Rattle.le.proofs.read64.Goals as goal

pub returns : goal.returns
returns c =
    let a = c.args in
    c.join64.ensures ∙ ap₂ (λ (low high : ℕ). low + 4294967296 * high) c.read32.ensures c.read32-2.ensures
    ∙ sym (read-add 4 4 a.s.now a.at)
