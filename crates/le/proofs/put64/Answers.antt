-- `le::put64` meets its contract: the number's bytes, low byte first, are those of the definition.
-- Assumes nothing.
use native.Mathlib.Nat.{div-div-eq-div-mul}
use mathlib.Core.Path.{ap, ◌∙◌}
use lib.Seq.{sets}
use Rattle.le.specs.Field.{le}
use Rattle.le.proofs.put64.Goals as goal

pub returns : goal.returns
unfolding le
returns c =
    simp div-div-eq-div-mul (c.put_text.ensures ∙ ap (sets c.args.s.now c.args.at) c.to_le_bytes.ensures)
