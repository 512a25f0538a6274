-- `le::run::holds_text` meets its contract: the part of s that is compared stands where the text is looked for.
-- Assumes nothing.
use mathlib.Core.Path.{◌∙◌}
use native.Mathlib.Omega.{arith}
use Rattle.le.proofs.Runs.{text-part}
use Rattle.le.proofs.run.holds_text.Goals as goal

pub returns : goal.returns
returns c =
    let a = c.args in
    c.eq.ensures ∙ text-part a.text.now a.s.now a.at _ (omega arith) c.requires
