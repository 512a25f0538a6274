-- `run::entry::laid` meets its contract: those before are laid, and those that are left settle the answer.
-- Assumes nothing.
use native.Mathlib.Omega.{arith}
use mathlib.Core.Path.{◌≡◌}
use mathlib.Core.List.{[]}
use borrow.Author.Rules.{rules}
use Rattle.extent.proofs.Extents.{extents_left, none_left}
use Rattle.run.specs.Entry.{descriptors_at, laid}
use Rattle.run.proofs.Extents.{laid-taken}
use Rattle.run.proofs.entry.laid.Goals as goal

pub returns-then-not-whole : goal.returns-then-not-whole
returns-then-not-whole c =
    let a = c.args in
    rw (← c.loop-i.invariant, laid-taken a.kinds.now a.b a.s.now a.n c.loop-i.i c.extent-e.result (omega arith) c.extent-e.ensures) (search rules)

pub loop-i-preserved : goal.loop-i-preserved
loop-i-preserved c =
    let a = c.args in
    rw (← c.loop-i.invariant, laid-taken a.kinds.now a.b a.s.now a.n c.loop-i.i c.extent-e.result (omega arith) c.extent-e.ensures) (search rules)

pub returns : goal.returns
unfolding laid
returns c =
    let a = c.args in
    let none : extents_left a.s.now descriptors_at a.n c.loop-i.i ≡ [] = none_left a.s.now descriptors_at a.n c.loop-i.i (omega arith) in
    rw none at c.loop-i.invariant
