-- `disc::kinds::stands` meets its contract: the recorded kind keeps the first blank sector from lying before, the blank one from lying behind.
-- Assumes nothing.
use Rattle.std.proofs.Common.{arith, ◌-◌}
use Rattle.std.proofs.Common.{get_or}
use borrow.Author.Tests.{eqb-true}
use Rattle.disc.proofs.Recording.{leading_le}
use Rattle.disc.proofs.Order.{leading-at-blank, leading-past-recorded}
use Rattle.disc.proofs.kinds.stands.Goals as goal

pub returns-then-at-end : goal.returns-then-at-end
returns-then-at-end c e =
    let ks = c.args.kinds.now in
    (omega arith, λ o. (let before = leading-past-recorded ks (c.args.at - 1) o c.if-kinds-at.false in omega (arith, before, leading_le ks)))

pub returns-else-at-end : goal.returns-else-at-end
returns-else-at-end c e =
    let ks = c.args.kinds.now in
    let behind = leading-at-blank ks c.args.at (eqb-true (get_or ks c.args.at 0) 0 e) in
    (omega arith, λ o. (let before = leading-past-recorded ks (c.args.at - 1) o c.if-kinds-at.false in omega (arith, before, behind)))
