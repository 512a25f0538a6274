-- `roles::name_block` meets its contract: only a block that was superseded comes into use.
-- Assumes nothing.
use borrow.Author.Rules.{rules}
use Rattle.roles.proofs.Naming.{named-now, named-already}
use Rattle.roles.proofs.name_block.Goals as goal

pub returns-then-roles-place : goal.returns-then-roles-place
returns-then-roles-place c d map e =
    named-now d map c.args.b c.args.roles.now e c.if-place-roles.true c.if-roles-place.true

pub returns-else-place-roles : goal.returns-else-place-roles
returns-else-place-roles c d map e =
    named-already d map c.args.b c.args.roles.now e (λ h was. search rules)
