-- `roles::let_go` meets its contract: the byte is stored only where the block is in use and no number names it.
-- Assumes nothing.
use mathlib.Core.Path.{sym, ◌∙◌}
use Rattle.roles.proofs.Naming.{let-go-beyond, let-go-other, let-go-named, let-go-now}
use Rattle.roles.proofs.let_go.Goals as goal
use Rattle.roles.proofs.let_go.Goals.{else-place-roles-via-then-place-roles+then-roles-place+else-not-named, else-place-roles-via-then-place-roles+else-roles-place, else-place-roles-via-else-place-roles}

pub returns-then-not-named : goal.returns-then-not-named
returns-then-not-named c =
    let a = c.args in
    sym (let-go-now a.ledger.now a.b a.roles.now c.if-place-roles.true c.if-roles-place.true (sym c.named.ensures ∙ c.if-not-named.true))

pub returns-else-place-roles : goal.returns-else-place-roles
returns-else-place-roles c =
    let a = c.args in
    sym (elim c.else-place-roles.branch [
      | else-place-roles-via-then-place-roles+then-roles-place+else-not-named w ↦ let-go-named a.ledger.now a.b a.roles.now (sym w.named.ensures ∙ w.if-not-named.false)
      | else-place-roles-via-then-place-roles+else-roles-place w ↦ let-go-other a.ledger.now a.b a.roles.now w.if-place-roles.true w.if-roles-place.false
      | else-place-roles-via-else-place-roles w ↦ let-go-beyond a.ledger.now a.b a.roles.now w.if-place-roles.false
    ])
