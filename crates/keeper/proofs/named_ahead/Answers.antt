-- `keeper::named_ahead` meets its contract: beyond the ledger's places an entry is unused.
-- Assumes nothing.
use Prim.Native.Nat.{ℕ}
use native.Mathlib.Omega.{arith}
use mathlib.Core.Logic.{inl, inr}
use mathlib.Core.Path.{sym, ap, ◌∙◌}
use mathlib.Core.List.{List}
use lib.ListN.{get_or-eq_default}
use Rattle.vat.specs.Table.{unused}
use Rattle.volume.specs.Volume.{unpack}
use Rattle.volume.proofs.State.{long-unpack}
use Rattle.roles.specs.Keeping.{named_before}
use Rattle.keeper.proofs.named_ahead.Goals as goal

pub returns-then-ledger-ne-LEDGER : goal.returns-then-ledger-ne-LEDGER
returns-then-ledger-ne-LEDGER c =
    let L : List ℕ = c.args.ledger.now in
    elim c.then-ledger-ne-LEDGER.either [
      | inl h ↦ λ long. absurd (h long)
      | inr h ↦ λ long. sym (ap (named_before (unpack L)) c.in-Some.is ∙ get_or-eq_default (unpack L).entries unused (omega (arith, long-unpack L, h.1)))
    ]
