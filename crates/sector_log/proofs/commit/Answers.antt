-- `sector_log::commit` meets its contract.
-- Assumes nothing.
use Prim.Native.Nat.{ℕ}
use denote.Bor.{Bor}
use mathlib.Core.Path.{◌≡◌, refl, sym, ap, ◌∙◌}
use mathlib.Core.List.{List}
use Rattle.std.specs.Prelude.{Option, None, Some}
use Rattle.std.specs.Option.{unwrap_or}
use Rattle.recorder.specs.Calls.{stamp_of}
use Rattle.recorder.specs.Refused.{stamp_given}
use Rattle.vat.specs.Sector.{no_stamp}
use Rattle.calls.proofs.Left.{commit-saves, commit-left}
use Rattle.sector_log.proofs.Refused.{refused}
use Rattle.sector_log.proofs.commit.Goals as goal

-- the timestamp lent, or zeros without one
given : (stamp : Option (Bor (List ℕ))) (none s : Bor (List ℕ)) → s ≡ unwrap_or stamp none → none.now ≡ no_stamp → s.now ≡ stamp_of (stamp_given stamp)
given None none s e zeros = ap (λ (b : Bor (List ℕ)). b.now) e ∙ zeros
given (Some stamp) none s e zeros = ap (λ (b : Bor (List ℕ)). b.now) e

pub returns-in_err-commit : goal.returns-in_err-commit
returns-in_err-commit c = refused _ _ _ _ _ c.in_err-commit.ensures c.from_residual.ensures.1

pub save-requires : goal.save-requires
save-requires c =
    let t = commit-saves _ _ _ (sym c.in_ok-commit.ensures) in
    let v = t.0 in
    rw (given c.args.stamp _ _ c.unwrap_or-given.ensures refl) (v.0, v.1, v.2, v.3, v.4, v.5, t.1, t.2)

pub returns : goal.returns
returns c =
    let saved = c.save.ensures in
    commit-left _ _ _ (sym c.in_ok-commit.ensures) (rw (given c.args.stamp _ _ c.unwrap_or-given.ensures refl) at saved)
