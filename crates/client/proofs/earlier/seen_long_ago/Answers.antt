-- `client::earlier::seen_long_ago` meets its contract: a look back, which is done, then a view.
-- Assumes nothing.
use Prim.Native.Nat.{ℕ}
use native.Mathlib.Omega.{arith}
use mathlib.Core.Path.{sym, ap, ◌∙◌}
use Rattle.disc.specs.Disc.{Disc, lent}
use Rattle.recorder.specs.Calls.{look_back}
use Rattle.recorder.specs.Effects.{After, after}
use Rattle.recorder.proofs.Refused.{number-above}
use Rattle.archive.specs.Earlier.{seen_back}
use Rattle.alike.proofs.Views.{mean-nothing}
use Rattle.client.specs.Day.{saves_among}
use Rattle.client.proofs.Days.{without-roles}
use Rattle.client.proofs.Since.{saved-there}
use Rattle.client.proofs.Runs.{seen-since, looks-back, seen_alike, seen-given}
use Rattle.client.proofs.earlier.seen_long_ago.Goals as goal

pub returns-in_err-look_back : goal.returns-in_err-look_back
returns-in_err-look_back c =
    let d : Disc = lent c.args.image.now c.args.kinds.now in
    λ x fresh before since call then ok is-save all counted there fit long then-long.
    let done = looks-back _ _ ok _ _ _ (saved-there _ _ ok before since call is-save all) all _ long in
    let alike = (mean-nothing.calls _ d there c.args.ledger.now (look_back (saves_among since))).same_answer in
    let steps = ap (λ (n : ℕ). (after d c.args.ledger.now (look_back n)).answer) counted in
    let told = ap (λ (y : After). y.answer) (without-roles _ _ _ _ fit c.in_err-look_back.ensures) in
    absurd (omega (arith, done, alike, steps, told, number-above c.in_err-look_back.field-0.0))

pub returns : goal.returns
returns c =
    let a = c.args in
    let d : Disc = lent a.image.now a.kinds.now in
    λ x fresh before since call then ok is-save all counted there fit long then-long.
    seen-given _ _ _ _ fit _ _ _ _ c.in_ok-look_back.ensures c.view.ensures
    ∙ ap (λ (n : ℕ). seen_back d a.ledger.now n a.v a.offset a.out.now) (sym counted)
    ∙ sym (seen_alike _ _ there _ _ _ _ _)
    ∙ seen-since _ _ ok _ _ _ (saved-there _ _ ok before since call is-save all) _ _ long then-long _ _ _
