-- `sector_log::mount` meets its contract.
-- Assumes nothing.
use Prim.Native.Nat.{ℕ, ◌+◌}
use native.Mathlib.Omega.{arith}
use mathlib.Core.Path.{◌≡◌, refl, sym}
use mathlib.Core.Bool.{Bool, true, false}
use mir.Val.{bool_byte}
use lib.Dec.{eqb}
use Rattle.disc.specs.Disc.{Disc, lent, recorded}
use Rattle.disc.specs.Tables.{table_at}
use Rattle.disc.proofs.Recording.{sound-sized, leading_le}
use Rattle.disc.proofs.Found.{newest-table, newest-below}
use Rattle.recorder.specs.Effects.{clean_number}
use Rattle.recorder.proofs.Done.{ledger-accepted, mount-done}
use Rattle.calls.proofs.Left.{mount-left}
use Rattle.sector_log.proofs.Refused.{refused}
use Rattle.sector_log.proofs.mount.Goals as goal

-- the number of a test
byte : (t : Bool) → bool_byte t ≡ clean_number t
byte true = refl
byte false = refl

pub returns-in_err-plan : goal.returns-in_err-plan
returns-in_err-plan c = refused _ _ _ _ _ c.in_err-plan.ensures.outcome c.from_residual.ensures.1

pub show-requires : goal.show-requires
show-requires c =
    let D : Disc = lent c.args.image.now c.args.kinds.now in
    let done = sym c.in_ok-plan.ensures.outcome in
    (ledger-accepted _ _ _ done, sound-sized D (mount-done _ _ done).0, newest-table (table_at D) (recorded D) _ c.in_ok-plan.ensures.found.1)

pub overflow_add-plan : goal.overflow_add-plan
overflow_add-plan c =
    let D : Disc = lent c.args.image.now c.args.kinds.now in
    omega (arith, newest-below (table_at D) (recorded D) _ c.in_ok-plan.ensures.found.1, leading_le D.kinds, (mount-done _ _ (sym c.in_ok-plan.ensures.outcome)).0.few)

pub returns : goal.returns
returns c =
    let found = c.in_ok-plan.ensures.found in
    let b : ℕ = c.in_ok-plan.plan.block in
    cc (mount-left _ c.args.ledger.now b (sym c.in_ok-plan.ensures.outcome) found.1, found.0, byte (eqb (b + 1) c.in_ok-plan.plan.recorded))
