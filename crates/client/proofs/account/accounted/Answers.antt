-- `client::account::accounted` meets its contract: the six counts, added up.
-- Assumes nothing.
use Prim.Native.Nat.{◌+◌}
use native.Mathlib.Omega.{arith}
use mathlib.Core.Path.{◌≡◌, ◌∙◌}
use Rattle.space.specs.Space.{recorded_roles}
use Rattle.client.proofs.Counted.{most-counted, all-accounted}
use Rattle.client.proofs.account.accounted.Goals as goal

pub overflow_add-result : goal.overflow_add-result
overflow_add-result c = omega (arith, most-counted c.args.roles.now)

pub overflow_add-result-2 : goal.overflow_add-result-2
overflow_add-result-2 c = omega (arith, most-counted c.args.roles.now)

pub overflow_add-result-3 : goal.overflow_add-result-3
overflow_add-result-3 c = omega (arith, most-counted c.args.roles.now)

pub overflow_add-result-4 : goal.overflow_add-result-4
overflow_add-result-4 c = omega (arith, most-counted c.args.roles.now)

pub overflow_add-result-5 : goal.overflow_add-result-5
overflow_add-result-5 c = omega (arith, most-counted c.args.roles.now)

pub returns : goal.returns
returns c =
    let summed : c.how_many.result + c.how_many-2.result + c.how_many-3.result + c.how_many-4.result + c.how_many-5.result + c.how_many-6.result ≡ recorded_roles c.args.roles.now = omega arith in
    λ s call cs left. summed ∙ all-accounted s call cs left
