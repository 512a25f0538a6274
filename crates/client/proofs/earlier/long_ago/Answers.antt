-- `client::earlier::long_ago` meets its contract: the save that many steps back is shown.
-- Assumes nothing.
use Prim.Native.Nat.{ℕ}
use native.Mathlib.Omega.{arith}
use mathlib.Core.Path.{sym, subst}
use Rattle.recorder.specs.Calls.{look_back}
use Rattle.client.specs.Day.{morning}
use Rattle.client.proofs.Shown.{Reads, given}
use Rattle.client.proofs.Saves.{long-ago-reads}
use Rattle.client.proofs.earlier.long_ago.Goals as goal

pub returns : goal.returns
returns c =
    λ x fresh call block since ok is-save all counted there fit long whole.
    let y = morning c.args.image.now c.args.kinds.now c.args.roles.now c.args.ledger.now in
    let reads = long-ago-reads x fresh ok _ call is-save block since all y _ (record { ok = omega arith; there = sym there; roles-fit = fit; ledger-long = long; block-long = whole }) in
    given (subst (λ (k : ℕ). Reads y (look_back k) c.args.v c.args.out.now 0 block) counted reads) c.show_back.ensures.ledger_after c.show_back.ensures.out_after
