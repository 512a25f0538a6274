-- `client::store_and_view` meets its contract: a run stored, then a view of it.
-- Assumes nothing.
use native.Mathlib.Omega.{arith}
use Rattle.std.proofs.Common.{rules}
use Rattle.client.proofs.Days.{not_done}
use Rattle.client.proofs.Runs.{stops-unviewed, goes-on-viewed, stored-given}
use Rattle.client.proofs.store_and_view.Goals as goal

pub returns-in_err-store : goal.returns-in_err-store
returns-in_err-store c =
    record {
      ledger_after = stops-unviewed _ _ _ _ _ c.in_err-store.ensures c.from_residual.result (search rules);
      out_after = λ a some_bytes short inside room. not_done _ _ _ _ c.in_err-store.ensures a;
    }

pub returns : goal.returns
returns c =
    record {
      ledger_after = goes-on-viewed _ _ _ _ c.in_ok-store.ensures (omega arith) c.view.ensures;
      out_after = λ a some_bytes short inside room. stored-given _ c.args.fresh (omega arith) _ _ _ a some_bytes short _ _ inside room c.in_ok-store.ensures c.view.ensures;
    }
