-- `client::account::how_many` meets its contract.
-- Assumes nothing.
use Rattle.std.proofs.Common.{rules}
use Rattle.client.proofs.Counted.{counts}
use Rattle.client.proofs.account.how_many.Goals as goal

pub returns : goal.returns
returns c = search (rules, counts)
