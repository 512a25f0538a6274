-- `vat::sector::put_table` meets its contract: the entries, and the tail behind them.
-- Assumes nothing.
use Prim.Native.Nat.{ℕ, ◌+◌}
use mathlib.Core.Path.{sym, ap, ◌∙◌}
use mathlib.Core.List.{List, ◌++◌}
use lib.Seq.{sets}
use Rattle.le.specs.Field.{le, words}
use Rattle.le.proofs.Runs.{length-words}
use Rattle.vat.specs.Table.{table_start, regid_at}
use Rattle.vat.specs.Sector.{table_regid}
use Rattle.vat.proofs.Record.{table-put}
use Rattle.vat.proofs.sector.put_table.Goals as goal

pub returns : goal.returns
returns c =
    let a = c.args in
    let r : ℕ = table_start 0 + regid_at a.n in
    c.put_tail.ensures
    ∙ ap (λ (t : List ℕ). sets t r (table_regid ++ le 4 a.previous)) c.copy_words.ensures
    ∙ table-put a.s.now (words a.n a.map.now 0) a.previous r (ap (λ (n : ℕ). table_start 0 + regid_at n) (sym (length-words a.n a.map.now 0)))
