-- `vat::sector::put_tail` meets its contract: flags, text, suffix and the previous table, one behind the other.
-- Assumes nothing.
use Prim.Native.Nat.{ℕ, ◌+◌}
use mathlib.Core.Path.{ap, ◌∙◌}
use mathlib.Core.List.{List}
use lib.Seq.{sets}
use Rattle.le.specs.Field.{le}
use Rattle.vat.specs.Table.{table_name}
use Rattle.vat.proofs.Record.{tail-put}
use Rattle.vat.proofs.sector.put_tail.Goals as goal

pub returns : goal.returns
unfolding table_name
returns c =
    let a = c.args in
    let r : ℕ = a.at in
    let flags = c.put8.ensures in
    let name = c.put_text.ensures ∙ ap (λ (t : List ℕ). sets t (r + 1) table_name) flags in
    let suffix = c.put64.ensures ∙ ap (λ (t : List ℕ). sets t (r + 24) (le 8 0x0150)) name in
    c.put32.ensures ∙ ap (λ (t : List ℕ). sets t (r + 32) (le 4 a.previous)) suffix ∙ tail-put a.s.now r a.previous
