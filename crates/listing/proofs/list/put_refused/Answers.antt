-- `listing::list::put_refused` meets its contract: the word, a column and a newline.
-- Assumes nothing.
use Prim.Native.Nat.{ℕ}
use mathlib.Core.Path.{sym, ap, ◌∙◌}
use mathlib.Core.List.{List}
use lib.Seq.{sets}
use Rattle.le.specs.Field.{le}
use Rattle.listing.specs.Text.{column}
use Rattle.listing.proofs.Lines.{refused-put, length-refused}
use Rattle.listing.proofs.list.put_refused.Goals as goal

pub returns : goal.returns
returns c =
    let a = c.args in
    let out : List ℕ = a.out.now in
    let word = c.put_text.ensures in
    let outcome = c.put_column.ensures ∙ ap (λ (t : List ℕ). sets t 7 (column 3 a.outcome)) word in
    let ended = c.put8.ensures ∙ ap (λ (t : List ℕ). sets t 11 (le 1 10)) outcome in
    (ended ∙ refused-put out a.outcome, sym (length-refused a.outcome))
