-- `listing::text::put_row` meets its contract: four columns and a newline, one behind the other.
-- Assumes nothing.
use Prim.Native.Nat.{ℕ, ◌+◌}
use mathlib.Core.Path.{ap, ◌∙◌}
use mathlib.Core.List.{List}
use lib.Seq.{sets}
use Rattle.le.specs.Field.{le}
use Rattle.listing.specs.Text.{column}
use Rattle.listing.proofs.Lines.{row_put}
use Rattle.listing.proofs.text.put_row.Goals as goal

pub returns : goal.returns
returns c =
    let a = c.args in
    let out : List ℕ = a.out.now in
    let number = c.put_column.ensures in
    let block = c.put_column-2.ensures ∙ ap (λ (t : List ℕ). sets t (a.at + 4) (column 7 a.block)) number in
    let size = c.put_column-3.ensures ∙ ap (λ (t : List ℕ). sets t (a.at + 12) (column 5 a.size)) block in
    let used = c.put_column-4.ensures ∙ ap (λ (t : List ℕ). sets t (a.at + 18) (column 5 a.used)) size in
    c.put8.ensures ∙ ap (λ (t : List ℕ). sets t (a.at + 24) (le 1 10)) used ∙ row_put out a.at a.k a.block a.size a.used
