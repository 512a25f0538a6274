-- `listing::form::gives` meets its contract: the line that is compared is the first line of n sectors.
-- Assumes nothing.
use mathlib.Core.Path.{ap, ◌∙◌}
use Rattle.le.specs.Bytes.{holds_text}
use Rattle.listing.proofs.Input.{line-put}
use Rattle.listing.proofs.form.gives.Goals as goal

pub returns : goal.returns
returns c =
    let a = c.args in
    c.holds_text.ensures ∙ ap (holds_text a.input.now 0) (c.put_column.ensures ∙ line-put a.n)
