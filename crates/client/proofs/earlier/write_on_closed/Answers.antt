-- `client::earlier::write_on_closed` meets its contract: the write is turned away, and alters nothing.
-- Assumes nothing.
use mathlib.Core.Path.{refl, ◌∙◌, ap}
use Rattle.disc.specs.Session.{session_closed}
use Rattle.client.proofs.Closings.{left-closed, is-refused}
use Rattle.client.proofs.earlier.write_on_closed.Goals as goal

pub returns : goal.returns
returns c =
    λ x fresh before main reserve n ok all there.
    is-refused _ _ _ _ _ refl c.write.ensures (ap session_closed there ∙ (left-closed x fresh ok before main reserve n all).2.is-closed)
