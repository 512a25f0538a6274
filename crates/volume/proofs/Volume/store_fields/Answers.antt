-- `volume::Volume::store_fields` meets its contract: four fields behind entries that stand already.
-- Assumes nothing.
use Prim.Native.Nat.{ℕ, ◌<◌}
use mathlib.Core.Path.{◌∙◌}
use lib.ListN.{get_or}
use borrow.Author.Rules.{rules}
use Rattle.le.proofs.Runs.{all-bytes}
use Rattle.volume.proofs.Standing.{fields-put}
use Rattle.volume.proofs.Volume.store_fields.Goals as goal

pub returns : goal.returns
returns c =
    let byte : (i : ℕ) → get_or c.args.l.now i 0 < 256 = λ i. search rules in
    let a = c.args in
    c.put_fields.ensures ∙ fields-put a.self a.l.now (all-bytes a.l.now byte) c.requires.0 c.requires.1
