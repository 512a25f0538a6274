-- `calls::effects::record_block` meets its contract: links, and the block behind them.
-- Assumes nothing.
use Prim.Native.Nat.{ℕ, ◌*◌}
use mathlib.Core.Path.{◌≡◌, ap, ap₂, ◌∙◌}
use mathlib.Core.List.{List}
use lib.ListN.{set}
use Rattle.vat.specs.Table.{sector_length}
use Rattle.disc.specs.Disc.{Disc, lent, stored}
use Rattle.volume.specs.Volume.{unpack}
use Rattle.recorder.specs.Refusals.{target}
use Rattle.calls.proofs.Left.{linked_kinds, recorded-block}
use Rattle.calls.proofs.effects.record_block.Goals as goal

pub returns : goal.returns
returns c =
    let a = c.args in
    let d : Disc = lent a.image.now a.kinds.now in
    let at : c.record_links-b.result ≡ target (unpack a.ledger.now) = c.record_links-b.ensures.0 in
    let image : c.«data».new.image ≡ stored d.image (sector_length * target (unpack a.ledger.now)) a.block.now =
    c.«data».ensures.0 ∙ ap (λ (n : ℕ). stored d.image (sector_length * n) a.block.now) at in
    let kinds : c.«data».new.kinds ≡ set (linked_kinds d a.ledger.now) (target (unpack a.ledger.now)) 1 =
    c.«data».ensures.1 ∙ ap₂ (λ (ks : List ℕ) (n : ℕ). set ks n 1) c.record_links-b.ensures.1 at in
    (at, ap₂ lent image kinds ∙ recorded-block d a.ledger.now a.block.now)
