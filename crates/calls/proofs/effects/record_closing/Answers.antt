-- `calls::effects::record_closing` meets its contract: links, the pointer, and zero sectors as far as own sectors leave room for them.
-- Assumes nothing.
use Prim.Native.Nat.{ℕ, ◌+◌, ◌-◌}
use native.Mathlib.Omega.{arith}
use mathlib.Core.Path.{◌≡◌, sym, ap₂, ◌∙◌}
use mathlib.Core.List.{List}
use lib.ListN.{replicate}
use Rattle.disc.specs.Disc.{Disc, lent, puts}
use Rattle.disc.specs.Session.{zero_sectors, zero_sector, closing}
use Rattle.volume.specs.declared.Volume.{Volume}
use Rattle.volume.specs.Volume.{unpack}
use Rattle.recorder.specs.Refusals.{target}
use Rattle.calls.proofs.Left.{linked-puts, closing-puts}
use Rattle.calls.proofs.effects.record_closing.Goals as goal

pub returns : goal.returns
returns c =
    let a = c.args in
    let d : Disc = lent a.image.now a.kinds.now in
    let v : Volume = unpack a.ledger.now in
    let b : ℕ = c.record_links-b.result in
    let behind : b ≡ target v = c.record_links-b.ensures.0 in (
      omega (arith, behind, c.requires.2),
      c.zeros.ensures
          ∙ ap₂ (λ (i k : List ℕ). puts (lent i k) (b + 1) (replicate (zero_sectors - a.own) zero_sector)) c.record_anchor.ensures.0 c.record_anchor.ensures.1
          ∙ closing-puts a.main a.reserve a.start b a.own (lent a.image.now c.record_links-b.new.kinds)
          ∙ ap₂ (λ (k : List ℕ) (n : ℕ). puts (lent a.image.now k) n (closing a.main a.reserve a.start n a.own)) c.record_links-b.ensures.1 behind
          ∙ sym (linked-puts d a.ledger.now (closing a.main a.reserve a.start (target v) a.own)),
    )
