-- `calls::effects::save` meets its contract: links, and the table's sectors and the state behind them.
-- Assumes nothing.
use Prim.Native.Nat.{ℕ, ◌+◌, ◌≤◌}
use native.Mathlib.Nat.{add-zero}
use native.Mathlib.Omega.{arith}
use mathlib.Core.Path.{◌≡◌, sym, ap, ◌∙◌}
use mathlib.Core.List.{List, []}
use lib.ListN.{length, replicate, length-append, length-replicate}
use Rattle.disc.specs.Disc.{Disc, lent, link, puts}
use Rattle.volume.specs.declared.Volume.{Volume}
use Rattle.volume.specs.Volume.{unpack}
use Rattle.recorder.specs.Refusals.{links, target}
use Rattle.calls.proofs.Left.{saved_by, table_sectors, Ready, Behind, Savable, ready_of, save-asks, save-leaves}
use Rattle.calls.proofs.effects.save.Goals as goal
use Rattle.calls.proofs.effects.save.Goals.{After-record_links-b}

-- what is known of the disc behind the links
prepared : (D : Disc) (L stamp : List ℕ) → Savable D L → (unpack L).recorded + length (saved_by D L [] stamp []).sectors ≤ length D.kinds → Ready D L [] stamp
prepared D L stamp savable roomy =
    let v : Volume = unpack L in
    let long : length (saved_by D L [] stamp []).sectors ≡ links v + length (table_sectors D L [] stamp) =
    length-append (replicate (links v) link) (table_sectors D L [] stamp) ∙ ap (λ (n : ℕ). n + length (table_sectors D L [] stamp)) (length-replicate (links v) link) in
    ready_of D L [] stamp savable tt (omega (arith, long, roomy))

-- what is known behind the links
behind : (c : After-record_links-b) → Behind (lent c.args.image.now c.args.kinds.now) c.args.ledger.now [] c.args.stamp.now (lent c.args.image.now c.record_links-b.new.kinds) c.record_links-b.result
unfolding puts
behind c =
    let r = c.requires in
    record {
      ready = prepared (lent c.args.image.now c.args.kinds.now) c.args.ledger.now c.args.stamp.now (r.0, r.1, r.2, r.3, r.4, r.5) (omega (arith, r.7, r.3));
      disc = ap (lent c.args.image.now) c.record_links-b.ensures.1;
      end = c.record_links-b.ensures.0 ∙ sym (add-zero (target (unpack c.args.ledger.now)));
    }

pub save_at-requires : goal.save_at-requires
save_at-requires c =
    let a = c.args in
    let r = c.requires in
    save-asks (lent a.image.now a.kinds.now) a.ledger.now [] a.stamp.now (lent a.image.now c.record_links-b.new.kinds) c.record_links-b.result (behind (goal.at.save_at-requires c).After-record_links-b) r.0 r.4 r.6

pub returns : goal.returns
returns c =
    let a = c.args in
    save-leaves (lent a.image.now a.kinds.now) a.ledger.now [] a.stamp.now (lent a.image.now c.record_links-b.new.kinds) c.record_links-b.result (behind (goal.at.returns c).After-record_links-b) c.save_at.ensures
