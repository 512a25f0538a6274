-- `calls::effects::close` meets its contract: links, the pointer, the zero sectors, and the table's sectors and the state behind them.
-- Assumes nothing.
use Prim.Native.Nat.{ℕ}
use native.Mathlib.Omega.{arith}
use mathlib.Core.Path.{refl, ap, ◌∙◌}
use mathlib.Core.List.{List}
use lib.ListN.{length}
use Rattle.vat.specs.Sector.{no_stamp}
use Rattle.disc.specs.Disc.{Disc, lent, puts}
use Rattle.disc.specs.Session.{closing}
use Rattle.disc.specs.Again.{fresh_of}
use Rattle.volume.specs.declared.Volume.{Volume}
use Rattle.volume.specs.Volume.{unpack}
use Rattle.recorder.specs.Refusals.{target}
use Rattle.recorder.specs.Effects.{closing_first}
use Rattle.recorder.proofs.Sectors.{length-closing, own-few}
use Rattle.calls.proofs.Left.{linked_kinds, linked-puts, table_of, Behind, closing-ready, save-asks, save-leaves}
use Rattle.calls.proofs.effects.close.Goals as goal
use Rattle.calls.proofs.effects.close.Goals.{After-record_closing-b}

-- what is known behind the zero sectors
behind : (c : After-record_closing-b)
    → Behind (lent c.args.image.now c.args.kinds.now) c.args.ledger.now (closing_first (lent c.args.image.now c.args.kinds.now) (unpack c.args.ledger.now) c.args.main c.args.reserve c.args.start) no_stamp
    (lent c.record_closing-b.new.image c.record_closing-b.new.kinds) c.record_closing-b.result
behind c =
    let a = c.args in
    let r = c.requires in
    let d : Disc = lent a.image.now a.kinds.now in
    let l : List ℕ = a.ledger.now in
    let v : Volume = unpack l in
    let own : ℕ = length (fresh_of d (table_of d l) v.last) in
    record {
      ready = closing-ready d l a.main a.reserve a.start (r.0, r.1, r.2, r.3, r.4, r.5) r.6;
      disc =
          c.record_closing-b.ensures.1
          ∙ linked-puts d l (closing a.main a.reserve a.start (target v) c.own_recorded-own.result)
          ∙ ap (λ (n : ℕ). puts (lent d.image (linked_kinds d l)) (target v) (closing a.main a.reserve a.start (target v) n)) c.own_recorded-own.ensures;
      end = omega (arith, c.record_closing-b.ensures.0, c.own_recorded-own.ensures, length-closing a.main a.reserve a.start (target v) own (omega (arith, own-few d v r.4)));
    }

pub save_at-requires : goal.save_at-requires
save_at-requires c =
    let a = c.args in
    let r = c.requires in
    let d : Disc = lent a.image.now a.kinds.now in
    save-asks d a.ledger.now (closing_first d (unpack a.ledger.now) a.main a.reserve a.start) no_stamp (lent c.record_closing-b.new.image c.record_closing-b.new.kinds) c.record_closing-b.result
    (behind (goal.at.save_at-requires c).After-record_closing-b) r.0 r.4 refl

pub returns : goal.returns
returns c =
    let a = c.args in
    let d : Disc = lent a.image.now a.kinds.now in
    save-leaves d a.ledger.now (closing_first d (unpack a.ledger.now) a.main a.reserve a.start) no_stamp (lent c.record_closing-b.new.image c.record_closing-b.new.kinds) c.record_closing-b.result
    (behind (goal.at.returns c).After-record_closing-b) c.save_at.ensures
