-- `calls::effects::save_at` meets its contract: own sectors of the ledger's table, the ICB behind them, and the state after it.
-- Assumes nothing.
use Prim.Native.Nat.{ℕ, ◌+◌}
use native.Mathlib.Omega.{arith}
use mathlib.Core.Path.{◌≡◌, sym, ap, ap₂, ◌∙◌}
use mathlib.Core.List.{List}
use lib.ListN.{length, take}
use Rattle.le.specs.Field.{words}
use Rattle.vat.specs.Table.{table_length}
use Rattle.vat.specs.Own.{own_count}
use Rattle.vat.specs.Sector.{table_bytes}
use Rattle.disc.specs.Disc.{Disc, lent, puts}
use Rattle.disc.specs.Again.{own_blocks, again_of, fresh_of, plains}
use Rattle.disc.proofs.Save.{save-count}
use Rattle.volume.specs.declared.Volume.{Volume}
use Rattle.volume.specs.Volume.{unpack, pack, map_of, committed}
use Rattle.volume.proofs.Fit.{entries_below}
use Rattle.calls.proofs.Left.{icb-behind}
use Rattle.calls.proofs.effects.save_at.Goals as goal

pub returns : goal.returns
returns c =
    let D : Disc = lent c.args.image.now c.args.kinds.now in
    let state : Volume = unpack c.args.ledger.now in
    let T : List ℕ = table_bytes (map_of state) state.last in
    let icb_block : ℕ = c.args.b + c.own_blocks-own.result.fresh in
    let same-table : table_bytes (words c.size-size.result c.args.ledger.now 0) c.last-last.result ≡ T = ap₂ (λ (n previous : ℕ). table_bytes (words n c.args.ledger.now 0) previous) c.size-size.ensures c.last-last.ensures
    ∙ ap (λ (map : List ℕ). table_bytes map state.last) (sym (entries_below c.args.ledger.now state.size c.requires.4)) in
    let its-blocks : take (own_count (table_length state.size)) c.own_blocks-own.result.blocks ≡ own_blocks (again_of D T state.last) c.args.b = ap (λ (n : ℕ). take (own_count (table_length n)) c.own_blocks-own.result.blocks) (sym c.size-size.ensures)
    ∙ c.own_blocks-own.ensures.0
    ∙ ap₂ (λ (t : List ℕ) (previous : ℕ). own_blocks (again_of D t previous) c.args.b) same-table c.last-last.ensures in
    let its_fresh : c.own_blocks-own.result.fresh ≡ length (fresh_of D T state.last) = c.own_blocks-own.ensures.1 ∙ ap₂ (λ (t : List ℕ) (previous : ℕ). length (fresh_of D t previous)) same-table c.last-last.ensures in
    let behind-own : lent c.record_own.new.image c.record_own.new.kinds ≡ puts D c.args.b (plains (fresh_of D T state.last)) = c.record_own.ensures ∙ ap₂ (λ (t : List ℕ) (previous : ℕ). puts D c.args.b (plains (fresh_of D t previous))) same-table c.last-last.ensures in
    let a = c.args in
    let x : Disc = lent c.record_own.new.image c.record_own.new.kinds in (
      omega (arith, its_fresh, save-count D T state.last a.stamp.now a.b),
      c.record_icb.ensures
          ∙ icb-behind D T state.last a.stamp.now a.b x icb_block (take (own_count (table_length state.size)) c.own_blocks-own.result.blocks) behind-own (ap (λ (n : ℕ). a.b + n) its_fresh)
          its-blocks,
      c.store_fields.ensures ∙ ap pack (c.committed.ensures ∙ ap (committed icb_block) c.load.ensures),
    )
