-- `disc::own::OwnTable::enclosed` meets its contract: the length decides first, then regid and previous table together.
-- Assumes nothing.
use Rattle.std.proofs.Common.{ℕ, ◌≡◌, ◌+◌, ◌-◌, ◌*◌, ◌/◌, ◌&&◌, length, sym, ap, ap₂, ◌∙◌}
use Rattle.le.specs.Field.{read_le}
use Rattle.vat.specs.Table.{unused_or_below, table_name, previous_of}
use Rattle.vat.proofs.Frame.{counted, wrong-length, right-length}
use Rattle.disc.specs.Own.{own_bytes}
use Rattle.disc.proofs.OwnBytes.{own-long}
use Rattle.disc.proofs.own.OwnTable.enclosed.Goals as goal

pub returns-then-self-n : goal.returns-then-self-n
returns-then-self-n c =
    let t = c.args.self.now in
    let T = own_bytes t in
    let n = c.count_entries-n.result in
    let count : n ≡ (length T - 36) / 4 = c.count_entries-n.ensures ∙ ap (λ (k : ℕ). (k - 36) / 4) (sym (own-long t)) in
    sym (wrong-length T t.b n count (λ e. c.if-self-n.true (sym (own-long t) ∙ e)))

pub returns : goal.returns
unfolding table_name previous_of
returns c =
    let t = c.args.self.now in
    let T = own_bytes t in
    let n = c.count_entries-n.result in
    let count : n ≡ (length T - 36) / 4 = c.count_entries-n.ensures ∙ ap (λ (k : ℕ). (k - 36) / 4) (sym (own-long t)) in
    let previous : c.previous.result ≡ read_le 4 T (4 * n + 32) = c.previous.ensures ∙ ap (λ (k : ℕ). read_le 4 T (4 * k + 32)) (counted T t.b n count) in
    ap₂ ◌&&◌ c.holds-named.ensures (c.may_name.ensures ∙ ap (unused_or_below t.b) previous) ∙ sym (right-length T t.b n count (own-long t ∙ c.if-self-n.false))
