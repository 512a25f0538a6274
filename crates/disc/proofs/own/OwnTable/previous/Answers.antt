-- `disc::own::OwnTable::previous` meets its contract: the field behind the regid is read where it lies.
-- Assumes nothing.
use Rattle.std.proofs.Common.{ℕ, ◌≡◌, ◌+◌, ◌-◌, ◌*◌, ◌/◌, length, sym, ap, ◌∙◌}
use Rattle.le.specs.Field.{read_le}
use Rattle.vat.specs.Table.{previous_of}
use Rattle.vat.proofs.Frame.{counted}
use Rattle.disc.specs.Own.{own_bytes}
use Rattle.disc.proofs.OwnBytes.{own-long}
use Rattle.disc.proofs.own.OwnTable.previous.Goals as goal

pub returns : goal.returns
unfolding previous_of
returns c =
    let t = c.args.self.now in
    let T = own_bytes t in
    let count : c.count_entries.result ≡ (length T - 36) / 4 = c.count_entries.ensures ∙ ap (λ (k : ℕ). (k - 36) / 4) (sym (own-long t)) in
    c.field.ensures ∙ ap (λ (k : ℕ). read_le 4 T (4 * k + 32)) (sym (counted T t.b c.count_entries.result count))
