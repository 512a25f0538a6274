-- `vat::sector::record` meets its contract: zeros, what stands behind the header, the name, the times, the header and the sums, in this order.
-- Assumes nothing.
use Prim.Native.Nat.{ℕ}
use mathlib.Core.Path.{◌≡◌, sym, ap, ◌∙◌}
use mathlib.Core.List.{List}
use lib.ListN.{length, take}
use lib.Seq.{length-take-le}
use Rattle.le.specs.Field.{words, lay}
use Rattle.tag.specs.Tag.{seal}
use Rattle.vat.specs.Table.{table_length}
use Rattle.vat.specs.Own.{own_count}
use Rattle.vat.specs.Sector.{table_bytes, allocation_for, body, icb_rows, icb}
use Rattle.vat.proofs.Record.{length-body}
use Rattle.vat.proofs.Described.{table-long, table-recordable, allocation-told, header-laid, room-to-seal}
use Rattle.vat.proofs.sector.record.Goals as goal
use Rattle.vat.proofs.sector.record.Goals.{After-put64}

-- what is sealed: the header laid over the body
laid : (c : After-put64) → let a = c.args in
    let table : List ℕ = table_bytes (words a.n a.map.now 0) a.previous in
    let blocks : List ℕ = take (own_count (table_length a.n)) a.blocks.now in
    c.put64.new.s ≡ lay (body table blocks a.stamp.now) (icb_rows table blocks a.b)
unfolding body
laid c =
    let a = c.args in
    let table : List ℕ = table_bytes (words a.n a.map.now 0) a.previous in
    let blocks : List ℕ = take (own_count (table_length a.n)) a.blocks.now in
    let filled : List ℕ = body table blocks a.stamp.now in
    let long : c.from.result ≡ length table = c.from.ensures ∙ sym (table-long a.map.now a.n a.previous) in
    let own : c.own_count-own.result ≡ length blocks = c.own_count-own.ensures ∙ sym (length-take-le (own_count (table_length a.n)) a.blocks.now c.requires.3) in
    let t = c.allocation in
    let type : t.result ≡ allocation_for blocks = allocation-told blocks t.result (λ e. t.ensures.0 (own ∙ e)) (λ other. t.ensures.1 (λ e. other (sym own ∙ e))) in
    rw (
      c.put64.ensures,
      c.put_own.ensures,
      c.put_lengths.ensures,
      c.put_plain.ensures,
      c.put_times.ensures,
      c.put_name.ensures,
      c.put_described-described.ensures.0,
      c.put_described-described.ensures.1,
      c.clear.ensures,
      c.requires.0,
      type,
      c.from-2.ensures,
      own,
      long,
    )
    (header-laid table blocks filled a.b)

pub seal-requires : goal.seal-requires
seal-requires c =
    let a = c.args in
    let table : List ℕ = table_bytes (words a.n a.map.now 0) a.previous in
    let blocks : List ℕ = take (own_count (table_length a.n)) a.blocks.now in
    let ok = table-recordable a.map.now a.n a.previous a.blocks.now c.requires.1 c.requires.3 in
    rw (laid (goal.at.seal-requires c).After-put64)
    (room-to-seal table blocks (body table blocks a.stamp.now) a.b ok c.ranges.b.fits (length-body table blocks a.stamp.now))

pub returns : goal.returns
unfolding icb
returns c = c.seal.ensures ∙ ap seal (laid (goal.at.returns c).After-put64)
