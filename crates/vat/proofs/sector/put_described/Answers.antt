-- `vat::sector::put_described` meets its contract: the table, where it has no own sectors, else their descriptors.
-- Assumes nothing.
use Prim.Native.Nat.{ℕ, ◌+◌, ◌<◌}
use native.Mathlib.Omega.{arith}
use mathlib.Core.Path.{◌≡◌, sym, ap, ◌∙◌}
use mathlib.Core.List.{List}
use lib.ListN.{take}
use lib.Seq.{sets, length-take-le}
use Rattle.le.specs.Field.{words}
use Rattle.extent.specs.Extents.{descriptors}
use Rattle.vat.specs.Table.{sector_length, table_start, table_length}
use Rattle.vat.specs.Own.{own_count, extents_at}
use Rattle.vat.specs.Sector.{table_bytes, described}
use Rattle.vat.proofs.Theorems.{none-own, few-own, limit-held}
use Rattle.vat.proofs.Described.{own-fill, table-long, described-inside, table-recordable, described-apart, apart-long}
use Rattle.vat.proofs.sector.put_described.Goals as goal

pub put_table-requires : goal.put_table-requires
put_table-requires c =
    let fits : table_start 0 + table_length c.args.n < sector_length = none-own (table_length c.args.n) (sym c.own_count-own.ensures ∙ c.if-own-eq0.true) in
    (c.requires.0, omega (arith, fits), c.requires.2)

pub returns-then-own-eq0 : goal.returns-then-own-eq0
returns-then-own-eq0 c =
    let a = c.args in
    let table : List ℕ = table_bytes (words a.n a.map.now 0) a.previous in
    let all : described table (take (own_count (table_length a.n)) a.blocks.now) ≡ table =
    described-inside table a.blocks.now (own_count (table_length a.n)) (sym c.own_count-own.ensures ∙ c.if-own-eq0.true) in
    let short = (table-recordable a.map.now a.n a.previous a.blocks.now c.requires.1 c.requires.3).short in
    let long = table-long a.map.now a.n a.previous in
    rw all (c.put_table.ensures, sym long, omega (arith, long, rw all at short))

pub put_descriptors-requires : goal.put_descriptors-requires
put_descriptors-requires c =
    let n : ℕ = table_length c.args.n in
    let few = few-own n (limit-held c.args.n c.requires.1) in
    let fill = own-fill n c.own_count-own.result c.own_count-own.ensures c.if-own-eq0.false in
    let m = length-take-le c.own_count-own.result c.args.blocks.now (omega (arith, c.own_count-own.ensures, c.requires.3)) in
    rw m (c.requires.0, omega (arith, few, c.own_count-own.ensures), fill.0, fill.1)

pub overflow_mul-result : goal.overflow_mul-result
overflow_mul-result c = omega (arith, few-own (table_length c.args.n) (limit-held c.args.n c.requires.1), c.own_count-own.ensures)

pub returns-else-own-eq0 : goal.returns-else-own-eq0
returns-else-own-eq0 c =
    let a = c.args in
    let n : ℕ = table_length a.n in
    let table : List ℕ = table_bytes (words a.n a.map.now 0) a.previous in
    let count = c.own_count-own.ensures in
    let apart : described table (take (own_count n) a.blocks.now) ≡ descriptors (extents_at n (take (own_count n) a.blocks.now)) =
    described-apart table a.blocks.now (own_count n) n (λ e. c.if-own-eq0.false (count ∙ e)) c.requires.3 (table-long a.map.now a.n a.previous) in
    let long = apart-long n (own_count n) a.blocks.now c.requires.3 in
    let short = (table-recordable a.map.now a.n a.previous a.blocks.now c.requires.1 c.requires.3).short in
    rw (apart, count) (c.put_descriptors.ensures ∙ ap (λ (m : ℕ). sets a.s.now (table_start 0) (descriptors (extents_at n (take m a.blocks.now)))) count, sym long, omega (arith, long, rw apart at short))
