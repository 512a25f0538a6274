-- `disc::tables::step_back` meets its contract: the previous table of a table is read, and then tested.
-- Assumes nothing.
use Prim.Native.Nat.{ℕ, ◌<◌}
use native.Mathlib.Omega.{arith}
use mathlib.Core.Path.{◌≡◌, refl, sym, ap, ◌∙◌}
use mathlib.Core.Bool.{true, false}
use mathlib.Core.List.{List}
use lib.ListN.{length}
use Rattle.vat.specs.Table.{Lower}
use Rattle.std.specs.Prelude.{Ok}
use Rattle.disc.specs.Disc.{Disc, lent, sector_at}
use Rattle.disc.specs.Tables.{below, table_at, previous_at}
use Rattle.disc.proofs.Recording.{sized-tells}
use Rattle.disc.proofs.Told.{data-kind, table-of, previous-of}
use Rattle.disc.proofs.Found.{sector-end, table-within, step-ended, step-broken, step-reached}
use Rattle.disc.proofs.tables.step_back.Goals as goal

pub sector_at-requires : goal.sector_at-requires
sector_at-requires c =
    let D : Disc = lent c.args.image.now c.args.kinds.now in
    let within : c.args.b < length D.kinds = table-within D c.args.b c.requires.1 in
    sector-end D (sized-tells D c.requires.0) c.args.b within

pub previous-previous-requires : goal.previous-previous-requires
previous-previous-requires c =
    let D : Disc = lent c.args.image.now c.args.kinds.now in
    let lower : Lower = below D c.args.b in
    let S : List ℕ = c.sector_at.result.now in
    let within : c.args.b < length D.kinds = table-within D c.args.b c.requires.1 in
    let its-bytes : sector_at D c.args.b ≡ S = sym (c.sector_at.ensures D.kinds) in
    (c.requires.0, omega (arith, within), sym (table-of D c.args.b lower S refl its-bytes (data-kind D c.args.b c.requires.1)) ∙ c.requires.1)

pub returns-then-previous : goal.returns-then-previous
returns-then-previous c =
    let D : Disc = lent c.args.image.now c.args.kinds.now in
    let lower : Lower = below D c.args.b in
    let S : List ℕ = c.sector_at.result.now in
    let its-bytes : sector_at D c.args.b ≡ S = sym (c.sector_at.ensures D.kinds) in
    let read_back : c.previous-previous.result ≡ previous_at D c.args.b = c.previous-previous.ensures ∙ sym (previous-of D c.args.b lower S refl its-bytes) in
    sym (step-ended (table_at D) (previous_at D) c.args.b (sym read_back ∙ c.if-previous.true))

pub returns-then-not-table_at : goal.returns-then-not-table_at
returns-then-not-table_at c =
    let D : Disc = lent c.args.image.now c.args.kinds.now in
    let lower : Lower = below D c.args.b in
    let S : List ℕ = c.sector_at.result.now in
    let its-bytes : sector_at D c.args.b ≡ S = sym (c.sector_at.ensures D.kinds) in
    let read_back : c.previous-previous.result ≡ previous_at D c.args.b = c.previous-previous.ensures ∙ sym (previous-of D c.args.b lower S refl its-bytes) in
    let no : table_at D (previous_at D c.args.b) ≡ false =
    ap (table_at D) (sym read_back) ∙ sym c.table_at.ensures ∙ c.if-not-table_at.true in
    sym (step-broken (table_at D) (previous_at D) c.args.b (λ e. c.if-previous.false (read_back ∙ e)) no)

pub returns : goal.returns
returns c =
    let D : Disc = lent c.args.image.now c.args.kinds.now in
    let lower : Lower = below D c.args.b in
    let S : List ℕ = c.sector_at.result.now in
    let its-bytes : sector_at D c.args.b ≡ S = sym (c.sector_at.ensures D.kinds) in
    let read_back : c.previous-previous.result ≡ previous_at D c.args.b = c.previous-previous.ensures ∙ sym (previous-of D c.args.b lower S refl its-bytes) in
    let yes : table_at D (previous_at D c.args.b) ≡ true =
    ap (table_at D) (sym read_back) ∙ sym c.table_at.ensures ∙ c.if-not-table_at.false in
    ap Ok read_back
    ∙ sym (step-reached (table_at D) (previous_at D) c.args.b (λ e. c.if-previous.false (read_back ∙ e)) yes)
