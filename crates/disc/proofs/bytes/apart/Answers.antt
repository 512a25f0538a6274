-- `disc::bytes::apart` meets its contract: what the ICB tells of a table in own sectors.
-- Assumes nothing.
use Rattle.std.proofs.Common.{arith, refl, sym, ◌∙◌}
use Rattle.vat.proofs.Frame.{framed-tells}
use Rattle.disc.specs.Disc.{lent}
use Rattle.disc.specs.Tables.{below}
use Rattle.disc.proofs.Recording.{sized-tells}
use Rattle.disc.proofs.Forms.{told-short, told-length, apart}
use Rattle.disc.proofs.bytes.apart.Goals as goal

pub start-requires : goal.start-requires
start-requires c =
    (c.requires.2, (framed-tells c.args.s.now c.args.b c.requires.3).below)

pub information_length-requires : goal.information_length-requires
information_length-requires c =
    let a = c.args in
    let frame = framed-tells a.s.now a.b c.requires.3 in
    (c.requires.2, omega (arith, told-short a.s.now a.b c.requires.2 frame (below (lent a.image.now a.kinds.now) a.b) c.requires.4))

pub invariant_of-result : goal.invariant_of-result
invariant_of-result c =
    let a = c.args in
    let d = lent a.image.now a.kinds.now in
    let own =
    apart d (sized-tells d c.requires.0) a.b c.requires.1 a.s.now c.requires.2 (framed-tells a.s.now a.b c.requires.3) c.requires.4 c.requires.5 c.start.result c.own_count.result c.information_length.result c.start.ensures
    c.own_count.ensures c.information_length.ensures in
    record { is_sized = c.requires.0; high = c.requires.1; within = own.within; is_laid = own.on-data; long = own.long; short = own.short }

pub returns : goal.returns
returns c =
    let a = c.args in
    let d = lent a.image.now a.kinds.now in
    let ok = sized-tells d c.requires.0 in
    let frame = framed-tells a.s.now a.b c.requires.3 in
    let own =
    apart d ok a.b c.requires.1 a.s.now c.requires.2 frame c.requires.4 c.requires.5 c.start.result c.own_count.result c.information_length.result c.start.ensures c.own_count.ensures c.information_length.ensures in
    (own.joins, refl, c.information_length.ensures ∙ sym (told-length d ok a.b c.requires.1 a.s.now c.requires.2 frame c.requires.4))
