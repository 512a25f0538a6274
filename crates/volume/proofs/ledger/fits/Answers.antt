-- `volume::ledger::fits` meets its contract: the parts that are tested on the ledger's bytes are those of the unpacked state.
-- Assumes nothing.
use Prim.Native.Nat.{ℕ, ◌-◌, ◌*◌, ◌≤◌, ◌<◌}
use native.Mathlib.Omega.{arith}
use mathlib.Core.Path.{◌≡◌, sym, ap, ap₂, ◌∙◌, subst}
use mathlib.Core.Bool.{◌&&◌, ◌||◌}
use mathlib.Core.List.{List}
use lib.Dec.{eqb}
use lib.ListN.{drop}
use Rattle.le.specs.Bytes.{every}
use Rattle.le.specs.Field.{words}
use Rattle.vat.specs.Table.{limit, unused, unused_or_below}
use Rattle.disc.specs.Disc.{Disc, lent}
use Rattle.disc.specs.Tables.{table_at}
use Rattle.disc.proofs.Recording.{leading_le}
use Rattle.volume.specs.declared.Volume.{Volume}
use Rattle.volume.specs.Volume.{places, is_unused, unpack, map_of}
use Rattle.volume.proofs.Fit.{entries_below, entries-beyond, mode_fits, all-below-zero, too_many, other-count, fits-parts}
use Rattle.volume.proofs.ledger.fits.Goals as goal

pub returns-then-size-gt-LIMIT : goal.returns-then-size-gt-LIMIT
returns-then-size-gt-LIMIT c =
    let D : Disc = lent c.args.image.now c.args.kinds.now in
    let W : Volume = unpack c.args.l.now in
    sym (too_many D W (subst (λ (n : ℕ). limit < n) c.size-size.ensures c.if-size-gt-LIMIT.true))

pub returns-then-own-counted : goal.returns-then-own-counted
returns-then-own-counted c =
    let D : Disc = lent c.args.image.now c.args.kinds.now in
    let W : Volume = unpack c.args.l.now in
    sym (other-count D W (λ e. c.if-own-counted.true (c.recorded-own.ensures ∙ e ∙ sym c.requires.2)))

pub mode_fits-open-requires : goal.mode_fits-open-requires
mode_fits-open-requires c =
    omega (arith, c.requires.2, leading_le c.args.kinds.now)

pub returns : goal.returns
returns c =
    let D : Disc = lent c.args.image.now c.args.kinds.now in
    let W : Volume = unpack c.args.l.now in
    let l : List ℕ = c.args.l.now in
    let v : Volume = W in
    let size : c.size-size.result ≡ v.size = c.size-size.ensures in
    let few : v.size ≤ limit = omega (arith, size, c.if-size-gt-LIMIT.false) in
    let own : c.recorded-own.result ≡ v.recorded = c.recorded-own.ensures in
    let counted : c.recorded-own.result ≡ c.args.counted = c.if-own-counted.false in
    let beyond : c.words_held-beyond.result ≡ every is_unused (drop v.size v.entries) =
    c.words_held-beyond.ensures ∙ ap (λ (n : ℕ). every (unused_or_below 0) (words (places - n) l (4 * n))) size
    ∙ ap (every (unused_or_below 0)) (sym (entries-beyond l v.size few)) ∙ all-below-zero (drop v.size v.entries) in
    let below : c.words_held-below.result ≡ every (unused_or_below v.recorded) (map_of v) =
    c.words_held-below.ensures ∙ ap₂ (λ (c n : ℕ). every (unused_or_below c) (words n l 0)) own size
    ∙ ap (every (unused_or_below v.recorded)) (sym (entries_below l v.size few)) in
    let table : c.last_fits-table.result ≡ (eqb v.last unused || table_at D v.last) =
    c.last_fits-table.ensures ∙ ap (λ (b : ℕ). eqb b unused || table_at D b) c.last.ensures in
    let mode : c.mode_fits-open.result ≡ mode_fits D.kinds v.mode v.recorded =
    c.mode_fits-open.ensures ∙ ap₂ (mode_fits D.kinds) c.mode.ensures (sym counted ∙ own) in
    ap₂ ◌&&◌ beyond (ap₂ ◌&&◌ below (ap₂ ◌&&◌ table mode)) ∙ sym (fits-parts D v few (sym own ∙ counted ∙ c.requires.2))
