-- `disc::tables::newest` meets its contract: the newest table below the block that the scan has come to is the newest one.
-- Assumes nothing.
use Prim.Native.Nat.{ℕ, ◌+◌, ◌-◌, ◌*◌, ◌≤◌, ◌<◌}
use native.Mathlib.Omega.{arith}
use mathlib.Core.Path.{◌≡◌, refl, sym, ap, ap₂, ◌∙◌}
use mathlib.Core.Bool.{Bool, true, false}
use mathlib.Core.List.{List}
use Rattle.std.specs.Prelude.{Some}
use lib.ListN.{length}
use Rattle.le.specs.Bytes.{every}
use Rattle.le.specs.Field.{words}
use Rattle.tag.specs.Tag.{sealed}
use Rattle.vat.specs.Table.{sector_length, unused_or_below, own_of, laid, table_of, entry_count, entries_of, is_table}
use Rattle.vat.proofs.Frame.{framed-tells}
use Rattle.disc.specs.Disc.{Disc, lent, sized, kind_at, sector_at}
use Rattle.disc.specs.Tables.{below, table_at, newest_below}
use Rattle.disc.proofs.Recording.{sized-tells}
use Rattle.disc.proofs.Told.{table-of, other-kind}
use Rattle.disc.proofs.Found.{sector-end, sector-long, untagged, not-framed, not-laid, not-enclosed, not-held, all-but-sums, group-fails, group-passes, words-passed, none_below, scan-on, scan-ends, scan-past}
use Rattle.disc.proofs.Forms.{sums-within}
use Rattle.disc.proofs.tables.newest.Goals as goal

-- the block b, behind which no table stands up to the recorded ones
module _ (d : Disc) (b recorded : ℕ) (above : 0 < b) (high : b ≤ recorded) (so-far : newest_below (table_at d) b ≡ newest_below (table_at d) recorded) where
  abbrev here : ℕ
  here = b - 1

  past : table_at d here ≡ false → (here ≤ recorded) × (newest_below (table_at d) here ≡ newest_below (table_at d) recorded)
  past e = (omega arith, scan-on (table_at d) b (newest_below (table_at d) recorded) above e so-far)

  found : table_at d here ≡ true → Some here ≡ newest_below (table_at d) recorded
  found e = sym (scan-ends (table_at d) b (newest_below (table_at d) recorded) above e so-far)

-- the sector s of block b, of data
module _ (d : Disc) (b : ℕ) (s : List ℕ) (ok : sized d ≡ true) (within : b < length d.kinds) (read : s ≡ sector_at d b) where
  long : length s ≡ sector_length
  long = ap length read ∙ sector-long d (sized-tells d ok) b within

  stands : kind_at d b ≡ 1 → table_at d b ≡ is_table (below d b) s b
  stands kind = table-of d b (below d b) s refl (sym read) kind

pub scan-preserved-then-plain_group : goal.scan-preserved-then-plain_group
scan-preserved-then-plain_group c =
    let table : ℕ → Bool = table_at (lent c.args.image.now c.args.kinds.now) in
    (omega (arith, c.scan.invariant.0), scan-past table 8 c.scan.b (newest_below table c.args.recorded) (omega arith) (c.plain_group.ensures c.if-plain_group.true) c.scan.invariant.1)

pub scan-preserved-then-kinds-b : goal.scan-preserved-then-kinds-b
scan-preserved-then-kinds-b c =
    let d : Disc = lent c.args.image.now c.args.kinds.now in
    let b : ℕ = c.scan.b - 1 in
    past d c.scan.b c.args.recorded (omega arith) c.scan.invariant.0 c.scan.invariant.1 (other-kind d b c.if-kinds-b.true)

pub sector_at-s-requires : goal.sector_at-s-requires
sector_at-s-requires c =
    let d : Disc = lent c.args.image.now c.args.kinds.now in
    let b : ℕ = c.scan.b - 1 in
    sector-end d (sized-tells d c.requires.0) b (omega (arith, c.scan.invariant.0, c.requires.1))

pub tagged-requires : goal.tagged-requires
tagged-requires c =
    let d : Disc = lent c.args.image.now c.args.kinds.now in
    let b : ℕ = c.scan.b - 1 in
    let s : List ℕ = c.sector_at-s.result.now in
    long d b s c.requires.0 (omega (arith, c.scan.invariant.0, c.requires.1)) (c.sector_at-s.ensures d.kinds)

pub scan-preserved-then-not-tagged : goal.scan-preserved-then-not-tagged
scan-preserved-then-not-tagged c =
    let d : Disc = lent c.args.image.now c.args.kinds.now in
    let b : ℕ = c.scan.b - 1 in
    let s : List ℕ = c.sector_at-s.result.now in
    past d c.scan.b c.args.recorded (omega arith) c.scan.invariant.0 c.scan.invariant.1 (stands d b s c.requires.0 (omega (arith, c.scan.invariant.0, c.requires.1)) (c.sector_at-s.ensures d.kinds) c.if-kinds-b.false ∙ untagged (below d b) s b (sym c.tagged.ensures ∙ c.if-not-tagged.true))

pub framed-requires : goal.framed-requires
framed-requires c =
    let d : Disc = lent c.args.image.now c.args.kinds.now in
    let b : ℕ = c.scan.b - 1 in
    let s : List ℕ = c.sector_at-s.result.now in
    long d b s c.requires.0 (omega (arith, c.scan.invariant.0, c.requires.1)) (c.sector_at-s.ensures d.kinds)

pub scan-preserved-then-not-framed : goal.scan-preserved-then-not-framed
scan-preserved-then-not-framed c =
    let d : Disc = lent c.args.image.now c.args.kinds.now in
    let b : ℕ = c.scan.b - 1 in
    let s : List ℕ = c.sector_at-s.result.now in
    past d c.scan.b c.args.recorded (omega arith) c.scan.invariant.0 c.scan.invariant.1 (stands d b s c.requires.0 (omega (arith, c.scan.invariant.0, c.requires.1)) (c.sector_at-s.ensures d.kinds) c.if-kinds-b.false ∙ not-framed (below d b) s b (sym c.framed.ensures ∙ c.if-not-framed.true))

pub laid-requires : goal.laid-requires
laid-requires c =
    let d : Disc = lent c.args.image.now c.args.kinds.now in
    let b : ℕ = c.scan.b - 1 in
    let s : List ℕ = c.sector_at-s.result.now in
    (omega (arith, c.scan.invariant.0, c.requires.1), long d b s c.requires.0 (omega (arith, c.scan.invariant.0, c.requires.1)) (c.sector_at-s.ensures d.kinds), sym c.framed.ensures ∙ c.if-not-framed.false)

pub scan-preserved-then-not-laid : goal.scan-preserved-then-not-laid
scan-preserved-then-not-laid c =
    let d : Disc = lent c.args.image.now c.args.kinds.now in
    let b : ℕ = c.scan.b - 1 in
    let s : List ℕ = c.sector_at-s.result.now in
    past d c.scan.b c.args.recorded (omega arith) c.scan.invariant.0 c.scan.invariant.1 (stands d b s c.requires.0 (omega (arith, c.scan.invariant.0, c.requires.1)) (c.sector_at-s.ensures d.kinds) c.if-kinds-b.false ∙ not-laid (below d b) s b (sym (c.laid.ensures d.image) ∙ c.if-not-laid.true))

pub enclosed-requires : goal.enclosed-requires
enclosed-requires c =
    let d : Disc = lent c.args.image.now c.args.kinds.now in
    let b : ℕ = c.scan.b - 1 in
    let s : List ℕ = c.sector_at-s.result.now in
    let own : laid (below d b) (own_of s) ≡ true = sym (c.laid.ensures d.image) ∙ c.if-not-laid.false in
    (c.requires.0, omega (arith, c.scan.invariant.0, c.requires.1), long d b s c.requires.0 (omega (arith, c.scan.invariant.0, c.requires.1)) (c.sector_at-s.ensures d.kinds), sym c.framed.ensures ∙ c.if-not-framed.false, own)

pub scan-preserved-then-not-enclosed : goal.scan-preserved-then-not-enclosed
scan-preserved-then-not-enclosed c =
    let d : Disc = lent c.args.image.now c.args.kinds.now in
    let b : ℕ = c.scan.b - 1 in
    let s : List ℕ = c.sector_at-s.result.now in
    past d c.scan.b c.args.recorded (omega arith) c.scan.invariant.0 c.scan.invariant.1 (stands d b s c.requires.0 (omega (arith, c.scan.invariant.0, c.requires.1)) (c.sector_at-s.ensures d.kinds) c.if-kinds-b.false ∙ not-enclosed (below d b) s b (sym c.enclosed.ensures ∙ c.if-not-enclosed.true))

pub entry_count-n-requires : goal.entry_count-n-requires
entry_count-n-requires c =
    let d : Disc = lent c.args.image.now c.args.kinds.now in
    let b : ℕ = c.scan.b - 1 in
    let s : List ℕ = c.sector_at-s.result.now in
    (omega (arith, c.scan.invariant.0, c.requires.1), long d b s c.requires.0 (omega (arith, c.scan.invariant.0, c.requires.1)) (c.sector_at-s.ensures d.kinds), sym c.framed.ensures ∙ c.if-not-framed.false, λ image. sym (c.laid.ensures image) ∙ c.if-not-laid.false)

pub loop-i-init : goal.loop-i-init
unfolding entries_of
loop-i-init c =
    let d : Disc = lent c.args.image.now c.args.kinds.now in
    let b : ℕ = c.scan.b - 1 in
    let s : List ℕ = c.sector_at-s.result.now in
    let count : c.entry_count-n.result ≡ entry_count (table_of (below d b) s) = c.entry_count-n.ensures d.image c.requires.0 in
    let all : c.entry_count-n.result - 0 ≡ entry_count (table_of (below d b) s) = omega (arith, count) in
    (omega arith, ap (λ (k : ℕ). every (unused_or_below b) (words k (table_of (below d b) s) 0)) all)

pub entries_held-requires : goal.entries_held-requires
entries_held-requires c =
    let d : Disc = lent c.args.image.now c.args.kinds.now in
    let b : ℕ = c.scan.b - 1 in
    let s : List ℕ = c.sector_at-s.result.now in
    let own : laid (below d b) (own_of s) ≡ true = sym (c.laid.ensures d.image) ∙ c.if-not-laid.false in
    let count : c.entry_count-n.result ≡ entry_count (table_of (below d b) s) = c.entry_count-n.ensures d.image c.requires.0 in
    (c.requires.0, omega (arith, c.scan.invariant.0, c.requires.1), long d b s c.requires.0 (omega (arith, c.scan.invariant.0, c.requires.1)) (c.sector_at-s.ensures d.kinds), sym c.framed.ensures ∙ c.if-not-framed.false, own, omega (arith, count, c.min-count.ensures))

pub scan-preserved-then-not-entries_held : goal.scan-preserved-then-not-entries_held
scan-preserved-then-not-entries_held c =
    let d : Disc = lent c.args.image.now c.args.kinds.now in
    let b : ℕ = c.scan.b - 1 in
    let s : List ℕ = c.sector_at-s.result.now in
    let left : ℕ = c.entry_count-n.result - c.loop-i.i in
    let wrong : every (unused_or_below b) (words c.min-count.result (table_of (below d b) s) (4 * c.loop-i.i)) ≡ false = sym c.entries_held.ensures ∙ c.if-not-entries_held.true in
    let fails = group-fails (unused_or_below b) c.min-count.result left (table_of (below d b) s) (4 * c.loop-i.i) (omega (arith, c.min-count.ensures)) wrong in
    past d c.scan.b c.args.recorded (omega arith) c.scan.invariant.0 c.scan.invariant.1
    (stands d b s c.requires.0 (omega (arith, c.scan.invariant.0, c.requires.1)) (c.sector_at-s.ensures d.kinds) c.if-kinds-b.false ∙ not-held (below d b) s b (sym c.loop-i.invariant.1 ∙ fails))

pub loop-i-preserved : goal.loop-i-preserved
loop-i-preserved c =
    let d : Disc = lent c.args.image.now c.args.kinds.now in
    let b : ℕ = c.scan.b - 1 in
    let s : List ℕ = c.sector_at-s.result.now in
    let t : List ℕ = table_of (below d b) s in
    let left : ℕ = c.entry_count-n.result - c.loop-i.i in
    let k : ℕ = c.min-count.result in
    let right : every (unused_or_below b) (words k t (4 * c.loop-i.i)) ≡ true = sym c.entries_held.ensures ∙ c.if-not-entries_held.false in
    let fewer : c.entry_count-n.result - (c.loop-i.i + k) ≡ left - k = omega arith in
    let further : 4 * (c.loop-i.i + k) ≡ 4 * c.loop-i.i + 4 * k = omega arith in (
      omega (arith, c.min-count.ensures),
      ap₂ (λ (n at : ℕ). every (unused_or_below b) (words n t at)) fewer further ∙ group-passes (unused_or_below b) k left t (4 * c.loop-i.i) (omega (arith, c.min-count.ensures)) right ∙ c.loop-i.invariant.1,
    )

pub sealed-requires : goal.sealed-requires
sealed-requires c =
    let d : Disc = lent c.args.image.now c.args.kinds.now in
    let b : ℕ = c.scan.b - 1 in
    let s : List ℕ = c.sector_at-s.result.now in
    sums-within s b (long d b s c.requires.0 (omega (arith, c.scan.invariant.0, c.requires.1)) (c.sector_at-s.ensures d.kinds)) (framed-tells s b (sym c.framed.ensures ∙ c.if-not-framed.false))

pub scan-preserved : goal.scan-preserved
scan-preserved c =
    let d : Disc = lent c.args.image.now c.args.kinds.now in
    let b : ℕ = c.scan.b - 1 in
    let s : List ℕ = c.sector_at-s.result.now in
    let passed : every (unused_or_below b) (words (c.entry_count-n.result - c.loop-i.i) (table_of (below d b) s) (4 * c.loop-i.i)) ≡ true =
    words-passed (unused_or_below b) (c.entry_count-n.result - c.loop-i.i) (table_of (below d b) s) (4 * c.loop-i.i) (omega arith) in
    let sums : is_table (below d b) s b ≡ sealed s =
    all-but-sums (below d b) s b (long d b s c.requires.0 (omega (arith, c.scan.invariant.0, c.requires.1)) (c.sector_at-s.ensures d.kinds)) (sym c.framed.ensures ∙ c.if-not-framed.false) (sym (c.laid.ensures d.image) ∙ c.if-not-laid.false) (sym c.enclosed.ensures ∙ c.if-not-enclosed.false) (sym c.loop-i.invariant.1 ∙ passed) in
    past d c.scan.b c.args.recorded (omega arith) c.scan.invariant.0 c.scan.invariant.1 (stands d b s c.requires.0 (omega (arith, c.scan.invariant.0, c.requires.1)) (c.sector_at-s.ensures d.kinds) c.if-kinds-b.false ∙ sums ∙ sym c.sealed.ensures ∙ c.if-sealed.false)

pub returns-then-b-eq0 : goal.returns-then-b-eq0
returns-then-b-eq0 c =
    let table : ℕ → Bool = table_at (lent c.args.image.now c.args.kinds.now) in
    sym (none_below table) ∙ ap (newest_below table) (sym c.if-b-eq0.true) ∙ c.scan.invariant.1

pub returns-then-sealed : goal.returns-then-sealed
returns-then-sealed c =
    let d : Disc = lent c.args.image.now c.args.kinds.now in
    let b : ℕ = c.scan.b - 1 in
    let s : List ℕ = c.sector_at-s.result.now in
    let passed : every (unused_or_below b) (words (c.entry_count-n.result - c.loop-i.i) (table_of (below d b) s) (4 * c.loop-i.i)) ≡ true =
    words-passed (unused_or_below b) (c.entry_count-n.result - c.loop-i.i) (table_of (below d b) s) (4 * c.loop-i.i) (omega arith) in
    let sums : is_table (below d b) s b ≡ sealed s =
    all-but-sums (below d b) s b (long d b s c.requires.0 (omega (arith, c.scan.invariant.0, c.requires.1)) (c.sector_at-s.ensures d.kinds)) (sym c.framed.ensures ∙ c.if-not-framed.false) (sym (c.laid.ensures d.image) ∙ c.if-not-laid.false) (sym c.enclosed.ensures ∙ c.if-not-enclosed.false) (sym c.loop-i.invariant.1 ∙ passed) in
    found d c.scan.b c.args.recorded (omega arith) c.scan.invariant.0 c.scan.invariant.1 (stands d b s c.requires.0 (omega (arith, c.scan.invariant.0, c.requires.1)) (c.sector_at-s.ensures d.kinds) c.if-kinds-b.false ∙ sums ∙ sym c.sealed.ensures ∙ c.if-sealed.true)
