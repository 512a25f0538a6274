-- `disc::session::is_closed` meets its contract: too few sectors, no pointer's tag, another kind among the 256, and then the last sector decides.
-- Assumes nothing.
use Prim.Native.Nat.{ℕ, ◌+◌, ◌-◌, ◌*◌, ◌≤◌}
use native.Mathlib.Omega.{arith}
use mathlib.Core.Path.{◌≡◌, sym, ap, ◌∙◌}
use mathlib.Core.Bool.{true, false, ◌&&◌}
use mathlib.Core.List.{List}
use lib.Dec.{eqb, leb}
use lib.ListN.{length, take, drop}
use borrow.Author.Tests.{le-leb, lt-leb}
use Rattle.le.specs.Bytes.{every}
use Rattle.anchor.specs.Anchor.{anchor_tagged}
use Rattle.vat.specs.Table.{sector_length}
use Rattle.disc.specs.Disc.{Disc, lent, sector_at}
use Rattle.disc.specs.Tables.{table_at}
use Rattle.disc.specs.Session.{closing_length, session_closed}
use Rattle.disc.proofs.Recording.{sized-tells, leading_le}
use Rattle.disc.proofs.Found.{part-sector, sector-end}
use Rattle.disc.proofs.session.is_closed.Goals as goal

pub returns-then-recorded-le-CLOSING : goal.returns-then-recorded-le-CLOSING
unfolding session_closed
returns-then-recorded-le-CLOSING c =
    let D : Disc = lent c.args.image.now c.args.kinds.now in
    let last : ℕ = c.args.recorded - 1 in
    let pointer : ℕ = last - closing_length in
    let at_count : (leb (closing_length + 1) c.args.recorded && (anchor_tagged (sector_at D pointer) pointer && (every (λ k. eqb k 1) (take closing_length (drop pointer D.kinds)) && table_at D last))) ≡ session_closed D = ap (λ (r : ℕ). leb (closing_length + 1) r && (anchor_tagged (sector_at D ((r - 1) - closing_length)) ((r - 1) - closing_length) && (every (λ k. eqb k 1) (take closing_length (drop ((r - 1) - closing_length) D.kinds)) && table_at D (r - 1))))
    c.requires.1 in
    let few : leb (closing_length + 1) c.args.recorded ≡ false = lt-leb (closing_length + 1) c.args.recorded (omega (arith, c.if-recorded-le-CLOSING.true)) in
    rw few at at_count

pub slice_bounds-tagged-end : goal.slice_bounds-tagged-end
slice_bounds-tagged-end c =
    let D : Disc = lent c.args.image.now c.args.kinds.now in
    let last : ℕ = c.args.recorded - 1 in
    let pointer : ℕ = last - closing_length in
    let on-disc : c.args.recorded ≤ length D.kinds = omega (arith, c.requires.1, leading_le D.kinds) in
    let pointer-end : sector_length * pointer + sector_length ≤ length D.image = sector-end D (sized-tells D c.requires.0) pointer (omega (arith, on-disc, c.if-recorded-le-CLOSING.false)) in
    pointer-end

pub returns-then-not-tagged : goal.returns-then-not-tagged
unfolding session_closed
returns-then-not-tagged c =
    let D : Disc = lent c.args.image.now c.args.kinds.now in
    let last : ℕ = c.args.recorded - 1 in
    let pointer : ℕ = last - closing_length in
    let at_count : (leb (closing_length + 1) c.args.recorded && (anchor_tagged (sector_at D pointer) pointer && (every (λ k. eqb k 1) (take closing_length (drop pointer D.kinds)) && table_at D last))) ≡ session_closed D = ap (λ (r : ℕ). leb (closing_length + 1) r && (anchor_tagged (sector_at D ((r - 1) - closing_length)) ((r - 1) - closing_length) && (every (λ k. eqb k 1) (take closing_length (drop ((r - 1) - closing_length) D.kinds)) && table_at D (r - 1))))
    c.requires.1 in
    let enough-recorded : leb (closing_length + 1) c.args.recorded ≡ true = le-leb (closing_length + 1) c.args.recorded (omega (arith, c.if-recorded-le-CLOSING.false)) in
    let judged : c.tagged.result ≡ anchor_tagged (sector_at D pointer) pointer = c.tagged.ensures ∙ ap (λ (l : List ℕ). anchor_tagged l pointer) (part-sector D pointer) in
    let wrong : c.tagged.result ≡ false = c.if-not-tagged.true in
    rw (enough-recorded, sym judged ∙ wrong) at at_count

pub slice_bounds-every_data-end : goal.slice_bounds-every_data-end
slice_bounds-every_data-end c =
    let D : Disc = lent c.args.image.now c.args.kinds.now in
    let on-disc : c.args.recorded ≤ length D.kinds = omega (arith, c.requires.1, leading_le D.kinds) in
    omega (arith, on-disc)

pub returns-then-not-every_data : goal.returns-then-not-every_data
unfolding session_closed
returns-then-not-every_data c =
    let D : Disc = lent c.args.image.now c.args.kinds.now in
    let last : ℕ = c.args.recorded - 1 in
    let pointer : ℕ = last - closing_length in
    let at_count : (leb (closing_length + 1) c.args.recorded && (anchor_tagged (sector_at D pointer) pointer && (every (λ k. eqb k 1) (take closing_length (drop pointer D.kinds)) && table_at D last))) ≡ session_closed D = ap (λ (r : ℕ). leb (closing_length + 1) r && (anchor_tagged (sector_at D ((r - 1) - closing_length)) ((r - 1) - closing_length) && (every (λ k. eqb k 1) (take closing_length (drop ((r - 1) - closing_length) D.kinds)) && table_at D (r - 1))))
    c.requires.1 in
    let enough-recorded : leb (closing_length + 1) c.args.recorded ≡ true = le-leb (closing_length + 1) c.args.recorded (omega (arith, c.if-recorded-le-CLOSING.false)) in
    let judged : c.tagged.result ≡ anchor_tagged (sector_at D pointer) pointer = c.tagged.ensures ∙ ap (λ (l : List ℕ). anchor_tagged l pointer) (part-sector D pointer) in
    let counted : c.every_data.result ≡ every (λ k. eqb k 1) (take closing_length (drop pointer D.kinds)) = let long : last - pointer ≡ closing_length = omega (arith, c.if-recorded-le-CLOSING.false) in
    c.every_data.ensures ∙ ap (λ (n : ℕ). every (λ k. eqb k 1) (take n (drop pointer D.kinds))) long in
    let right : c.tagged.result ≡ true = c.if-not-tagged.false in
    let wrong : c.every_data.result ≡ false = c.if-not-every_data.true in
    rw (enough-recorded, sym judged ∙ right, sym counted ∙ wrong) at at_count

pub returns : goal.returns
unfolding session_closed
returns c =
    let D : Disc = lent c.args.image.now c.args.kinds.now in
    let last : ℕ = c.args.recorded - 1 in
    let pointer : ℕ = last - closing_length in
    let at_count : (leb (closing_length + 1) c.args.recorded && (anchor_tagged (sector_at D pointer) pointer && (every (λ k. eqb k 1) (take closing_length (drop pointer D.kinds)) && table_at D last))) ≡ session_closed D = ap (λ (r : ℕ). leb (closing_length + 1) r && (anchor_tagged (sector_at D ((r - 1) - closing_length)) ((r - 1) - closing_length) && (every (λ k. eqb k 1) (take closing_length (drop ((r - 1) - closing_length) D.kinds)) && table_at D (r - 1))))
    c.requires.1 in
    let enough-recorded : leb (closing_length + 1) c.args.recorded ≡ true = le-leb (closing_length + 1) c.args.recorded (omega (arith, c.if-recorded-le-CLOSING.false)) in
    let judged : c.tagged.result ≡ anchor_tagged (sector_at D pointer) pointer = c.tagged.ensures ∙ ap (λ (l : List ℕ). anchor_tagged l pointer) (part-sector D pointer) in
    let counted : c.every_data.result ≡ every (λ k. eqb k 1) (take closing_length (drop pointer D.kinds)) = let long : last - pointer ≡ closing_length = omega (arith, c.if-recorded-le-CLOSING.false) in
    c.every_data.ensures ∙ ap (λ (n : ℕ). every (λ k. eqb k 1) (take n (drop pointer D.kinds))) long in
    let right : c.tagged.result ≡ true = c.if-not-tagged.false in
    let all : c.every_data.result ≡ true = c.if-not-every_data.false in
    c.table_at.ensures ∙ rw (enough-recorded, sym judged ∙ right, sym counted ∙ all) at at_count
