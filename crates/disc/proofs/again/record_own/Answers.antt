-- `disc::again::record_own` meets its contract: the sectors so far, and then those that are left, are all that are not named again.
-- Assumes nothing.
use Prim.Native.Nat.{ℕ, ◌+◌, ◌*◌, ◌≤◌, ◌<◌}
use native.Mathlib.Omega.{arith}
use mathlib.Core.Path.{◌≡◌, refl, sym, ap, ap₂, ◌∙◌, subst, subst₂}
use mathlib.Core.List.{List}
use lib.ListN.{length, take, drop, length-set}
use Rattle.le.specs.Field.{words}
use Rattle.vat.specs.Table.{sector_length}
use Rattle.vat.specs.Sector.{table_bytes}
use Rattle.vat.specs.Own.{own_sector}
use Rattle.vat.proofs.Joined.{length-filled}
use Rattle.disc.specs.Disc.{Disc, lent, plain, put}
use Rattle.disc.proofs.Recording.{Sound, sound, length-stored}
use Rattle.disc.proofs.Planned.{Recording, record-starts, record-skips, record-room, record-puts, record-ends, own-many}
use Rattle.disc.proofs.again.record_own.Goals as goal
use Rattle.disc.proofs.again.record_own.Goals.{then-blocks-i, else-blocks-i}

pub loop-i-init : goal.loop-i-init
loop-i-init c =
    let D : Disc = lent c.args.image.now c.args.kinds.now in
    let T : List ℕ = table_bytes (words c.args.n c.args.map.now 0) c.args.previous in
    let ok : Sound D = sound D c.requires.0 c.requires.1 in
    let a = c.args in
    let m : ℕ = c.own_count-own.result in
    let settled = ap (λ (k : ℕ). take k a.blocks.now) c.own_count-own.ensures ∙ c.requires.6 in
    (refl, refl, record-starts D ok T a.previous m a.b c.requires.2 a.blocks.now (c.own_count-own.ensures ∙ own-many a.n a.map.now a.previous) settled c.requires.7)

pub record_sector-requires : goal.record_sector-requires
record_sector-requires c =
    let D : Disc = lent c.args.image.now c.args.kinds.now in
    let T : List ℕ = table_bytes (words c.args.n c.args.map.now 0) c.args.previous in
    let E : Disc = lent c.loop-i.image c.loop-i.kinds in
    let ok : Sound D = sound D c.requires.0 c.requires.1 in
    let whole : length c.loop-i.image ≡ sector_length * length c.loop-i.kinds = omega (arith, ok.whole, c.loop-i.invariant.0, c.loop-i.invariant.1) in
    let held : c.loop-i.i < length c.args.blocks.now = omega (arith, c.own_count-own.ensures, c.requires.5) in
    let room : c.loop-i.next < length c.loop-i.kinds = let a = c.args in
    record-room D ok T a.previous c.own_count-own.result a.b c.requires.2 a.blocks.now E c.loop-i.next c.loop-i.i c.loop-i.invariant.2 (omega arith) held
    c.if-blocks-i.true in
    (whole, room, c.requires.3, c.requires.4, omega (arith, c.own_count-own.ensures))

pub overflow_add-next : goal.overflow_add-next
overflow_add-next c =
    let D : Disc = lent c.args.image.now c.args.kinds.now in
    let T : List ℕ = table_bytes (words c.args.n c.args.map.now 0) c.args.previous in
    let E : Disc = lent c.loop-i.image c.loop-i.kinds in
    let ok : Sound D = sound D c.requires.0 c.requires.1 in
    let held : c.loop-i.i < length c.args.blocks.now = omega (arith, c.own_count-own.ensures, c.requires.5) in
    let room : c.loop-i.next < length c.loop-i.kinds = let a = c.args in
    record-room D ok T a.previous c.own_count-own.result a.b c.requires.2 a.blocks.now E c.loop-i.next c.loop-i.i c.loop-i.invariant.2 (omega arith) held
    c.if-blocks-i.true in
    omega (arith, room, c.loop-i.invariant.1, ok.few)

pub loop-i-preserved : goal.loop-i-preserved
loop-i-preserved c =
    let D : Disc = lent c.args.image.now c.args.kinds.now in
    let T : List ℕ = table_bytes (words c.args.n c.args.map.now 0) c.args.previous in
    let E : Disc = lent c.loop-i.image c.loop-i.kinds in
    let ok : Sound D = sound D c.requires.0 c.requires.1 in
    let whole : length c.loop-i.image ≡ sector_length * length c.loop-i.kinds = omega (arith, ok.whole, c.loop-i.invariant.0, c.loop-i.invariant.1) in
    let held : c.loop-i.i < length c.args.blocks.now = omega (arith, c.own_count-own.ensures, c.requires.5) in
    let a = c.args in
    let i : ℕ = c.loop-i.i in
    let m : ℕ = c.own_count-own.result in
    let sector : List ℕ = own_sector T i in
    let recording : Disc → ℕ → Type 0 = λ x n. Recording D T a.previous m a.b a.blocks.now x n (i + 1) in
    elim c.if-blocks-i.branch [
      | then-blocks-i w ↦
          let after : Disc = lent c.if-blocks-i.image c.if-blocks-i.kinds in
          let room : c.loop-i.next < length c.loop-i.kinds =
          record-room D ok T a.previous m a.b c.requires.2 a.blocks.now E c.loop-i.next i c.loop-i.invariant.2 (omega arith) held w.if-blocks-i.true in
          let put-there : after ≡ put E c.loop-i.next (plain sector) = ap₂ lent w.image-is w.kinds-is ∙ w.record_sector.ensures in
          let inside : sector_length * c.loop-i.next + length sector ≤ length c.loop-i.image = omega (arith, whole, room, length-filled (drop (sector_length * i) T)) in (
            ap (λ (x : Disc). length x.image) put-there ∙ length-stored c.loop-i.image (sector_length * c.loop-i.next) sector inside ∙ c.loop-i.invariant.0,
            ap (λ (x : Disc). length x.kinds) put-there ∙ length-set c.loop-i.kinds c.loop-i.next 1 ∙ c.loop-i.invariant.1,
            subst (recording after) (sym w.next-is)
                (record-puts D ok T a.previous m a.b c.requires.2 a.blocks.now E c.loop-i.next i c.loop-i.invariant.2 (omega arith) held w.if-blocks-i.true after put-there),
          )
      | else-blocks-i w ↦ (
        ap length w.image-is ∙ c.loop-i.invariant.0,
        ap length w.kinds-is ∙ c.loop-i.invariant.1,
        subst₂ recording (sym (ap₂ lent w.image-is w.kinds-is)) (sym w.next-is)
            (record-skips D ok T a.previous m a.b c.requires.2 a.blocks.now E c.loop-i.next i c.loop-i.invariant.2 (omega arith) held w.if-blocks-i.false),
      )
    ]

pub returns : goal.returns
returns c =
    let D : Disc = lent c.args.image.now c.args.kinds.now in
    let T : List ℕ = table_bytes (words c.args.n c.args.map.now 0) c.args.previous in
    let E : Disc = lent c.loop-i.image c.loop-i.kinds in
    let ok : Sound D = sound D c.requires.0 c.requires.1 in
    let a = c.args in
    record-ends D ok T a.previous c.own_count-own.result a.b c.requires.2 a.blocks.now E c.loop-i.next c.loop-i.i c.loop-i.invariant.2 (omega arith)
