-- `disc::again::own_blocks` meets its contract: the blocks so far, and then those that are left, are all of them.
-- Assumes nothing.
use Prim.Native.Nat.{ℕ, ◌+◌, ◌≤◌, ◌<◌}
use native.Mathlib.Omega.{arith}
use mathlib.Core.Path.{◌≡◌, refl, sym, ap, ◌∙◌, subst₂}
use mathlib.Core.List.{List}
use lib.ListN.{length, take, get_or, set, length-set}
use Rattle.le.specs.Field.{words}
use Rattle.vat.specs.Table.{most_own, table_length}
use Rattle.vat.specs.Sector.{table_bytes}
use Rattle.vat.specs.Own.{own_count}
use Rattle.vat.proofs.Theorems.{few-own, limit-held}
use Rattle.disc.specs.Disc.{Disc, lent}
use Rattle.disc.specs.Tables.{named_by}
use Rattle.disc.proofs.Planned.{Planned, plan-starts, plan-again, plan-fresh, plan-ends, own-many}
use Rattle.disc.proofs.again.own_blocks.Goals as goal
use Rattle.disc.proofs.again.own_blocks.Goals.{then-is_again, else-is_again}

pub loop-i-init : goal.loop-i-init
loop-i-init c =
    let D : Disc = lent c.args.image.now c.args.kinds.now in
    let T : List ℕ = table_bytes (words c.args.n c.args.map.now 0) c.args.previous in
    let a = c.args in
    (refl, plan-starts D T a.previous c.own_count-own.result a.b _ (c.own_count-own.ensures ∙ own-many a.n a.map.now a.previous))

pub bounds-blocks-place : goal.bounds-blocks-place
bounds-blocks-place c =
    let few : c.own_count-own.result ≤ most_own = omega (arith, c.own_count-own.ensures, few-own (table_length c.args.n) (limit-held c.args.n c.requires.2)) in
    omega (arith, few)

pub bounds-blocks-place-else-is_again : goal.bounds-blocks-place-else-is_again
bounds-blocks-place-else-is_again c =
    let few : c.own_count-own.result ≤ most_own = omega (arith, c.own_count-own.ensures, few-own (table_length c.args.n) (limit-held c.args.n c.requires.2)) in
    omega (arith, few)

pub overflow_add-next : goal.overflow_add-next
overflow_add-next c =
    let few : c.own_count-own.result ≤ most_own = omega (arith, c.own_count-own.ensures, few-own (table_length c.args.n) (limit-held c.args.n c.requires.2)) in
    omega (arith, c.loop-i.invariant.1.high, few, c.requires.4)

pub loop-i-preserved : goal.loop-i-preserved
loop-i-preserved c =
    let D : Disc = lent c.args.image.now c.args.kinds.now in
    let T : List ℕ = table_bytes (words c.args.n c.args.map.now 0) c.args.previous in
    let olds : List ℕ = named_by D c.args.previous in
    let few : c.own_count-own.result ≤ most_own = omega (arith, c.own_count-own.ensures, few-own (table_length c.args.n) (limit-held c.args.n c.requires.2)) in
    let a = c.args in
    let i : ℕ = c.loop-i.i in
    let m : ℕ = c.own_count-own.result in
    let blocks : List ℕ = c.loop-i.blocks in
    let next : ℕ = c.loop-i.next in
    let room : i < length blocks = omega (arith, few, c.loop-i.invariant.0) in
    elim c.if-is_again.branch [
      | then-is_again w ↦
          let put : c.if-is_again.blocks ≡ set blocks i (get_or olds i 0) = w.blocks-is ∙ ap (λ (x : ℕ). set blocks i x) w.named_block.ensures.0 in (
            ap length put ∙ length-set blocks i (get_or olds i 0) ∙ c.loop-i.invariant.0,
            subst₂ (λ (x : List ℕ) (k : ℕ). Planned D T a.previous m a.b x k (i + 1)) (sym put) (sym w.next-is)
                (plan-again D T a.previous m a.b blocks next i c.loop-i.invariant.1 (omega arith) room (sym c.is_again.ensures ∙ w.if-is_again.true)),
          )
      | else-is_again w ↦ (
        ap length w.blocks-is ∙ length-set blocks i next ∙ c.loop-i.invariant.0,
        subst₂ (λ (x : List ℕ) (k : ℕ). Planned D T a.previous m a.b x k (i + 1)) (sym w.blocks-is) (sym w.next-is)
            (plan-fresh D T a.previous m a.b blocks next i c.loop-i.invariant.1 (omega arith) room (sym c.is_again.ensures ∙ w.if-is_again.false)),
      )
    ]

pub returns : goal.returns
returns c =
    let D : Disc = lent c.args.image.now c.args.kinds.now in
    let T : List ℕ = table_bytes (words c.args.n c.args.map.now 0) c.args.previous in
    let a = c.args in
    let all : own_count (table_length a.n) ≡ c.loop-i.i = omega (arith, c.own_count-own.ensures) in
    let ends = plan-ends D T a.previous c.own_count-own.result a.b c.loop-i.blocks c.loop-i.next c.loop-i.i c.loop-i.invariant.1 (omega arith) in
    (ap (λ (k : ℕ). take k c.loop-i.blocks) all ∙ ends.0, ends.1)
