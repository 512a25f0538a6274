-- `disc::kinds::every_within` meets its contract: the largest so far, and what is left of both halves, make the answer.
-- Assumes nothing.
use Rattle.std.proofs.Common.{arith, ℕ, ◌≡◌, ◌+◌, ◌-◌, ◌%◌, Bool, ◌&&◌, leb, length, get_or, sym, ap, ◌∙◌}
use Rattle.le.proofs.Halves.{left_of, pair-taken, all_left, none_left}
use borrow.Author.Tests.{le-leb}
use Rattle.disc.proofs.Order.{max-within, wrapped-within}
use Rattle.disc.proofs.kinds.every_within.Goals as goal

pub loop-i-init : goal.loop-i-init
loop-i-init c =
    let a = c.args in
    let kind : ℕ → Bool = λ k. leb a.first k && leb k a.last in
    let turns = c.turns-turns.result in
    let half : ℕ = length a.kinds.now - turns in
    ap (left_of kind a.kinds.now half turns 0) (le-leb 0 (a.last - a.first) (omega arith)) ∙ all_left kind a.kinds.now half turns (omega (arith, c.turns-turns.ensures.1))

pub loop-i-preserved : goal.loop-i-preserved
loop-i-preserved c =
    let a = c.args in
    let l = c.loop-i in
    let kind : ℕ → Bool = λ k. leb a.first k && leb k a.last in
    let n : ℕ = a.last - a.first in
    let turns = c.turns-turns.result in
    let half : ℕ = length a.kinds.now - turns in
    let x = get_or a.kinds.now l.i 0 in
    let y = get_or a.kinds.now (half + l.i) 0 in
    let of_x : ℕ = (x + (256 - a.first)) % 256 in
    let of_y : ℕ = (y + (256 - a.first)) % 256 in
    let whole : half + turns ≡ length a.kinds.now = omega (arith, c.turns-turns.ensures.0) in
    let first_tells : leb of_x n ≡ kind x = wrapped-within x a.first a.last (omega (arith, c.type_inv.kinds l.i)) (omega arith) (omega arith) in
    let second_tells : leb of_y n ≡ kind y = wrapped-within y a.first a.last (omega (arith, c.type_inv.kinds (half + l.i))) (omega arith) (omega arith) in
    let both : leb c.max-most.result n ≡ (leb l.most n && (kind x && kind y)) = cc (max-within l.most c.max.result n, max-within of_x of_y n) in
    ap (left_of kind a.kinds.now half turns (l.i + 1)) both ∙ pair-taken kind a.kinds.now half turns l.i (leb l.most n) (omega arith) whole ∙ l.invariant

pub returns : goal.returns
returns c =
    let a = c.args in
    let l = c.loop-i in
    let kind : ℕ → Bool = λ k. leb a.first k && leb k a.last in
    let turns = c.turns-turns.result in
    let half : ℕ = length a.kinds.now - turns in
    sym (none_left kind a.kinds.now half turns l.i (leb l.most (a.last - a.first)) (omega arith) (omega (arith, c.turns-turns.ensures.0))) ∙ l.invariant
