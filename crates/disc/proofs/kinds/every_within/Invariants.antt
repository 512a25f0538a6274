-- `disc::kinds::every_within` meets its contract: the largest so far, and what is left of both halves, make the answer.
-- Assumes nothing.
use Rattle.std.proofs.Common.{◌≡◌, ◌-◌, ◌&&◌, leb}
use Rattle.le.specs.Bytes.{every}
use Rattle.le.proofs.Halves.{left_of}
use Rattle.disc.proofs.kinds.every_within.Given as goal

abbrev pub invariant-loop-i : goal.invariant-loop-i
invariant-loop-i l =
    left_of (λ k. leb l.first k && leb k l.last) l.kinds l.half l.turns l.i (leb l.most (l.last - l.first)) ≡ every (λ k. leb l.first k && leb k l.last) l.kinds
