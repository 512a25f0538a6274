-- `disc::kinds::count` meets its contract: both sides of the place that halving found tell whether the kinds are in order.
-- Assumes nothing.
use Rattle.std.proofs.Common.{arith, ◌≡◌, ◌-◌, ◌≤◌, ◌&&◌, eqb, length, drop, ap, ap₂, ◌∙◌, length-drop}
use Rattle.std.proofs.Math.Seq.{take_all}
use Rattle.le.specs.Bytes.{every}
use Rattle.std.specs.Bool.{then_some}
use Rattle.disc.proofs.Recording.{blank_from}
use Rattle.disc.proofs.Order.{recorded_to, every-one, sides-tell, point-counts}
use Rattle.disc.proofs.kinds.count.Goals as goal

pub returns : goal.returns
returns c =
    let ks = c.args.kinds.now in
    let r = c.boundary-recorded.result in
    let long : length (drop r ks) ≤ length ks - r = omega (arith, length-drop r ks) in
    let before : c.every_within-before.result ≡ recorded_to ks r = c.every_within-before.ensures in
    let behind : c.every_within-behind.result ≡ blank_from ks r = c.every_within-behind.ensures ∙ every-one 0 _ ∙ ap (every (λ k. eqb k 0)) (take_all (length ks - r) (drop r ks) long) in
    let told = ap₂ ◌&&◌ before behind ∙ sides-tell ks r c.boundary-recorded.ensures.0 c.boundary-recorded.ensures.1 in
    c.then_some.ensures ∙ ap (λ t. then_some t r) told ∙ point-counts ks r c.boundary-recorded.ensures.1
