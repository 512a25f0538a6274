-- `disc::own::laid` meets its contract: what was found so far, and the descriptors that are left, make the answer.
-- Assumes nothing.
use Prim.Native.Nat.{ℕ, ◌+◌}
use native.Mathlib.Omega.{arith}
use mathlib.Core.Path.{◌≡◌, refl, sym, ap, ◌∙◌}
use mathlib.Core.Bool.{Bool, ◌&&◌, ◌||◌, and-true}
use mathlib.Core.List.{List}
use lib.Dec.{eqb}
use Rattle.extent.specs.declared.Extent.{Extent}
use Rattle.extent.proofs.Extents.{extent_at, extents_left, none_left}
use Rattle.vat.specs.Table.{lies, laid}
use Rattle.disc.specs.Disc.{lent}
use Rattle.disc.specs.Tables.{below}
use Rattle.disc.proofs.Pieces.{descriptor-taken}
use Rattle.disc.proofs.own.laid.Goals as goal

pub loop-i-preserved : goal.loop-i-preserved
loop-i-preserved c =
    let a = c.args in
    let s : List ℕ = a.s.now in
    let i : ℕ = c.loop-i.i in
    let e : Extent = extent_at s a.at i in
    let read : c.read-e.result ≡ e = c.read-e.ensures in (
      refl,
      λ image.
          let lower = below (lent image a.kinds.now) a.b in
          let left : Bool = laid lower (extents_left s a.at a.m (i + 1)) in
          ap (λ (t : Bool). (c.loop-i.held && (t && (eqb (i + 1) a.m || eqb c.read-e.result.length 2048))) && left) (c.lies.ensures image)
          ∙ ap (λ (x : Extent). (c.loop-i.held && (lies lower x && (eqb (i + 1) a.m || eqb x.length 2048))) && left) read
          ∙ descriptor-taken (lent image a.kinds.now) a.b s a.at a.m i c.loop-i.held (omega arith)
          ∙ c.loop-i.invariant.1 image,
    )

pub returns : goal.returns
unfolding laid
returns c =
    let a = c.args in
    λ image.
    sym (and-true c.loop-i.held)
    ∙ ap (λ (es : List Extent). c.loop-i.held && laid (below (lent image a.kinds.now) a.b) es) (sym (none_left a.s.now a.at a.m c.loop-i.i (omega arith)))
    ∙ c.loop-i.invariant.1 image
