-- `viewer::show` meets its contract: what is filled so far, and what the extents that are left show, are all that is to be shown.
-- Assumes nothing.
use Prim.Native.Nat.{ℕ, ◌+◌, ◌*◌, ◌≤◌}
use native.Mathlib.Omega.{arith}
use mathlib.Core.Path.{◌≡◌, sym, ap, ◌∙◌, subst}
use mathlib.Core.Bool.{true}
use mathlib.Core.List.{List, [], ◌∷◌}
use lib.ListN.{length, take, drop}
use Rattle.vat.specs.Table.{sector_length}
use Rattle.extent.specs.declared.Extent.{Extent}
use Rattle.extent.proofs.Extents.{extents_left, extent-taken, none_left}
use Rattle.disc.specs.Disc.{lent}
use Rattle.run.specs.Entry.{descriptors_at, extents_of, laid, run_bytes}
use Rattle.run.proofs.Theorems.{Recognised, recognised, Laid, laid-tells, bytes_below}
use Rattle.viewer.proofs.Pieces.{Filled, filled-turn, filled-end}
use Rattle.viewer.proofs.show.Goals as goal
use Rattle.viewer.proofs.show.Goals.{After-extent-e}

-- what the buffer is to be filled with
abbrev all : List ℕ → List ℕ → ℕ → ℕ → List ℕ
all image entry offset room = take room (drop offset (run_bytes (lent image []) (extents_of entry)))

-- the extents behind this turn's
abbrev others : After-extent-e → List Extent
others c = extents_left c.args.entry.now descriptors_at c.extent_count-count.result (c.loop-i.i + 1)

here : (c : After-extent-e) → extents_left c.args.entry.now descriptors_at c.extent_count-count.result c.loop-i.i ≡ c.extent-e.result ∷ others c
here c = extent-taken c.args.entry.now descriptors_at c.extent_count-count.result c.loop-i.i (omega arith) ∙ ap (λ (e : Extent). e ∷ others c) (sym c.extent-e.ensures)

laid-here : (c : After-extent-e) (kinds : List ℕ) (b : ℕ) → laid kinds b (extents_of c.args.entry.now) ≡ true → Laid kinds b c.extent-e.result (others c)
laid-here c kinds b t = laid-tells kinds b c.extent-e.result (others c) (ap (laid kinds b) (sym (here c)) ∙ c.loop-i.invariant.0 kinds b t)

inside : (c : After-extent-e) → sector_length * c.extent-e.result.location + c.extent-e.result.length ≤ length c.args.image.now
inside c =
    let facts : Recognised c.requires.0 c.args.entry.now c.requires.1 = recognised c.requires.0 c.args.entry.now c.requires.1 c.requires.2 in
    omega (arith, bytes_below c.requires.0 c.requires.1 c.extent-e.result (laid-here c c.requires.0 c.requires.1 facts.extents-laid).first, c.requires.3)

pub extent_count-count-requires : goal.extent_count-count-requires
extent_count-count-requires c = (recognised c.requires.0 c.args.entry.now c.requires.1 c.requires.2).whole

pub extent-e-requires : goal.extent-e-requires
extent-e-requires c =
    let facts : Recognised c.requires.0 c.args.entry.now c.requires.1 = recognised c.requires.0 c.args.entry.now c.requires.1 c.requires.2 in
    (facts.whole, omega (arith, c.extent_count-count.ensures, facts.few))

pub show_extent-filled-requires : goal.show_extent-filled-requires
show_extent-filled-requires c = let f = c.loop-i.invariant.1 in (inside (goal.at.show_extent-filled-requires c).After-extent-e, omega (arith, f.0, f.1))

pub loop-i-preserved : goal.loop-i-preserved
loop-i-preserved c =
    let a = c.args in
    let at : After-extent-e = (goal.at.loop-i-preserved c).After-extent-e in
    let wanted : List ℕ = all a.image.now a.entry.now a.offset (length a.buffer.now) in
    let before = subst (λ (es : List Extent). Filled a.buffer.now wanted (lent a.image.now []) es c.loop-i.buffer c.loop-i.skip c.loop-i.filled) (here at) c.loop-i.invariant.1 in (
      λ kinds b t. (laid-here at kinds b t).rest,
      subst (λ (k : ℕ). Filled a.buffer.now wanted (lent a.image.now []) (others at) c.show_extent-filled.new.buffer k c.show_extent-filled.result) (sym c.behind-skip.ensures)
          (filled-turn a.buffer.now wanted (lent a.image.now []) c.extent-e.result (others at) (inside at) c.loop-i.buffer c.loop-i.skip c.loop-i.filled before
          c.show_extent-filled.result c.show_extent-filled.new.buffer c.show_extent-filled.ensures.0 c.show_extent-filled.ensures.1),
    )

pub returns : goal.returns
returns c =
    let a = c.args in
    let l = c.loop-i in
    let wanted : List ℕ = all a.image.now a.entry.now a.offset (length a.buffer.now) in
    filled-end a.buffer.now wanted (lent a.image.now []) l.buffer l.skip l.filled
    (subst (λ (es : List Extent). Filled a.buffer.now wanted (lent a.image.now []) es l.buffer l.skip l.filled)
    (none_left a.entry.now descriptors_at c.extent_count-count.result l.i (omega arith)) l.invariant.1)
