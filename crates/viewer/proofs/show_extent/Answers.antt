-- `viewer::show_extent` meets its contract: the part of the extent that is shown, put behind what is filled.
-- Assumes nothing.
use Prim.Native.Nat.{ℕ, ◌+◌, ◌-◌}
use native.Mathlib.Omega.{arith}
use mathlib.Core.Path.{◌≡◌, sym, ap, ◌∙◌}
use mathlib.Core.List.{List, []}
use lib.ListN.{length, take, drop}
use lib.Seq.{sets}
use Rattle.disc.specs.Disc.{Disc, lent}
use Rattle.run.specs.Entry.{extent_bytes}
use Rattle.viewer.proofs.Pieces.{part-shown, shown-length, put-nothing, put-piece}
use Rattle.viewer.proofs.show_extent.Goals as goal

pub returns-then-n-eq0 : goal.returns-then-n-eq0
returns-then-n-eq0 c =
    let D : Disc = lent c.args.image.now [] in
    let given : List ℕ = take (length c.args.buffer.now - c.args.filled) (drop c.args.skip (extent_bytes D c.args.e)) in
    let counted : length given ≡ c.piece-n.result = shown-length D c.args.e c.requires.0 c.args.skip (length c.args.buffer.now - c.args.filled) ∙ sym c.piece-n.ensures in
    let none : length given ≡ 0 = counted ∙ c.if-n-eq0.true in
    (omega (arith, none), put-nothing c.args.buffer.now given c.args.filled none)

pub returns : goal.returns
returns c =
    let D : Disc = lent c.args.image.now [] in
    let given : List ℕ = take (length c.args.buffer.now - c.args.filled) (drop c.args.skip (extent_bytes D c.args.e)) in
    let counted : length given ≡ c.piece-n.result = shown-length D c.args.e c.requires.0 c.args.skip (length c.args.buffer.now - c.args.filled) ∙ sym c.piece-n.ensures in
    let a = c.args in
    let n : ℕ = c.piece-n.result in
    let there = part-shown D a.e a.skip (length a.buffer.now - a.filled) n c.piece-n.ensures in (
      ap (λ (k : ℕ). a.filled + k) (sym counted),
      c.put_text.ensures ∙ ap (sets a.buffer.now a.filled) there
          ∙ put-piece a.buffer.now given a.filled n counted (omega (arith, c.piece-n.ensures, c.requires.1)),
    )
