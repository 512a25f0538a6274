-- `run::sector::total_length` meets its contract: the sum so far, and the extents that are left, make the total.
-- Assumes nothing.
use Prim.Native.Nat.{ℕ, ◌+◌, ◌*◌, ◌≤◌, ◌<◌}
use native.Mathlib.Nat.{add-zero}
use native.Mathlib.Omega.{arith}
use mathlib.Core.Path.{◌≡◌, sym, ◌∙◌}
use mathlib.Core.List.{List}
use lib.ListN.{length, get_or, drop_of_length-le}
use Rattle.extent.specs.Extents.{total_length}
use Rattle.run.specs.Entry.{paired}
use Rattle.run.proofs.Words.{first-of, length_taken}
use Rattle.run.proofs.sector.total_length.Goals as goal

pub loop-length-preserved : goal.loop-length-preserved
loop-length-preserved c =
    let words : List ℕ = c.args.words.now in
    let i : ℕ = c.loop-length.length-index in
    let here : c.from-total.result ≡ get_or words (2 * i) 0 = c.from-total.ensures ∙ first-of _ words i c.as_chunks.ensures.front (omega arith) in
    let word : get_or words (2 * i) 0 < 4294967296 = omega (arith, c.type_inv.words (2 * i)) in
    let next : 2 * i + 2 ≡ 2 * (i + 1) = omega arith in
    (omega (arith, here, word), rw (← next, here) (length_taken c.loop-length.total words (2 * i) (omega arith) ∙ c.loop-length.invariant.1))

pub returns : goal.returns
unfolding total_length paired
returns c =
    let words : List ℕ = c.args.words.now in
    let through : length words ≤ 2 * c.loop-length.length-index = omega arith in
    sym (add-zero c.loop-length.total) ∙ rw (drop_of_length-le words through) at c.loop-length.invariant.1
