-- `volume::load_entries` meets its contract: the entries so far are the words so far.
-- Assumes nothing.
use Prim.Native.Nat.{ℕ, ◌+◌, ◌*◌}
use native.Mathlib.Nat.{zero-add}
use native.Mathlib.Numerals.{add-one}
use native.Mathlib.Omega.{arith}
use mathlib.Core.Path.{◌≡◌, sym, ap, ap₂, ◌∙◌}
use mathlib.Core.List.{List, [], ◌∷◌, ◌++◌}
use lib.ListN.{length}
use lib.Seq.{take_all, take-suc-set}
use Rattle.le.specs.Field.{read_le}
use Rattle.le.proofs.Runs.{words-none}
use Rattle.volume.specs.Volume.{places, unpack}
use Rattle.volume.proofs.State.{words_snoc}
use Rattle.volume.proofs.load_entries.Goals as goal

pub loop-i-init : goal.loop-i-init
loop-i-init c =
    sym (words-none c.args.l.now 0)

pub loop-i-preserved : goal.loop-i-preserved
loop-i-preserved c =
    let i : ℕ = c.loop-i.i in
    let word : c.read32.result ≡ read_le 4 c.args.l.now (0 + 4 * i) = c.read32.ensures ∙ ap (read_le 4 c.args.l.now) (sym (zero-add (4 * i))) in
    rw (add-one i, words_snoc i c.args.l.now 0)
    (take-suc-set c.loop-i.entry-items i c.read32.result (omega arith) ∙ ap₂ (λ (x : List ℕ) (y : ℕ). x ++ (y ∷ [])) c.loop-i.invariant word)

pub returns : goal.returns
unfolding unpack
returns c =
    let done : c.loop-i.i ≡ places = omega arith in
    let e : List ℕ = c.loop-i.entry-items in
    let long : length e ≡ places = omega arith in
    sym (take_all places e (omega arith)) ∙ rw done at c.loop-i.invariant
