-- `volume::ledger::show` meets its contract: unused entries behind those that stand already, and the four fields.
-- Assumes nothing.
use Prim.Native.Nat.{ℕ, ◌+◌, ◌<◌}
use mathlib.Core.Path.{ap, ◌∙◌}
use mathlib.Core.List.{List}
use lib.ListN.{get_or}
use lib.Seq.{sets}
use Rattle.le.specs.Field.{le}
use borrow.Author.Rules.{rules}
use Rattle.le.proofs.Runs.{all-bytes}
use Rattle.volume.specs.Volume.{entries_length}
use Rattle.volume.proofs.Standing.{shown-put}
use Rattle.volume.proofs.ledger.show.Goals as goal

pub returns : goal.returns
returns c =
    let byte : (i : ℕ) → get_or c.args.l.now i 0 < 256 = λ i. search rules in
    let a = c.args in
    let behind : List ℕ → List ℕ = λ t. sets (sets (sets (sets t entries_length (le 4 a.n)) (entries_length + 4) (le 4 a.recorded)) (entries_length + 8) (le 4 a.b)) (entries_length + 12) (le 4 a.mode) in
    c.put_fields.ensures ∙ ap behind c.repeat_word.ensures
    ∙ shown-put a.l.now a.n a.b a.recorded a.mode (all-bytes a.l.now byte) c.requires.0 c.requires.1
