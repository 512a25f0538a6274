-- `volume::Volume::store` meets its contract: the entries, then four fields behind them, fill the ledger.
-- Assumes nothing.
use Prim.Native.Nat.{ℕ, ◌+◌}
use mathlib.Core.Path.{◌≡◌, sym, ap, ◌∙◌}
use mathlib.Core.List.{List}
use lib.ListN.{length}
use lib.Seq.{sets}
use Rattle.le.specs.Field.{le}
use Rattle.volume.specs.declared.Volume.{Volume}
use Rattle.volume.specs.Volume.{places, entries_length}
use Rattle.volume.proofs.State.{pack-put}
use borrow.Author.Rules.{rules}
use Rattle.volume.proofs.Volume.store.Goals as goal

pub returns : goal.returns
returns c =
    let a = c.args in
    let v : Volume = a.self in
    let counted : places ≡ length v.entries = search rules in
    let behind : List ℕ → List ℕ = λ t. sets (sets (sets (sets t entries_length (le 4 v.size)) (entries_length + 4) (le 4 v.recorded)) (entries_length + 8) (le 4 v.last)) (entries_length + 12) (le 4 v.mode) in
    c.put_fields.ensures ∙ ap behind c.put_words.ensures ∙ pack-put v a.l.now (sym counted) c.requires
