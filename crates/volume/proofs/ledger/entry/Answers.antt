-- `volume::ledger::entry` meets its contract: the word that the entry is unpacked from.
-- Assumes nothing.
use Prim.Native.Nat.{ℕ, ◌*◌}
use native.Mathlib.Nat.{zero-add}
use mathlib.Core.Path.{sym, ap, ◌∙◌}
use Rattle.le.specs.Field.{read_le}
use Rattle.le.proofs.Runs.{get_d_words}
use Rattle.vat.specs.Table.{unused}
use Rattle.volume.specs.Volume.{places, unpack}
use Rattle.volume.proofs.ledger.entry.Goals as goal

pub returns : goal.returns
unfolding unpack
returns c =
    let n : ℕ = c.args.n in
    c.read32.ensures ∙ sym (get_d_words places c.args.l.now 0 n unused c.requires.1 ∙ ap (read_le 4 c.args.l.now) (zero-add (4 * n)))
