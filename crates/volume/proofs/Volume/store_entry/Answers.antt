-- `volume::Volume::store_entry` meets its contract: one entry, and then all stand.
-- Assumes nothing.
use Prim.Native.Nat.{ℕ, ◌*◌}
use native.Mathlib.Omega.{arith}
use mathlib.Core.Path.{sym, ap, ◌∙◌}
use mathlib.Core.List.{List}
use lib.ListN.{length}
use Rattle.le.proofs.Fields.{length-put}
use Rattle.volume.specs.Volume.{unpack}
use Rattle.volume.proofs.Standing.{entry-put}
use Rattle.volume.proofs.Volume.store_entry.Goals as goal

pub store_fields-requires : goal.store_fields-requires
store_fields-requires c =
    let a = c.args in
    let l : List ℕ = a.l.now in (
      ap length c.put32.ensures ∙ length-put 4 l (4 * a.n) a.entry ∙ c.requires.0,
      c.requires.2 ∙ sym (ap (λ (t : List ℕ). (unpack t).entries) c.put32.ensures ∙ entry-put l a.n a.entry c.requires.1 c.requires.0 (omega arith)),
    )
