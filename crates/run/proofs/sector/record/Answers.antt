-- `run::sector::record` meets its contract: zeros, the descriptors, the name, the header and the sums, in this order.
-- Assumes nothing.
use Prim.Native.Nat.{ℕ, ◌≤◌}
use native.Mathlib.Omega.{arith}
use mathlib.Core.Path.{◌≡◌, sym, ap, ap₂, ◌∙◌}
use mathlib.Core.List.{List}
use lib.ListN.{length, replicate}
use lib.Seq.{sets}
use Rattle.le.specs.Field.{lay}
use Rattle.tag.specs.Tag.{seal}
use Rattle.vat.specs.Table.{tag_version, entry_rows, length_rows}
use Rattle.vat.specs.Sector.{own_rows, station_at, station_name}
use Rattle.extent.specs.declared.Extent.{Extent}
use Rattle.run.specs.Entry.{most_extents, descriptors_at, file_type, file_rows, paired}
use Rattle.run.proofs.Words.{length-paired, descriptors-paired}
use Rattle.run.proofs.Record.{laid_over, entry-seals, length-laid, crc-length, header-laid}
use Rattle.run.proofs.sector.record.Goals as goal
use Rattle.run.proofs.sector.record.Goals.{After-put_file}

-- what is sealed
laid-so : (c : After-put_file) → c.put_file.new.s ≡ laid_over (paired c.args.words.now) c.args.b
laid-so c =
    let words : List ℕ = c.args.words.now in
    let es : List Extent = paired words in
    let zeros = c.clear.ensures ∙ ap (λ (n : ℕ). replicate n 0) c.requires.0 in
    let listed = c.put_words.ensures ∙ ap₂ (λ (l bytes : List ℕ). sets l descriptors_at bytes) zeros (sym (descriptors-paired words c.requires.1)) in
    let filled = c.put_name.ensures ∙ ap (λ (l : List ℕ). sets l station_at station_name) listed in
    let plain = c.put_entry.ensures ∙ ap (λ (l : List ℕ). lay l (entry_rows tag_version file_type c.args.b)) filled in
    let counts = ap₂ (λ (d n : ℕ). length_rows 0 d n) (sym (length-paired words c.requires.1)) c.total_length.ensures in
    let sizes = c.put_lengths.ensures ∙ ap₂ lay plain counts in
    let own = c.put_own.ensures ∙ ap (λ (l : List ℕ). lay l (own_rows 0)) sizes in
    c.put_file.ensures ∙ ap (λ (l : List ℕ). lay l (file_rows es)) own ∙ header-laid es c.args.b

pub seal-requires : goal.seal-requires
seal-requires c =
    let es : List Extent = paired c.args.words.now in
    let few : length es ≤ most_extents = omega (arith, length-paired c.args.words.now c.requires.1, c.requires.2) in
    rw (laid-so (goal.at.seal-requires c).After-put_file) (omega (arith, crc-length es c.args.b few, length-laid es c.args.b))

pub returns : goal.returns
returns c =
    c.seal.ensures ∙ ap seal (laid-so (goal.at.returns c).After-put_file) ∙ sym (entry-seals (paired c.args.words.now) c.args.b)
