-- A table in sectors of its own: what its facts tell of its bytes, of which each stands in the image where its sector lies.
--     own-long                      how many there are
--     own-place                     a byte's descriptor stands within s, and its sector within the image
--     own-words, own-field, own-text  fields and texts that end with their sector or before it, read at their first byte's place p
-- Assumes nothing.
use Prim.Native.Nat.{ℕ, ◌+◌, ◌*◌, ◌/◌, ◌%◌, ◌≤◌, ◌<◌}
use native.Mathlib.Omega.{arith}
use mathlib.Core.Path.{◌≡◌, sym, ap, ◌∙◌}
use mathlib.Core.List.{List}
use lib.ListN.{length}
use Rattle.le.specs.Bytes.{holds_text}
use Rattle.le.specs.Field.{read_le, words}
use Rattle.extent.specs.Extents.{extents_from}
use Rattle.vat.specs.Table.{sector_length}
use Rattle.disc.specs.declared.own.OwnTable.{OwnTable}
use Rattle.disc.specs.Disc.{Disc, lent}
use Rattle.disc.specs.Own.{own_bytes}
use Rattle.disc.proofs.Recording.{Sized, sized-tells}
use Rattle.disc.proofs.Pieces.{length-table, table-byte, piece-words, field-read, piece-text}

module _ (t : OwnTable) where
  abbrev d : Disc
  d = lent t.image.now t.kinds.now

  ok : Sized d
  ok = sized-tells d t.is_sized

  pub own-long : length (own_bytes t) ≡ t.total
  own-long = length-table d ok t.b t.high (extents_from t.m t.s.now t.at) t.is_laid ∙ sym t.long

  pub own-place : (j : ℕ) → j < t.total
      → (t.at + 8 * (j / sector_length) + 8 ≤ length t.s.now) × (sector_length * read_le 4 t.s.now (t.at + 8 * (j / sector_length) + 4) + sector_length ≤ length t.image.now)
  own-place j h =
      let lies = table-byte d ok t.b t.high t.m t.s.now t.at j t.is_laid (omega (arith, t.long)) in
      (omega (arith, lies.2, t.within), omega (arith, lies.1, t.high, ok.whole))

  pub own-words : (j n p : ℕ) → p ≡ sector_length * read_le 4 t.s.now (t.at + 8 * (j / sector_length) + 4) + j % sector_length
      → j % sector_length + 4 * n ≤ sector_length → j + 4 * n ≤ t.total → words n t.image.now p ≡ words n (own_bytes t) j
  own-words j n p e within inside =
      ap (words n t.image.now) e ∙ piece-words d ok t.b t.high t.m t.s.now t.at j n t.is_laid within (omega (arith, t.long))

  pub own-field : (j n p : ℕ) → p ≡ sector_length * read_le 4 t.s.now (t.at + 8 * (j / sector_length) + 4) + j % sector_length
      → j % sector_length + n ≤ sector_length → j + n ≤ t.total → read_le n t.image.now p ≡ read_le n (own_bytes t) j
  own-field j n p e within inside =
      ap (read_le n t.image.now) e ∙ field-read d ok t.b t.high t.m t.s.now t.at j n t.is_laid within (omega (arith, t.long))

  pub own-text : (j p : ℕ) (text : List ℕ) → p ≡ sector_length * read_le 4 t.s.now (t.at + 8 * (j / sector_length) + 4) + j % sector_length
      → j % sector_length + length text ≤ sector_length → j + length text ≤ t.total → holds_text t.image.now p text ≡ holds_text (own_bytes t) j text
  own-text j p text e within inside =
      ap (λ (x : ℕ). holds_text t.image.now x text) e ∙ piece-text d ok t.b t.high t.m t.s.now t.at j text t.is_laid within (omega (arith, t.long))
