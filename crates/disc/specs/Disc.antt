-- The disc (document 01, 'The disc, the ledger and the two numbers'): "two lent buffers: the image, 2048 bytes a sector, and the kinds, one byte a
-- sector: 0 blank, 1 data, 2 link, 3 unreadable". What is recorded, when the disc is sound, and how a sector is recorded.
use Rattle.std.specs.Prelude.{ℕ, suc, ◌+◌, ◌-◌, ◌*◌, Bool, true, false, ◌&&◌, List, [], ◌∷◌, ◌++◌, eqb, ltb, leb, length, get_or, take, drop, set, if◌then◌else◌}
use Rattle.std.specs.Prelude.{Option, None, Some}
use Rattle.le.specs.Bytes.{every}
use Rattle.vat.specs.Table.{sector_length}

pub record Disc : Type 0 where
  pub image : List ℕ
  pub kinds : List ℕ

abbrev pub lent : List ℕ → List ℕ → Disc
lent image kinds = record { image = image; kinds = kinds }

-- "It has 1 to 360,000 sectors." (refusal 1)
abbrev pub most_sectors : ℕ
most_sectors = 360000

unfoldable pub sized : Disc → Bool
sized d =
    let n : ℕ = length d.kinds in
    ltb 0 n && (leb n most_sectors && eqb (length d.image) (sector_length * n))

-- "All sectors that are not blank form a beginning of the disc. Their count is called recorded."
abbrev pub counted : Bool → ℕ → ℕ
counted true n = 0
counted false n = suc n

unfoldable pub leading : List ℕ → ℕ
leading [] = 0
leading (k ∷ ks) = let n : ℕ = leading ks in counted (eqb k 0) n

abbrev pub recorded : Disc → ℕ
recorded d = leading d.kinds

-- "a kind above 3, or a recorded sector after a blank one" (refusal 3) does not occur.
unfoldable pub in_order : List ℕ → Bool
in_order ks = every (λ k. leb k 3) ks && every (λ k. eqb k 0) (drop (leading ks) ks)

-- "Their count is called recorded", of kinds that are in order; of others there is none.
abbrev pub recorded_of : List ℕ → Option ℕ
recorded_of ks = if in_order ks then Some (leading ks) else None

abbrev pub blanks : Disc → ℕ
blanks d = length d.kinds - recorded d

-- The sector at block b: its kind, its bytes, and what it reads: its bytes if it is of kind 1.
abbrev pub kind_at : Disc → ℕ → ℕ
kind_at d b = get_or d.kinds b 0

unfoldable pub sector_at : Disc → ℕ → List ℕ
sector_at d b = take sector_length (drop (sector_length * b) d.image)

abbrev pub readable : Bool → List ℕ → Option (List ℕ)
readable true s = Some s
readable false s = None

unfoldable pub content : Disc → ℕ → Option (List ℕ)
content d b = readable (eqb (kind_at d b) 1) (sector_at d b)

-- What is recorded at one block. "For a link sector only its kind changes, to 2; its image bytes stay." A torn sector is what a cut leaves:
-- "kind 3 with arbitrary bytes".
pub data Sector : Type 0 where
  link : Sector
  plain : List ℕ → Sector
  torn : List ℕ → Sector

-- The image with the bytes s from place `at` on.
unfoldable pub stored : List ℕ → ℕ → List ℕ → List ℕ
stored image at s = take at image ++ (s ++ drop (at + length s) image)

abbrev pub put : Disc → ℕ → Sector → Disc
put d b link = record { image = d.image; kinds = set d.kinds b 2 }
put d b (plain s) = record { image = stored d.image (sector_length * b) s; kinds = set d.kinds b 1 }
put d b (torn s) = record { image = stored d.image (sector_length * b) s; kinds = set d.kinds b 3 }

-- Sectors recorded one after another, from block b on.
unfoldable pub puts : Disc → ℕ → List Sector → Disc
puts d b [] = d
puts d b (s ∷ ss) = puts (put d b s) (b + 1) ss
