-- Closing a session (document 02, R-5: "Plain CD-ROM drives read only closed sessions"): what is recorded between the links and the table sector, and
-- which discs are closed.
use Rattle.std.specs.Prelude.{ℕ, ◌+◌, ◌-◌, Bool, ◌&&◌, List, ◌∷◌, eqb, leb, take, drop, replicate}
use Rattle.le.specs.Bytes.{every}
use Rattle.vat.specs.Table.{sector_length, tag_version}
use Rattle.extent.specs.declared.Extent.{Extent}
use Rattle.anchor.specs.Anchor.{anchor, anchor_tagged}
use Rattle.disc.specs.Disc.{Disc, recorded, sector_at, Sector, plain}
use Rattle.disc.specs.Tables.{table_at}

-- "255 zero sectors".
abbrev pub zero_sectors : ℕ
zero_sectors = 255

abbrev pub zero_sector : Sector
zero_sector = plain (replicate sector_length 0)

-- "an Anchor Volume Descriptor Pointer, 255 zero sectors", from block b on: "the pointer's tag location is that start plus its block". Own sectors of the
-- table, so many of which are recorded behind these, "take the last of the 255".
unfoldable pub closing : Extent → Extent → ℕ → ℕ → ℕ → List Sector
closing main reserve start b own = plain (anchor tag_version main reserve (start + b)) ∷ replicate (zero_sectors - own) zero_sector

-- How many stand before the table's ICB, with these: "the 256 before it".
abbrev pub closing_length : ℕ
closing_length = 256

-- "A disc is closed exactly if its last recorded sector is a table, the 256 before it have kind 1, and the first of these has tag identifier 2, a right
-- tag checksum and a tag location from its block to its block + 400,000." The costly table comes last.
unfoldable pub session_closed : Disc → Bool
session_closed d =
    let last : ℕ = recorded d - 1 in
    let b : ℕ = last - closing_length in
    leb (closing_length + 1) (recorded d)
    && (anchor_tagged (sector_at d b) b && (every (λ k. eqb k 1) (take closing_length (drop b d.kinds)) && table_at d last))
