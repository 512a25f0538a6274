-- A table by the form that its ICB has: its bytes stand behind the attributes, or in own sectors, which its descriptors name. What the functions that read it
-- need, on plain values.
--     laid-any                                     the kinds alone tell whether own sectors are laid
--     sums-within, told-short, descriptors-within  how far it reaches
--     told-length, told-count                      the length that the ICB tells is the table's
--     Apart, apart                                 a table in own sectors
--     length-named, Named, named-at                the blocks of the own sectors that a table names
-- Assumes nothing.
use Prim.Native.Nat.{ℕ, zero, suc, ◌+◌, ◌-◌, ◌*◌, ◌/◌, ◌≤◌, ◌<◌}
use native.Mathlib.Nat.{not-suc-le-zero, le_of_suc-le-suc}
use native.Mathlib.Omega.{arith}
use mathlib.Core.Path.{◌≡◌, refl, sym, ap, ap₂, ◌∙◌}
use mathlib.Core.Bool.{Bool, true, false, ◌&&◌}
use mathlib.Core.List.{List, [], ◌∷◌}
use lib.Dec.{eqb, ltb, leb}
use lib.ListN.{length, get_or}
use Rattle.le.specs.Field.{read_le}
use Rattle.le.proofs.Rows.{and_left, and_right}
use Rattle.extent.specs.declared.Extent.{Extent}
use Rattle.extent.specs.Extents.{descriptors_length, extents_from, total_length, locations}
use Rattle.tag.specs.Tag.{crc_length}
use Rattle.vat.specs.Table.{sector_length, most_bytes, Lower, table_start, embedded, attribute_length, own_of, is_there, lies, full_before, laid, joined, table_of, entry_count}
use Rattle.vat.proofs.Frame.{Framed, own-none, held-sizes, own-sizes, table-inside, table-apart, inside-long, lies-short}
use Rattle.vat.proofs.Measured.{own-within, own_read}
use Rattle.vat.proofs.Theorems.{Recognised}
use Rattle.disc.specs.Disc.{Disc, lent, kind_at, sector_at, readable}
use Rattle.disc.specs.Tables.{below, table_at, named_by}
use Rattle.disc.proofs.Recording.{Sized}
use Rattle.disc.proofs.Told.{recognised-at, NamedData, named-data, names_of, names-none}
use Rattle.disc.proofs.Pieces.{length-table}

-- ---- whether it is laid

there-any : (image : List ℕ) (d : Disc) (b c : ℕ) → is_there (below (lent image d.kinds) b c) ≡ is_there (below d b c)
there-any image d b c = go (ltb c b && eqb (kind_at d c) 1)
  where
    go : (t : Bool) → is_there (readable t (sector_at (lent image d.kinds) c)) ≡ is_there (readable t (sector_at d c))
    go true = refl
    go false = refl

-- whatever the image
pub laid-any : (image : List ℕ) (d : Disc) (b : ℕ) (es : List Extent) → laid (below (lent image d.kinds) b) es ≡ laid (below d b) es
unfolding laid lies
laid-any image d b [] = refl
laid-any image d b (e ∷ es) =
    ap₂ (λ (t u : Bool). (ltb 0 e.length && (leb e.length sector_length && t)) && (full_before e es && u)) (there-any image d b e.location) (laid-any image d b es)

-- ---- how far it reaches

-- extents that are laid hold a sector each at the most
total-short : (lower : Lower) (es : List Extent) → laid lower es ≡ true → total_length es ≤ sector_length * length es
unfolding laid total_length
total-short lower [] t = omega arith
total-short lower (e ∷ es) t =
    let more : Bool = full_before e es && laid lower es in
    let short : e.length ≤ sector_length = lies-short lower e (and_left (lies lower e) more t) in
    let rest : total_length es ≤ sector_length * length es = total-short lower es (and_right (full_before e es) (laid lower es) (and_right (lies lower e) more t)) in
    omega arith

module _ (s : List ℕ) (b : ℕ) (whole : length s ≡ sector_length) (frame : Framed s b) where
  -- what its CRC covers lies within the ICB
  pub sums-within : 16 + crc_length s ≤ length s
  sums-within = go (embedded s) refl
    where
      go : (t : Bool) → embedded s ≡ t → 16 + crc_length s ≤ length s
      go true e = omega (arith, (held-sizes s frame.sizes e).summed, frame.below)
      go false e = omega (arith, (own-sizes s frame.sizes e).sized.summed, own-within s e, frame.below)

  pub descriptors-within : embedded s ≡ false → (at m : ℕ) → at ≡ table_start (attribute_length s) → m ≡ length (own_of s) → at + descriptors_length m ≤ length s
  descriptors-within e at m start count = omega (arith, own-within s e, frame.below)

  -- as many bytes as the ICB tells fit eight sectors
  pub told-short : (lower : Lower) → laid lower (own_of s) ≡ true → read_le 8 s 56 ≤ most_bytes
  told-short lower on-data = go (embedded s) refl
    where
      go : (t : Bool) → embedded s ≡ t → read_le 8 s 56 ≤ most_bytes
      go true e = omega (arith, (held-sizes s frame.sizes e).information, frame.below)
      go false e = let own = own-sizes s frame.sizes e in omega (arith, own.sized.information, total-short lower (own_of s) on-data, own.few-own)

-- ---- its bytes

-- a table in own sectors: m descriptors, which stand in the ICB from place `at` on, name them, and it has so many bytes
pub record Apart (d : Disc) (b : ℕ) (s : List ℕ) (at m total : ℕ) : Type 0 where
  pub within : at + descriptors_length m ≤ length s
  pub on-data : laid (below d b) (extents_from m s at) ≡ true
  pub long : total ≡ total_length (extents_from m s at)
  pub short : total ≤ most_bytes
  pub joins : joined (below d b) (extents_from m s at) ≡ table_of (below d b) s

module _ (d : Disc) (ok : Sized d) (b : ℕ) (high : b ≤ length d.kinds) (s : List ℕ) (whole : length s ≡ sector_length) (frame : Framed s b) (on-data : laid (below d b) (own_of s) ≡ true) where
  pub told-length : length (table_of (below d b) s) ≡ read_le 8 s 56
  told-length = go (embedded s) refl
    where
      go : (t : Bool) → embedded s ≡ t → length (table_of (below d b) s) ≡ read_le 8 s 56
      go true e = ap length (table-inside (below d b) s e) ∙ inside-long s whole frame.below ∙ sym (held-sizes s frame.sizes e).information
      go false e = ap length (table-apart (below d b) s e) ∙ length-table d ok b high (own_of s) on-data ∙ sym (own-sizes s frame.sizes e).sized.information

  pub told-count : (read_le 8 s 56 - 36) / 4 ≡ entry_count (table_of (below d b) s)
  unfolding entry_count
  told-count = ap (λ (k : ℕ). (k - 36) / 4) (sym told-length)

  pub apart : embedded s ≡ false → (at m total : ℕ) → at ≡ table_start (attribute_length s) → m ≡ length (own_of s) → total ≡ read_le 8 s 56 → Apart d b s at m total
  apart e at m total start count told =
      let same : extents_from m s at ≡ own_of s = own_read s e m at count start in
      record {
        within = descriptors-within s b whole frame e at m start count;
        on-data = ap (laid (below d b)) same ∙ on-data;
        long = told ∙ (own-sizes s frame.sizes e).sized.information ∙ ap total_length (sym same);
        short = omega (arith, told-short s b whole frame (below d b) on-data);
        joins = ap (joined (below d b)) same ∙ sym (table-apart (below d b) s e);
      }

-- ---- the blocks that it names

length-locations : (es : List Extent) → length (locations es) ≡ length es
unfolding locations
length-locations [] = refl
length-locations (e ∷ es) = ap suc (length-locations es)

location-read : (m : ℕ) (s : List ℕ) (at i : ℕ) → i < m → read_le 4 s (at + 8 * i + 4) ≡ get_or (locations (extents_from m s at)) i 0
unfolding locations extents_from
location-read zero s at i h = absurd (not-suc-le-zero h)
location-read (suc m) s at zero h = let here : at + 8 * 0 + 4 ≡ at + 4 = omega arith in ap (read_le 4 s) here
location-read (suc m) s at (suc i) h =
    let further : at + 8 * suc i + 4 ≡ at + 8 + 8 * i + 4 = omega arith in
    ap (read_le 4 s) further ∙ location-read m s (at + 8) i (le_of_suc-le-suc h)

named-low : (d : Disc) (b : ℕ) (cs : List ℕ) (i : ℕ) → NamedData d b cs → i < length cs → get_or cs i 0 < b
named-low d b [] i n h = absurd (not-suc-le-zero h)
named-low d b (c ∷ cs) zero n h = n.0
named-low d b (c ∷ cs) (suc i) n h = named-low d b cs i n.2 (le_of_suc-le-suc h)

pub length-named : (d : Disc) (b : ℕ) → table_at d b ≡ true → length (named_by d b) ≡ length (own_of (sector_at d b))
length-named d b e = ap length (names_of d b e) ∙ length-locations (own_of (sector_at d b))

-- own sector i of the table at block b
pub record Named (d : Disc) (b i : ℕ) : Type 0 where
  pub a-table : table_at d b ≡ true
  pub within : table_start (attribute_length (sector_at d b)) + 8 * i + 8 ≤ length (sector_at d b)
  pub read : read_le 4 (sector_at d b) (table_start (attribute_length (sector_at d b)) + 8 * i + 4) ≡ get_or (named_by d b) i 0
  pub low : get_or (named_by d b) i 0 < b

pub named-at : (d : Disc) (b i : ℕ) → i < length (named_by d b) → Named d b i
named-at d b i h = go (table_at d b) refl
  where
    s : List ℕ
    s = sector_at d b

    at : ℕ
    at = table_start (attribute_length s)

    apart-form : (e : table_at d b ≡ true) (t : Bool) → embedded s ≡ t → i < length (own_of s) → Named d b i
    apart-form e true z few = absurd (omega (arith, ap length (own-none s z)))
    apart-form e false z few =
        let r : Recognised (below d b) s b = recognised-at d b e in
        let own : extents_from (length (own_of s)) s at ≡ own_of s = own_read s z (length (own_of s)) at refl refl in
        record {
          a-table = e;
          within = omega (arith, descriptors-within s b r.whole r.frame z at (length (own_of s)) refl refl);
          read = location-read (length (own_of s)) s at i few ∙ ap (λ (es : List Extent). get_or (locations es) i 0) own ∙ ap (λ (l : List ℕ). get_or l i 0) (sym (names_of d b e));
          low = named-low d b (named_by d b) i (named-data d b) h;
        }

    go : (t : Bool) → table_at d b ≡ t → Named d b i
    go false e = absurd (omega (arith, ap length (names-none d b e)))
    go true e = apart-form e (embedded s) refl (omega (arith, length-named d b e))
