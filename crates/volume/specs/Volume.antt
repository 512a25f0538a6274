-- The volume's working state (document 01: the ledger): 16,364 bytes, what they say, when they fit a disc, and what each call makes of them.
use Rattle.std.specs.Prelude.{ℕ, ◌+◌, ◌-◌, ◌*◌, Bool, true, false, ◌&&◌, ◌||◌, not, List, ◌++◌, eqb, ltb, leb, length, take, drop, set, replicate}
use Rattle.std.specs.Prelude.{Option, None, Some}
use Rattle.le.specs.Bytes.{every}
use Rattle.le.specs.Field.{le, read_le, words, le_words}
use Rattle.vat.specs.Table.{limit, unused, unused_or_below}
use Rattle.disc.specs.Disc.{Disc, recorded, kind_at}
use Rattle.disc.specs.Tables.{table_at}
use Rattle.volume.specs.declared.Volume.{Volume}

-- "The limit becomes 4,087 numbers and the ledger 16,364 bytes": as many map entries, "then size, recorded, last table, mode, each 32 bits".
abbrev pub places : ℕ
places = 4087

abbrev pub entries_length : ℕ
entries_length = 4 * places

abbrev pub ledger_length : ℕ
ledger_length = entries_length + 16

unfoldable pub unpack : List ℕ → Volume
unpack l =
    record {
      entries = words places l 0;
      size = read_le 4 l entries_length;
      recorded = read_le 4 l (entries_length + 4);
      last = read_le 4 l (entries_length + 8);
      mode = read_le 4 l (entries_length + 12);
    }

unfoldable pub pack : Volume → List ℕ
pack v = le_words v.entries ++ (le 4 v.size ++ (le 4 v.recorded ++ (le 4 v.last ++ le 4 v.mode)))

-- "Mode is 0 (no packet open), 1 (packet open) or 2 (looking only)."
abbrev pub idle : ℕ
idle = 0

abbrev pub packet_open : ℕ
packet_open = 1

abbrev pub read_only : ℕ
read_only = 2

-- The map: the entries below size.
abbrev pub map_of : Volume → List ℕ
map_of v = take v.size v.entries

abbrev pub is_unused : ℕ → Bool
is_unused x = eqb x unused

-- The state fits the disc: no clause of refusal 4 applies.
unfoldable pub fits : Disc → Volume → Bool
fits d v =
    leb v.size limit  -- "size above 458", which reads 4,087
    && (every is_unused (drop v.size v.entries)  -- "an entry from size on not FFFFFFFF"
    && (every (unused_or_below v.recorded) (map_of v)  -- "one below size neither FFFFFFFF nor below recorded"
    && (eqb v.recorded (recorded d)  -- "recorded differs from the disc's"
    && ((is_unused v.last || table_at d v.last)  -- "last table neither FFFFFFFF nor a table sector"
    && (leb v.mode read_only  -- "mode above 2"
    && (not (eqb v.mode packet_open) || (ltb 0 v.recorded && eqb (kind_at d (v.recorded - 1)) 1)))))))
    -- "mode 1 where the last recorded sector is missing or not kind 1"

-- **Begin**: "size 0, no last table, mode 0", on a disc with r sectors recorded.
unfoldable pub begun : ℕ → Volume
begun r = record { entries = replicate places unused; size = 0; recorded = r; last = unused; mode = idle }

-- **Mount** and **look back**: the map of the table at block b, "recorded as it is now, that table as last", and a mode.
unfoldable pub filled : List ℕ → ℕ → ℕ → ℕ → Volume
filled map b r mode =
    record { entries = map ++ replicate (places - length map) unused; size = length map; recorded = r; last = b; mode = mode }

-- **Write**, recorded at block b: of number n it "sets entry v to it. If v equals size, size grows by one." "Mode becomes 1." "Unnumbered writes are
-- writes in all but the entry."
abbrev pub grown : Bool → ℕ → ℕ
grown true size = size + 1
grown false size = size

abbrev pub entries_with : Option ℕ → ℕ → List ℕ → List ℕ
entries_with None b entries = entries
entries_with (Some n) b entries = set entries n b

abbrev pub size_with : Option ℕ → ℕ → ℕ
size_with None size = size
size_with (Some n) size = grown (eqb n size) size

unfoldable pub wrote : Option ℕ → ℕ → Volume → Volume
wrote n b v =
    record { entries = entries_with n b v.entries; size = size_with n v.size; recorded = b + 1; last = v.last; mode = packet_open }

-- **Release** n: "sets the entry to unused. Size stays."
unfoldable pub released : ℕ → Volume → Volume
released n v = record { entries = set v.entries n unused; size = v.size; recorded = v.recorded; last = v.last; mode = v.mode }

-- **Close packet**: "mode 0".
unfoldable pub closed : Volume → Volume
closed v = record { entries = v.entries; size = v.size; recorded = v.recorded; last = v.last; mode = idle }

-- **Commit** at block b: the table sector "becomes the last table", "and mode is 1 afterwards".
unfoldable pub committed : ℕ → Volume → Volume
committed b v = record { entries = v.entries; size = v.size; recorded = b + 1; last = b; mode = packet_open }
