-- What the functions that record an ICB need: how many own sectors its table has, what stands behind its header, and the header itself, put part by part.
-- Assumes nothing.
use Prim.Native.Nat.{ℕ, zero, suc, ◌+◌, ◌-◌, ◌*◌, ◌/◌, ◌≤◌, ◌<◌}
use native.Mathlib.Numerals.{add-one}
use native.Mathlib.Omega.{arith}
use mathlib.Core.Path.{◌≡◌, refl, sym, ap, ◌∙◌}
use mathlib.Core.Bool.{Bool}
use mathlib.Core.List.{List, [], ◌∷◌, ◌++◌}
use lib.ListN.{length, take, drop, get_or, length-drop, drop_of_length-le}
use lib.Seq.{sets, length-take-le, drop-cons}
use borrow.Author.Tests.{le-ltb}
use Rattle.le.specs.Field.{Row, row, le, words, put_le, lay}
use Rattle.le.proofs.Bytes.{sets-append}
use Rattle.le.proofs.Fields.{length-le}
use Rattle.le.proofs.Rows.{lay-append, length-lay}
use Rattle.le.proofs.Runs.{length-words}
use Rattle.extent.specs.Extents.{descriptors, descriptors_length}
use Rattle.extent.proofs.Extents.{length-descriptors}
use Rattle.tag.specs.Tag.{crc_length}
use Rattle.vat.specs.Table.{sector_length, limit, table_start, table_length, plain_rows, length_rows}
use Rattle.vat.specs.Own.{own_count_if, own_count, length_before, extents_at}
use Rattle.vat.specs.Sector.{table_bytes, own_rows, described, allocation_for, icb_rows}
use Rattle.vat.proofs.Joined.{length-extents}
use Rattle.vat.proofs.Record.{length-table, Recordable, rows-held, sizes-told}
use Rattle.vat.proofs.Theorems.{some-own, limit-held, recordable}

-- ---- how many own sectors

pub own-many : (n : ℕ) → 458 < n → (4 * n + 36 + 2047) / 2048 ≡ own_count (table_length n)
unfolding own_count
own-many n h = sym (ap (λ (t : Bool). own_count_if t (table_length n)) (le-ltb (table_start 0 + table_length n) sector_length (omega arith)))

-- they hold the table, the last not empty
pub own-fill : (n m : ℕ) → m ≡ own_count n → (m ≡ 0 → ⊥) → (sector_length * m < n + sector_length) × (n ≤ sector_length * m)
own-fill n zero e other = absurd (other refl)
own-fill n (suc k) e other = let f = (some-own n k (sym e)).1 in (omega (arith, f.more), f.enough)

-- ---- the descriptors of own sectors

-- "full but the last", which has what is left
length-told : (left long : ℕ) (blocks : List ℕ) → long + (left - sector_length) ≡ left → left ≤ sector_length * suc (length blocks) → sector_length * length blocks < left
    → long ≡ length_before left blocks
length-told left long [] e most least = omega arith
length-told left long (b ∷ bs) e most least = omega arith

-- one of those that are left is put: its length, then its block
pub descriptor-put : (s blocks : List ℕ) (at i left long : ℕ) → i < length blocks → long + (left - sector_length) ≡ left
    → left ≤ sector_length * (length blocks - i) → sector_length * (length blocks - i) < left + sector_length
    → sets (put_le 4 (put_le 4 s at long) (at + 4) (get_or blocks i 0)) (at + 8) (descriptors (extents_at (left - long) (drop (i + 1) blocks)))
    ≡ sets s at (descriptors (extents_at left (drop i blocks)))
unfolding descriptors extents_at
descriptor-put s blocks at i left long h e most least =
    let b : ℕ = get_or blocks i 0 in
    let later : List ℕ = drop (i + 1) blocks in
    let rest : List ℕ = descriptors (extents_at (left - sector_length) later) in
    let here : drop i blocks ≡ b ∷ later = drop-cons blocks i 0 h ∙ ap (λ (k : ℕ). b ∷ drop k blocks) (sym (add-one i)) in
    let others : length later ≡ length blocks - (i + 1) = length-drop (i + 1) blocks in
    let so-long : long ≡ length_before left later = length-told left long later e (omega arith) (omega arith) in
    let less : left - long ≡ left - sector_length = omega arith in
    let eight : at + 4 + 4 ≡ at + 8 = omega arith in
    let t : List ℕ = put_le 4 s at long in
    let u : List ℕ = put_le 4 t (at + 4) b in
    ap (λ (k : ℕ). sets u (at + 8) (descriptors (extents_at k later))) less
    ∙ sym
    (ap (λ (l : List ℕ). sets s at (descriptors (extents_at left l))) here
    ∙ ap (λ (x : ℕ). sets s at (le 4 x ++ (le 4 b ++ rest))) (sym so-long)
    ∙ sets-append (le 4 long) (le 4 b ++ rest) s at
    ∙ ap (λ (k : ℕ). sets t (at + k) (le 4 b ++ rest)) (length-le 4 long)
    ∙ sets-append (le 4 b) rest t (at + 4)
    ∙ ap (λ (k : ℕ). sets u (at + 4 + k) rest) (length-le 4 b)
    ∙ ap (λ (k : ℕ). sets u k rest) eight)

pub none-put : (s blocks : List ℕ) (at left i : ℕ) → length blocks ≤ i → sets s at (descriptors (extents_at left (drop i blocks))) ≡ s
unfolding descriptors extents_at
none-put s blocks at left i h = ap (λ (l : List ℕ). sets s at (descriptors (extents_at left l))) (drop_of_length-le blocks h)

-- ---- what stands behind the header

-- the table of the first n numbers that bytes hold
pub table-long : (map : List ℕ) (n previous : ℕ) → length (table_bytes (words n map 0) previous) ≡ table_length n
table-long map n previous = length-table (words n map 0) previous ∙ ap table_length (length-words n map 0)

-- with no own sectors, the table; with some, their descriptors
pub described-inside : (table blocks : List ℕ) (m : ℕ) → m ≡ 0 → described table (take m blocks) ≡ table
described-inside table blocks m none = ap (λ (k : ℕ). described table (take k blocks)) none

pub described-apart : (table blocks : List ℕ) (m n : ℕ) → (m ≡ 0 → ⊥) → m ≤ length blocks → length table ≡ n → described table (take m blocks) ≡ descriptors (extents_at n (take m blocks))
described-apart table blocks m n some enough long =
    go (take m blocks) (λ e. some (sym (length-take-le m blocks enough) ∙ e)) ∙ ap (λ (k : ℕ). descriptors (extents_at k (take m blocks))) long
  where
    go : (bs : List ℕ) → (length bs ≡ 0 → ⊥) → described table bs ≡ descriptors (extents_at (length table) bs)
    go [] some = absurd (some refl)
    go (b ∷ bs) some = refl

pub apart-long : (n m : ℕ) (blocks : List ℕ) → m ≤ length blocks → length (descriptors (extents_at n (take m blocks))) ≡ descriptors_length m
apart-long n m blocks enough =
    length-descriptors (extents_at n (take m blocks)) ∙ ap descriptors_length (length-extents n (take m blocks) ∙ length-take-le m blocks enough)

-- a table within the limit can be recorded: what stands behind its header ends before the sector does
pub table-recordable : (map : List ℕ) (n previous : ℕ) (blocks : List ℕ) → n ≤ limit → own_count (table_length n) ≤ length blocks
    → Recordable (table_bytes (words n map 0) previous) (take (own_count (table_length n)) blocks)
table-recordable map n previous blocks few enough =
    let own : ℕ = own_count (table_length n) in
    let long = table-long map n previous in
    recordable (table_bytes (words n map 0) previous) (take own blocks) (omega (arith, limit-held n few)) (length-take-le own blocks enough ∙ ap own_count (sym long))

-- ---- the header

pub allocation-told : (blocks : List ℕ) (r : ℕ) → (length blocks ≡ 0 → r ≡ 3) → ((length blocks ≡ 0 → ⊥) → r ≡ 0) → r ≡ allocation_for blocks
allocation-told [] r none some = none refl
allocation-told (b ∷ bs) r none some = some (λ e. let z : suc (length bs) ≡ 0 = e in omega arith)

-- laid part by part
pub header-laid : (table blocks s : List ℕ) (b : ℕ)
    → put_le 8 (lay (lay (lay s (plain_rows b)) (length_rows 0 (length (described table blocks)) (length table))) (own_rows (allocation_for blocks))) 64 (length blocks)
    ≡ lay s (icb_rows table blocks b)
unfolding icb_rows lay
header-laid table blocks s b =
    let sizes : List Row = length_rows 0 (length (described table blocks)) (length table) in
    let own : List Row = own_rows (allocation_for blocks) in
    let count : List Row = row 64 8 (length blocks) ∷ [] in
    sym
    (lay-append (plain_rows b) (sizes ++ (own ++ count)) s
    ∙ lay-append sizes (own ++ count) (lay s (plain_rows b))
    ∙ lay-append own count (lay (lay s (plain_rows b)) sizes))

-- there is room for what is summed
pub room-to-seal : (table blocks s : List ℕ) (b : ℕ) → Recordable table blocks → b < 4294967296 → length s ≡ sector_length
    → 16 + crc_length (lay s (icb_rows table blocks b)) ≤ length (lay s (icb_rows table blocks b))
room-to-seal table blocks s b ok low long =
    let rows : List Row = icb_rows table blocks b in
    let told = sizes-told table blocks (lay s rows) b (rows-held table blocks b s ok low long) in
    omega (arith, told.summed, ok.short, length-lay rows s)
