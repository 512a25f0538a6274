-- What the recogniser's functions need of its definition, on plain values.
-- Assumes nothing.
use Prim.Native.Nat.{ℕ, ◌+◌, ◌-◌, ◌*◌, ◌/◌, ◌%◌, ◌≤◌, ◌<◌}
use native.Mathlib.Omega.{arith}
use mathlib.Core.Path.{◌≡◌, refl, sym, ap, ◌∙◌}
use mathlib.Core.Bool.{Bool, true, false, ◌&&◌, ◌||◌, false≢true}
use mathlib.Core.List.{List, [], ◌∷◌}
use lib.Dec.{eqb, ltb, leb}
use lib.ListN.{length, take, drop, length-take, length-drop, length-append}
use lib.Seq.{length-take-le}
use borrow.Author.Tests.{eq-eqb, ne_eqb, eqb-true, ltb-true, leb-true}
use Rattle.le.specs.Bytes.{holds_text}
use Rattle.le.specs.Field.{read_le, holds}
use Rattle.le.proofs.Rows.{and_left, and_right}
use Rattle.extent.specs.declared.Extent.{Extent}
use Rattle.extent.specs.Extents.{descriptors_length, extents_from, total_length}
use Rattle.tag.specs.Tag.{crc_length}
use Rattle.vat.specs.Table.{sector_length, most_own, most_bytes, limit, unused_or_below, Lower, table_start, entry_rows, plain_rows, length_rows, embedded, outside, attribute_length, described_length, whole_length, placed, own_if, own_of, measured, framed, is_there, bytes_of, lies, full_before, laid, joined, inside, bytes_if, table_of, table_length, regid_at, table_name, entry_count, previous_of, enclosed}

-- without its tag identifier a sector is framed as no table
pub untagged-frame : (s : List ℕ) (b : ℕ) → eqb (read_le 2 s 0) 261 ≡ false → framed s b ≡ false
unfolding framed holds plain_rows
untagged-frame s b e = rw e

-- what the rows of the lengths say, one by one
pub record Lengths (s : List ℕ) (a d i : ℕ) : Type 0 where
  pub attributes : read_le 4 s 168 ≡ a
  pub descriptors : read_le 4 s 172 ≡ d
  pub information : read_le 8 s 56 ≡ i
  pub summed : crc_length s ≡ 160 + a + d

pub lengths : (s : List ℕ) (a d i : ℕ) → holds s (length_rows a d i) ≡ true → Lengths s a d i
unfolding holds length_rows
lengths s a d i e =
    let p : Bool = eqb (read_le 4 s 168) a in
    let q : Bool = eqb (read_le 4 s 172) d in
    let r : Bool = eqb (read_le 8 s 56) i in
    let t : Bool = eqb (read_le 2 s 10) (160 + a + d) in
    let e₁ : (q && (r && (t && true))) ≡ true = and_right p (q && (r && (t && true))) e in
    let e₂ : (r && (t && true)) ≡ true = and_right q (r && (t && true)) e₁ in
    record {
      attributes = eqb-true (read_le 4 s 168) a (and_left p (q && (r && (t && true))) e);
      descriptors = eqb-true (read_le 4 s 172) d (and_left q (r && (t && true)) e₁);
      information = eqb-true (read_le 8 s 56) i (and_left r (t && true) e₂);
      summed = eqb-true (read_le 2 s 10) (160 + a + d) (and_left t true (and_right r (t && true) e₂));
    }

-- a file entry tells its block
pub located : (s : List ℕ) (version t b : ℕ) → holds s (entry_rows version t b) ≡ true → read_le 4 s 12 ≡ b
unfolding holds
located s version t b e =
    let tail : Bool = eqb (read_le 2 s 20) 4 && (eqb (read_le 1 s 27) t && true) in
    let at : Bool = eqb (read_le 4 s 12) b in
    let three : Bool = eqb (read_le 1 s 5) 0 in
    let two : Bool = eqb (read_le 2 s 2) version in
    eqb-true (read_le 4 s 12) b
    (and_left at tail (and_right three (at && tail) (and_right two (three && (at && tail)) (and_right (eqb (read_le 2 s 0) 261) (two && (three && (at && tail))) e))))

-- what a table's place tells
pub placed_below : (s : List ℕ) → placed s ≡ true → whole_length s < sector_length
placed_below s e = ltb-true (whole_length s) sector_length (and_right (eqb (attribute_length s % 4) 0) (ltb (whole_length s) sector_length) e)

-- what a framed sector tells, one by one
pub record Framed (s : List ℕ) (b : ℕ) : Type 0 where
  pub plain : holds s (plain_rows b) ≡ true
  pub aligned : attribute_length s % 4 ≡ 0
  pub below : whole_length s < sector_length
  pub sizes : measured s ≡ true

pub framed-tells : (s : List ℕ) (b : ℕ) → framed s b ≡ true → Framed s b
unfolding framed
framed-tells s b e =
    let a : ℕ = attribute_length s in
    let plain : Bool = holds s (plain_rows b) in
    let e₁ : (placed s && measured s) ≡ true = and_right plain (placed s && measured s) e in
    let put : placed s ≡ true = and_left (placed s) (measured s) e₁ in
    record {
      plain = and_left plain (placed s && measured s) e;
      aligned = eqb-true (a % 4) 0 (and_left (eqb (a % 4) 0) (ltb (whole_length s) sector_length) put);
      below = placed_below s put;
      sizes = and_right (placed s) (measured s) e₁;
    }

-- of either form: its lengths, and its own sectors
pub own-none : (s : List ℕ) → embedded s ≡ true → own_of s ≡ []
unfolding own_of
own-none s e = ap (λ (t : Bool). own_if t (extents_from (described_length s / 8) s (table_start (attribute_length s)))) e

pub own-some : (s : List ℕ) → embedded s ≡ false → own_of s ≡ extents_from (described_length s / 8) s (table_start (attribute_length s))
unfolding own_of
own-some s e = ap (λ (t : Bool). own_if t (extents_from (described_length s / 8) s (table_start (attribute_length s)))) e

pub record Outside (s : List ℕ) : Type 0 where
  pub some-own : 1 ≤ length (own_of s)
  pub few-own : length (own_of s) ≤ most_own
  pub sized : Lengths s (attribute_length s) (descriptors_length (length (own_of s))) (total_length (own_of s))

-- an ICB that holds its table, and one that does not
first_holds : (p q r u : Bool) → p ≡ true → q ≡ false → ((p && r) || (q && u)) ≡ true → r ≡ true
first_holds true false true u e f h = refl
first_holds true false false u e f h = h
first_holds true true r u e f h = absurd (false≢true (sym f))
first_holds false q r u e f h = absurd (false≢true e)

pub held-sizes : (s : List ℕ) → measured s ≡ true → embedded s ≡ true → Lengths s (attribute_length s) (described_length s) (described_length s)
unfolding measured
held-sizes s e h =
    let a : ℕ = attribute_length s in
    let n : ℕ = described_length s in
    let m : ℕ = length (own_of s) in
    let three : read_le 2 s 34 % 8 ≡ 3 = eqb-true (read_le 2 s 34 % 8) 3 h in
    let own : Bool = leb 1 m && (leb m most_own && holds s (length_rows a (descriptors_length m) (total_length (own_of s)))) in
    lengths s a n n (first_holds (embedded s) (outside s) (holds s (length_rows a n n)) own h (ap (λ (k : ℕ). eqb k 0) three) e)

pub own-sizes : (s : List ℕ) → measured s ≡ true → embedded s ≡ false → Outside s
unfolding measured
own-sizes s e h =
    let m : ℕ = length (own_of s) in
    let rows : Bool = holds s (length_rows (attribute_length s) (descriptors_length m) (total_length (own_of s))) in
    let first : Bool = holds s (length_rows (attribute_length s) (described_length s) (described_length s)) in
    let e₁ : (outside s && (leb 1 m && (leb m most_own && rows))) ≡ true =
    sym (ap (λ (t : Bool). (t && first) || (outside s && (leb 1 m && (leb m most_own && rows)))) h) ∙ e in
    let e₂ : (leb 1 m && (leb m most_own && rows)) ≡ true = and_right (outside s) (leb 1 m && (leb m most_own && rows)) e₁ in
    let e₃ : (leb m most_own && rows) ≡ true = and_right (leb 1 m) (leb m most_own && rows) e₂ in
    record {
      some-own = leb-true 1 m (and_left (leb 1 m) (leb m most_own && rows) e₂);
      few-own = leb-true m most_own (and_left (leb m most_own) rows e₃);
      sized = lengths s (attribute_length s) (descriptors_length m) (total_length (own_of s)) (and_right (leb m most_own) rows e₃);
    }

-- ---- the table's bytes

pub table-inside : (lower : Lower) (s : List ℕ) → embedded s ≡ true → table_of lower s ≡ inside s
unfolding table_of
table-inside lower s e = ap (λ (t : Bool). bytes_if t (inside s) (joined lower (own_of s))) e

pub table-apart : (lower : Lower) (s : List ℕ) → embedded s ≡ false → table_of lower s ≡ joined lower (own_of s)
unfolding table_of
table-apart lower s e = ap (λ (t : Bool). bytes_if t (inside s) (joined lower (own_of s))) e

-- behind the attributes there are as many as the sector tells
pub inside-long : (s : List ℕ) → length s ≡ sector_length → whole_length s < sector_length → length (inside s) ≡ described_length s
unfolding inside
inside-long s whole below =
    length-take-le (described_length s) (drop (table_start (attribute_length s)) s) (rw (length-drop (table_start (attribute_length s)) s) (omega arith))

pub inside-short : (s : List ℕ) → length s ≡ sector_length → whole_length s < sector_length → length (inside s) < sector_length
inside-short s whole below = omega (arith, inside-long s whole below)

-- own sectors hold a sector each at the most
pub lies-short : (lower : Lower) (e : Extent) → lies lower e ≡ true → e.length ≤ sector_length
unfolding lies
lies-short lower e t =
    let there : Bool = is_there (lower e.location) in
    leb-true e.length sector_length
    (and_left (leb e.length sector_length) there (and_right (ltb 0 e.length) (leb e.length sector_length && there) t))

pub joined-short : (lower : Lower) (es : List Extent) → laid lower es ≡ true → length (joined lower es) ≤ sector_length * length es
unfolding laid joined
joined-short lower [] t = omega arith
joined-short lower (e ∷ es) t =
    let more : Bool = full_before e es && laid lower es in
    let short : e.length ≤ sector_length = lies-short lower e (and_left (lies lower e) more t) in
    let rest : length (joined lower es) ≤ sector_length * length es = joined-short lower es (and_right (full_before e es) (laid lower es) (and_right (lies lower e) more t)) in
    let part : List ℕ = take e.length (bytes_of (lower e.location)) in
    let few : length part ≤ e.length = rw (length-take e.length (bytes_of (lower e.location))) (omega arith) in
    rw (length-append part (joined lower es)) (omega arith)

-- and so there is room for as many entries as eight of them hold
module _ (lower : Lower) (s : List ℕ) (b : ℕ) (whole : length s ≡ sector_length) (frame : Framed s b) (on-data : laid lower (own_of s) ≡ true) where
  pub table-short : length (table_of lower s) ≤ most_bytes
  table-short = go (embedded s) refl
    where
      go : (t : Bool) → embedded s ≡ t → length (table_of lower s) ≤ most_bytes
      go true e = rw (table-inside lower s e) (omega (arith, inside-short s whole frame.below))
      go false e = rw (table-apart lower s e) (omega (arith, joined-short lower (own_of s) on-data, (own-sizes s frame.sizes e).few-own))

  pub few-entries : entry_count (table_of lower s) ≤ limit
  unfolding entry_count
  few-entries = omega (arith, table-short)

-- the entries lie within them
pub entries-within : (t : List ℕ) → regid_at (entry_count t) ≤ length t
unfolding entry_count
entries-within t = omega arith

-- what an enclosed table tells
pub record Enclosed (t : List ℕ) (b : ℕ) : Type 0 where
  pub long : length t ≡ table_length (entry_count t)
  pub backward : unused_or_below b (previous_of t) ≡ true

pub enclosed-tells : (t : List ℕ) (b : ℕ) → enclosed t b ≡ true → Enclosed t b
unfolding enclosed
enclosed-tells t b e =
    let n : ℕ = entry_count t in
    let long : Bool = eqb (length t) (table_length n) in
    let named : Bool = holds_text t (regid_at n + 1) table_name in
    let back : Bool = unused_or_below b (previous_of t) in
    record {
      long = eqb-true (length t) (table_length n) (and_left long (named && back) e);
      backward = and_right named back (and_right long (named && back) e);
    }

-- whether a table is enclosed, test by test, with the entry count that its length tells
module _ (t : List ℕ) (b n : ℕ) (count : n ≡ (length t - 36) / 4) where
  pub counted : entry_count t ≡ n
  unfolding entry_count
  counted = sym count

  pub wrong-length : (length t ≡ table_length n → ⊥) → enclosed t b ≡ false
  unfolding enclosed
  wrong-length other =
      let rest : Bool = holds_text t (regid_at (entry_count t) + 1) table_name && unused_or_below b (previous_of t) in
      ap (λ (p : Bool). p && rest) (ne_eqb (length t) (table_length (entry_count t)) (λ e. other (e ∙ ap table_length counted)))

  pub right-length : length t ≡ table_length n → enclosed t b ≡ (holds_text t (regid_at n + 1) table_name && unused_or_below b (read_le 4 t (regid_at n + 32)))
  unfolding enclosed previous_of
  right-length whole = rw (counted, eq-eqb (length t) (table_length n) whole)
