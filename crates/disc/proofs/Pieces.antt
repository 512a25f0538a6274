-- A table in sectors of its own on a disc, byte by byte: each stands in the image where its sector lies.
--     table-byte               byte j of the table
--     length-table             how many there are
--     piece-words, field-read, piece-text  fields and texts that end with their sector or before it
-- Assumes nothing.
use Prim.Native.Nat.{ℕ, zero, suc, ◌+◌, ◌-◌, ◌*◌, ◌/◌, ◌%◌, ◌≤◌, ◌<◌}
use native.Mathlib.Nat.{not-suc-le-zero, add-zero, zero-add, suc-add}
use native.Mathlib.Omega.{arith}
use mathlib.Core.Path.{◌≡◌, refl, sym, ap, ap₂, ◌∙◌}
use mathlib.Core.Bool.{Bool, true, false, ◌&&◌, ◌||◌, and_assoc, false≢true}
use mathlib.Core.List.{List, [], ◌∷◌, ◌++◌}
use lib.Dec.{eqb, ltb, leb}
use lib.ListN.{length, take, drop, get_or, length-append, length-take, length-drop, get_or-append}
use lib.Seq.{sets, length-take-le, drop-drop, get_or-take, get_or-drop, get_or-append-add}
use borrow.Author.Tests.{eqb-true, eqb-false, eq-eqb, ne_eqb, ltb-true, ltb-false, lt-ltb, le-ltb, leb-true}
use Rattle.le.specs.Bytes.{every, holds_text}
use Rattle.le.specs.Field.{le, read_le, put_le, words, le_words}
use Rattle.le.proofs.Bytes.{sets-append}
use Rattle.le.proofs.Fields.{length-le, read-shift}
use Rattle.le.proofs.Rows.{and_left, and_right}
use Rattle.le.proofs.Runs.{text-split, text-shift, words-none, words_step, words-shift}
use Rattle.extent.specs.declared.Extent.{Extent}
use Rattle.extent.specs.Extents.{extent, extents_from, total_length}
use Rattle.extent.proofs.Extents.{extent_at, extents_left, extent-taken}
use Rattle.vat.specs.Table.{sector_length, is_there, bytes_of, lies, full_before, laid, joined}
use Rattle.disc.specs.Disc.{Disc, kind_at, sector_at, readable}
use Rattle.disc.specs.Tables.{below}
use Rattle.disc.proofs.Recording.{Sized}
use Rattle.disc.proofs.Found.{sector-long, groups-held}

-- ---- what is laid

module _ (d : Disc) (ok : Sized d) (b : ℕ) (high : b ≤ length d.kinds) where
  -- what can be read below block b is a sector of the disc
  there-reads : (c : ℕ) → is_there (below d b c) ≡ true → (c < b) × (bytes_of (below d b c) ≡ sector_at d c)
  there-reads c e = go (ltb c b) refl e
    where
      go : (t : Bool) → ltb c b ≡ t → is_there (readable (t && eqb (kind_at d c) 1) (sector_at d c)) ≡ true → (c < b) × (bytes_of (readable (t && eqb (kind_at d c) 1) (sector_at d c)) ≡ sector_at d c)
      go false h e = absurd (false≢true e)
      go true h e = (ltb-true c b h, further (eqb (kind_at d c) 1) e)
        where
          further : (u : Bool) → is_there (readable u (sector_at d c)) ≡ true → bytes_of (readable u (sector_at d c)) ≡ sector_at d c
          further true e = refl
          further false e = absurd (false≢true e)

  -- what one laid extent tells
  record Lies (e : Extent) : Type 0 where
    short : e.length ≤ sector_length
    low : e.location < b
    reads : bytes_of (below d b e.location) ≡ sector_at d e.location
    long : length (bytes_of (below d b e.location)) ≡ sector_length

  lies-tells : (e : Extent) → lies (below d b) e ≡ true → Lies e
  unfolding lies
  lies-tells e t =
      let there : Bool = is_there (below d b e.location) in
      let t₁ : (leb e.length sector_length && there) ≡ true = and_right (ltb 0 e.length) (leb e.length sector_length && there) t in
      let r : (e.location < b) × (bytes_of (below d b e.location) ≡ sector_at d e.location) = there-reads e.location (and_right (leb e.length sector_length) there t₁) in
      record {
        short = leb-true e.length sector_length (and_left (leb e.length sector_length) there t₁);
        low = r.0;
        reads = r.1;
        long = ap length r.1 ∙ sector-long d ok e.location (omega (arith, r.0));
      }

  record Laid (e : Extent) (es : List Extent) : Type 0 where
    first : Lies e
    full : full_before e es ≡ true
    rest : laid (below d b) es ≡ true

  laid-tells : (e : Extent) (es : List Extent) → laid (below d b) (e ∷ es) ≡ true → Laid e es
  unfolding laid
  laid-tells e es t =
      let more : Bool = full_before e es && laid (below d b) es in
      let t₁ : more ≡ true = and_right (lies (below d b) e) more t in
      record {
        first = lies-tells e (and_left (lies (below d b) e) more t);
        full = and_left (full_before e es) (laid (below d b) es) t₁;
        rest = and_right (full_before e es) (laid (below d b) es) t₁;
      }

  pub length-table : (es : List Extent) → laid (below d b) es ≡ true → length (joined (below d b) es) ≡ total_length es
  unfolding joined total_length
  length-table [] t = refl
  length-table (e ∷ es) t =
      let l : Laid e es = laid-tells e es t in
      let part : length (take e.length (bytes_of (below d b e.location))) ≡ e.length =
      length-take-le e.length (bytes_of (below d b e.location)) (omega (arith, l.first.short, l.first.long)) in
      length-append (take e.length (bytes_of (below d b e.location))) (joined (below d b) es)
      ∙ ap₂ (λ (x y : ℕ). x + y) part (length-table es l.rest)

  -- the byte of a sector stands in the image
  sector-byte : (c j : ℕ) → j < sector_length → get_or (sector_at d c) j 0 ≡ get_or d.image (sector_length * c + j) 0
  unfolding sector_at
  sector-byte c j h = get_or-take sector_length (drop (sector_length * c) d.image) j 0 h ∙ get_or-drop (sector_length * c) d.image j 0

  -- where byte j stands
  abbrev pub place_of : List ℕ → ℕ → ℕ → ℕ
  place_of s at j = sector_length * read_le 4 s (at + 8 * (j / sector_length) + 4) + j % sector_length

  pub table-byte : (m : ℕ) (s : List ℕ) (at j : ℕ) → laid (below d b) (extents_from m s at) ≡ true → j < total_length (extents_from m s at)
      → (get_or (joined (below d b) (extents_from m s at)) j 0 ≡ get_or d.image (place_of s at j) 0) × (read_le 4 s (at + 8 * (j / sector_length) + 4) < b) × (j / sector_length < m)
  unfolding extents_from joined total_length
  table-byte zero s at j t h = absurd (not-suc-le-zero h)
  table-byte (suc m) s at j t h = go (ltb j sector_length) refl (table-byte m s (at + 8) (j - sector_length))
    where
      e : Extent
      e = extent (read_le 4 s at) (read_le 4 s (at + 4))

      es : List Extent
      es = extents_from m s (at + 8)

      l : Laid e es
      l = laid-tells e es t

      x : List ℕ
      x = bytes_of (below d b e.location)

      go : (u : Bool) → ltb j sector_length ≡ u
          → (laid (below d b) es ≡ true → j - sector_length < total_length es
          → (get_or (joined (below d b) es) (j - sector_length) 0 ≡ get_or d.image (place_of s (at + 8) (j - sector_length)) 0) × (read_le 4 s (at + 8 + 8 * ((j - sector_length) / sector_length) + 4) < b) × ((j - sector_length) / sector_length < m))
          → (get_or (take e.length x ++ joined (below d b) es) j 0 ≡ get_or d.image (place_of s at j) 0) × (read_le 4 s (at + 8 * (j / sector_length) + 4) < b) × (j / sector_length < suc m)
      go true z ih =
          let low : j < sector_length = ltb-true j sector_length z in
          let first : at + 8 * (j / sector_length) + 4 ≡ at + 4 = omega arith in
          let same : j % sector_length ≡ j = omega arith in
          let inside : j < length (take e.length x) = within m es l.full h in (
            get_or-append (take e.length x) (joined (below d b) es) 0 j inside
                ∙ get_or-take e.length x j 0 (omega (arith, length-take-le e.length x (omega (arith, l.first.short, l.first.long)), inside))
                ∙ ap (λ (y : List ℕ). get_or y j 0) l.first.reads
                ∙ sector-byte e.location j low
                ∙ ap₂ (λ (p q : ℕ). get_or d.image (sector_length * read_le 4 s p + q) 0) (sym first) (sym same),
            rw first l.first.low,
            omega arith,
          )
        where
          within : (k : ℕ) (fs : List Extent) → full_before e fs ≡ true → j < e.length + total_length fs → j < length (take e.length x)
          within k [] f h = rw (length-take-le e.length x (omega (arith, l.first.short, l.first.long))) (omega arith)
          within k (g ∷ gs) f h = rw (length-take-le e.length x (omega (arith, l.first.short, l.first.long))) (omega (arith, eqb-true e.length sector_length f, ltb-true j sector_length z))
      go false z ih =
          let high : sector_length ≤ j = ltb-false j sector_length z in
          let whole : (e.length ≡ sector_length) × (j - sector_length < total_length es) = full m es l.full h in
          let long : length (take e.length x) ≡ sector_length = length-take-le e.length x (omega (arith, l.first.short, l.first.long)) ∙ whole.0 in
          let r = ih l.rest whole.1 in
          let on : length (take e.length x) + (j - sector_length) ≡ j = omega (arith, long) in
          let slot : at + 8 + 8 * ((j - sector_length) / sector_length) + 4 ≡ at + 8 * (j / sector_length) + 4 = omega arith in
          let same : (j - sector_length) % sector_length ≡ j % sector_length = omega arith in (
            ap (λ (k : ℕ). get_or (take e.length x ++ joined (below d b) es) k 0) (sym on)
                ∙ get_or-append-add (take e.length x) (joined (below d b) es) (j - sector_length) 0
                ∙ r.0
                ∙ ap₂ (λ (p q : ℕ). get_or d.image (sector_length * read_le 4 s p + q) 0) slot same,
            rw slot at r.1,
            omega (arith, r.2),
          )
        where
          full : (k : ℕ) (fs : List Extent) → full_before e fs ≡ true → j < e.length + total_length fs → (e.length ≡ sector_length) × (j - sector_length < total_length fs)
          full k [] f h = absurd (omega (arith, l.first.short, ltb-false j sector_length z))
          full k (g ∷ gs) f h = let whole : e.length ≡ sector_length = eqb-true e.length sector_length f in (whole, omega (arith, ltb-false j sector_length z))

  -- each byte of a piece, which ends with its sector or before, where it lies
  piece_byte : (m : ℕ) (s : List ℕ) (at j n : ℕ) → laid (below d b) (extents_from m s at) ≡ true → j % sector_length + n ≤ sector_length
      → j + n ≤ total_length (extents_from m s at) → (k : ℕ) → k < n → get_or d.image (place_of s at j + k) 0 ≡ get_or (joined (below d b) (extents_from m s at)) (j + k) 0
  piece_byte m s at j n t within inside k h =
      let slot : at + 8 * ((j + k) / sector_length) + 4 ≡ at + 8 * (j / sector_length) + 4 = omega arith in
      let same : (j + k) % sector_length ≡ j % sector_length + k = omega arith in
      let place : sector_length * read_le 4 s (at + 8 * (j / sector_length) + 4) + (j % sector_length + k) ≡ place_of s at j + k = omega arith in
      sym
      ((table-byte m s at (j + k) t (omega arith)).0
      ∙ ap₂ (λ (p q : ℕ). get_or d.image (sector_length * read_le 4 s p + q) 0) slot same
      ∙ ap (λ (p : ℕ). get_or d.image p 0) place)

  -- its words, a field of it, and a text that is looked for there
  pub piece-words : (m : ℕ) (s : List ℕ) (at j n : ℕ) → laid (below d b) (extents_from m s at) ≡ true → j % sector_length + 4 * n ≤ sector_length
      → j + 4 * n ≤ total_length (extents_from m s at) → words n d.image (place_of s at j) ≡ words n (joined (below d b) (extents_from m s at)) j
  piece-words m s at j n t within inside =
      words-shift n d.image (joined (below d b) (extents_from m s at)) (place_of s at j) j (piece_byte m s at j (4 * n) t within inside)

  pub field-read : (m : ℕ) (s : List ℕ) (at j n : ℕ) → laid (below d b) (extents_from m s at) ≡ true → j % sector_length + n ≤ sector_length
      → j + n ≤ total_length (extents_from m s at) → read_le n d.image (place_of s at j) ≡ read_le n (joined (below d b) (extents_from m s at)) j
  field-read m s at j n t within inside =
      read-shift n d.image (joined (below d b) (extents_from m s at)) (place_of s at j) j (piece_byte m s at j n t within inside)

  pub piece-text : (m : ℕ) (s : List ℕ) (at j : ℕ) (text : List ℕ) → laid (below d b) (extents_from m s at) ≡ true → j % sector_length + length text ≤ sector_length
      → j + length text ≤ total_length (extents_from m s at) → holds_text d.image (place_of s at j) text ≡ holds_text (joined (below d b) (extents_from m s at)) j text
  piece-text m s at j text t within inside =
      text-shift text d.image (joined (below d b) (extents_from m s at)) (place_of s at j) j (piece_byte m s at j (length text) t within inside)

-- ---- one turn of each loop

pub text-piece-taken : (same : Bool) (t text : List ℕ) (from i end : ℕ) → i ≤ end → end ≤ length text
    → ((same && holds_text t (from + i) (take (end - i) (drop i text))) && holds_text t (from + end) (drop end text)) ≡ (same && holds_text t (from + i) (drop i text))
text-piece-taken same t text from i end low high =
    let count : ℕ = end - i in
    let piece : List ℕ = take count (drop i text) in
    let behind : from + i + count ≡ from + end = omega arith in
    let to : i + count ≡ end = omega arith in
    and_assoc same (holds_text t (from + i) piece) (holds_text t (from + end) (drop end text))
    ∙ ap (λ (u : Bool). same && u)
    (sym
    (text-split count (drop i text) t (from + i) (rw (length-drop i text) (omega arith))
    ∙ ap₂ (λ (p : ℕ) (rest : List ℕ). holds_text t (from + i) piece && holds_text t p rest) behind (drop-drop count i text ∙ ap (λ (k : ℕ). drop k text) to)))

-- a piece is no longer than was asked for
pub piece-short : (n : ℕ) (l : List ℕ) → length (take n l) ≤ n
piece-short n l = rw (length-take n l) (omega arith)

pub piece-taken : (held : Bool) (f : ℕ → Bool) (t : List ℕ) (j count left : ℕ) → count ≤ left
    → ((held && every f (words count t j)) && every f (words (left - count) t (j + 4 * count))) ≡ (held && every f (words left t j))
piece-taken held f t j count left h =
    and_assoc held (every f (words count t j)) (every f (words (left - count) t (j + 4 * count))) ∙ ap (λ (u : Bool). held && u) (groups-held f count left t j h)

-- fields put where others stand, and those behind them
field_put : (l : List ℕ) (j n at : ℕ) (t : List ℕ) → sets l j (le_words (words (suc n) t at)) ≡ sets (put_le 4 l j (read_le 4 t at)) (j + 4) (le_words (words n t (at + 4)))
unfolding le_words
field_put l j n at t =
    ap (λ (xs : List ℕ). sets l j (le_words xs)) (words_step n t at)
    ∙ sets-append (le 4 (read_le 4 t at)) (le_words (words n t (at + 4))) l j
    ∙ ap (λ (k : ℕ). sets (put_le 4 l j (read_le 4 t at)) (j + k) (le_words (words n t (at + 4)))) (length-le 4 (read_le 4 t at))

fields-put : (k m : ℕ) (l : List ℕ) (j at : ℕ) (t : List ℕ)
    → sets (sets l j (le_words (words k t at))) (j + 4 * k) (le_words (words m t (at + 4 * k))) ≡ sets l j (le_words (words (k + m) t at))
unfolding le_words
fields-put zero m l j at t =
    ap₂ (λ (xs : List ℕ) (p : ℕ). sets (sets l j (le_words xs)) (j + 4 * 0) (le_words (words m t p))) (words-none t at) (add-zero at)
    ∙ ap₂ (λ (n p : ℕ). sets l p (le_words (words n t at))) (sym (zero-add m)) (add-zero j)
fields-put (suc k) m l j at t =
    let l₁ : List ℕ = put_le 4 l j (read_le 4 t at) in
    let to : j + 4 * suc k ≡ j + 4 + 4 * k = omega arith in
    let from : at + 4 * suc k ≡ at + 4 + 4 * k = omega arith in
    ap (λ (x : List ℕ). sets x (j + 4 * suc k) (le_words (words m t (at + 4 * suc k)))) (field_put l j k at t)
    ∙ ap₂ (λ (p q : ℕ). sets (sets l₁ (j + 4) (le_words (words k t (at + 4)))) p (le_words (words m t q))) to from
    ∙ fields-put k m l₁ (j + 4) (at + 4) t
    ∙ sym (field_put l j (k + m) at t)
    ∙ ap (λ (n : ℕ). sets l j (le_words (words n t at))) (sym (suc-add k m))

pub piece-put : (l t : List ℕ) (j count left : ℕ) → count ≤ left
    → sets (sets l j (le_words (words count t j))) (j + 4 * count) (le_words (words (left - count) t (j + 4 * count))) ≡ sets l j (le_words (words left t j))
piece-put l t j count left h =
    let all : count + (left - count) ≡ left = omega arith in
    fields-put count (left - count) l j j t ∙ ap (λ (n : ℕ). sets l j (le_words (words n t j))) all

-- ---- one descriptor after another

-- where an extent lies, by its block
none-there : (d : Disc) (b n c : ℕ) → is_there (below d b c) ≡ false → lies (below d b) (extent n c) ≡ false
unfolding lies
none-there d b n c e = go (ltb 0 n) (leb n sector_length) (is_there (below d b c)) e
  where
    go : (p q r : Bool) → r ≡ false → (p && (q && r)) ≡ false
    go false q r e = refl
    go true false r e = refl
    go true true r e = e

pub lies-not : (d : Disc) (b n c : ℕ) → b ≤ c → lies (below d b) (extent n c) ≡ false
lies-not d b n c h = none-there d b n c (ap (λ (t : Bool). is_there (readable (t && eqb (kind_at d c) 1) (sector_at d c))) (le-ltb c b h))

pub lies-if : (d : Disc) (b n c : ℕ) → c < b → lies (below d b) (extent n c) ≡ (ltb 0 n && (leb n sector_length && eqb (kind_at d c) 1))
unfolding lies
lies-if d b n c h =
    ap (λ (t : Bool). ltb 0 n && (leb n sector_length && is_there (readable (t && eqb (kind_at d c) 1) (sector_at d c)))) (lt-ltb c b h)
    ∙ ap (λ (t : Bool). ltb 0 n && (leb n sector_length && t)) (there (eqb (kind_at d c) 1))
  where
    there : (t : Bool) → is_there (readable t (sector_at d c)) ≡ t
    there true = refl
    there false = refl

full-before : (e : Extent) (s : List ℕ) (k at : ℕ) → full_before e (extents_from k s at) ≡ (eqb k 0 || eqb e.length sector_length)
unfolding extents_from
full-before e s zero at = refl
full-before e s (suc k) at = rw (ne_eqb (suc k) 0 (λ z. omega arith))

last_of : (m i : ℕ) → i < m → eqb (m - (i + 1)) 0 ≡ eqb (i + 1) m
last_of m i h = go (eqb (i + 1) m) refl
  where
    go : (t : Bool) → eqb (i + 1) m ≡ t → eqb (m - (i + 1)) 0 ≡ t
    go true e = eq-eqb (m - (i + 1)) 0 (omega (arith, eqb-true (i + 1) m e))
    go false e = ne_eqb (m - (i + 1)) 0 (λ z. eqb-false (i + 1) m e (omega arith))

pub descriptor-taken : (d : Disc) (b : ℕ) (s : List ℕ) (at m i : ℕ) (held : Bool) → i < m → let e : Extent = extent_at s at i in
    ((held && (lies (below d b) e && (eqb (i + 1) m || eqb e.length sector_length))) && laid (below d b) (extents_left s at m (i + 1)))
    ≡ (held && laid (below d b) (extents_left s at m i))
unfolding laid
descriptor-taken d b s at m i held h =
    let e : Extent = extent_at s at i in
    let es : List Extent = extents_left s at m (i + 1) in
    let here : Bool = lies (below d b) e in
    let full : Bool = eqb (i + 1) m || eqb e.length sector_length in
    let rest : Bool = laid (below d b) es in
    and_assoc held (here && full) rest
    ∙ ap (λ (t : Bool). held && t) (and_assoc here full rest)
    ∙ ap (λ (t : Bool). held && (here && (t && rest))) (sym (full-before e s (m - (i + 1)) (at + 8 * (i + 1)) ∙ ap (λ (t : Bool). t || eqb e.length sector_length) (last_of m i h)))
    ∙ ap (λ (xs : List Extent). held && laid (below d b) xs) (sym (extent-taken s at m i h))
