-- A table in sectors of its own: where these stand below the ICB, its extents are laid, and the sectors joined up to their lengths are the table.
--     sectors-long, sectors-on   each is a whole sector, and which it is
--     own-field                  a field of one is read from the table
--     own-laid, own-joined       where the sectors stand, they are laid, and joined they are the table
--     total-extents, extents-at  their extents are as long as the table, and lie at these blocks
-- Assumes nothing.
use Prim.Native.Nat.{ℕ, zero, suc, ◌+◌, ◌-◌, ◌*◌, ◌≤◌, ◌<◌}
use native.Mathlib.Omega.{arith}
use mathlib.Core.Path.{◌≡◌, refl, sym, ap, ap₂, ◌∙◌}
use mathlib.Core.Bool.{Bool, true, false}
use mathlib.Core.List.{List, [], ◌∷◌, ◌++◌, append-nil}
use Rattle.std.specs.Prelude.{Option, Some}
use lib.Dec.{ltb}
use lib.ListN.{length, take, drop, get_or, replicate, length-append, length-replicate, length-take, length-drop, take-append-drop, get_or-append, get_or-eq_default, get_or-replicate}
use lib.Seq.{take_all, take_at, length-take-le, drop-drop, get_or-take, get_or-append-add}
use borrow.Author.Tests.{ltb-true, ltb-false, lt-ltb, le-leb}
use Rattle.le.specs.Field.{read_le}
use Rattle.le.proofs.Fields.{read-agrees, read-drop}
use Rattle.extent.specs.Extents.{extent, total_length, locations}
use Rattle.extent.proofs.Extents.{AllFit}
use Rattle.vat.specs.Table.{sector_length, Lower, bytes_of, lies, laid, joined}
use Rattle.vat.specs.Own.{filled_up, own_sector, sectors_of, extents_at}

-- ---- where they stand

-- m sectors and one more hold n bytes, the last not empty
pub record Fills (m n : ℕ) : Type 0 where
  pub more : sector_length * m < n
  pub enough : n ≤ sector_length * suc m

-- below the ICB stand these sectors at these blocks
abbrev pub Stand : Lower → List ℕ → List (List ℕ) → Type 0
Stand lower [] [] = Unit
Stand lower [] (s ∷ ss) = ⊥
Stand lower (b ∷ bs) [] = ⊥
Stand lower (b ∷ bs) (s ∷ ss) = (lower b ≡ Some s) × Stand lower bs ss

-- ---- whole sectors

abbrev pub AllLong : List (List ℕ) → Type 0
AllLong [] = Unit
AllLong (s ∷ ss) = (length s ≡ sector_length) × AllLong ss

pub length-filled : (t : List ℕ) → length (filled_up (take sector_length t)) ≡ sector_length
length-filled t =
    let low : length (take sector_length t) ≤ sector_length = rw (length-take sector_length t) (omega arith) in
    rw (length-append, length-replicate) (omega arith)

pub sectors-long : (m : ℕ) (t : List ℕ) → AllLong (sectors_of m t)
unfolding sectors_of
sectors-long zero t = tt
sectors-long (suc m) t = (length-filled t, sectors-long m (drop sector_length t))

-- those from own sector i on
pub sectors-on : (m i : ℕ) (t : List ℕ) → sectors_of (suc m) (drop (sector_length * i) t) ≡ own_sector t i ∷ sectors_of m (drop (sector_length * suc i) t)
unfolding sectors_of
sectors-on m i t =
    let next : sector_length * i + sector_length ≡ sector_length * suc i = omega arith in
    ap (λ (rest : List ℕ). own_sector t i ∷ sectors_of m rest) (drop-drop sector_length (sector_length * i) t ∙ ap (λ (k : ℕ). drop k t) next)

-- it holds the table's bytes from its place on, and zeros where they end
filled-byte : (t : List ℕ) (j : ℕ) → j < sector_length → get_or (filled_up (take sector_length t)) j 0 ≡ get_or t j 0
filled-byte t j h = go (ltb j (length part)) refl
  where
    part : List ℕ
    part = take sector_length t

    zeros : List ℕ
    zeros = replicate (sector_length - length part) 0

    behind : (k : ℕ) → get_or zeros k 0 ≡ 0
    behind k = past (ltb k (sector_length - length part)) refl
      where
        past : (u : Bool) → ltb k (sector_length - length part) ≡ u → get_or zeros k 0 ≡ 0
        past true e = get_or-replicate (sector_length - length part) k 0 0 (ltb-true k (sector_length - length part) e)
        past false e = get_or-eq_default zeros 0 (rw (length-replicate {A = ℕ} (sector_length - length part) 0) (ltb-false k (sector_length - length part) e))

    go : (u : Bool) → ltb j (length part) ≡ u → get_or (part ++ zeros) j 0 ≡ get_or t j 0
    go true e = get_or-append part zeros 0 j (ltb-true j (length part) e) ∙ get_or-take sector_length t j 0 h
    go false e =
        let low : length part ≤ j = ltb-false j (length part) e in
        let at : length part + (j - length part) ≡ j = omega arith in
        ap (λ (k : ℕ). get_or (part ++ zeros) k 0) (sym at)
        ∙ get_or-append-add part zeros (j - length part) 0
        ∙ behind (j - length part)
        ∙ sym (get_or-eq_default part 0 low)
        ∙ get_or-take sector_length t j 0 h

filled-read : (n : ℕ) (t : List ℕ) (at : ℕ) → at + n ≤ sector_length → read_le n (filled_up (take sector_length t)) at ≡ read_le n t at
filled-read n t at h = read-agrees n (filled_up (take sector_length t)) t at (λ k low high. filled-byte t k (omega arith))

pub own-field : (n : ℕ) (t : List ℕ) (i at : ℕ) → at + n ≤ sector_length → read_le n (own_sector t i) at ≡ read_le n t (sector_length * i + at)
own-field n t i at h = filled-read n (drop (sector_length * i) t) at h ∙ read-drop n t (sector_length * i) at

-- ---- laid and joined

-- a sector holds what was filled up
first-bytes : (t : List ℕ) (n : ℕ) → length (take sector_length t) ≡ n → take n (filled_up (take sector_length t)) ≡ take sector_length t
first-bytes t n e = take_at (take sector_length t) (replicate (sector_length - length (take sector_length t)) 0) n e

lies-there : (lower : Lower) (n b : ℕ) (s : List ℕ) → lower b ≡ Some s → 0 < n → n ≤ sector_length → lies lower (extent n b) ≡ true
unfolding lies
lies-there lower n b s e low high = rw (e, lt-ltb 0 n low, le-leb n sector_length high)

pub own-laid : (lower : Lower) (m : ℕ) (t blocks : List ℕ) → Stand lower blocks (sectors_of (suc m) t) → Fills m (length t) → laid lower (extents_at (length t) blocks) ≡ true
unfolding sectors_of extents_at laid
own-laid lower m t [] h f = absurd h
own-laid lower zero t (b ∷ []) h f = rw (lies-there lower (length t) b (filled_up (take sector_length t)) h.0 (omega (arith, f.more)) (omega (arith, f.enough)))
own-laid lower (suc m) t (b ∷ []) h f = absurd h.1
own-laid lower zero t (b ∷ c ∷ bs) h f = absurd h.1
own-laid lower (suc m) t (b ∷ c ∷ bs) h f =
    let rest : List ℕ = drop sector_length t in
    let shorter : length rest ≡ length t - sector_length = length-drop sector_length t in
    let fills : Fills m (length rest) = record { more = omega (arith, shorter, f.more); enough = omega (arith, shorter, f.enough) } in
    let behind : laid lower (extents_at (length rest) (c ∷ bs)) ≡ true = own-laid lower m rest (c ∷ bs) h.1 fills in
    rw (lies-there lower sector_length b (filled_up (take sector_length t)) h.0 (omega arith) (omega arith)) (ap (λ (k : ℕ). laid lower (extents_at k (c ∷ bs))) (sym shorter) ∙ behind)

pub own-joined : (lower : Lower) (m : ℕ) (t blocks : List ℕ) → Stand lower blocks (sectors_of (suc m) t) → Fills m (length t) → joined lower (extents_at (length t) blocks) ≡ t
unfolding sectors_of extents_at joined
own-joined lower m t [] h f = absurd h
own-joined lower zero t (b ∷ []) h f =
    let all : take sector_length t ≡ t = take_all sector_length t (omega (arith, f.enough)) in
    append-nil (take (length t) (bytes_of (lower b)))
    ∙ ap (λ (o : Option (List ℕ)). take (length t) (bytes_of o)) h.0
    ∙ first-bytes t (length t) (ap length all)
    ∙ all
own-joined lower (suc m) t (b ∷ []) h f = absurd h.1
own-joined lower zero t (b ∷ c ∷ bs) h f = absurd h.1
own-joined lower (suc m) t (b ∷ c ∷ bs) h f =
    let rest : List ℕ = drop sector_length t in
    let shorter : length rest ≡ length t - sector_length = length-drop sector_length t in
    let fills : Fills m (length rest) = record { more = omega (arith, shorter, f.more); enough = omega (arith, shorter, f.enough) } in
    let behind : joined lower (extents_at (length rest) (c ∷ bs)) ≡ rest = own-joined lower m rest (c ∷ bs) h.1 fills in
    ap₂ (λ (x y : List ℕ). x ++ y)
    (ap (λ (o : Option (List ℕ)). take sector_length (bytes_of o)) h.0 ∙ first-bytes t sector_length (length-take-le sector_length t (omega (arith, f.more))))
    (ap (λ (k : ℕ). joined lower (extents_at k (c ∷ bs))) (sym shorter) ∙ behind)
    ∙ take-append-drop sector_length t

-- ---- the extents of sectors at blocks

-- every number fits 32 bits
abbrev pub AllSmall : List ℕ → Type 0
AllSmall [] = Unit
AllSmall (b ∷ bs) = (b < 4294967296) × AllSmall bs

pub length-extents : (n : ℕ) (blocks : List ℕ) → length (extents_at n blocks) ≡ length blocks
unfolding extents_at
length-extents n [] = refl
length-extents n (b ∷ bs) = ap suc (length-extents (n - sector_length) bs)

pub extents-fit : (n : ℕ) (blocks : List ℕ) → n < 4294967296 → AllSmall blocks → AllFit (extents_at n blocks)
unfolding extents_at
extents-fit n [] h a = tt
extents-fit n (b ∷ []) h a = (h, a.0, tt)
extents-fit n (b ∷ c ∷ bs) h a = (omega arith, a.0, extents-fit (n - sector_length) (c ∷ bs) (omega arith) a.1)

pub total-extents : (m n : ℕ) (blocks : List ℕ) → length blocks ≡ suc m → Fills m n → total_length (extents_at n blocks) ≡ n
unfolding extents_at total_length
total-extents m n [] e f = absurd (let z : ◌≡◌ {A = ℕ} 0 (suc m) = e in omega arith)
total-extents m n (b ∷ []) e f = omega arith
total-extents zero n (b ∷ c ∷ bs) e f = absurd (omega arith)
total-extents (suc m) n (b ∷ c ∷ bs) e f =
    let less : Fills m (n - sector_length) = record { more = omega (arith, f.more); enough = omega (arith, f.enough) } in
    omega (arith, total-extents m (n - sector_length) (c ∷ bs) (omega arith) less, f.more)

pub extents-at : (n : ℕ) (blocks : List ℕ) → locations (extents_at n blocks) ≡ blocks
unfolding extents_at locations
extents-at n [] = refl
extents-at n (b ∷ bs) = ap (λ (l : List ℕ). b ∷ l) (extents-at (n - sector_length) bs)

-- as many blocks as sectors
pub length-sectors : (m : ℕ) (t : List ℕ) → length (sectors_of m t) ≡ m
unfolding sectors_of
length-sectors zero t = refl
length-sectors (suc m) t = ap suc (length-sectors m (drop sector_length t))

pub stand-count : (lower : Lower) (blocks : List ℕ) (ss : List (List ℕ)) → Stand lower blocks ss → length blocks ≡ length ss
stand-count lower [] [] h = refl
stand-count lower [] (s ∷ ss) h = absurd h
stand-count lower (b ∷ bs) [] h = absurd h
stand-count lower (b ∷ bs) (s ∷ ss) h = ap suc (stand-count lower bs ss h.1)
