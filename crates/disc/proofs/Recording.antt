-- What recording one sector at the end of what is recorded does to a sound disc: one sector more is recorded, it holds what was put, and every lower
-- one stays.
-- Assumes nothing.
use Prim.Native.Nat.{ℕ, zero, suc, ◌+◌, ◌*◌, ◌≤◌, ◌<◌}
use native.Mathlib.Nat.{not-suc-le-zero, le_of_suc-le-suc, le_refl, add-zero}
use native.Mathlib.Omega.{arith}
use mathlib.Core.Path.{◌≡◌, refl, sym, ap, ap₂, ◌∙◌}
use mathlib.Core.Bool.{Bool, true, false, ◌&&◌}
use mathlib.Core.List.{List, [], ◌∷◌, ◌++◌, append_assoc}
use lib.Dec.{eqb, ltb, leb}
use lib.ListN.{length, get_or, take, drop, set, replicate, length-set, length-append, length-drop, length-replicate, take-append-drop}
use lib.Seq.{get_or-set_same, get_or-set_other, drop-set-lt, take-append-le, drop-append-le, take_at, drop_at, drop-drop, length-take-le, sets, sets-eq}
use borrow.Author.Tests.{eq-eqb, ne_eqb, eqb-true, ltb-true, ltb-false, leb-true, lt-ltb, le-leb}
use Rattle.le.specs.Bytes.{every}
use Rattle.std.proofs.lemmas.List.{replicate-append-replicate}
use Rattle.le.proofs.Bytes.{sets-append}
use native.Mathlib.Numerals.{add-one}
use Rattle.le.proofs.Rows.{and_left, and_right}
use Rattle.vat.specs.Table.{sector_length}
use Rattle.disc.specs.Disc.{Disc, lent, most_sectors, sized, counted, leading, recorded, in_order, kind_at, sector_at, readable, content, Sector, link, plain, torn, stored, put, puts}

-- ---- the kinds

abbrev pub blank_from : List ℕ → ℕ → Bool
blank_from ks r = every (λ k. eqb k 0) (drop r ks)

blank-leading : (ks : List ℕ) → every (λ k. eqb k 0) ks ≡ true → leading ks ≡ 0
unfolding leading every
blank-leading [] e = refl
blank-leading (x ∷ xs) e = rw (and_left (eqb x 0) (every (λ k. eqb k 0) xs) e)

blank-rest : (x : ℕ) (xs : List ℕ) → every (λ k. eqb k 0) (x ∷ xs) ≡ true → every (λ k. eqb k 0) xs ≡ true
unfolding every
blank-rest x xs e = and_right (eqb x 0) (every (λ k. eqb k 0) xs) e

leading-first : (k : ℕ) (ks : List ℕ) → (k ≡ 0 → ⊥) → leading (k ∷ ks) ≡ suc (leading ks)
unfolding leading
leading-first k ks nz = rw (ne_eqb k 0 nz)

-- a kind stored right behind the leading ones counts
pub leading-set : (ks : List ℕ) (k : ℕ) → leading ks < length ks → (k ≡ 0 → ⊥) → blank_from ks (leading ks) ≡ true → leading (set ks (leading ks) k) ≡ suc (leading ks)
unfolding leading
leading-set [] k h nz e = absurd (not-suc-le-zero h)
leading-set (x ∷ xs) k h nz e = go (λ h e. leading-set xs k h nz e) (eqb x 0) refl h e
  where
    go : (leading xs < length xs → blank_from xs (leading xs) ≡ true → leading (set xs (leading xs) k) ≡ suc (leading xs))
        → (t : Bool) → eqb x 0 ≡ t → counted t (leading xs) < suc (length xs) → blank_from (x ∷ xs) (counted t (leading xs)) ≡ true
        → leading (set (x ∷ xs) (counted (eqb x 0) (leading xs)) k) ≡ suc (counted (eqb x 0) (leading xs))
    go ih true z h e =
        rw z (leading-first k xs nz ∙ ap suc (blank-leading xs (blank-rest x xs e)))
    go ih false z h e =
        rw z (rw z (ap suc (ih (le_of_suc-le-suc h) e)))

pub leading_le : (ks : List ℕ) → leading ks ≤ length ks
unfolding leading
leading_le [] = omega arith
leading_le (x ∷ xs) = go (eqb x 0) (leading_le xs)
  where
    go : (t : Bool) → leading xs ≤ length xs → counted t (leading xs) ≤ suc (length xs)
    go true h = omega arith
    go false h = omega arith

-- ---- the image

pub length-stored : (image : List ℕ) (at : ℕ) (s : List ℕ) → at + length s ≤ length image → length (stored image at s) ≡ length image
unfolding stored
length-stored image at s h =
    rw (length-append (take at image) (s ++ drop (at + length s) image), length-append s (drop (at + length s) image), length-take-le at image (omega arith), length-drop (at + length s) image)
    (omega arith)

-- a part of the image that was lent and filled
pub stored-part : (image s : List ℕ) (at n : ℕ) → length s ≡ n → take at image ++ (s ++ drop n (drop at image)) ≡ stored image at s
unfolding stored
stored-part image s at n e = ap (λ (r : List ℕ). take at image ++ (s ++ r)) (drop-drop n at image ∙ ap (λ (k : ℕ). drop (at + k) image) (sym e))

-- it is set byte by byte
pub stored-sets : (image : List ℕ) (at : ℕ) (s : List ℕ) → at + length s ≤ length image → stored image at s ≡ sets image at s
unfolding stored
stored-sets image at s h = sym (sets-eq s image at h ∙ append_assoc (take at image) s (drop (at + length s) image))

-- what was stored stands there
pub stored_here : (image : List ℕ) (at : ℕ) (s : List ℕ) (n : ℕ) → at + length s ≤ length image → length s ≡ n → take n (drop at (stored image at s)) ≡ s
unfolding stored
stored_here image at s n h e =
    ap (take n) (drop_at (take at image) (s ++ drop (at + length s) image) at (length-take-le at image (omega arith)))
    ∙ take_at s (drop (at + length s) image) n e

-- what lies before stays
pub stored-before : (image : List ℕ) (at : ℕ) (s : List ℕ) (k n : ℕ) → at + length s ≤ length image → k + n ≤ at → take n (drop k (stored image at s)) ≡ take n (drop k image)
unfolding stored
stored-before image at s k n h b =
    let front : List ℕ = take at image in
    let rest : List ℕ = s ++ drop (at + length s) image in
    let long : length front ≡ at = length-take-le at image (omega arith) in
    let split : take n (drop k front) ≡ take n (drop k image) =
    sym (ap (λ (l : List ℕ). take n (drop k l)) (sym (take-append-drop at image)) ∙ ap (take n) (drop-append-le k front (drop at image) (omega arith))
    ∙ take-append-le n (drop k front) (drop at image) (omega (arith, length-drop k front))) in
    ap (take n) (drop-append-le k front rest (omega arith)) ∙ take-append-le n (drop k front) rest (omega (arith, length-drop k front)) ∙ split

-- ---- a sound disc

-- what refusal 1 leaves
pub record Sized (d : Disc) : Type 0 where
  pub some-sectors : 0 < length d.kinds
  pub few : length d.kinds ≤ most_sectors
  pub whole : length d.image ≡ sector_length * length d.kinds

pub sized-tells : (d : Disc) → sized d ≡ true → Sized d
unfolding sized
sized-tells d s =
    let n : ℕ = length d.kinds in
    let two : Bool = leb n most_sectors && eqb (length d.image) (sector_length * n) in
    let s₂ : two ≡ true = and_right (ltb 0 n) two s in
    record {
      some-sectors = ltb-true 0 n (and_left (ltb 0 n) two s);
      few = leb-true n most_sectors (and_left (leb n most_sectors) (eqb (length d.image) (sector_length * n)) s₂);
      whole = eqb-true (length d.image) (sector_length * n) (and_right (leb n most_sectors) (eqb (length d.image) (sector_length * n)) s₂);
    }

-- what refusals 1 and 3 leave
pub record Sound (d : Disc) : Type 0 where
  pub some-sectors : 0 < length d.kinds
  pub few : length d.kinds ≤ most_sectors
  pub whole : length d.image ≡ sector_length * length d.kinds
  pub known : every (λ k. leb k 3) d.kinds ≡ true
  pub blank : blank_from d.kinds (recorded d) ≡ true

pub sound : (d : Disc) → sized d ≡ true → in_order d.kinds ≡ true → Sound d
unfolding in_order
sound d s f =
    let z : Sized d = sized-tells d s in
    record {
      some-sectors = z.some-sectors;
      few = z.few;
      whole = z.whole;
      known = and_left (every (λ k. leb k 3) d.kinds) (blank_from d.kinds (recorded d)) f;
      blank = and_right (every (λ k. leb k 3) d.kinds) (blank_from d.kinds (recorded d)) f;
    }

pub sound-sized : (d : Disc) → Sound d → sized d ≡ true
unfolding sized
sound-sized d s =
    rw (lt-ltb 0 (length d.kinds) s.some-sectors, le-leb (length d.kinds) most_sectors s.few, eq-eqb (length d.image) (sector_length * length d.kinds) s.whole)

pub sound-order : (d : Disc) → Sound d → in_order d.kinds ≡ true
unfolding in_order
sound-order d s = rw (s.known, s.blank)

every_set : (f : ℕ → Bool) (xs : List ℕ) (n x : ℕ) → every f xs ≡ true → f x ≡ true → every f (set xs n x) ≡ true
unfolding every
every_set f [] n x e h = refl
every_set f (y ∷ ys) zero x e h = rw (h, and_right (f y) (every f ys) e)
every_set f (y ∷ ys) (suc n) x e h = rw (and_left (f y) (every f ys) e, every_set f ys n x (and_right (f y) (every f ys) e) h)

-- blank sectors stay blank behind what is recorded
blank-drop : (ks : List ℕ) (r : ℕ) → blank_from ks r ≡ true → blank_from ks (suc r) ≡ true
unfolding every
blank-drop [] zero e = refl
blank-drop [] (suc r) e = refl
blank-drop (k ∷ ks) zero e = and_right (eqb k 0) (every (λ k. eqb k 0) ks) e
blank-drop (k ∷ ks) (suc r) e = blank-drop ks r e

-- ---- one sector recorded

abbrev pub kind_of : Sector → ℕ
kind_of link = 2
kind_of (plain s) = 1
kind_of (torn s) = 3

-- the bytes of a sector that is recorded, if it has any, fill it
abbrev pub Whole : Sector → Type 0
Whole link = Unit
Whole (plain s) = length s ≡ sector_length
Whole (torn s) = length s ≡ sector_length

abbrev pub AllWhole : List Sector → Type 0
AllWhole [] = Unit
AllWhole (s ∷ ss) = Whole s × AllWhole ss

pub whole_append : (xs ys : List Sector) → AllWhole xs → AllWhole ys → AllWhole (xs ++ ys)
whole_append [] ys a b = b
whole_append (x ∷ xs) ys a b = (a.0, whole_append xs ys a.1 b)

pub whole_take : (j : ℕ) (ss : List Sector) → AllWhole ss → AllWhole (take j ss)
whole_take zero ss a = tt
whole_take (suc j) [] a = tt
whole_take (suc j) (s ∷ ss) a = (a.0, whole_take j ss a.1)

pub record Recorded (d d' : Disc) (s : Sector) : Type 0 where
  pub still-sound : Sound d'
  pub same_length : length d'.kinds ≡ length d.kinds
  pub one_more : recorded d' ≡ suc (recorded d)
  pub kinds_kept : (b : ℕ) → b < recorded d → kind_at d' b ≡ kind_at d b
  pub sectors-kept : (b : ℕ) → b < recorded d → sector_at d' b ≡ sector_at d b
  pub its-kind : kind_at d' (recorded d) ≡ kind_of s

module _ (d : Disc) (ok : Sound d) (room : recorded d < length d.kinds) where
  -- the place of the next sector is within the image
  place : (s : List ℕ) → length s ≡ sector_length → sector_length * recorded d + length s ≤ length d.image
  place s e = omega (arith, ok.whole)

  recording : (s : Sector) (k : ℕ) (image : List ℕ) → kind_of s ≡ k → (k ≡ 0 → ⊥) → leb k 3 ≡ true → length image ≡ length d.image
      → ((b : ℕ) → b < recorded d → take sector_length (drop (sector_length * b) image) ≡ take sector_length (drop (sector_length * b) d.image))
      → Recorded d (record { image = image; kinds = set d.kinds (recorded d) k }) s
  unfolding sector_at
  recording s k image is nz known long kept =
      let ks : List ℕ = d.kinds in
      let r : ℕ = recorded d in
      let more : leading (set ks r k) ≡ suc r = leading-set ks k room nz ok.blank in
      record {
        still-sound =
            record {
              some-sectors = rw (length-set ks r k) ok.some-sectors;
              few = rw (length-set ks r k) ok.few;
              whole = rw (length-set ks r k) (long ∙ ok.whole);
              known = every_set (λ x. leb x 3) ks r k ok.known known;
              blank = rw (more, drop-set-lt (suc r) ks r k (omega arith)) (blank-drop ks r ok.blank);
            };
        same_length = length-set ks r k;
        one_more = more;
        kinds_kept = λ b h. get_or-set_other ks r b k 0 (omega arith);
        sectors-kept = kept;
        its-kind = get_or-set_same ks r k 0 room ∙ sym is;
      }

  kept-below : (s : List ℕ) → length s ≡ sector_length → (b : ℕ) → b < recorded d
      → take sector_length (drop (sector_length * b) (stored d.image (sector_length * recorded d) s)) ≡ take sector_length (drop (sector_length * b) d.image)
  kept-below s e b h = stored-before d.image (sector_length * recorded d) s (sector_length * b) sector_length (place s e) (omega arith)

  pub put-recorded : (s : Sector) → Whole s → Recorded d (put d (recorded d) s) s
  put-recorded link w = recording link 2 d.image refl (λ z. omega arith) refl refl (λ b h. refl)
  put-recorded (plain s) w =
      recording (plain s) 1 (stored d.image (sector_length * recorded d) s) refl (λ z. omega arith) refl
      (length-stored d.image (sector_length * recorded d) s (place s w)) (kept-below s w)
  put-recorded (torn s) w =
      recording (torn s) 3 (stored d.image (sector_length * recorded d) s) refl (λ z. omega arith) refl
      (length-stored d.image (sector_length * recorded d) s (place s w)) (kept-below s w)

  -- a data sector holds the bytes that were put
  pub plain_here : (s : List ℕ) → length s ≡ sector_length → sector_at (put d (recorded d) (plain s)) (recorded d) ≡ s
  unfolding sector_at
  plain_here s w = stored_here d.image (sector_length * recorded d) s sector_length (place s w) w

pub puts-append : (xs ys : List Sector) (d : Disc) (b : ℕ) → puts d b (xs ++ ys) ≡ puts (puts d b xs) (b + length xs) ys
unfolding puts
puts-append [] ys d b = rw (add-zero b)
puts-append (x ∷ xs) ys d b =
    let e : b + 1 + length xs ≡ b + suc (length xs) = omega arith in
    puts-append xs ys (put d b x) (b + 1) ∙ ap (λ (k : ℕ). puts (puts (put d b x) (b + 1) xs) k ys) e

-- a part that was lent, and filled with one number
pub filled-part : (l s : List ℕ) (at k n x : ℕ) → k ≡ n → at + n ≤ length l → s ≡ replicate (length (take k (drop at l))) x
    → take at l ++ (s ++ drop k (drop at l)) ≡ sets l at (replicate n x)
filled-part l s at k n x e h f =
    let all : s ≡ replicate n x = f ∙ ap (λ (m : ℕ). replicate m x) (ap (λ (m : ℕ). length (take m (drop at l))) e ∙ length-take-le n (drop at l) (omega (arith, length-drop at l))) in
    let long : length s ≡ n = ap length all ∙ length-replicate n x in
    stored-part l s at k (long ∙ sym e) ∙ stored-sets l at s (omega (arith, long)) ∙ ap (sets l at) all

-- links change the kinds, one by one
pub links-set : (n : ℕ) (kinds : List ℕ) (b : ℕ) → (puts (lent [] kinds) b (replicate n link)).kinds ≡ sets kinds b (replicate n 2)
unfolding puts
links-set zero kinds b = refl
links-set (suc n) kinds b = rw (links-set n (set kinds b 2) (b + 1), add-one b)

-- so many sectors of one and the same byte
pub data-set : (n x b : ℕ) (image kinds : List ℕ) → length image ≡ sector_length * length kinds → b + n ≤ length kinds
    → puts (lent image kinds) b (replicate n (plain (replicate sector_length x))) ≡ lent (sets image (sector_length * b) (replicate (sector_length * n) x)) (sets kinds b (replicate n 1))
unfolding puts
data-set zero x b image kinds whole h = refl
data-set (suc n) x b image kinds whole h =
    let one : List ℕ = replicate sector_length x in
    let at : ℕ = sector_length * b in
    let long : length one ≡ sector_length = length-replicate sector_length x in
    let inside : at + length one ≤ length image = omega (arith, long) in
    let next : sector_length * (b + 1) ≡ at + length one = omega (arith, long) in
    let more : one ++ replicate (sector_length * n) x ≡ replicate (sector_length * suc n) x =
    replicate-append-replicate sector_length (sector_length * n) x ∙ ap (λ (k : ℕ). replicate k x) (omega arith) in
    data-set n x (b + 1) (stored image at one) (set kinds b 1) (rw (length-set kinds b 1, length-stored image at one inside) whole) (rw (length-set kinds b 1) (omega arith))
    ∙ ap₂ lent
    (ap₂ (λ (i : List ℕ) (k : ℕ). sets i k (replicate (sector_length * n) x)) (stored-sets image at one inside) next ∙ sym (sets-append one (replicate (sector_length * n) x) image at) ∙ ap (sets image at) more)
    (rw add-one)

-- links change the kinds alone
pub puts-links : (n : ℕ) (image kinds : List ℕ) (b : ℕ) → puts (lent image kinds) b (replicate n link) ≡ lent image (puts (lent [] kinds) b (replicate n link)).kinds
unfolding puts
puts-links zero image kinds b = refl
puts-links (suc n) image kinds b = puts-links n image (set kinds b 2) (b + 1)

pub length-links : (n : ℕ) (kinds : List ℕ) (b : ℕ) → length (puts (lent [] kinds) b (replicate n link)).kinds ≡ length kinds
unfolding puts
length-links zero kinds b = refl
length-links (suc n) kinds b = length-links n (set kinds b 2) (b + 1) ∙ length-set kinds b 2

-- ---- what is not blank is recorded

pub blank-kind : (ks : List ℕ) (r b : ℕ) → blank_from ks r ≡ true → r ≤ b → get_or ks b 0 ≡ 0
unfolding every
blank-kind [] r b e h = refl
blank-kind (k ∷ ks) zero zero e h = eqb-true k 0 (and_left (eqb k 0) (every (λ k. eqb k 0) ks) e)
blank-kind (k ∷ ks) zero (suc b) e h = blank-kind ks 0 b (and_right (eqb k 0) (every (λ k. eqb k 0) ks) e) (omega arith)
blank-kind (k ∷ ks) (suc r) zero e h = absurd (not-suc-le-zero h)
blank-kind (k ∷ ks) (suc r) (suc b) e h = blank-kind ks r b e (le_of_suc-le-suc h)

pub kind-recorded : (d : Disc) → Sound d → (b : ℕ) → (kind_at d b ≡ 0 → ⊥) → b < recorded d
kind-recorded d ok b nz = go (ltb b (recorded d)) refl
  where
    go : (t : Bool) → ltb b (recorded d) ≡ t → b < recorded d
    go true e = ltb-true b (recorded d) e
    go false e = absurd (nz (blank-kind d.kinds (recorded d) b ok.blank (ltb-false b (recorded d) e)))

-- links read as the blank sectors did: nothing that can be read changes
link-kind : (ks : List ℕ) (r c : ℕ) → get_or ks r 0 ≡ 0 → eqb (get_or (set ks r 2) c 0) 1 ≡ eqb (get_or ks c 0) 1
link-kind [] r c e = refl
link-kind (k ∷ ks) zero zero e = ap (λ (n : ℕ). eqb n 1) (sym e)
link-kind (k ∷ ks) zero (suc c) e = refl
link-kind (k ∷ ks) (suc r) zero e = refl
link-kind (k ∷ ks) (suc r) (suc c) e = link-kind ks r c e

pub links-contents : (n : ℕ) (d : Disc) (r : ℕ) → ((b : ℕ) → r ≤ b → kind_at d b ≡ 0) → (c : ℕ) → content (puts d r (replicate n link)) c ≡ content d c
unfolding puts content sector_at
links-contents zero d r blank c = refl
links-contents (suc n) d r blank c =
    links-contents n (put d r link) (r + 1) (λ b h. get_or-set_other d.kinds r b 2 0 (omega arith) ∙ blank b (omega arith)) c
    ∙ ap (λ (t : Bool). readable t (sector_at d c)) (link-kind d.kinds r c (blank r (le_refl r)))
