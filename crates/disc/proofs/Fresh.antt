-- The own sectors of a save: each stands at its block once those that are not named again are recorded, and none of these is a table or a pointer.
--     stands         each stands below the save's ICB
--     fresh-neither  none that is recorded is a table or a pointer
--     again-same     which are named again is told by what the previous table's own sectors read
--     again-read     whether one stands at a block, told by the image
--     other-named    where another previous table is named it does not
-- Assumes nothing.
use Prim.Native.Nat.{ℕ, zero, suc, ◌+◌, ◌*◌, ◌≤◌, ◌<◌}
use native.Mathlib.Numerals.{add-one}
use native.Mathlib.Omega.{arith}
use mathlib.Core.Path.{◌≡◌, refl, sym, ap, ap₂, ◌∙◌, subst}
use mathlib.Core.Bool.{Bool, true, false, ◌&&◌, false≢true}
use mathlib.Core.List.{List, [], ◌∷◌}
use mathlib.Core.Logic.{◌⊎◌, inl, inr}
use Rattle.std.specs.Prelude.{Option, None, Some}
use lib.Dec.{eqb}
use lib.ListN.{length, take, drop, get_or, length-drop}
use lib.Seq.{drop-cons, drop_at, drop-drop, take-take, take-add, length-take-le}
use borrow.Author.Tests.{eqb-true, ne_eqb}
use Rattle.le.specs.Bytes.{every, holds_text}
use Rattle.le.specs.Field.{read_le}
use Rattle.le.proofs.Rows.{and_left, and_right}
use Rattle.le.proofs.Runs.{text-split, field-other}
use Rattle.vat.specs.Table.{sector_length, most_bytes, unused_or_below, Lower, bytes_of, table_length, regid_at}
use Rattle.vat.specs.Sector.{table_bytes}
use Rattle.vat.specs.Own.{own_sector, sectors_of, own_count, own_sectors}
use Rattle.vat.proofs.Record.{length-table}
use Rattle.vat.proofs.Joined.{Stand, AllLong, length-filled, sectors-long, sectors-on, own-field, AllSmall, length-sectors}
use Rattle.vat.proofs.Theorems.{previous-stands, some-own, few-own}
use Rattle.anchor.proofs.Passing.{Neither, NeitherOf, neither-of}
use Rattle.disc.specs.Disc.{Disc, recorded, kind_at, sector_at, readable, content, plain, put, puts}
use Rattle.disc.specs.Tables.{below, named_by}
use Rattle.disc.specs.Again.{same, again_if, named_again, own_blocks, fresh, again_of, fresh_of, plains}
use Rattle.disc.proofs.Recording.{Sound, leading_le, AllWhole, Recorded, put-recorded}
use Rattle.disc.proofs.Told.{reads-data, SameBelow, SameAt}
use Rattle.disc.proofs.Growing.{Grew, puts-grew, one_kept, data-recorded, data-kept, data-below, plain-reads}

pub same_true : (xs ys : List ℕ) → same xs ys ≡ true → xs ≡ ys
unfolding same
same_true [] [] e = refl
same_true [] (y ∷ ys) e = absurd (false≢true e)
same_true (x ∷ xs) [] e = absurd (false≢true e)
same_true (x ∷ xs) (y ∷ ys) e =
    ap₂ {C = List ℕ} (λ (a : ℕ) (l : List ℕ). a ∷ l) (eqb-true x y (and_left (eqb x y) (same xs ys) e)) (same_true xs ys (and_right (eqb x y) (same xs ys) e))

-- ---- compared where it lies

-- bytes that a text is compared with
text_same : (text image : List ℕ) (at : ℕ) → at + length text ≤ length image → holds_text image at text ≡ same (take (length text) (drop at image)) text
unfolding holds_text same
text_same [] image at h = refl
text_same (x ∷ xs) image at h =
    let here : drop at image ≡ get_or image at 0 ∷ drop (suc at) image = drop-cons image at 0 (omega arith) in
    let next : at + 1 ≡ suc at = add-one at in
    ap (λ (t : Bool). eqb (get_or image at 0) x && t) (text_same xs image (at + 1) (omega arith) ∙ ap (λ (k : ℕ). same (take (length xs) (drop k image)) xs) next)
    ∙ ap (λ (l : List ℕ). same (take (suc (length xs)) l) (x ∷ xs)) (sym here)

-- an own sector does not stand where another previous table is named
pub other-named : (image map : List ℕ) (at previous i k : ℕ) → k + 4 ≤ sector_length → sector_length * i + k ≡ regid_at (length map) + 32 → previous < 4294967296
    → (read_le 4 image (at + k) ≡ previous → ⊥) → holds_text image at (own_sector (table_bytes map previous) i) ≡ false
other-named image map at previous i k inside here small other =
    let t : List ℕ = table_bytes map previous in
    field-other 4 (own_sector t i) image at k (rw (length-filled (drop (sector_length * i) t)) inside)
    (λ e. other (e ∙ own-field 4 t i k inside ∙ ap (read_le 4 t) here ∙ previous-stands map previous small))

-- bytes in two parts, as they stand in a map
pub text-parts : (k m : ℕ) (s map : List ℕ) (at from : ℕ) → from + (k + m) ≤ length map
    → holds_text s at (take (k + m) (drop from map)) ≡ (holds_text s at (take k (drop from map)) && holds_text s (at + k) (take m (drop (from + k) map)))
text-parts k m s map at from inside =
    let l : List ℕ = drop from map in
    let all : length (take (k + m) l) ≡ k + m = length-take-le (k + m) l (rw (length-drop from map) (omega arith)) in
    let long : length (take k l) ≡ k = length-take-le k l (rw (length-drop from map) (omega arith)) in
    text-split k (take (k + m) l) s at (omega arith)
    ∙ ap₂ (λ (x y : List ℕ). holds_text s at x && holds_text s (at + k) y) (take-take k (k + m) l (omega arith))
    (ap (drop k) (take-add k m l) ∙ drop_at (take k l) (take m (drop k l)) k long ∙ ap (take m) (drop-drop k from map))

module _ (d : Disc) (o : ℕ) (s : List ℕ) (long : length s ≡ sector_length) where
  pub again-read : kind_at d o ≡ 1 → sector_length * o + sector_length ≤ length d.image → holds_text d.image (sector_length * o) s ≡ same (bytes_of (content d o)) s
  unfolding sector_at
  again-read one inside =
      text_same s d.image (sector_length * o) (rw long inside)
      ∙ ap (λ (n : ℕ). same (take n (drop (sector_length * o) d.image)) s) long
      ∙ ap (λ (x : Option (List ℕ)). same (bytes_of x) s) (sym (reads-data d o one))

  pub again-not : (kind_at d o ≡ 1 → ⊥) → same (bytes_of (content d o)) s ≡ false
  unfolding content same
  again-not other = ap (λ (t : Bool). same (bytes_of (readable t (sector_at d o))) s) (ne_eqb (kind_at d o) 1 other) ∙ nothing s long
    where
      nothing : (x : List ℕ) → length x ≡ sector_length → same [] x ≡ false
      nothing [] e = absurd (let z : 0 ≡ sector_length = e in omega arith)
      nothing (x ∷ xs) e = refl

-- ---- whole sectors

fresh-long : (rs : List (Option ℕ)) (ss : List (List ℕ)) → AllLong ss → AllLong (fresh rs ss)
unfolding fresh
fresh-long [] ss a = tt
fresh-long (None ∷ rs) [] a = tt
fresh-long (Some o ∷ rs) [] a = tt
fresh-long (None ∷ rs) (s ∷ ss) a = (a.0, fresh-long rs ss a.1)
fresh-long (Some o ∷ rs) (s ∷ ss) a = fresh-long rs ss a.1

pub plains-whole : (ss : List (List ℕ)) → AllLong ss → AllWhole (plains ss)
plains-whole [] a = tt
plains-whole (s ∷ ss) a = (a.0, plains-whole ss a.1)

pub length-plains : (ss : List (List ℕ)) → length (plains ss) ≡ length ss
length-plains [] = refl
length-plains (s ∷ ss) = ap suc (length-plains ss)

-- ---- named again

-- of each that is named again its bytes can be read there
abbrev AgainStand : Lower → List (Option ℕ) → List (List ℕ) → Type 0
AgainStand lower [] [] = Unit
AgainStand lower [] (s ∷ ss) = ⊥
AgainStand lower (r ∷ rs) [] = ⊥
AgainStand lower (None ∷ rs) (s ∷ ss) = AgainStand lower rs ss
AgainStand lower (Some o ∷ rs) (s ∷ ss) = (lower o ≡ Some s) × AgainStand lower rs ss

-- bytes that fill a sector can only be read where there are some
pub read-there : (o : Option (List ℕ)) (s : List ℕ) → length s ≡ sector_length → bytes_of o ≡ s → o ≡ Some s
read-there None s long e = absurd (let z : 0 ≡ sector_length = ap length e ∙ long in omega arith)
read-there (Some x) s long e = ap Some e

again-stand : (lower : Lower) (olds : List ℕ) (ss : List (List ℕ)) → AllLong ss → AgainStand lower (named_again lower olds ss) ss
unfolding named_again
again-stand lower [] [] a = tt
again-stand lower (o ∷ os) [] a = tt
again-stand lower [] (s ∷ ss) a = again-stand lower [] ss a.1
again-stand lower (o ∷ os) (s ∷ ss) a = go (same (bytes_of (lower o)) s) refl (again-stand lower os ss a.1)
  where
    go : (t : Bool) → same (bytes_of (lower o)) s ≡ t → AgainStand lower (named_again lower os ss) ss → AgainStand lower (again_if t o ∷ named_again lower os ss) (s ∷ ss)
    go true e rest = (read-there (lower o) s a.0 (same_true (bytes_of (lower o)) s e), rest)
    go false e rest = rest

-- what a reader reads, another reads too
abbrev ReadsToo : Lower → Lower → Type 0
ReadsToo lower lower' = (b : ℕ) (s : List ℕ) → lower b ≡ Some s → lower' b ≡ Some s

again_kept : (lower lower' : Lower) → ReadsToo lower lower' → (rs : List (Option ℕ)) (ss : List (List ℕ)) → AgainStand lower rs ss → AgainStand lower' rs ss
again_kept lower lower' k [] [] h = tt
again_kept lower lower' k [] (s ∷ ss) h = absurd h
again_kept lower lower' k (None ∷ rs) [] h = absurd h
again_kept lower lower' k (Some o ∷ rs) [] h = absurd h
again_kept lower lower' k (None ∷ rs) (s ∷ ss) h = again_kept lower lower' k rs ss h
again_kept lower lower' k (Some o ∷ rs) (s ∷ ss) h = (k o s h.0, again_kept lower lower' k rs ss h.1)

stand-kept : (lower lower' : Lower) → ReadsToo lower lower' → (bs : List ℕ) (ss : List (List ℕ)) → Stand lower bs ss → Stand lower' bs ss
stand-kept lower lower' k [] [] h = tt
stand-kept lower lower' k [] (s ∷ ss) h = absurd h
stand-kept lower lower' k (b ∷ bs) [] h = absurd h
stand-kept lower lower' k (b ∷ bs) (s ∷ ss) h = (k b s h.0, stand-kept lower lower' k bs ss h.1)

-- ---- recorded

own-stand : (rs : List (Option ℕ)) (ss : List (List ℕ)) (d : Disc) → Sound d → AllLong ss → recorded d + length (fresh rs ss) ≤ length d.kinds → AgainStand (content d) rs ss
    → Stand (content (puts d (recorded d) (plains (fresh rs ss)))) (own_blocks rs (recorded d)) ss
unfolding fresh own_blocks puts
own-stand [] [] d ok a room h = tt
own-stand [] (s ∷ ss) d ok a room h = absurd h
own-stand (None ∷ rs) [] d ok a room h = absurd h
own-stand (Some o ∷ rs) [] d ok a room h = absurd h
own-stand (Some o ∷ rs) (s ∷ ss) d ok a room h =
    let more : List (List ℕ) = fresh rs ss in
    let g : Grew d (puts d (recorded d) (plains more)) (length (plains more)) =
    puts-grew (plains more) d ok (rw (length-plains more) room) (plains-whole more (fresh-long rs ss a.1)) in
    (data-kept d (puts d (recorded d) (plains more)) ok g.kept o s h.0, own-stand rs ss d ok a.1 room h.1)
own-stand (None ∷ rs) (s ∷ ss) d ok a room h =
    let here : recorded d < length d.kinds = omega arith in
    let d₁ : Disc = put d (recorded d) (plain s) in
    let r : Recorded d d₁ (plain s) = put-recorded d ok here (plain s) a.0 in
    let next : recorded d + 1 ≡ recorded d₁ = add-one (recorded d) ∙ sym r.one_more in
    let more : List (List ℕ) = fresh rs ss in
    let room₁ : recorded d₁ + length more ≤ length d₁.kinds = omega (arith, r.one_more, r.same_length) in
    let g : Grew d₁ (puts d₁ (recorded d₁) (plains more)) (length (plains more)) =
    puts-grew (plains more) d₁ r.still-sound (rw (length-plains more) room₁) (plains-whole more (fresh-long rs ss a.1)) in
    let at_first : content (puts d₁ (recorded d₁) (plains more)) (recorded d) ≡ Some s =
    data-kept d₁ (puts d₁ (recorded d₁) (plains more)) r.still-sound g.kept (recorded d) s (plain-reads d ok here s a.0) in
    let behind : Stand (content (puts d₁ (recorded d₁) (plains more))) (own_blocks rs (recorded d₁)) ss =
    own-stand rs ss d₁ r.still-sound a.1 room₁ (again_kept (content d) (content d₁) (data-kept d d₁ ok (one_kept r)) rs ss h) in
    subst (λ (b : ℕ). Stand (content (puts d₁ b (plains more))) (recorded d ∷ own_blocks rs b) (s ∷ ss)) (sym next) (at_first, behind)

-- blocks of data fit 32 bits
stand-small : (d : Disc) → Sound d → (blocks : List ℕ) (ss : List (List ℕ)) → Stand (content d) blocks ss → AllSmall blocks
stand-small d ok [] [] h = tt
stand-small d ok [] (s ∷ ss) h = absurd h
stand-small d ok (b ∷ bs) [] h = absurd h
stand-small d ok (b ∷ bs) (s ∷ ss) h = (omega (arith, data-recorded d ok b s h.0, leading_le d.kinds, ok.few), stand-small d ok bs ss h.1)

-- those that are recorded
pub fresh-whole : (d : Disc) (t : List ℕ) (previous : ℕ) → AllWhole (plains (fresh_of d t previous))
unfolding fresh_of
fresh-whole d t previous = plains-whole (fresh_of d t previous) (fresh-long (again_of d t previous) (own_sectors t) (sectors-long (own_count (length t)) t))

-- d₀ is the disc that the save is compared with, and d as it is behind links, and behind what a closing puts first
module _ (d₀ d : Disc) (ok₀ : Sound d₀) (ok : Sound d) (kept : SameBelow d₀ d (recorded d₀)) (t : List ℕ) (previous : ℕ) where
  again-there : AgainStand (content d) (again_of d₀ t previous) (own_sectors t)
  unfolding again_of
  again-there =
      again_kept (content d₀) (content d) (data-kept d₀ d ok₀ kept) (again_of d₀ t previous) (own_sectors t)
      (again-stand (content d₀) (named_by d₀ previous) (own_sectors t) (sectors-long (own_count (length t)) t))

  module _ (room : recorded d + length (fresh_of d₀ t previous) ≤ length d.kinds) where
    abbrev after : Disc
    after = puts d (recorded d) (plains (fresh_of d₀ t previous))

    abbrev blocks : List ℕ
    blocks = own_blocks (again_of d₀ t previous) (recorded d)

    own-grew : Grew d after (length (plains (fresh_of d₀ t previous)))
    own-grew = puts-grew (plains (fresh_of d₀ t previous)) d ok (rw (length-plains (fresh_of d₀ t previous)) room) (fresh-whole d₀ t previous)

    own-there : Stand (content after) blocks (own_sectors t)
    unfolding fresh_of
    own-there = own-stand (again_of d₀ t previous) (own_sectors t) d ok (sectors-long (own_count (length t)) t) room again-there

    -- below the block that comes next
    pub stands : Stand (below after (recorded after)) blocks (own_sectors t)
    stands =
        stand-kept (content after) (below after (recorded after)) (λ b s e. data-below after (recorded after) b s (data-recorded after own-grew.still-sound b s e) e) blocks (own_sectors t)
        own-there

    pub blocks-small : AllSmall blocks
    blocks-small = stand-small after own-grew.still-sound blocks (own_sectors t) own-there

-- no more are recorded than there are
fresh-most : (rs : List (Option ℕ)) (ss : List (List ℕ)) → length (fresh rs ss) ≤ length ss
unfolding fresh
fresh-most [] ss = omega arith
fresh-most (None ∷ rs) [] = omega arith
fresh-most (Some o ∷ rs) [] = omega arith
fresh-most (None ∷ rs) (s ∷ ss) = omega (arith, fresh-most rs ss)
fresh-most (Some o ∷ rs) (s ∷ ss) = omega (arith, fresh-most rs ss)

pub few-fresh : (d : Disc) (t : List ℕ) (previous : ℕ) → length t ≤ most_bytes → length (fresh_of d t previous) ≤ 8
unfolding fresh_of
few-fresh d t previous h = omega (arith, fresh-most (again_of d t previous) (own_sectors t), length-sectors (own_count (length t)) t, few-own (length t) h)

-- ---- told by what is read

named-same : (d e : Disc) (olds : List ℕ) (ss : List (List ℕ)) → SameAt d e olds → named_again (content e) olds ss ≡ named_again (content d) olds ss
unfolding named_again
named-same d e [] [] a = refl
named-same d e (o ∷ os) [] a = refl
named-same d e [] (s ∷ ss) a = ap (λ (l : List (Option ℕ)). None ∷ l) (named-same d e [] ss tt)
named-same d e (o ∷ os) (s ∷ ss) a =
    ap₂ (λ (x : Option (List ℕ)) (l : List (Option ℕ)). again_if (same (bytes_of x) s) o ∷ l) a.0 (named-same d e os ss a.1)

pub again-same : (d e : Disc) (t : List ℕ) (previous : ℕ) → named_by e previous ≡ named_by d previous → SameAt d e (named_by d previous) → again_of e t previous ≡ again_of d t previous
unfolding again_of
again-same d e t previous named a =
    ap (λ (olds : List ℕ). named_again (content e) olds (own_sectors t)) named ∙ named-same d e (named_by d previous) (own_sectors t) a

-- ---- neither tables nor pointers

-- the sectors that are recorded from block c on
abbrev pub NeitherFrom : ℕ → List (List ℕ) → Type 0
NeitherFrom c [] = Unit
NeitherFrom c (s ∷ ss) = Neither s c × NeitherFrom (suc c) ss

-- those that are named again stand below block b
abbrev AgainBelow : ℕ → List (Option ℕ) → Type 0
AgainBelow b [] = Unit
AgainBelow b (None ∷ rs) = AgainBelow b rs
AgainBelow b (Some o ∷ rs) = (o < b) × AgainBelow b rs

again-higher : (b : ℕ) (rs : List (Option ℕ)) → AgainBelow b rs → AgainBelow (suc b) rs
again-higher b [] h = tt
again-higher b (None ∷ rs) h = again-higher b rs h
again-higher b (Some o ∷ rs) h = (omega (arith, h.0), again-higher b rs h.1)

again-higher-to : (b c : ℕ) (rs : List (Option ℕ)) → b ≤ c → AgainBelow b rs → AgainBelow c rs
again-higher-to b c [] h a = tt
again-higher-to b c (None ∷ rs) h a = again-higher-to b c rs h a
again-higher-to b c (Some o ∷ rs) h a = (omega (arith, a.0), again-higher-to b c rs h a.1)

again-below : (d : Disc) → Sound d → (rs : List (Option ℕ)) (ss : List (List ℕ)) → AgainStand (content d) rs ss → AgainBelow (recorded d) rs
again-below d ok [] [] h = tt
again-below d ok [] (s ∷ ss) h = absurd h
again-below d ok (None ∷ rs) [] h = absurd h
again-below d ok (Some o ∷ rs) [] h = absurd h
again-below d ok (None ∷ rs) (s ∷ ss) h = again-below d ok rs ss h
again-below d ok (Some o ∷ rs) (s ∷ ss) h = (data-recorded d ok o s h.0, again-below d ok rs ss h.1)

-- from own sector i on, which is recorded at block `at` if it is not named again
from-neither : (t : List ℕ) (r : ℕ) → NeitherOf r t → (m i at : ℕ) (rs : List (Option ℕ)) → r ≤ at → at + m < 4000000 → (i ≡ 0) ⊎ (0 < at) → AgainBelow at rs
    → NeitherFrom at (fresh rs (sectors_of m (drop (sector_length * i) t)))
unfolding fresh sectors_of
from-neither t r n m i at [] above low first below = tt
from-neither t r n zero i at (None ∷ rs) above low first below = tt
from-neither t r n zero i at (Some o ∷ rs) above low first below = tt
from-neither t r n (suc m) i at (None ∷ rs) above low first below =
    subst (λ (ss : List (List ℕ)). NeitherFrom at (fresh (None ∷ rs) ss)) (sym (sectors-on m i t))
    (n i at above (omega arith) first, from-neither t r n m (suc i) (suc at) rs (omega arith) (omega arith) (inr (omega arith)) (again-higher at rs below))
from-neither t r n (suc m) i at (Some o ∷ rs) above low first below =
    subst (λ (ss : List (List ℕ)). NeitherFrom at (fresh (Some o ∷ rs) ss)) (sym (sectors-on m i t))
    (from-neither t r n m (suc i) at rs above (omega arith) (inr (omega (arith, below.0))) below.1)

none-fresh : (c : ℕ) (rs : List (Option ℕ)) → NeitherFrom c (fresh rs [])
unfolding fresh
none-fresh c [] = tt
none-fresh c (r ∷ rs) = tt

-- from any block behind what is recorded on
pub fresh-neither : (d : Disc) → Sound d → (map : List ℕ) (previous at : ℕ) → length (table_bytes map previous) ≤ most_bytes → every (unused_or_below (recorded d)) map ≡ true
    → unused_or_below (recorded d) previous ≡ true → recorded d ≤ at → at ≤ 400000 → NeitherFrom at (fresh_of d (table_bytes map previous) previous)
unfolding fresh_of sectors_of
fresh-neither d ok map previous at short entries before behind low =
    go (own_count (length t)) refl (again_of d t previous) (again-higher-to (recorded d) at (again_of d t previous) behind (again-below d ok (again_of d t previous) (own_sectors t) (again-there d d ok ok (λ b h. refl) t previous)))
  where
    t : List ℕ
    t = table_bytes map previous

    few : recorded d ≤ 360000
    few = omega (arith, leading_le d.kinds, ok.few)

    go : (m : ℕ) → own_count (length t) ≡ m → (rs : List (Option ℕ)) → AgainBelow at rs → NeitherFrom at (fresh rs (sectors_of m t))
    go zero e rs below = none-fresh at rs
    go (suc m) e rs below =
        let own = some-own (length t) m e in
        let long : length t ≡ table_length (length map) = length-table map previous in
        from-neither t (recorded d) (neither-of map previous (recorded d) (omega (arith, own.0)) entries before (omega (arith, few))) (suc m) 0 at rs behind (omega (arith, own.1.more)) (inl refl) below
