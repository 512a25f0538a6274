-- Alike discs tell the same: one law for each definition that looks at a disc. And recording keeps them alike.
-- Assumes nothing.
use Prim.Native.Nat.{ℕ, zero, suc, ◌+◌, ◌-◌, ◌*◌, ◌≤◌, ◌<◌, min}
use native.Mathlib.Nat.{zero-add, suc-add}
use native.Mathlib.Omega.{arith}
use mathlib.Core.Path.{◌≡◌, refl, sym, ap, ap₂, fun_ext, ◌∙◌}
use mathlib.Core.Bool.{Bool, true, false, ◌&&◌}
use mathlib.Core.List.{List, [], ◌∷◌, ◌++◌}
use Rattle.std.specs.Prelude.{Option, None, Some}
use lib.Dec.{eqb, ltb, leb}
use lib.ListN.{length, get_or, take, drop, set, length-append, length-take, length-drop}
use lib.Seq.{get_or-set_other, take_at, drop-cons}
use borrow.Author.Tests.{eqb-true, eqb-false, leb-true}
use Rattle.le.specs.Bytes.{every}
use Rattle.le.proofs.Bytes.{part-take}
use Rattle.le.proofs.Rows.{and_left}
use Rattle.vat.specs.Table.{sector_length, unused}
use Rattle.anchor.specs.Anchor.{anchor_tagged}
use Rattle.disc.specs.Disc.{Disc, lent, most_sectors, sized, leading, recorded, in_order, blanks, kind_at, sector_at, readable, content, Sector, link, plain, torn, stored, put, puts}
use Rattle.disc.specs.Tables.{Walk}
use Rattle.std.specs.Prelude.{Ok, Err}
use Rattle.disc.specs.declared.Stop.TheVariants.{Broken, Ended}
use Rattle.disc.specs.Tables.{table_at, map_at, previous_at, named_by, newest_below, newest, stepped, walk}
use Rattle.disc.specs.Session.{closing_length, session_closed}
use Rattle.disc.proofs.Recording.{Sound, Whole, leading_le, kind-recorded, AllWhole}
use Rattle.le.proofs.Halves.{and-false}
use Rattle.disc.proofs.Told.{table_same, same-everywhere, Same, told}
use Rattle.disc.proofs.Found.{newest-table}
use Rattle.volume.specs.declared.Volume.{Volume}
use Rattle.volume.specs.Volume.{fits}
use Rattle.recorder.specs.Refusals.{walk_from, walked, time_reached, time_back}
use Rattle.recorder.proofs.Answers.{walked-table}
use Rattle.alike.specs.Alike.{Alike}

pub alike_refl : (d : Disc) → Alike d d
alike_refl d = record { same-kinds = refl; same_length = refl; same-data = λ b h. refl }

-- ---- two images of one length: every part that was the same before is the same after the same bytes are stored in both

abbrev Kept : List ℕ → List ℕ → List ℕ → List ℕ → Type 0
Kept xs ys xs' ys' = (k n : ℕ) → take n (drop k xs) ≡ take n (drop k ys) → take n (drop k xs') ≡ take n (drop k ys')

kept_new : (x y c : ℕ) (xs ys xs' ys' : List ℕ) → Kept xs ys xs' ys' → Kept (x ∷ xs) (y ∷ ys) (c ∷ xs') (c ∷ ys')
kept_new x y c xs ys xs' ys' h zero zero e = refl
kept_new x y c xs ys xs' ys' h zero (suc n) e = ap (λ (r : List ℕ). c ∷ r) (h zero n (cc))
kept_new x y c xs ys xs' ys' h (suc k) n e = h k n e

kept-old : (x y : ℕ) (xs ys xs' ys' : List ℕ) → Kept xs ys xs' ys' → Kept (x ∷ xs) (y ∷ ys) (x ∷ xs') (y ∷ ys')
kept-old x y xs ys xs' ys' h zero zero e = refl
kept-old x y xs ys xs' ys' h zero (suc n) e = ap₂ (λ (a : ℕ) (r : List ℕ). a ∷ r) (cc) (h zero n (cc))
kept-old x y xs ys xs' ys' h (suc k) n e = h k n e

over-kept : (s xs ys : List ℕ) → length xs ≡ length ys → Kept xs ys (s ++ drop (length s) xs) (s ++ drop (length s) ys)
over-kept [] xs ys l = λ k n e. e
over-kept (c ∷ s) [] [] l = λ k n e. refl
over-kept (c ∷ s) [] (y ∷ ys) l = absurd (omega arith)
over-kept (c ∷ s) (x ∷ xs) [] l = absurd (omega arith)
over-kept (c ∷ s) (x ∷ xs) (y ∷ ys) l =
    kept_new x y c xs ys (s ++ drop (length s) xs) (s ++ drop (length s) ys) (over-kept s xs ys (omega arith))

stored-first : (xs s : List ℕ) → stored xs 0 s ≡ s ++ drop (length s) xs
unfolding stored
stored-first xs s = rw (zero-add (length s))

stored-later : (x : ℕ) (xs : List ℕ) (at : ℕ) (s : List ℕ) → stored (x ∷ xs) (suc at) s ≡ x ∷ stored xs at s
unfolding stored
stored-later x xs at s = rw (suc-add at (length s))

stored-kept : (at : ℕ) (xs ys s : List ℕ) → length xs ≡ length ys → Kept xs ys (stored xs at s) (stored ys at s)
stored-kept zero xs ys s l = rw (stored-first xs s, stored-first ys s) (over-kept s xs ys l)
stored-kept (suc at) [] [] s l = λ k n e. refl
stored-kept (suc at) [] (y ∷ ys) s l = absurd (omega arith)
stored-kept (suc at) (x ∷ xs) [] s l = absurd (omega arith)
stored-kept (suc at) (x ∷ xs) (y ∷ ys) s l =
    rw (stored-later x xs at s, stored-later y ys at s)
    (kept-old x y xs ys (stored xs at s) (stored ys at s) (stored-kept at xs ys s (omega arith)))

-- and the part that was stored is
stored-new : (at : ℕ) (xs ys s : List ℕ) (n : ℕ) → length s ≡ n → length xs ≡ length ys → take n (drop at (stored xs at s)) ≡ take n (drop at (stored ys at s))
stored-new zero xs ys s n f l = rw (stored-first xs s, stored-first ys s) (take_at s (drop (length s) xs) n f ∙ sym (take_at s (drop (length s) ys) n f))
stored-new (suc at) [] [] s n f l = refl
stored-new (suc at) [] (y ∷ ys) s n f l = absurd (omega arith)
stored-new (suc at) (x ∷ xs) [] s n f l = absurd (omega arith)
stored-new (suc at) (x ∷ xs) (y ∷ ys) s n f l = rw (stored-later x xs at s, stored-later y ys at s) (stored-new at xs ys s n f (omega arith))

length-stored : (xs : List ℕ) (at : ℕ) (s : List ℕ) → length (stored xs at s) ≡ min at (length xs) + (length s + (length xs - (at + length s)))
unfolding stored
length-stored xs at s = simp (length-append, length-take, length-drop)

stored-long : (at : ℕ) (xs ys s : List ℕ) → length xs ≡ length ys → length (stored xs at s) ≡ length (stored ys at s)
stored-long at xs ys s l =
    length-stored xs at s ∙ ap (λ (n : ℕ). min at n + (length s + (n - (at + length s)))) l ∙ sym (length-stored ys at s)

-- ---- what is recorded on both

kind-kept : (ks : List ℕ) (b k x : ℕ) → (k ≡ 1 → ⊥) → get_or (set ks b k) x 0 ≡ 1 → get_or ks x 0 ≡ 1
kind-kept [] b k x h e = e
kind-kept (y ∷ ys) zero k zero h e = absurd (h e)
kind-kept (y ∷ ys) zero k (suc x) h e = e
kind-kept (y ∷ ys) (suc b) k zero h e = e
kind-kept (y ∷ ys) (suc b) k (suc x) h e = kind-kept ys b k x h e

-- torn bytes mean nothing, however many
pub alike-torn : {d e : Disc} → Alike d e → (b : ℕ) (s : List ℕ) → Alike (put d b (torn s)) (put e b (torn s))
unfolding sector_at
alike-torn {d} {e} a b s =
    record {
      same-kinds = ap (λ (ks : List ℕ). set ks b 3) a.same-kinds;
      same_length = stored-long (sector_length * b) d.image e.image s a.same_length;
      same-data = λ x h.
          stored-kept (sector_length * b) d.image e.image s a.same_length (sector_length * x) sector_length
          (a.same-data x (kind-kept d.kinds b 3 x (λ z. omega arith) h));
    }

pub alike-put : {d e : Disc} → Alike d e → (b : ℕ) (s : Sector) → Whole s → Alike (put d b s) (put e b s)
unfolding sector_at
alike-put {d} {e} a b link f =
    record {
      same-kinds = ap (λ (ks : List ℕ). set ks b 2) a.same-kinds;
      same_length = a.same_length;
      same-data = λ x h. a.same-data x (kind-kept d.kinds b 2 x (λ z. omega arith) h);
    }
alike-put a b (torn s) f = alike-torn a b s
alike-put {d} {e} a b (plain s) f =
    record {
      same-kinds = ap (λ (ks : List ℕ). set ks b 1) a.same-kinds;
      same_length = stored-long (sector_length * b) d.image e.image s a.same_length;
      same-data = λ x h. go x h (eqb x b) refl;
    }
  where
    go : (x : ℕ) → get_or (set d.kinds b 1) x 0 ≡ 1 → (t : Bool) → eqb x b ≡ t
        → take sector_length (drop (sector_length * x) (stored d.image (sector_length * b) s))
        ≡ take sector_length (drop (sector_length * x) (stored e.image (sector_length * b) s))
    go x h true z = rw (eqb-true x b z) (stored-new (sector_length * b) d.image e.image s sector_length f a.same_length)
    go x h false z =
        stored-kept (sector_length * b) d.image e.image s a.same_length (sector_length * x) sector_length
        (a.same-data x (sym (get_or-set_other d.kinds b x 1 0 (eqb-false x b z)) ∙ h))

pub alike-puts : (ss : List Sector) → AllWhole ss → {d e : Disc} → Alike d e → (b : ℕ) → Alike (puts d b ss) (puts e b ss)
unfolding puts
alike-puts [] f a b = a
alike-puts (s ∷ ss) f a b = alike-puts ss f.1 (alike-put a b s f.0) (b + 1)

-- ---- what alike discs tell

walk_same : (table : ℕ → Bool) (p q : ℕ → ℕ) → ((b : ℕ) → table b ≡ true → p b ≡ q b) → (k b : ℕ) → table b ≡ true → walk table p k b ≡ walk table q k b
unfolding walk
walk_same table p q same zero b h = refl
walk_same table p q same (suc k) b h = rw (same b h) (go (eqb (q b) unused) (table (q b)) (walk_same table p q same k (q b)))
  where
    go : (u t : Bool) → (t ≡ true → walk table p k (q b) ≡ walk table q k (q b)) → stepped u t (walk table p k (q b)) ≡ stepped u t (walk table q k (q b))
    go true t ih = refl
    go false false ih = refl
    go false true ih = ih refl

-- the first of kinds that are all data
data-first : (ks : List ℕ) (b n : ℕ) → b < length ks → every (λ k. eqb k 1) (take (suc n) (drop b ks)) ≡ true → get_or ks b 0 ≡ 1
unfolding every
data-first ks b n h e =
    let x : ℕ = get_or ks b 0 in
    eqb-true x 1 (and_left (eqb x 1) (every (λ k. eqb k 1) (take n (drop (suc b) ks))) (rw (drop-cons ks b 0 h) at e))

-- the second of four tests may differ where the first or the third fails
second-same : (p x y k t : Bool) → (p ≡ true → k ≡ true → x ≡ y) → (p && (x && (k && t))) ≡ (p && (y && (k && t)))
second-same false x y k t h = refl
second-same true x y true t h = ap (λ (z : Bool). z && t) (h refl refl)
second-same true x y false t h = and-false x false refl ∙ sym (and-false y false refl)

module _ {d e : Disc} (a : Alike d e) where
  pub same_kind : (b : ℕ) → kind_at d b ≡ kind_at e b
  same_kind b = ap (λ (ks : List ℕ). get_or ks b 0) a.same-kinds

  pub alike-sym : Alike e d
  alike-sym = record { same-kinds = sym a.same-kinds; same_length = sym a.same_length; same-data = λ b h. sym (a.same-data b (same_kind b ∙ h)) }

  pub alike-trans : {f : Disc} → Alike e f → Alike d f
  alike-trans c =
      record {
        same-kinds = a.same-kinds ∙ c.same-kinds;
        same_length = a.same_length ∙ c.same_length;
        same-data = λ b h. a.same-data b h ∙ c.same-data b (sym (same_kind b) ∙ h);
      }

  pub same-recorded : recorded d ≡ recorded e
  same-recorded = ap leading a.same-kinds

  pub same-sized : sized d ≡ sized e
  unfolding sized
  same-sized =
      ap₂ (λ (n m : ℕ). ltb 0 n && (leb n most_sectors && eqb m (sector_length * n))) (ap (λ (ks : List ℕ). length ks) a.same-kinds) a.same_length

  pub same-order : in_order d.kinds ≡ in_order e.kinds
  same-order = ap in_order a.same-kinds

  pub same-blanks : blanks d ≡ blanks e
  same-blanks = ap (λ (ks : List ℕ). length ks - leading ks) a.same-kinds

  -- every block reads the same
  pub same-content : (b : ℕ) → content e b ≡ content d b
  unfolding content
  same-content b = ap (λ (k : ℕ). readable (eqb k 1) (sector_at e b)) (sym (same_kind b)) ∙ go (eqb (kind_at d b) 1) refl
    where
      go : (t : Bool) → eqb (kind_at d b) 1 ≡ t → readable t (sector_at e b) ≡ readable t (sector_at d b)
      go true z = ap (readable true) (sym (a.same-data b (eqb-true (kind_at d b) 1 z)))
      go false z = refl

  pub same-table : (b : ℕ) → table_at d b ≡ table_at e b
  same-table b = sym (table_same d e b (λ c h. same-content c) (same-content b))

  pub same-newest : newest d ≡ newest e
  same-newest = ap₂ (λ (t : ℕ → Bool) (r : ℕ). newest_below t r) (fun_ext same-table) same-recorded

  -- of a table, all that it holds
  same-held : (b : ℕ) → table_at d b ≡ true → Same d e b
  same-held b t = told d e b (same-content b) (same-everywhere d e same-content (named_by d b)) t

  pub same_map : (b : ℕ) → table_at d b ≡ true → map_at d b ≡ map_at e b
  same_map b t = sym (same-held b t).its_map

  pub same-previous : (b : ℕ) → table_at d b ≡ true → previous_at d b ≡ previous_at e b
  same-previous b t = sym (same-held b t).its-previous

  pub same-walked : (k : ℕ) → walked d k ≡ walked e k
  unfolding walked
  same-walked k = go (newest d) refl ∙ ap (walk_from e k) same-newest
    where
      go : (o : Option ℕ) → newest d ≡ o → walk_from d k o ≡ walk_from e k o
      go None z = refl
      go (Some b) z =
          walk_same (table_at d) (previous_at d) (previous_at e) same-previous k b (newest-table (table_at d) (recorded d) b z)
          ∙ ap (λ (t : ℕ → Bool). walk t (previous_at e) k b) (fun_ext same-table)

  -- of a table that is reached, the time
  pub same-time : (k : ℕ) → time_back d k ≡ time_back e k
  same-time k = go (walked d k) refl ∙ ap (time_reached e) (same-walked k)
    where
      go : (w : Walk) → walked d k ≡ w → time_reached d w ≡ time_reached e w
      go (Ok b) z = sym (same-held b (walked-table d k b z)).its-time
      go (Err Broken) z = refl
      go (Err Ended) z = refl

  pub same-fits : (v : Volume) → fits d v ≡ fits e v
  unfolding fits
  same-fits v = rw (same-table v.last, same_kind (v.recorded - 1), same-recorded)

  -- a closing's pointer is of kind 1, as all of the 256 are
  pub same-closed : session_closed d ≡ session_closed e
  unfolding session_closed
  same-closed =
      let r : ℕ = recorded d in
      let last : ℕ = r - 1 in
      let b : ℕ = last - closing_length in
      let all : Bool = every (λ k. eqb k 1) (take closing_length (drop b d.kinds)) in
      second-same (leb (closing_length + 1) r) (anchor_tagged (sector_at d b) b) (anchor_tagged (sector_at e b) b) all (table_at d last)
      (λ p k. ap (λ (s : List ℕ). anchor_tagged s b) (a.same-data b (data-first d.kinds b 255 (omega (arith, leb-true (closing_length + 1) r p, leading_le d.kinds)) k)))
      ∙ ap (λ (t : Bool). leb (closing_length + 1) r && (anchor_tagged (sector_at e b) b && (all && t))) (same-table last)
      ∙ ap (λ (ks : List ℕ). leb (closing_length + 1) (leading ks) && (anchor_tagged (sector_at e ((leading ks - 1) - closing_length)) ((leading ks - 1) - closing_length) && (every (λ k. eqb k 1) (take closing_length (drop ((leading ks - 1) - closing_length) ks)) && table_at e (leading ks - 1)))) a.same-kinds

-- ---- the bytes of blank sectors may be any

pub blank-bytes : (d : Disc) → Sound d → (image : List ℕ) → length d.image ≡ length image
    → take (sector_length * recorded d) d.image ≡ take (sector_length * recorded d) image → Alike d (lent image d.kinds)
unfolding sector_at
blank-bytes d ok image long same =
    record {
      same-kinds = refl;
      same_length = long;
      same-data = λ b h.
          let inside : b < recorded d = kind-recorded d ok b (λ z. omega arith) in
          let end : sector_length * b + sector_length ≤ sector_length * recorded d = omega arith in
          sym (part-take (sector_length * recorded d) (sector_length * b) sector_length d.image end)
          ∙ ap (λ (xs : List ℕ). take sector_length (drop (sector_length * b) xs)) same
          ∙ part-take (sector_length * recorded d) (sector_length * b) sector_length image end;
    }
