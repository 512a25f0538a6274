-- What a write that is done leaves, with a number or without: behind its links the block, one more sector, and a ledger that fits the disc and names it.
--     written       all of it
--     names-block   what the ledger then says of the number
-- Assumes nothing.
use Prim.Native.Nat.{ℕ, zero, suc, ◌+◌, ◌-◌, ◌≤◌, ◌<◌}
use native.Mathlib.Omega.{arith}
use mathlib.Core.Path.{◌≡◌, refl, sym, ap, ap₂, ◌∙◌, subst}
use mathlib.Core.Bool.{Bool, true, false, ◌&&◌, ◌||◌}
use mathlib.Core.List.{List, [], ◌∷◌}
use Rattle.std.specs.Prelude.{Option, None, Some}
use lib.Dec.{eqb}
use lib.ListN.{length, get_or, drop, set, replicate, length-replicate}
use lib.Seq.{get_or-set_same, drop-set-lt}
use borrow.Author.Tests.{eq-eqb, ne_eqb, eqb-false, lt-ltb, lt-leb, le-leb}
use Rattle.le.specs.Bytes.{every}
use Rattle.le.proofs.Rows.{and_left, and_right}
use Rattle.vat.specs.Table.{limit, unused, unused_or_below}
use Rattle.disc.specs.Disc.{Disc, Sector, link, recorded, kind_at, content, puts}
use Rattle.disc.specs.Tables.{table_at}
use Rattle.disc.proofs.Recording.{Sound, leading_le}
use Rattle.disc.proofs.Told.{data-there}
use Rattle.disc.proofs.Found.{table-recorded}
use Rattle.disc.proofs.Save.{NoTables}
use Rattle.volume.specs.declared.Volume.{Volume}
use Rattle.volume.specs.Volume.{ledger_length, unpack, pack, map_of, is_unused, fits, grown, entries_with, size_with, wrote}
use Rattle.volume.proofs.State.{Proper, length-pack, unpack-pack, proper-wrote, grown_map, map-wrote}
use Rattle.recorder.specs.Calls.{write}
use Rattle.recorder.specs.Refusals.{links, target, block_of, not_in_use, outcome}
use Rattle.recorder.specs.Effects.{effect, After, after}
use Rattle.recorder.proofs.Sectors.{links-whole, behind}
use Rattle.recorder.proofs.Done.{Fits, links-few, Writable, size_fits, WriteDone, write_done}
use Rattle.history.proofs.Log.{all-below-more, Extends}
use Rattle.history.proofs.Growth.{F, all-below-of, all-below-to, Grown, links-no-tables, behind-content, behind-counted}
use Rattle.history.proofs.Steps.{written-grown}

-- ---- the ledger fits

module _ (f : ℕ → Bool) where
  every-behind : (k : ℕ) (xs : List ℕ) → every f (drop k xs) ≡ true → every f (drop (suc k) xs) ≡ true
  unfolding every
  every-behind zero [] e = refl
  every-behind zero (x ∷ xs) e = and_right (f x) (every f xs) e
  every-behind (suc k) [] e = refl
  every-behind (suc k) (x ∷ xs) e = every-behind k xs e

  every-placed : (t : Bool) (xs : List ℕ) (n x : ℕ) → every f xs ≡ true → f x ≡ true → every f (grown_map t xs n x) ≡ true
  unfolding every
  every-placed true [] n x e h = rw h
  every-placed true (y ∷ ys) n x e h = ap₂ (λ (p q : Bool). p && q) (and_left (f y) (every f ys) e) (every-placed true ys n x (and_right (f y) (every f ys) e) h)
  every-placed false [] n x e h = refl
  every-placed false (y ∷ ys) zero x e h = ap₂ (λ (p q : Bool). p && q) h (and_right (f y) (every f ys) e)
  every-placed false (y ∷ ys) (suc n) x e h = ap₂ (λ (p q : Bool). p && q) (and_left (f y) (every f ys) e) (every-placed false ys n x (and_right (f y) (every f ys) e) h)

-- the entries and the size, with the number or without one
behind-fits : (v : Volume) (n : Option ℕ) (b : ℕ) → Writable v n → every is_unused (drop v.size v.entries) ≡ true
    → every is_unused (drop (size_with n v.size) (entries_with n b v.entries)) ≡ true
behind-fits v None b w e = e
behind-fits v (Some n) b w e = go (eqb n v.size) refl
  where
    go : (t : Bool) → eqb n v.size ≡ t → every is_unused (drop (grown t v.size) (set v.entries n b)) ≡ true
    go true z =
        let next : v.size + 1 ≡ suc v.size = omega arith in
        ap (every is_unused) (drop-set-lt (v.size + 1) v.entries n b (omega (arith, w.1)) ∙ ap (λ (k : ℕ). drop k v.entries) next) ∙ every-behind is_unused v.size v.entries e
    go false z = ap (every is_unused) (drop-set-lt v.size v.entries n b (let other = eqb-false n v.size z in omega (arith, w.1, other))) ∙ e

map-fits : (v : Volume) (n : Option ℕ) (b : ℕ) → Writable v n → v.size ≤ limit → length v.entries ≡ limit → v.recorded ≤ b → every (unused_or_below v.recorded) (map_of v) ≡ true
    → every (unused_or_below (b + 1)) (map_of (wrote n b v)) ≡ true
unfolding wrote
map-fits v n b w few long low e = go n w
  where
    named : every (unused_or_below (b + 1)) (map_of v) ≡ true
    named = all-below-to (b + 1) (map_of v) (all-below-more v.recorded (b + 1) (map_of v) (omega arith) (all-below-of v.recorded (map_of v) e))

    itself : unused_or_below (b + 1) b ≡ true
    itself = rw (lt-ltb b (b + 1) (omega arith))

    go : (n : Option ℕ) → Writable v n → every (unused_or_below (b + 1)) (map_of (wrote n b v)) ≡ true
    go None w = named
    go (Some n) w =
        ap (every (unused_or_below (b + 1))) (map-wrote v n b w.1 (omega (arith, few, long)) (omega (arith, w.0, long)))
        ∙ every-placed (unused_or_below (b + 1)) (eqb n v.size) (map_of v) n b named itself

last_fits : (d d' : Disc) → Sound d → Extends F d d' → (x : ℕ) → (eqb x unused || table_at d x) ≡ true → (eqb x unused || table_at d' x) ≡ true
last_fits d d' ok more x e = go (eqb x unused) e
  where
    go : (t : Bool) → (t || table_at d x) ≡ true → (t || table_at d' x) ≡ true
    go true e = refl
    go false e = more.tables x (table-recorded d ok x e) ∙ e

wrote-fits : (d d' : Disc) (v : Volume) (n : Option ℕ) (b : ℕ) → Sound d → Fits d v → Writable v n → length v.entries ≡ limit
    → Extends F d d' → recorded d ≤ b → recorded d' ≡ b + 1 → eqb (kind_at d' b) 1 ≡ true → fits d' (wrote n b v) ≡ true
unfolding fits wrote
wrote-fits d d' v n b ok f w long more low counted holding =
    let here : b + 1 - 1 ≡ b = omega arith in
    rw (le-leb (size_with n v.size) limit (size_fits v n w f.few), behind-fits v n b w f.rest-unused, map-fits v n b w f.few long (omega (arith, f.same-recorded)) f.entries_below, eq-eqb (b + 1) (recorded d') (sym counted), last_fits d d' ok more v.last f.last-known, lt-ltb 0 (b + 1) (omega arith), here, holding)

-- ---- a write that is done

-- the disc d' and the ledger l' are left by a write on the disc d with the state v
pub record Wrote (d : Disc) (v : Volume) (n : Option ℕ) (block : List ℕ) (d' : Disc) (l' : List ℕ) : Type 0 where
  pub small : target v < 400000
  pub sound-disc : Sound d'
  pub more : Extends F d d'
  pub counted : recorded d' ≡ target v + 1
  pub holds : content d' (target v) ≡ Some block
  pub long : length l' ≡ ledger_length
  pub unpacked : unpack l' ≡ wrote n (target v) v
  pub proper : Proper (unpack l')
  pub fit : fits d' (unpack l') ≡ true

write-leaves : (d : Disc) (l : List ℕ) (n : Option ℕ) (block : List ℕ) → outcome d l (write n block) ≡ 0
    → after d l (write n block) ≡ record { answer = target (unpack l); disc = puts d (recorded d) (behind (replicate (links (unpack l)) link) block); ledger = pack (wrote n (target (unpack l)) (unpack l)); buffer = block }
unfolding after effect
write-leaves d l n block e = rw e

pub write-told : (d : Disc) (l : List ℕ) (n : Option ℕ) (block : List ℕ) → outcome d l (write n block) ≡ 0 → (after d l (write n block)).answer ≡ target (unpack l)
write-told d l n block e = ap (λ (x : After). x.answer) (write-leaves d l n block e)

pub write-small : (d : Disc) (l : List ℕ) (n : Option ℕ) (block : List ℕ) → outcome d l (write n block) ≡ 0 → target (unpack l) < 400000
write-small d l n block e =
    let f : WriteDone d l n block = write_done d l n block e in
    omega (arith, leading_le d.kinds, f.sound-disc.few, f.fit.same-recorded, links-few (unpack l))

module _ (d : Disc) (l : List ℕ) (good : Proper (unpack l)) (n : Option ℕ) (block : List ℕ) (e : outcome d l (write n block) ≡ 0) where
  pub written : Wrote d (unpack l) n block (after d l (write n block)).disc (after d l (write n block)).ledger
  written =
      let f : WriteDone d l n block = write_done d l n block e in
      let v : Volume = unpack l in
      let ok : Sound d = f.sound-disc in
      let ss : List Sector = replicate (links v) link in
      let count : length ss ≡ links v = length-replicate (links v) link in
      let here : target v ≡ recorded d + length ss = omega (arith, count, f.fit.same-recorded) in
      let room : recorded d + (length ss + 1) ≤ length d.kinds = omega (arith, count, f.room) in
      let no-links : NoTables (recorded d) ss = links-no-tables (links v) (recorded d) in
      let d' : Disc = puts d (recorded d) (behind ss block) in
      let g : Grown d d' (length (behind ss block)) = written-grown d l n block f in
      let small : target v < 400000 = write-small d l n block e in
      let fine : Proper (wrote n (target v) v) = proper-wrote v good n (target v) f.fit.few (omega arith) in
      let same : unpack (pack (wrote n (target v) v)) ≡ wrote n (target v) v = unpack-pack (wrote n (target v) v) fine in
      let one_more : recorded d' ≡ target v + 1 = omega (arith, here, behind-counted d ok ss (links-whole (links v)) no-links block f.block-long room) in
      let there : content d' (target v) ≡ Some block = ap (content d') here ∙ behind-content d ok ss (links-whole (links v)) no-links block f.block-long room in
      subst (λ (x : After). Wrote d v n block x.disc x.ledger) (sym (write-leaves d l n block e))
      (record {
        small = small;
        sound-disc = g.still-sound;
        more = g.plainly.extends;
        counted = one_more;
        holds = there;
        long = length-pack (wrote n (target v) v) fine;
        unpacked = same;
        proper = subst Proper (sym same) fine;
        fit =
            ap (fits d') same
            ∙ wrote-fits d d' v n (target v) ok f.fit f.writable good.long g.plainly.extends (omega (arith, here)) one_more (eq-eqb (kind_at d' (target v)) 1 (data-there d' (target v) block there).0);
      })

-- what the ledger says of the number
pub names-block : (v : Volume) (n b : ℕ) → Writable v (Some n) → length v.entries ≡ limit → b < 400000
    → (not_in_use (wrote (Some n) b v) n ≡ false) × (block_of (wrote (Some n) b v) n ≡ b)
unfolding wrote
names-block v n b w long small =
    let there : get_or (set v.entries n b) n unused ≡ b = get_or-set_same v.entries n b unused (omega (arith, w.0, long)) in
    (ap₂ (λ (p q : Bool). p || q) (lt-leb (grown (eqb n v.size) v.size) n (within (eqb n v.size) refl)) (ap (λ (x : ℕ). eqb x unused) there ∙ ne_eqb b unused (λ z. omega arith)), there)
  where
    within : (t : Bool) → eqb n v.size ≡ t → n < grown t v.size
    within true z = omega (arith, w.1)
    within false z = let other = eqb-false n v.size z in omega (arith, w.1, other)
