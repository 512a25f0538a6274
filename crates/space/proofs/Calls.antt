-- What holds of disc, ledger and roles, and of the blocks that were recorded without a number; each call that is done keeps it.
-- Assumes nothing.
use Prim.Native.Nat.{ℕ, suc, ◌+◌, ◌≤◌, ◌<◌}
use native.Mathlib.Omega.{arith}
use mathlib.Core.Path.{◌≡◌, refl, sym, ap, ap₂, ◌∙◌, subst}
use mathlib.Core.Bool.{Bool, true, false, ◌||◌}
use mathlib.Core.List.{List, [], ◌∷◌, ◌++◌}
use Rattle.std.specs.Prelude.{Option, None, Some}
use lib.Dec.{eqb}
use lib.ListN.{length, get_or, drop, replicate, length-replicate}
use lib.Seq.{get_or-take, get_or-drop}
use lib.Arith.{lt_of_le-ne}
use borrow.Author.Tests.{eq-eqb, ne_eqb, eqb-true, eqb-false}
use Rattle.le.specs.Bytes.{every}
use Rattle.le.proofs.Rows.{and_left}
use Rattle.vat.specs.Table.{limit, unused, Lower, is_table}
use Rattle.disc.specs.Disc.{Disc, recorded, Sector, link, plain, stored, puts}
use Rattle.disc.specs.Tables.{below}
use Rattle.disc.proofs.Recording.{Sound, leading_le}
use Rattle.volume.specs.declared.Volume.{Volume}
use Rattle.volume.specs.Volume.{unpack, pack, map_of, is_unused, wrote, released, closed}
use Rattle.volume.proofs.State.{Proper, unpack-pack, proper-wrote, proper-released, proper-closed, grown_map, map-wrote, map-released, length-map}
use Rattle.recorder.specs.Calls.{Call, write, release, close_packet, buffer_of, only_tells}
use Rattle.recorder.specs.Refusals.{links, target, block_of, outcome}
use Rattle.recorder.specs.Effects.{effect, settled, After, after}
use Rattle.recorder.proofs.Done.{Fits, WriteDone, write_done, release-done}
use Rattle.recorder.proofs.Sectors.{links-whole, behind, length-behind, behind-whole}
use Rattle.roles.specs.Roles.{in_use, unnumbered, link_role, names, of_table, role_of_data, roles_of}
use Rattle.roles.specs.Keeping.{let_go, marked, written_role, kept_up}
use Rattle.roles.proofs.Roles.{names-snoc, names-last, names-other}
use Rattle.history.specs.Events.{World, calls}
use Rattle.history.proofs.Log.{none-some}
use Rattle.history.proofs.Growth.{all-below-of, Grown, links-no-tables, links-below, behind-counted, behind-grown}
use Rattle.history.proofs.Saving.{enough}
use Rattle.history.proofs.Steps.{Good, event-step}
use Rattle.history.proofs.Theorem.{started}
use Rattle.space.specs.Space.{apart_after}
use Rattle.space.proofs.Named.{names-entry, names-above, names-set, names-grown}
use Rattle.space.proofs.Owned.{plain-below, plain-since}
use Rattle.space.proofs.Sectors.{role_of_sector, roles_from, recorded-roles, roles-append, links-roles, same_roles, lets_go}

-- the blocks of `apart` are recorded, and no number names them
pub record Kept (d : Disc) (l roles apart : List ℕ) : Type 0 where
  pub good : Good (record { disc = d; ledger = Some l })
  pub free : (b : ℕ) → names apart b ≡ true → (b < recorded d) × (names (map_of (unpack l)) b ≡ false)
  pub roles-are : roles ≡ roles_of d (map_of (unpack l)) apart

-- ---- what a call that is done leaves

abbrev pub DoneKept : Disc → List ℕ → List ℕ → List ℕ → Call → Type 0
DoneKept d l roles apart c = Kept (after d l c).disc (after d l c).ledger (kept_up d roles l c) (apart_after c (after d l c).answer apart)

pub after_is : (d : Disc) (l : List ℕ) (c : Call) (n : ℕ) → outcome d l c ≡ n → after d l c ≡ settled d l (buffer_of c) n (effect d l c)
unfolding after
after_is d l c n e = ap (λ (k : ℕ). settled d l (buffer_of c) k (effect d l c)) e

pub good-after : (d : Disc) (l : List ℕ) (c : Call) → Good (record { disc = d; ledger = Some l }) → only_tells c ≡ false → outcome d l c ≡ 0
    → Good (record { disc = puts d (recorded d) (effect d l c).sectors; ledger = Some (effect d l c).ledger })
good-after d l c g t e =
    let w : World = record { disc = d; ledger = Some l } in
    subst (λ (a : After). Good (record { disc = a.disc; ledger = Some a.ledger })) (after_is d l c 0 e)
    (subst Good (started w [] c t e) (event-step w (calls c []) g (λ z. absurd (none-some l (sym z)))).good)

-- the map of a state that was packed
pub packed-map : (v : Volume) → Proper v → map_of (unpack (pack v)) ≡ map_of v
packed-map v ok = ap map_of (unpack-pack v ok)

-- the first of numbers that are all unused
first-unused : (xs : List ℕ) → every is_unused xs ≡ true → get_or xs 0 unused ≡ unused
unfolding every
first-unused [] e = refl
first-unused (x ∷ xs) e = eqb-true x unused (and_left (is_unused x) (every is_unused xs) e)

module _ (d : Disc) (l roles apart : List ℕ) (k : Kept d l roles apart) where
  -- a block that the map names is not apart
  not-apart : (b : ℕ) → names (map_of (unpack l)) b ≡ true → names apart b ≡ false
  not-apart b e = go (names apart b) refl
    where
      go : (t : Bool) → names apart b ≡ t → names apart b ≡ false
      go true z = absurd (mathlib.Core.Bool.true≢false (sym e ∙ (k.free b z).1))
      go false z = z

  -- no block is named that is not recorded
  pub not_named : Fits d (unpack l) → (b : ℕ) → recorded d ≤ b → b < unused → names (map_of (unpack l)) b ≡ false
  not_named f b low high = names-above (unpack l).recorded (map_of (unpack l)) b (all-below-of (unpack l).recorded (map_of (unpack l)) f.entries_below) (omega (arith, f.same-recorded)) high

  -- a number below size: the map names its block, and another block in its place changes no other name
  module _ (f : Fits d (unpack l)) (n : ℕ) (inside : n < (unpack l).size) where
    entry : get_or (map_of (unpack l)) n unused ≡ block_of (unpack l) n
    entry = get_or-take (unpack l).size (unpack l).entries n unused inside

    within : n < length (map_of (unpack l))
    within = omega (arith, length-map (unpack l) (enough d l k.good.sound-disc k.good.ledger-good f))

    entry_named : names (map_of (unpack l)) (block_of (unpack l) n) ≡ true
    entry_named = ap (names (map_of (unpack l))) (sym entry) ∙ names-entry (map_of (unpack l)) n unused within

    entry_set : (b i : ℕ) → (i ≡ block_of (unpack l) n → ⊥) → names (grown_map false (map_of (unpack l)) n b) i ≡ names (map_of (unpack l) ++ (b ∷ [])) i
    entry_set b i other = names-set (map_of (unpack l)) n b unused i within (λ z. other (z ∙ entry))

  -- blocks that are apart, and others that were recorded since
  pub free-since : Fits d (unpack l) → (r : ℕ) → recorded d ≤ r → r < unused → (i : ℕ) (t : Bool) → (t ≡ true → (recorded d ≤ i) × (i < r)) → (t || names apart i) ≡ true
      → (i < r) × (names (map_of (unpack l)) i ≡ false)
  free-since f r more few i true new h = let since : (recorded d ≤ i) × (i < r) = new refl in (since.1, not_named f i since.0 (omega arith))
  free-since f r more few i false new h = let before : (i < recorded d) × (names (map_of (unpack l)) i ≡ false) = k.free i h in (omega arith, before.1)

  -- ---- a write

  module _ (n : Option ℕ) (block : List ℕ) (e : outcome d l (write n block) ≡ 0) where
    done-write : WriteDone d l n block
    done-write = write_done d l n block e

    abbrev written : Disc
    written = puts d (recorded d) (behind (replicate (links (unpack l)) link) block)

    abbrev noted : Volume
    noted = wrote n (target (unpack l)) (unpack l)

    here : recorded d + length (replicate {A = Sector} (links (unpack l)) link) ≡ target (unpack l)
    here = omega (arith, length-replicate {A = Sector} (links (unpack l)) link, done-write.fit.same-recorded)

    fits_in : recorded d + (length (replicate {A = Sector} (links (unpack l)) link) + 1) ≤ length d.kinds
    fits_in = omega (arith, length-replicate {A = Sector} (links (unpack l)) link, done-write.room)

    one_more : recorded written ≡ suc (target (unpack l))
    one_more =
        behind-counted d done-write.sound-disc (replicate (links (unpack l)) link) (links-whole (links (unpack l))) (links-no-tables (links (unpack l)) (recorded d)) block done-write.block-long fits_in
        ∙ ap suc here

    small : target (unpack l) < unused
    small = omega (arith, here, fits_in, done-write.sound-disc.few)

    proper : Proper noted
    proper = proper-wrote (unpack l) k.good.ledger-good n (target (unpack l)) done-write.fit.few small

    -- no table is among what it records
    grown : Grown d written (length (behind (replicate (links (unpack l)) link) block))
    grown =
        let ss : List Sector = replicate (links (unpack l)) link in
        let sound : Sound d = done-write.sound-disc in
        let at : ℕ = recorded d + length ss in
        behind-grown d sound ss (links-whole (links (unpack l))) (links-no-tables (links (unpack l)) (recorded d)) block done-write.block-long fits_in
        (ap (λ (lower : Lower). is_table lower block at) (links-below d sound (links (unpack l)) at) ∙ ap (λ (b : ℕ). is_table (below d b) block b) here ∙ done-write.no_table)

    -- the roles with those of the links and of the block
    marks : (m a : List ℕ) → ((b : ℕ) → b < recorded d → (names (map_of (unpack l)) b ≡ names m b) × (names apart b ≡ names a b))
        → role_of_data false (names m (target (unpack l))) (names a (target (unpack l))) ≡ written_role n → marked (recorded d) (links (unpack l)) 0 1 (written_role n) roles ≡ roles_of written m a
    unfolding marked
    marks m a same role =
        let ss : List Sector = replicate (links (unpack l)) link in
        let sound : Sound d = done-write.sound-disc in
        let at : ℕ = recorded d + length ss in
        let own : ℕ → Bool = of_table written in
        let none-there : own at ≡ false = plain-since d written grown.plainly at (omega arith) (omega (arith, one_more, here)) in
        let its-role : role_of_sector own m a at (plain block) ≡ written_role n =
        ap (λ (t : Bool). role_of_data t (names m at) (names a at)) none-there ∙ ap (λ (b : ℕ). role_of_data false (names m b) (names a b)) here ∙ role in
        let laid : roles_from own m a (recorded d) (behind ss block) ≡ replicate (links (unpack l)) link_role ++ (written_role n ∷ []) =
        roles-append own m a ss (plain block ∷ []) (recorded d) ∙ ap₂ (λ (x : List ℕ) (y : ℕ). x ++ (y ∷ [])) (links-roles own m a (links (unpack l)) (recorded d)) its-role in
        ap₂ (λ (x y : List ℕ). stored x (recorded d) y) (k.roles-are ∙ same_roles d sound (map_of (unpack l)) m apart a same) (sym laid)
        ∙ recorded-roles m a (behind ss block) d sound (omega (arith, length-behind ss block, fits_in)) (behind-whole ss block (links-whole (links (unpack l))) done-write.block-long)
        (plain-below d written grown.plainly)

  pub unnumbered-kept : (block : List ℕ) → outcome d l (write None block) ≡ 0 → DoneKept d l roles apart (write None block)
  unfolding kept_up effect wrote names
  unnumbered-kept block e =
      let v : Volume = unpack l in
      let b : ℕ = target v in
      let m : List ℕ = map_of v in
      let d' : Disc = written None block e in
      let l' : List ℕ = pack (noted None block e) in
      let f : WriteDone d l None block = done-write None block e in
      let map : map_of (unpack l') ≡ m = packed-map (noted None block e) (proper None block e) in
      let good : Good (record { disc = d'; ledger = Some l' }) = good-after d l (write None block) k.good refl e in
      let above : recorded d ≤ b = omega (arith, here None block e) in
      let last : recorded d' ≡ suc b = one_more None block e in
      let few : b < unused = small None block e in
      let fresh : names m b ≡ false = not_named f.fit b above few in
      let its-role : role_of_data false (names m b) (names (b ∷ apart) b) ≡ unnumbered = rw (fresh, eq-eqb b b refl) in
      let same : (i : ℕ) → i < recorded d → (names m i ≡ names m i) × (names apart i ≡ names (b ∷ apart) i) =
      λ i h. (refl, ap (λ (t : Bool). t || names apart i) (sym (ne_eqb b i (λ z. omega arith)))) in
      subst (λ (x : After). Kept x.disc x.ledger (let_go x.ledger unused (marked (recorded d) (links v) 0 1 unnumbered roles)) (x.answer ∷ apart)) (sym (after_is d l (write None block) 0 e))
      (record {
        good = good;
        free = λ i h.
            let since : (i < recorded d') × (names m i ≡ false) = free-since f.fit (recorded d') (omega arith) (omega arith) i (eqb b i) (λ z. let at : b ≡ i = eqb-true b i z in (omega arith, omega arith)) h in
            (since.0, ap (λ (x : List ℕ). names x i) map ∙ since.1);
        roles-are =
            lets_go d' l' m (b ∷ apart) (marked (recorded d) (links v) 0 1 unnumbered roles) unused (marks None block e m (b ∷ apart) same its-role)
            (λ i low other. ap (λ (x : List ℕ). names x i) (sym map)) (λ low. absurd (omega (arith, good.sound-disc.few)));
      })

  module _ (n : ℕ) (block : List ℕ) (e : outcome d l (write (Some n) block) ≡ 0) where
    -- the ledger holds the map with that entry
    noted-map : map_of (unpack (pack (noted (Some n) block e))) ≡ grown_map (eqb n (unpack l).size) (map_of (unpack l)) n (target (unpack l))
    noted-map =
        let v : Volume = unpack l in
        let f : WriteDone d l (Some n) block = done-write (Some n) block e in
        let long : length v.entries ≡ limit = k.good.ledger-good.long in
        packed-map (noted (Some n) block e) (proper (Some n) block e)
        ∙ map-wrote v n (target v) f.writable.1 (omega (arith, f.fit.few)) (omega (arith, f.writable.0))

    -- the block that the number named, if any, and no other, may be named no longer
    moved : (t : Bool) → eqb n (unpack l).size ≡ t → (i : ℕ) → (i ≡ block_of (unpack l) n → ⊥)
        → names (map_of (unpack l) ++ (target (unpack l) ∷ [])) i ≡ names (grown_map t (map_of (unpack l)) n (target (unpack l))) i
    moved true z i other = refl
    moved false z i other =
        let f : WriteDone d l (Some n) block = done-write (Some n) block e in
        sym (entry_set f.fit n (lt_of_le-ne f.writable.1 (eqb-false n (unpack l).size z)) (target (unpack l)) i other)

    named-before : (t : Bool) → eqb n (unpack l).size ≡ t → block_of (unpack l) n < unused → names (map_of (unpack l)) (block_of (unpack l) n) ≡ true
    named-before true z low =
        let v : Volume = unpack l in
        let f : WriteDone d l (Some n) block = done-write (Some n) block e in
        let last : n ≡ v.size = eqb-true n v.size z in
        let none-there : block_of v n ≡ unused =
        ap (λ (i : ℕ). get_or v.entries i unused) (omega arith) ∙ sym (get_or-drop v.size v.entries 0 unused) ∙ first-unused (drop v.size v.entries) f.fit.rest-unused in
        absurd (omega arith)
    named-before false z low =
        let f : WriteDone d l (Some n) block = done-write (Some n) block e in
        entry_named f.fit n (lt_of_le-ne f.writable.1 (eqb-false n (unpack l).size z))

    pub numbered-kept : DoneKept d l roles apart (write (Some n) block)
    unfolding kept_up effect
    numbered-kept =
        let v : Volume = unpack l in
        let b : ℕ = target v in
        let m : List ℕ = map_of v in
        let named : List ℕ = m ++ (b ∷ []) in
        let t : Bool = eqb n v.size in
        let old : ℕ = block_of v n in
        let d' : Disc = written (Some n) block e in
        let l' : List ℕ = pack (noted (Some n) block e) in
        let f : WriteDone d l (Some n) block = done-write (Some n) block e in
        let good : Good (record { disc = d'; ledger = Some l' }) = good-after d l (write (Some n) block) k.good refl e in
        let above : recorded d ≤ b = omega (arith, here (Some n) block e) in
        let last : recorded d' ≡ suc b = one_more (Some n) block e in
        let its-role : role_of_data false (names named b) (names apart b) ≡ in_use = rw (names-last m b) in
        let same : (i : ℕ) → i < recorded d → (names m i ≡ names named i) × (names apart i ≡ names apart i) =
        λ i h. (sym (names-other m b i (λ z. omega arith)), refl) in
        subst (λ (x : After). Kept x.disc x.ledger (let_go x.ledger old (marked (recorded d) (links v) 0 1 in_use roles)) apart) (sym (after_is d l (write (Some n) block) 0 e))
        (record {
          good = good;
          free = λ i h.
              let before : (i < recorded d) × (names m i ≡ false) = k.free i h in
              (omega arith, ap (λ (x : List ℕ). names x i) noted-map ∙ names-grown t m n b i (λ z. omega arith) before.1);
          roles-are =
              lets_go d' l' named apart (marked (recorded d) (links v) 0 1 in_use roles) old (marks (Some n) block e named apart same its-role)
              (λ i low other. moved t refl i other ∙ ap (λ (x : List ℕ). names x i) (sym noted-map))
              (λ low.
              let is-named : names m old ≡ true = named-before t refl (omega (arith, good.sound-disc.few)) in
              (names-snoc m b old ∙ ap (λ (x : Bool). x || eqb b old) is-named, not-apart old is-named));
        })

  -- ---- the calls that record nothing

  pub release-kept : (n : ℕ) → outcome d l (release n) ≡ 0 → DoneKept d l roles apart (release n)
  unfolding kept_up effect puts
  release-kept n e =
      let v : Volume = unpack l in
      let m : List ℕ = map_of v in
      let old : ℕ = block_of v n in
      let l' : List ℕ = pack (released n v) in
      let facts = release-done d l n e in
      let inside : n < v.size = facts.2 in
      let few : length d.kinds ≤ 360000 = facts.0.few in
      let map : map_of (unpack l') ≡ grown_map false m n unused = packed-map (released n v) (proper-released v k.good.ledger-good n) ∙ map-released v n inside in
      let is-named : names m old ≡ true = entry_named facts.1.fit n inside in
      subst (λ (x : After). Kept x.disc x.ledger (let_go x.ledger old roles) apart) (sym (after_is d l (release n) 0 e))
      (record {
        good = good-after d l (release n) k.good refl e;
        free = λ i h.
            let before : (i < recorded d) × (names m i ≡ false) = k.free i h in
            let low : i < unused = omega (arith, leading_le d.kinds) in
            (before.0, ap (λ (x : List ℕ). names x i) map ∙ names-grown false m n unused i (λ z. omega arith) before.1);
        roles-are =
            lets_go d l' m apart roles old k.roles-are
            (λ i low other.
            sym (ap (λ (x : List ℕ). names x i) map ∙ entry_set facts.1.fit n inside unused i other ∙ names-other m unused i (λ z. omega arith)))
            (λ low. (is-named, not-apart old is-named));
      })

  pub close-kept : outcome d l close_packet ≡ 0 → DoneKept d l roles apart close_packet
  unfolding kept_up effect puts closed
  close-kept e =
      let map : map_of (unpack (pack (closed (unpack l)))) ≡ map_of (unpack l) = packed-map (closed (unpack l)) (proper-closed (unpack l) k.good.ledger-good) in
      subst (λ (x : After). Kept x.disc x.ledger roles apart) (sym (after_is d l close_packet 0 e))
      (record {
        good = good-after d l close_packet k.good refl e;
        free = λ i h. ((k.free i h).0, ap (λ (x : List ℕ). names x i) map ∙ (k.free i h).1);
        roles-are = k.roles-are ∙ ap (λ (x : List ℕ). roles_of d x apart) (sym map);
      })
