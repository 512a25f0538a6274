-- A save keeps what holds of disc, ledger and roles: a commit, and a closing. What it records of its table is the table's, and what a closing puts before that
-- is without a number.
-- Assumes nothing.
use Prim.Native.Nat.{ℕ, zero, suc, ◌+◌, ◌-◌, ◌≤◌, ◌<◌}
use native.Mathlib.Omega.{arith}
use native.Mathlib.Numerals.{add-one}
use mathlib.Core.Path.{◌≡◌, refl, sym, ap, ap₂, ◌∙◌, subst}
use mathlib.Core.Bool.{Bool, true, false, ◌||◌}
use mathlib.Core.List.{List, [], ◌∷◌, ◌++◌, append_assoc}
use Rattle.std.specs.Prelude.{Option, Some}
use lib.ListN.{length, replicate, length-replicate}
use Rattle.extent.specs.declared.Extent.{Extent}
use Rattle.extent.specs.Extents.{locations}
use Rattle.vat.specs.Table.{unused, own_of}
use Rattle.vat.specs.Sector.{no_stamp, table_bytes}
use Rattle.disc.specs.Disc.{Disc, recorded, content, Sector, link, plain, stored, puts}
use Rattle.disc.specs.Tables.{named_by}
use Rattle.disc.specs.Session.{closing_length}
use Rattle.disc.specs.Again.{own_blocks, again_of, fresh_of}
use Rattle.disc.proofs.Recording.{Sound}
use Rattle.disc.proofs.Told.{data-there, names_of}
use Rattle.disc.proofs.Save.{AllData, own-count, own-data, save-count}
use Rattle.volume.specs.declared.Volume.{Volume}
use Rattle.volume.specs.Volume.{unpack, pack, map_of, committed}
use Rattle.volume.proofs.State.{Proper, proper-committed}
use Rattle.recorder.specs.Calls.{Call, commit, close_session, buffer_of, only_tells}
use Rattle.recorder.specs.Refusals.{links, target, outcome}
use Rattle.recorder.specs.Effects.{Effect, saved, closing_first, effect, After, after}
use Rattle.recorder.proofs.Done.{Fits, save_of, commit-done, closing-done}
use Rattle.recorder.proofs.Sectors.{behind, length-behind, behind-whole, length-closing, own-few}
use Rattle.roles.specs.Roles.{unnumbered, table_role, link_role, names, of_table, roles_of}
use Rattle.roles.specs.Keeping.{marked, marked_save, kept_up}
use Rattle.roles.proofs.Roles.{names-none, names-append}
use Rattle.history.specs.Times.{saved_stamp}
use Rattle.history.proofs.Log.{Extends}
use Rattle.history.proofs.Growth.{F, Grown, puts_plain, behind-content, behind-extends}
use Rattle.history.proofs.Saving.{Saving, commit-saving, closing-saving, table, own, table_sector, before_table, length_before_lem, before-whole, before-no-tables, room, small, table_block, at_table, leaves-behind, read_back, sector-long, saved_disc, save}
use Rattle.history.proofs.Steps.{Good}
use Rattle.history.proofs.Closed.{closing-data}
use Rattle.space.specs.Space.{blocks_from}
use Rattle.space.proofs.Named.{run-named, run-within}
use Rattle.space.proofs.Owned.{SaveOwned, save-owned}
use Rattle.space.proofs.Sectors.{role_of_sector, roles_from, recorded-roles, roles-append, links-roles, data-roles, same_roles}
use Rattle.space.proofs.Calls.{Kept, DoneKept, after_is, good-after, packed-map, not_named, free-since}

one_more : (n x : ℕ) → replicate n x ++ (x ∷ []) ≡ replicate (suc n) x
one_more zero x = refl
one_more (suc n) x = ap (λ (l : List ℕ). x ∷ l) (one_more n x)

module _ (d : Disc) (l roles apart : List ℕ) (k : Kept d l roles apart) where
  sound : Sound d
  sound = k.good.sound-disc

  good : Proper (unpack l)
  good = k.good.ledger-good

  -- blocks that are recorded since are new
  since-new : (new : List ℕ) (r i : ℕ) → ((b : ℕ) → names new b ≡ true → r ≤ b) → i < r → names apart i ≡ names (new ++ apart) i
  since-new new r i above h = go (names new i) refl ∙ sym (names-append new apart i)
    where
      go : (t : Bool) → names new i ≡ t → names apart i ≡ (names new i || names apart i)
      go true e = absurd (let low : r ≤ i = above i e in omega arith)
      go false e = ap (λ (t : Bool). t || names apart i) (sym e)

  -- the blocks that are apart since, among them those of what a closing puts first
  module _ (c : Call) (s : Saving d l c) (new : List ℕ) (within : (i : ℕ) → names new i ≡ true → (target (unpack l) ≤ i) × (i < table_block d l sound good c s))
      (ahead : AllData s.first) (ahead-new : (i : ℕ) → target (unpack l) ≤ i → i < target (unpack l) + length s.first → names new i ≡ true) where
    -- the sectors of the save, and how many its table has before its ICB
    abbrev save-sectors : List Sector
    save-sectors = save_of d l s.first (saved_stamp c)

    -- where its own sectors begin
    abbrev from : ℕ
    from = target (unpack l) + length s.first

    own-sectors : length save-sectors ≡ length (own d l sound good c s) + 1
    own-sectors =
        save-count d (table d l sound good c s) (unpack l).last (saved_stamp c) from ∙ ap (λ (n : ℕ). n + 1) (sym (own-count d (table d l sound good c s) (unpack l).last))

    abbrev saved_by : Effect
    saved_by = saved d (unpack l) (map_of (unpack l)) (unpack l).last s.first (saved_stamp c) (buffer_of c)

    abbrev left-disc : Disc
    left-disc = saved_disc d l sound good c s

    abbrev icb-block : ℕ
    icb-block = recorded d + length (before_table d l sound good c s)

    -- the disc before the ICB is recorded
    abbrev before-disc : Disc
    before-disc = puts d (recorded d) (before_table d l sound good c s)

    before-grown : Grown d before-disc (length (before_table d l sound good c s))
    before-grown =
        puts_plain (before_table d l sound good c s) d sound (omega (arith, room d l sound good c s)) (before-whole d l sound good c s) (before-no-tables d l sound good c s)

    extended : Extends F before-disc left-disc
    extended =
        behind-extends d sound (before_table d l sound good c s) (before-whole d l sound good c s) (before-no-tables d l sound good c s) (table_sector d l sound good c s) (sector-long d l sound good c s)
        (room d l sound good c s)

    -- the ICB names the save's own sectors
    icb-names : named_by left-disc icb-block ≡ own_blocks (again_of d (table d l sound good c s) (unpack l).last) from
    icb-names =
        let icb : List ℕ = table_sector d l sound good c s in
        let reads : content left-disc icb-block ≡ Some icb =
        behind-content d sound (before_table d l sound good c s) (before-whole d l sound good c s) (before-no-tables d l sound good c s) icb (sector-long d l sound good c s) (room d l sound good c s) in
        names_of left-disc icb-block (save d l sound good c s).a-table ∙ ap (λ (x : List ℕ). locations (own_of x)) (data-there left-disc icb-block icb reads).1 ∙ (read_back d l sound good c s).names

    from-ends : from + length (own d l sound good c s) ≡ icb-block
    from-ends = omega (arith, length_before_lem d l sound good c s, s.done.fit.same-recorded)

    -- which blocks are a table's then
    owned : SaveOwned d left-disc from icb-block
    owned =
        let t : List ℕ = table d l sound good c s in
        save-owned d before-disc left-disc sound before-grown.plainly extended icb-block before-grown.counted (save d l sound good c s).last-sector (save d l sound good c s).a-table t (unpack l).last from icb-names
        (omega (arith, s.done.fit.same-recorded)) (omega (arith, from-ends, own-count d t (unpack l).last))

    -- the roles of what a closing puts first, of the own sectors, and of the ICB
    ahead-roles : roles_from (of_table left-disc) (map_of (unpack l)) (new ++ apart) (target (unpack l)) s.first ≡ replicate (length s.first) unnumbered
    ahead-roles =
        data-roles (of_table left-disc) (map_of (unpack l)) (new ++ apart) unnumbered s.first (target (unpack l)) ahead
        (λ i low high.
        let named : names (map_of (unpack l)) i ≡ false = not_named d l roles apart k s.done.fit i (omega (arith, s.done.fit.same-recorded)) (omega (arith, from-ends, small d l sound good c s)) in
        let is-apart : names (new ++ apart) i ≡ true = names-append new apart i ∙ ap (λ (t : Bool). t || names apart i) (ahead-new i low high) in
        rw (owned.ahead i (omega (arith, s.done.fit.same-recorded)) high, named, is-apart))

    own-roles : roles_from (of_table left-disc) (map_of (unpack l)) (new ++ apart) from (own d l sound good c s) ≡ replicate (length (own d l sound good c s)) table_role
    own-roles =
        data-roles (of_table left-disc) (map_of (unpack l)) (new ++ apart) table_role (own d l sound good c s) from (own-data d (table d l sound good c s) (unpack l).last) (λ i low high. rw (owned.own i low (omega (arith, from-ends))))

    icb-role : role_of_sector (of_table left-disc) (map_of (unpack l)) (new ++ apart) icb-block (plain (table_sector d l sound good c s)) ≡ table_role
    icb-role = rw owned.icb

    -- and of all that the save records
    laid : roles_from (of_table left-disc) (map_of (unpack l)) (new ++ apart) (recorded d) (behind (before_table d l sound good c s) (table_sector d l sound good c s))
        ≡ replicate (links (unpack l)) link_role ++ (replicate (length s.first) unnumbered ++ replicate (length save-sectors) table_role)
    laid =
        let v : Volume = unpack l in
        let m : List ℕ = map_of v in
        let a : List ℕ = new ++ apart in
        let r : ℕ = recorded d in
        let of : ℕ → Bool = of_table left-disc in
        let ls : List Sector = replicate (links v) link in
        let os : List Sector = own d l sound good c s in
        let before : List Sector = before_table d l sound good c s in
        let icb : List ℕ = table_sector d l sound good c s in
        let linked : r + length ls ≡ target v = omega (arith, length-replicate {A = Sector} (links v) link, s.done.fit.same-recorded) in
        let behind-links : roles_from of m a (r + length ls) (s.first ++ os) ≡ replicate (length s.first) unnumbered ++ replicate (length os) table_role =
        ap (λ (b : ℕ). roles_from of m a b (s.first ++ os)) linked ∙ roles-append of m a s.first os (target v) ∙ ap₂ (λ (x y : List ℕ). x ++ y) ahead-roles own-roles in
        roles-append of m a before (plain icb ∷ []) r
        ∙ ap₂ (λ (x : List ℕ) (y : ℕ). x ++ (y ∷ [])) (roles-append of m a ls (s.first ++ os) r ∙ ap₂ (λ (x y : List ℕ). x ++ y) (links-roles of m a (links v) r) behind-links) icb-role
        ∙ append_assoc (replicate (links v) link_role) (replicate (length s.first) unnumbered ++ replicate (length os) table_role) (table_role ∷ [])
        ∙ ap (λ (x : List ℕ). replicate (links v) link_role ++ x)
        (append_assoc (replicate (length s.first) unnumbered) (replicate (length os) table_role) (table_role ∷ [])
        ∙ ap (λ (x : List ℕ). replicate (length s.first) unnumbered ++ x) (one_more (length os) table_role ∙ ap (λ (n : ℕ). replicate n table_role) (sym (own-sectors ∙ add-one (length os)))))

    save-kept : only_tells c ≡ false → outcome d l c ≡ 0
        → Kept (after d l c).disc (after d l c).ledger (marked_save d (unpack l) s.first (saved_stamp c) roles) (new ++ apart)
    unfolding marked committed
    save-kept t e =
        let v : Volume = unpack l in
        let m : List ℕ = map_of v in
        let a : List ℕ = new ++ apart in
        let b : ℕ = table_block d l sound good c s in
        let before : List Sector = before_table d l sound good c s in
        let icb : List ℕ = table_sector d l sound good c s in
        let d' : Disc = saved_disc d l sound good c s in
        let fit : Fits d v = s.done.fit in
        let at : recorded d ≤ target v = omega (arith, fit.same-recorded) in
        let lower : b < unused = omega (arith, at_table d l sound good c s, small d l sound good c s) in
        let map : map_of (unpack (pack (committed b v))) ≡ m = packed-map (committed b v) (proper-committed v good b lower) in
        let last : recorded d' ≡ suc b = (save d l sound good c s).last-sector ∙ ap suc (sym (at_table d l sound good c s)) in
        let same : (i : ℕ) → i < recorded d → (names m i ≡ names m i) × (names apart i ≡ names a i) =
        λ i h. (refl, since-new new (target v) i (λ j z. (within j z).0) (omega arith)) in
        let left : Good (record { disc = puts d (recorded d) (effect d l c).sectors; ledger = Some (effect d l c).ledger }) = good-after d l c k.good t e in
        let few : recorded d' < unused = omega (arith, last, at_table d l sound good c s, room d l sound good c s, sound.few) in
        let records : saved_by.sectors ≡ behind before icb = ap (λ (x : Effect). x.sectors) (sym s.leaves) ∙ leaves-behind d l sound good c s in
        subst (λ (x : After). Kept x.disc x.ledger (marked_save d v s.first (saved_stamp c) roles) a) (sym (after_is d l c 0 e))
        (subst (λ (x : Effect). Kept (puts d (recorded d) x.sectors) x.ledger (marked_save d v s.first (saved_stamp c) roles) a) (sym s.leaves)
        (subst (λ (ss : List Sector). Kept (puts d (recorded d) ss) (pack (committed b v)) (marked_save d v s.first (saved_stamp c) roles) a) (sym records)
        (record {
          good =
              subst (λ (ss : List Sector). Good (record { disc = puts d (recorded d) ss; ledger = Some (pack (committed b v)) })) records
              (subst (λ (x : Effect). Good (record { disc = puts d (recorded d) x.sectors; ledger = Some x.ledger })) s.leaves left);
          free = λ i h.
              let since : (i < recorded d') × (names m i ≡ false) =
              free-since d l roles apart k fit (recorded d') (omega arith) few i (names new i) (λ z. let w : (target v ≤ i) × (i < b) = within i z in (omega arith, omega arith)) (sym (names-append new apart i) ∙ h) in
              (since.0, ap (λ (x : List ℕ). names x i) map ∙ since.1);
          roles-are =
              ap₂ (λ (x y : List ℕ). stored x (recorded d) y) (k.roles-are ∙ same_roles d sound m m apart a same) (sym laid)
              ∙ recorded-roles m a (behind before icb) d sound (omega (arith, length-behind before icb, room d l sound good c s)) (behind-whole before icb (before-whole d l sound good c s) (sector-long d l sound good c s)) owned.kept
              ∙ ap (λ (x : List ℕ). roles_of d' x a) (sym map);
        })))

  pub commit-kept : (stamp : Option (List ℕ)) → outcome d l (commit stamp) ≡ 0 → DoneKept d l roles apart (commit stamp)
  unfolding kept_up
  commit-kept stamp e =
      save-kept (commit stamp) (commit-saving d l stamp (commit-done d l stamp e)) [] (λ i z. absurd (mathlib.Core.Bool.false≢true (sym (names-none i) ∙ z))) tt (λ i low high. absurd (omega arith)) refl e

  pub closing-kept : (main reserve : Extent) (start : ℕ) → outcome d l (close_session main reserve start) ≡ 0 → DoneKept d l roles apart (close_session main reserve start)
  unfolding kept_up
  closing-kept main reserve start e =
      let v : Volume = unpack l in
      let c : Call = close_session main reserve start in
      let t : ℕ = target v in
      let bytes : List ℕ = table_bytes (map_of v) v.last in
      let own : ℕ = length (fresh_of d bytes v.last) in
      let between : List Sector = closing_first d v main reserve start in
      let s : Saving d l c = closing-saving d l main reserve start (closing-done d l main reserve start e) in
      let count : length between + own ≡ closing_length = length-closing main reserve start t own (omega (arith, own-few d v s.done.fit.few)) in
      let new : List ℕ = blocks_from t closing_length in
      let second : (after d l c).answer ≡ table_block d l sound good c s = ap (λ (x : After). x.answer) (after_is d l c 0 e) ∙ ap (λ (x : Effect). x.second) s.leaves in
      let last : table_block d l sound good c s ≡ t + closing_length = omega (arith, save-count d bytes v.last no_stamp (t + length between)) in
      let back : (after d l c).answer - closing_length ≡ t = omega arith in
      subst (λ (b : ℕ). Kept (after d l c).disc (after d l c).ledger (marked_save d v between no_stamp roles) (blocks_from b closing_length ++ apart)) (sym back)
      (save-kept c s new
      (λ i z. let w : (t ≤ i) × (i < t + closing_length) = run-within closing_length t i z in (w.0, omega arith))
      (closing-data main reserve start t own)
      (λ i low high. run-named closing_length t i low (omega arith)) refl e)
