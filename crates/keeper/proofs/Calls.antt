-- What a call that is done leaves for its roles, call by call: a ledger of few numbers, where the tables end, the place of what it recorded, and the
-- roles kept up.
-- Assumes nothing.
use Prim.Native.Nat.{ℕ, ◌+◌, ◌-◌, ◌≤◌, ◌<◌}
use native.Mathlib.Nat.{le_refl}
use native.Mathlib.Numerals.{add-one}
use native.Mathlib.Omega.{arith}
use mathlib.Core.Path.{◌≡◌, refl, sym, ap, ap₂, ◌∙◌, subst}
use mathlib.Core.Bool.{Bool, true, false, ◌||◌}
use mathlib.Core.List.{List, []}
use Rattle.std.specs.Prelude.{Option, None, Some}
use lib.Dec.{eqb, lit≤}
use lib.ListN.{length, length-set}
use Rattle.vat.specs.Table.{most_own, limit, unused}
use Rattle.vat.specs.Sector.{no_stamp, table_bytes}
use Rattle.extent.specs.declared.Extent.{Extent}
use Rattle.disc.specs.Tables.{Walk}
use Rattle.disc.specs.Disc.{Disc, lent, most_sectors, sized, Sector, recorded, blanks}
use Rattle.disc.specs.Tables.{table_at, map_at, block_found, newest}
use Rattle.disc.specs.Session.{closing_length}
use Rattle.disc.specs.Again.{fresh_of}
use Rattle.disc.specs.Save.{last_block}
use Rattle.disc.proofs.Recording.{Sound, leading_le}
use Rattle.disc.proofs.Told.{few-at}
use Rattle.disc.proofs.Found.{newest-table, newest-below, none-recorded, none-newer}
use Rattle.disc.proofs.Save.{save-count}
use Rattle.volume.specs.Volume.{ledger_length, idle, read_only, unpack, pack, map_of, begun, filled, entries_with, wrote, released}
use Rattle.volume.specs.declared.Volume.{Volume}
use Rattle.volume.proofs.State.{proper-begun, long-unpack, long_filled, size-kept, recorded-kept, last-kept}
use Rattle.recorder.specs.Calls.{Call, begin, mount, write, release, commit, close_session, look_back, stamp_of}
use Rattle.recorder.specs.Refusals.{first, links, target, block_of, outcome}
use Rattle.recorder.specs.Effects.{closing_first, effect, block_reached, After, after, shown_at}
use Rattle.recorder.proofs.Done.{Fits, ledger-accepted, begin-done, mount-done, size_fits, WriteDone, write_done, release-done, save_of, SaveDone, commit-done, closing-done, look-back-done}
use Rattle.recorder.proofs.Answers.{walked-table}
use Rattle.recorder.proofs.Sectors.{length-closing, own-few}
use Rattle.roles.specs.Roles.{table_role}
use Rattle.roles.specs.declared.TablesEnd.{TablesEnd}
use Rattle.roles.specs.declared.TablesEnd.TheVariants.{Below, At}
use Rattle.roles.specs.Keeping.{EndThere, scanned, let_go, marked, written_role, named_before, kept_up, roles_tests, left_roles, after_roles}
use Rattle.keeper.proofs.Kept.{lengths-told, Done, kept}

-- ---- the numbers of the ledger

module _ (d : Disc) (l : List ℕ) where
  pub begin-few : outcome d l begin ≡ 0 → (unpack (effect d l begin).ledger).size ≤ limit
  unfolding effect begun
  begin-few z =
      let ok = (begin-done d l z).0 in
      size-kept (begun (recorded d)) (proper-begun (recorded d) (omega (arith, leading_le d.kinds, ok.few))).long (lit≤ tt)

  -- filled from a table
  table-few : (b mode : ℕ) → table_at d b ≡ true → (unpack (pack (shown_at d b mode))).size ≤ limit
  unfolding filled
  table-few b mode e = size-kept (shown_at d b mode) (long_filled (map_at d b) b (recorded d) mode (few-at d b e)) (few-at d b e)

  pub mount-few : outcome d l mount ≡ 0 → (unpack (effect d l mount).ledger).size ≤ limit
  unfolding effect
  mount-few z =
      let f = (mount-done d l z).1 in
      subst (λ (o : Option ℕ). (unpack (pack (shown_at d (block_found o) idle))).size ≤ limit) (sym f.1)
      (table-few f.0 idle (newest-table (table_at d) (recorded d) f.0 f.1))

  pub look-back-few : (k : ℕ) → outcome d l (look_back k) ≡ 0 → (unpack (effect d l (look_back k)).ledger).size ≤ limit
  unfolding effect
  look-back-few k z =
      let f = (look-back-done d l k z).1 in
      subst (λ (w : Walk). (unpack (pack (shown_at d (block_reached w) read_only))).size ≤ limit) (sym f.1)
      (table-few f.0 read_only (walked-table d k f.0 f.1))

  pub write-few : (n : Option ℕ) (block : List ℕ) → outcome d l (write n block) ≡ 0 → (unpack (effect d l (write n block)).ledger).size ≤ limit
  unfolding effect wrote
  write-few n block z =
      let f : WriteDone d l n block = write_done d l n block z in
      size-kept (wrote n (target (unpack l)) (unpack l)) (as-many n ∙ long-unpack l) (size_fits (unpack l) n f.writable f.fit.few)
    where
      as-many : (n : Option ℕ) → length (entries_with n (target (unpack l)) (unpack l).entries) ≡ length (unpack l).entries
      as-many None = refl
      as-many (Some n) = length-set (unpack l).entries n (target (unpack l))

  pub release-few : (n : ℕ) → outcome d l (release n) ≡ 0 → (unpack (effect d l (release n)).ledger).size ≤ limit
  unfolding effect released
  release-few n z = size-kept (released n (unpack l)) (length-set (unpack l).entries n unused ∙ long-unpack l) (release-done d l n z).1.fit.few

-- ---- what is asked behind the log

module _ {d : Disc} {roles l : List ℕ} {c : Call} {a : ℕ} {i k m b : List ℕ} (f : Done d roles l c a i k m b) where
  answered : a ≡ (effect d l c).second
  unfolding after
  answered = ap (λ (x : After). x.answer) f.log ∙ rw f.done

  ledger-left : m ≡ (effect d l c).ledger
  unfolding after
  ledger-left = ap (λ (x : After). x.ledger) f.log ∙ rw f.done

  few-left : (unpack (effect d l c).ledger).size ≤ limit → (unpack m).size ≤ limit
  few-left few = subst (λ (x : List ℕ). (unpack x).size ≤ limit) (sym ledger-left) few

-- ---- where the tables end

module _ (d : Disc) (l : List ℕ) where
  pub begin-ends : outcome d l begin ≡ 0 → EndThere d (Below 0)
  begin-ends z = let f = begin-done d l z in (omega arith, λ b h. none-newer d f.0 b (rw f.1 h))

  module _ {roles : List ℕ} {a : ℕ} {i k m b : List ℕ} where
    pub mount-ends : Done d roles l mount a i k m b → EndThere d (At (unpack m).last)
    unfolding effect filled
    mount-ends done =
        let f = mount-done d l done.done in
        let t : ℕ = f.1.0 in
        let found : newest d ≡ Some t = f.1.1 in
        let below : t < recorded d = newest-below (table_at d) (recorded d) t found in
        let small : t < length d.kinds = omega (arith, leading_le d.kinds) in
        let here : table_at d t ≡ true = newest-table (table_at d) (recorded d) t found in
        let few : length (map_at d t) ≤ limit = few-at d t here in
        let last-is : (unpack m).last ≡ t =
        ap (λ (x : List ℕ). (unpack x).last) (ledger-left done)
        ∙ ap (λ (o : Option ℕ). (unpack (pack (shown_at d (block_found o) idle))).last) found
        ∙ last-kept (shown_at d t idle) (long_filled (map_at d t) t (recorded d) idle few) (omega (arith, f.0.few)) in
        subst (λ (n : ℕ). EndThere d (At n)) (sym last-is) (omega arith, here, λ b h. none-newer d f.0 b (rw (found, add-one t) h))

    pub look-back-ends : (j : ℕ) → Done d roles l (look_back j) a i k m b → EndThere d (Below (unpack m).recorded)
    unfolding effect filled
    look-back-ends j done =
        let f = look-back-done d l j done.done in
        let t : ℕ = f.1.0 in
        let few : length (map_at d t) ≤ limit = few-at d t (walked-table d j t f.1.1) in
        let recorded-is : (unpack m).recorded ≡ recorded d =
        ap (λ (x : List ℕ). (unpack x).recorded) (ledger-left done)
        ∙ ap (λ (w : Walk). (unpack (pack (shown_at d (block_reached w) read_only))).recorded) f.1.1
        ∙ recorded-kept (shown_at d t read_only) (long_filled (map_at d t) t (recorded d) read_only few) (omega (arith, f.0.few, leading_le d.kinds)) in
        subst (λ (n : ℕ). EndThere d (Below n)) (sym recorded-is) (omega arith, none-recorded d f.0)

-- what a scan asks of all buffers, and of where the tables end
abbrev pub Scannable : Disc → List ℕ → List ℕ → TablesEnd → Type 0
Scannable d roles m tables = (sized d ≡ true) × (length roles ≡ length d.kinds) × (length m ≡ ledger_length) × ((unpack m).size ≤ limit) × EndThere d tables

scannable : {d : Disc} {roles l : List ℕ} {c : Call} {a : ℕ} {i k m b : List ℕ} → Done d roles l c a i k m b → (unpack (effect d l c).ledger).size ≤ limit → (tables : TablesEnd)
    → EndThere d tables → Scannable d roles m tables
scannable {d} {roles} done few tables ends = let t = lengths-told d roles done.lent in (t.0, t.1, done.long, few-left done few, ends)

module _ {d : Disc} {roles l : List ℕ} {a : ℕ} {i k m b : List ℕ} where
  pub begin-scans : Done d roles l begin a i k m b → Scannable d roles m (Below 0)
  begin-scans done = scannable done (begin-few d l done.done) (Below 0) (begin-ends d l done.done)

  pub mount-scans : Done d roles l mount a i k m b → {end : ℕ} → end ≡ (unpack m).last → Scannable d roles m (At end)
  mount-scans done e = scannable done (mount-few d l done.done) (At _) (rw e (mount-ends d l done))

  pub look-back-scans : {j : ℕ} → Done d roles l (look_back j) a i k m b → {end : ℕ} → end ≡ (unpack m).recorded → Scannable d roles m (Below end)
  look-back-scans {j = j} done e = scannable done (look-back-few d l j done.done) (Below _) (rw e (look-back-ends d l j done))

  -- and what a block let go asks
  pub release-lets-go : {n : ℕ} → Done d roles l (release n) a i k m b → (length m ≡ ledger_length) × ((unpack m).size ≤ limit)
  release-lets-go {n} done = (done.long, few-left done (release-few d l n done.done))

  pub write-lets-go : {n : Option ℕ} {block : List ℕ} → Done d roles l (write n block) a i k m b → (length m ≡ ledger_length) × ((unpack m).size ≤ limit)
  write-lets-go {n} {block} done = (done.long, few-left done (write-few d l n block done.done))

-- a call that records starts at the count of what was recorded, and its answer is its last block
pub record Placed (d : Disc) (l : List ℕ) (between count a : ℕ) : Type 0 where
  pub own : (unpack l).recorded ≡ recorded d
  pub place : a + 1 ≡ recorded d + links (unpack l) + between + count
  pub within : a < length d.kinds
  pub few : length d.kinds ≤ most_sectors

module _ (d : Disc) (l : List ℕ) where
  placed : (between count a : ℕ) → Sound d → Fits d (unpack l) → links (unpack l) + (between + count) ≤ blanks d → a + 1 ≡ target (unpack l) + between + count → Placed d l between count a
  placed between count a ok fit room at =
      record {
        own = fit.same-recorded;
        place = omega (arith, fit.same-recorded);
        within = omega (arith, fit.same-recorded, leading_le d.kinds);
        few = ok.few;
      }

  save-placed : (first : List Sector) (stamp : List ℕ) (a : ℕ) → SaveDone d l first stamp → a ≡ last_block (target (unpack l) + length first) (save_of d l first stamp)
      → Placed d l (length first) (length (save_of d l first stamp)) a
  save-placed first stamp a f at =
      let v : Volume = unpack l in
      let count : length (save_of d l first stamp) ≡ length (fresh_of d (table_bytes (map_of v) v.last) v.last) + 1 =
      save-count d (table_bytes (map_of v) v.last) v.last stamp (target v + length first) in
      placed (length first) (length (save_of d l first stamp)) a f.sound-disc f.fit f.room (omega (arith, at, count))

  module _ {roles : List ℕ} {a : ℕ} {i k m b : List ℕ} where
    pub write-placed : (n : Option ℕ) (block : List ℕ) → Done d roles l (write n block) a i k m b → Placed d l 0 1 a
    unfolding effect
    write-placed n block done =
        let f : WriteDone d l n block = write_done d l n block done.done in
        let at : a ≡ target (unpack l) = answered done in
        placed 0 1 a f.sound-disc f.fit (omega (arith, f.room)) (omega (arith, at))

    pub commit-placed : (stamp : Option (List ℕ)) → Done d roles l (commit stamp) a i k m b → Placed d l 0 (length (save_of d l [] (stamp_of stamp))) a
    unfolding effect
    commit-placed stamp done = save-placed [] (stamp_of stamp) a (commit-done d l stamp done.done).saving (answered done)

    pub closing-placed : (main reserve : Extent) (start : ℕ) → Done d roles l (close_session main reserve start) a i k m b
        → let first : List Sector = closing_first d (unpack l) main reserve start in Placed d l (length first) (length (save_of d l first no_stamp)) a
    unfolding effect
    closing-placed main reserve start done =
        save-placed (closing_first d (unpack l) main reserve start) no_stamp a (closing-done d l main reserve start done.done).saving (answered done)

  -- of a closing, by the own sectors that it records
  pub closing-counts : (main reserve : Extent) (start own : ℕ) → outcome d l (close_session main reserve start) ≡ 0
      → (length l ≡ ledger_length → (unpack l).size ≤ limit → (eqb (unpack l).last unused || table_at d (unpack l).last) ≡ true → own ≡ length (fresh_of d (table_bytes (map_of (unpack l)) (unpack l).last) (unpack l).last))
      → let first : List Sector = closing_first d (unpack l) main reserve start in (closing_length - own ≡ length first) × (own + 1 ≡ length (save_of d l first no_stamp))
  closing-counts main reserve start own z counted =
      let v : Volume = unpack l in
      let t : List ℕ = table_bytes (map_of v) v.last in
      let fresh : ℕ = length (fresh_of d t v.last) in
      let f : Fits d v = (closing-done d l main reserve start z).saving.fit in
      let is : own ≡ fresh = counted (ledger-accepted d l (close_session main reserve start) z) f.few f.last-known in
      let few : fresh ≤ most_own = own-few d v f.few in
      let all : length (closing_first d v main reserve start) + fresh ≡ closing_length = length-closing main reserve start (target v) fresh (omega arith) in
      (omega (arith, all, is), omega (arith, save-count d t v.last no_stamp (target v + length (closing_first d v main reserve start)), is))

-- from the counts that were taken before the call: what it recorded, run by run
module _ {d : Disc} {l : List ℕ} {a r n between count : ℕ} (p : Placed d l between count a) (own : r ≡ (unpack l).recorded) (links-are : n ≡ links (unpack l)) where
  pub runs : a + 1 ≡ r + n + between + count
  runs = omega (arith, p.place, p.own)

  module _ (roles : List ℕ) {m c : ℕ} (between_is : m ≡ between) (count-is : c ≡ count) where
    pub markable : first (roles_tests true d roles) ≡ 0 → (r + n + m + c ≤ length roles) × (length roles ≤ most_sectors)
    markable h = let t = lengths-told d roles h in (omega (arith, runs, p.within, t.1), omega (arith, p.few, t.1))

    pub marked-there : (role : ℕ) {rs : List ℕ} → rs ≡ marked r n m c role roles → rs ≡ marked (recorded d) (links (unpack l)) between count role roles
    marked-there role q =
        q ∙ ap₂ (λ (x y : ℕ). marked x y m c role roles) (own ∙ p.own) links-are ∙ ap₂ (λ (x y : ℕ). marked (recorded d) (links (unpack l)) x y role roles) between_is count-is

-- ---- the roles kept up

module _ {d : Disc} {roles l : List ℕ} {a : ℕ} {i k m b rs : List ℕ} where
  pub begin-kept : Done d roles l begin a i k m b → rs ≡ scanned (lent i k) m → left_roles a i k rs m b ≡ after_roles d roles l begin
  unfolding kept_up
  begin-kept done q = kept d roles l begin refl done (q ∙ ap (λ (x : After). scanned x.disc x.ledger) done.log)

  pub mount-kept : Done d roles l mount a i k m b → rs ≡ scanned (lent i k) m → left_roles a i k rs m b ≡ after_roles d roles l mount
  unfolding kept_up
  mount-kept done q = kept d roles l mount refl done (q ∙ ap (λ (x : After). scanned x.disc x.ledger) done.log)

  pub look-back-kept : {j : ℕ} → Done d roles l (look_back j) a i k m b → rs ≡ scanned (lent i k) m → left_roles a i k rs m b ≡ after_roles d roles l (look_back j)
  unfolding kept_up
  look-back-kept {j} done q = kept d roles l (look_back j) refl done (q ∙ ap (λ (x : After). scanned x.disc x.ledger) done.log)

  -- a block let go, with the ledger that is left
  pub release-kept : {n name : ℕ} → Done d roles l (release n) a i k m b → (length l ≡ ledger_length → name ≡ block_of (unpack l) n) → rs ≡ let_go m name roles
      → left_roles a i k rs m b ≡ after_roles d roles l (release n)
  unfolding kept_up
  release-kept {n} done named q = kept d roles l (release n) refl done (q ∙ ap₂ (λ (x : After) (y : ℕ). let_go x.ledger y roles) done.log (named done.accepted))

-- what a call records is marked from the counts that were taken before it

module _ {d : Disc} {roles l : List ℕ} {v : Option ℕ} {block : List ℕ} {a : ℕ} {i k m b : List ℕ} {r n : ℕ} (done : Done d roles l (write v block) a i k m b)
    (own : length l ≡ ledger_length → r ≡ (unpack l).recorded) (links-are : length l ≡ ledger_length → n ≡ links (unpack l)) where
  pub write-marks : (r + n + 0 + 1 ≤ length roles) × (length roles ≤ most_sectors)
  write-marks = markable (write-placed d l v block done) (own done.accepted) (links-are done.accepted) roles refl refl done.lent

  pub write-kept : {name role : ℕ} {ss rs : List ℕ} → (length l ≡ ledger_length → name ≡ named_before (unpack l) v) → role ≡ written_role v → ss ≡ marked r n 0 1 role roles → rs ≡ let_go m name ss
      → left_roles a i k rs m b ≡ after_roles d roles l (write v block)
  unfolding kept_up
  write-kept {role = role} named is marks q =
      let there = marked-there (write-placed d l v block done) (own done.accepted) (links-are done.accepted) roles refl refl role marks in
      let ss : List ℕ = marked (recorded d) (links (unpack l)) 0 1 (written_role v) roles in
      kept d roles l (write v block) refl done
      (q ∙ ap₂ (λ (x : ℕ) (y : List ℕ). let_go m x y) (named done.accepted) (there ∙ ap (λ (x : ℕ). marked (recorded d) (links (unpack l)) 0 1 x roles) is)
      ∙ ap (λ (x : After). let_go x.ledger (named_before (unpack l) v) ss) done.log)

module _ {d : Disc} {roles l : List ℕ} {stamp : Option (List ℕ)} {a : ℕ} {i k m b : List ℕ} {r n : ℕ} (done : Done d roles l (commit stamp) a i k m b)
    (own : length l ≡ ledger_length → r ≡ (unpack l).recorded) (links-are : length l ≡ ledger_length → n ≡ links (unpack l)) where
  commit-runs : a + 1 ≡ r + n + 0 + length (save_of d l [] (stamp_of stamp))
  commit-runs = runs (commit-placed d l stamp done) (own done.accepted) (links-are done.accepted)

  pub commit-ends : (r + n ≤ a + 1) × (a < most_sectors)
  commit-ends = let p = commit-placed d l stamp done in (omega (arith, commit-runs), omega (arith, p.within, p.few))

  pub commit-marks : (r + n + 0 + (a + 1 - (r + n)) ≤ length roles) × (length roles ≤ most_sectors)
  commit-marks = markable (commit-placed d l stamp done) (own done.accepted) (links-are done.accepted) roles refl (omega (arith, commit-runs)) done.lent

  pub commit-kept : {rs : List ℕ} → rs ≡ marked r n 0 (a + 1 - (r + n)) table_role roles → left_roles a i k rs m b ≡ after_roles d roles l (commit stamp)
  unfolding kept_up
  commit-kept q =
      kept d roles l (commit stamp) refl done
      (marked-there (commit-placed d l stamp done) (own done.accepted) (links-are done.accepted) roles refl (omega (arith, commit-runs)) table_role q)

module _ {d : Disc} {roles l : List ℕ} {main reserve : Extent} {start : ℕ} {a : ℕ} {i k m b : List ℕ} {r n o : ℕ} (done : Done d roles l (close_session main reserve start) a i k m b)
    (own : length l ≡ ledger_length → r ≡ (unpack l).recorded) (links-are : length l ≡ ledger_length → n ≡ links (unpack l))
    (counted : length l ≡ ledger_length → (unpack l).size ≤ limit → (eqb (unpack l).last unused || table_at d (unpack l).last) ≡ true
    → o ≡ length (fresh_of d (table_bytes (map_of (unpack l)) (unpack l).last) (unpack l).last)) where
  pub closing-marks : (r + n + (closing_length - o) + (o + 1) ≤ length roles) × (length roles ≤ most_sectors)
  closing-marks =
      let counts = closing-counts d l main reserve start o done.done counted in
      markable (closing-placed d l main reserve start done) (own done.accepted) (links-are done.accepted) roles counts.0 counts.1 done.lent

  pub closing-kept : {rs : List ℕ} → rs ≡ marked r n (closing_length - o) (o + 1) table_role roles → left_roles a i k rs m b ≡ after_roles d roles l (close_session main reserve start)
  unfolding kept_up
  closing-kept q =
      let counts = closing-counts d l main reserve start o done.done counted in
      kept d roles l (close_session main reserve start) refl done
      (marked-there (closing-placed d l main reserve start done) (own done.accepted) (links-are done.accepted) roles counts.0 counts.1 table_role q)
