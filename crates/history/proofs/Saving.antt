-- A save, whichever call makes it: behind sectors that are no tables it records a table of the working map, the last sector then.
--     told-save, unsaved    the calls that save make a page, and no others
--     Saving, saving-done   what is known of a call that saves and is done
--     save                  it leads to a save of the log
--     save-time             whose time is the call's
-- Assumes nothing.
use Prim.Native.Nat.{ℕ, ◌+◌, ◌≤◌, ◌<◌}
use native.Mathlib.Omega.{arith}
use mathlib.Core.Path.{◌≡◌, refl, sym, ap, ◌∙◌, subst, subst₂}
use mathlib.Core.Bool.{Bool, true, false, ◌||◌}
use mathlib.Core.List.{List, [], ◌++◌, append_assoc}
use mathlib.Core.Logic.{inl, inr}
use Rattle.std.specs.Prelude.{Option, None, Some}
use lib.Dec.{eqb}
use lib.ListN.{length, replicate, length-append, length-replicate}
use borrow.Author.Tests.{eqb-true}
use Rattle.le.specs.Bytes.{every}
use Rattle.vat.specs.Table.{sector_length, limit, unused, unused_or_below, Lower}
use Rattle.vat.specs.Sector.{table_bytes}
use Rattle.extent.specs.declared.Extent.{Extent}
use Rattle.disc.specs.Disc.{Disc, recorded, Sector, link, puts}
use Rattle.disc.specs.Tables.{below, table_at, time_at}
use Rattle.disc.specs.Again.{fresh_of, own_blocks, again_of}
use Rattle.disc.specs.Save.{icb_of, last_block}
use Rattle.disc.proofs.Recording.{Sound, AllWhole, whole_append}
use Rattle.disc.proofs.Found.{table-recorded}
use Rattle.disc.proofs.Save.{NoTables, own_recorded, own-count, own-no-tables, save-count, icb-whole, IcbReads, icb-reads}
use Rattle.volume.specs.declared.Volume.{Volume}
use Rattle.volume.specs.Volume.{unpack, map_of}
use Rattle.volume.proofs.State.{Proper, length-map}
use Rattle.recorder.specs.Calls.{Call, begin, mount, write, release, close_packet, commit, close_session, read, look_back, time_of, stamp_buffer, buffer_of, saves, stamp_of}
use Rattle.recorder.specs.Refusals.{links, target, outcome}
use Rattle.recorder.specs.Effects.{saved, commits, closing_first, closes, effect}
use Rattle.recorder.proofs.Done.{Fits, save_of, SaveDone, CommitDone, commit-done, ClosingDone, closing-done}
use Rattle.recorder.proofs.Sectors.{links-whole, behind, before_icb, length-before_icb, whole-before_icb, ends-in-icb}
use Rattle.history.specs.History.{History, Told, done}
use Rattle.history.specs.Events.{told}
use Rattle.history.specs.Times.{saved_stamp}
use Rattle.history.proofs.Log.{Saved, working}
use Rattle.history.proofs.Growth.{F, below-to, links-no-tables, no-tables-append, closing-no-tables, behind-time, behind-sound, lower, behind-saved}

-- ---- in the history

-- a save counts as a commit
pub told-save : (c : Call) → saves c ≡ true → told c ≡ Told.commit
told-save begin s = absurd (mathlib.Core.Bool.false≢true s)
told-save mount s = absurd (mathlib.Core.Bool.false≢true s)
told-save (write n block) s = absurd (mathlib.Core.Bool.false≢true s)
told-save (release n) s = absurd (mathlib.Core.Bool.false≢true s)
told-save close_packet s = absurd (mathlib.Core.Bool.false≢true s)
told-save (commit stamp) s = refl
told-save (close_session main reserve start) s = refl
told-save (read n block) s = absurd (mathlib.Core.Bool.false≢true s)
told-save (look_back k) s = absurd (mathlib.Core.Bool.false≢true s)
told-save (time_of k answer) s = absurd (mathlib.Core.Bool.false≢true s)

-- the other calls make no page
pub unsaved : (c : Call) → saves c ≡ false → (second : ℕ) (h : History) → (done (told c) second h).pages ≡ h.pages
unsaved begin s second h = refl
unsaved mount s second h = refl
unsaved (write None block) s second h = refl
unsaved (write (Some n) block) s second h = refl
unsaved (release n) s second h = refl
unsaved close_packet s second h = refl
unsaved (commit stamp) s second h = absurd (mathlib.Core.Bool.true≢false s)
unsaved (close_session main reserve start) s second h = absurd (mathlib.Core.Bool.true≢false s)
unsaved (read n block) s second h = refl
unsaved (look_back k) s second h = refl
unsaved (time_of k answer) s second h = refl

-- ---- on the disc

pub record Saving (d : Disc) (l : List ℕ) (c : Call) : Type 0 where
  pub first : List Sector
  pub done : SaveDone d l first (saved_stamp c)
  pub no-tables : (b : ℕ) → NoTables b first
  pub leaves : effect d l c ≡ saved d (unpack l) (map_of (unpack l)) (unpack l).last first (saved_stamp c) (buffer_of c)

pub commit-leaves : (d : Disc) (l : List ℕ) (stamp : Option (List ℕ)) → effect d l (commit stamp) ≡ commits d (unpack l) (stamp_of stamp) (stamp_buffer stamp)
unfolding effect
commit-leaves d l stamp = refl

abbrev pub commit-saving : (d : Disc) (l : List ℕ) (stamp : Option (List ℕ)) → CommitDone d l stamp → Saving d l (commit stamp)
commit-saving d l stamp f = record { first = []; done = f.saving; no-tables = λ b. tt; leaves = commit-leaves d l stamp }

pub closing-leaves : (d : Disc) (l : List ℕ) (main reserve : Extent) (start : ℕ)
    → effect d l (close_session main reserve start) ≡ closes d (unpack l) main reserve start
unfolding effect
closing-leaves d l main reserve start = refl

abbrev pub closing-saving : (d : Disc) (l : List ℕ) (main reserve : Extent) (start : ℕ) → ClosingDone d l main reserve start → Saving d l (close_session main reserve start)
closing-saving d l main reserve start f =
    record {
      first = closing_first d (unpack l) main reserve start;
      done = f.saving;
      no-tables =
          closing-no-tables main reserve start (target (unpack l)) (length (fresh_of d (table_bytes (map_of (unpack l)) (unpack l).last) (unpack l).last));
      leaves = closing-leaves d l main reserve start;
    }

pub saving-done : (d : Disc) (l : List ℕ) (c : Call) → saves c ≡ true → outcome d l c ≡ 0 → Saving d l c
saving-done d l begin s e = absurd (mathlib.Core.Bool.false≢true s)
saving-done d l mount s e = absurd (mathlib.Core.Bool.false≢true s)
saving-done d l (write n block) s e = absurd (mathlib.Core.Bool.false≢true s)
saving-done d l (release n) s e = absurd (mathlib.Core.Bool.false≢true s)
saving-done d l close_packet s e = absurd (mathlib.Core.Bool.false≢true s)
saving-done d l (commit stamp) s e = commit-saving d l stamp (commit-done d l stamp e)
saving-done d l (close_session main reserve start) s e = closing-saving d l main reserve start (closing-done d l main reserve start e)
saving-done d l (read n block) s e = absurd (mathlib.Core.Bool.false≢true s)
saving-done d l (look_back k) s e = absurd (mathlib.Core.Bool.false≢true s)
saving-done d l (time_of k answer) s e = absurd (mathlib.Core.Bool.false≢true s)

module _ (d : Disc) (l : List ℕ) (sound : Sound d) (good : Proper (unpack l)) where
  pub enough : Fits d (unpack l) → (unpack l).size ≤ length (unpack l).entries
  enough f = omega (arith, f.few, good.long)

  -- the last table lies below what is recorded
  last-below : Fits d (unpack l) → (b : ℕ) → recorded d ≤ b → unused_or_below b (unpack l).last ≡ true
  last-below f b h = go (eqb (unpack l).last unused) refl f.last-known
    where
      go : (t : Bool) → eqb (unpack l).last unused ≡ t → (t || table_at d (unpack l).last) ≡ true → unused_or_below b (unpack l).last ≡ true
      go true z e = below-to b (unpack l).last (inr (eqb-true (unpack l).last unused z))
      go false z e = below-to b (unpack l).last (inl (omega (arith, table-recorded d sound (unpack l).last e)))

  module _ (c : Call) (s : Saving d l c) where
    -- the table's bytes, what its save records before the ICB, the ICB, and all that comes before it
    abbrev pub table : List ℕ
    table = table_bytes (map_of (unpack l)) (unpack l).last

    abbrev pub own : List Sector
    own = own_recorded d table (unpack l).last

    unfoldable pub table_sector : List ℕ
    table_sector = icb_of d table (unpack l).last (saved_stamp c) (target (unpack l) + length s.first)

    abbrev pub before_table : List Sector
    before_table = before_icb d (unpack l) (map_of (unpack l)) (unpack l).last s.first

    pub length_before_lem : length before_table ≡ links (unpack l) + (length s.first + length own)
    length_before_lem = length-before_icb d (unpack l) (map_of (unpack l)) (unpack l).last s.first

    pub before-whole : AllWhole before_table
    before-whole = whole-before_icb d (unpack l) (map_of (unpack l)) (unpack l).last s.first s.done.whole

    -- the links, and what a closing puts first
    abbrev linked : List Sector
    linked = replicate (links (unpack l)) link

    abbrev ahead : List Sector
    ahead = linked ++ s.first

    ahead-whole : AllWhole ahead
    ahead-whole = whole_append linked s.first (links-whole (links (unpack l))) s.done.whole

    length-ahead : length ahead ≡ links (unpack l) + length s.first
    length-ahead = length-append linked s.first ∙ ap (λ (n : ℕ). n + length s.first) (length-replicate (links (unpack l)) link)

    -- the map and the last table lie below what is recorded
    map-few : length (map_of (unpack l)) ≤ limit
    map-few = omega (arith, length-map (unpack l) (enough s.done.fit), s.done.fit.few)

    map_below : every (unused_or_below (recorded d)) (map_of (unpack l)) ≡ true
    map_below = subst (λ (r : ℕ). every (unused_or_below r) (map_of (unpack l)) ≡ true) s.done.fit.same-recorded s.done.fit.entries_below

    last-low : unused_or_below (recorded d) (unpack l).last ≡ true
    last-low = last-below s.done.fit (recorded d) (omega arith)

    counted : length (save_of d l s.first (saved_stamp c)) ≡ length own + 1
    counted =
        save-count d table (unpack l).last (saved_stamp c) (target (unpack l) + length s.first)
        ∙ ap (λ (n : ℕ). n + 1) (sym (own-count d table (unpack l).last))

    inside : recorded d + length ahead + length own + 1 ≤ length d.kinds
    inside = omega (arith, length-ahead, counted, s.done.room)

    pub before-no-tables : NoTables (recorded d) before_table
    before-no-tables =
        subst (NoTables (recorded d)) (append_assoc linked s.first own)
        (no-tables-append ahead own (recorded d)
        (no-tables-append linked s.first (recorded d) (links-no-tables (links (unpack l)) (recorded d)) (s.no-tables (recorded d + length linked)))
        (own-no-tables d sound ahead ahead-whole (map_of (unpack l)) (unpack l).last map-few map_below last-low (omega (arith, inside))))

    pub room : recorded d + (length before_table + 1) ≤ length d.kinds
    room = omega (arith, length_before_lem, counted, s.done.room)

    pub small : recorded d + length before_table < unused
    small = omega (arith, length_before_lem, counted, s.done.room, sound.few)

    -- the block that it takes
    abbrev pub table_block : ℕ
    table_block = last_block (target (unpack l) + length s.first) (save_of d l s.first (saved_stamp c))

    pub at_table : table_block ≡ recorded d + length before_table
    at_table = omega (arith, length_before_lem, counted, s.done.fit.same-recorded)

    pub leaves-behind : (effect d l c).sectors ≡ behind before_table table_sector
    unfolding table_sector
    leaves-behind =
        ap (λ e. e.sectors) s.leaves ∙ ends-in-icb d (unpack l) (map_of (unpack l)) (unpack l).last s.first (saved_stamp c) (buffer_of c)

    pub sector-long : length table_sector ≡ sector_length
    unfolding table_sector
    sector-long = icb-whole d table (unpack l).last (saved_stamp c) (target (unpack l) + length s.first)

    abbrev pub saved_disc : Disc
    saved_disc = puts d (recorded d) (behind before_table table_sector)

    -- what can be read below the table where it is recorded
    abbrev readable : Lower
    readable = lower d sound before_table before-whole before-no-tables table_sector sector-long room

    -- it is a table of the working map there, and names its own sectors
    pub read_back : IcbReads readable table_sector (map_of (unpack l)) (unpack l).last (saved_stamp c) (recorded d + length before_table)
        (own_blocks (again_of d table (unpack l).last) (target (unpack l) + length s.first))
    unfolding table_sector
    read_back =
        let v : Volume = unpack l in
        let f : SaveDone d l s.first (saved_stamp c) = s.done in
        let fresh : ℕ = length (fresh_of d table v.last) in
        let at : recorded d + length ahead ≡ target v + length s.first = omega (arith, length-ahead, f.fit.same-recorded) in
        let here : recorded d + length ahead + fresh ≡ recorded d + length before_table = omega (arith, length-ahead, length_before_lem, own-count d table v.last) in
        let all : ahead ++ own ≡ before_table = append_assoc linked s.first own in
        let reads = icb-reads d sound ahead ahead-whole (map_of v) v.last map-few map_below last-low (saved_stamp c) f.timely (omega (arith, inside, own-count d table v.last)) in
        subst (λ (ss : List Sector). IcbReads (below (puts d (recorded d) ss) (recorded d + length before_table)) (icb_of d table v.last (saved_stamp c) (target v + length s.first)) (map_of v) v.last (saved_stamp c)
        (recorded d + length before_table) (own_blocks (again_of d table v.last) (target v + length s.first))) all
        (subst₂ (λ (n k : ℕ). IcbReads (below (puts d (recorded d) (ahead ++ own)) n) (icb_of d table v.last (saved_stamp c) k) (map_of v) v.last (saved_stamp c) n (own_blocks (again_of d table v.last) k)) here at reads)

    pub save : Saved F d saved_disc (working F (map_of (unpack l)) (unpack l).last) (recorded d + length before_table)
    save =
        let v : Volume = unpack l in
        behind-saved d sound before_table before-whole before-no-tables table_sector sector-long room (working F (map_of v) v.last) small read_back.is-table read_back.entries
        read_back.previous-table

    pub save-sound : Sound saved_disc
    save-sound = behind-sound d sound before_table before-whole before-no-tables table_sector sector-long room

    -- and its time is the call's
    pub save-time : time_at saved_disc (recorded d + length before_table) ≡ saved_stamp c
    save-time = behind-time d sound before_table before-whole before-no-tables table_sector sector-long room ∙ read_back.modified
