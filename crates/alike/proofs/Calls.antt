-- Document 01: "Bytes of a sector whose kind is not 1 mean nothing." A call on either of two alike discs answers the same, records the same sectors,
-- leaves the same ledger and buffer, and leaves discs that are alike.
-- Assumes nothing.
use Prim.Native.Nat.{ℕ, zero, suc, ◌+◌}
use mathlib.Core.Path.{◌≡◌, refl, sym, ap, ◌∙◌, subst, subst₂}
use mathlib.Core.Bool.{Bool, true, not, ◌||◌}
use mathlib.Core.List.{List, [], ◌∷◌, ◌++◌}
use Rattle.std.specs.Prelude.{Option, Some}
use lib.Dec.{eqb, ltb}
use lib.ListN.{length, replicate}
use Rattle.extent.specs.declared.Extent.{Extent}
use Rattle.timestamp.specs.Timestamp.{valid, told}
use Rattle.vat.specs.Table.{Lower, is_table}
use Rattle.vat.specs.Sector.{no_stamp, table_bytes}
use Rattle.anchor.specs.Anchor.{farthest_start, anchor_tagged}
use Rattle.disc.specs.Disc.{Disc, recorded, Sector, link, puts}
use Rattle.disc.specs.Tables.{Walk}
use Rattle.std.specs.Prelude.{Ok}
use Rattle.disc.specs.Tables.{table_at, map_at, named_by, newest, block_found}
use Rattle.disc.specs.Session.{closing, closing_length}
use Rattle.disc.specs.Again.{fresh_of}
use Rattle.disc.specs.Save.{save_sectors, last_block}
use Rattle.disc.proofs.Told.{below-same, names_same, same-everywhere}
use Rattle.disc.proofs.Found.{newest-table}
use Rattle.disc.proofs.Save.{save-same}
use Rattle.disc.proofs.Recording.{AllWhole}
use Rattle.volume.specs.declared.Volume.{Volume}
use Rattle.volume.specs.Volume.{idle, read_only, unpack, pack, map_of, begun, filled, committed}
use Rattle.recorder.specs.Calls.{Call, begin, mount, write, release, close_packet, commit, close_session, read, look_back, time_of, stamp_of, stamp_buffer, buffer_of}
use Rattle.recorder.specs.Refusals.{test, first, links, target, reserve, basic, ledger_lent, block_lent, stamp_lent, answer_lent, unfit, gate, forbidden_at, number_tests, stamp_wrong, no_room, block_of, not_in_use, is_some, walked, is_broken, is_ended, walk_tests, tests, outcome}
use Rattle.recorder.specs.Effects.{Effect, settles, saved, closing_first, block_reached, clean_number, effect, settled, after, if_done, sectors_if, second_number, sectors_of}
use Rattle.alike.specs.Alike.{Alike, SameCall}
use Rattle.recorder.proofs.Done.{mount-done, look-back-done, read_done}
use Rattle.recorder.proofs.Answers.{walked-table}
use Rattle.history.proofs.Recorded.{effect-whole}
use Rattle.alike.proofs.Discs.{alike-puts, same-recorded, same-sized, same-order, same-blanks, same_kind, same-content, same-newest, same_map, same-walked, same-time, same-fits, same-closed}

pub sectors-whole : (d : Disc) (l : List ℕ) (c : Call) → AllWhole (sectors_of d l c)
unfolding sectors_of
sectors-whole d l c = go (outcome d l c) refl
  where
    go : (o : ℕ) → outcome d l c ≡ o → AllWhole (sectors_if o (effect d l c).sectors)
    go zero z = effect-whole d l c z
    go (suc n) z = tt

module _ {d e : Disc} (a : Alike d e) where
  pub same-basic : (lengths : Bool) → basic d lengths ≡ basic e lengths
  same-basic lengths = λ i. test 1 (not (same-sized a i)) ∷ test 2 (not lengths) ∷ test 3 (not (same-order a i)) ∷ []

  pub same-unfit : (l : List ℕ) → unfit d l ≡ unfit e l
  same-unfit l = λ i. test 4 (not (same-fits a (unpack l) i))

  same-walk : (k : ℕ) → walk_tests d k ≡ walk_tests e k
  same-walk k = λ i. test 7 (not (is_some (same-newest a i))) ∷ test 8 (is_broken (same-walked a k i)) ∷ test 9 (is_ended (same-walked a k i)) ∷ []

  same-gate : (l : List ℕ) → gate d l ≡ gate e l
  same-gate l = λ i. same-unfit l i ∷ test 5 (eqb (unpack l).mode read_only) ∷ test 17 (same-closed a i) ∷ []

  same-room : (v : Volume) {m n : ℕ} → m ≡ n → no_room d v m ≡ no_room e v n
  same-room v p = λ i. test 14 (ltb (same-blanks a i) (links v + p i))

  -- the sectors of a save, behind what it puts first, and the own sectors among them: the table named as previous names the same blocks, which read the same
  same-save : (l : List ℕ) (stamp : List ℕ) (b : ℕ) → let v : Volume = unpack l in
      let t : List ℕ = table_bytes (map_of v) v.last in
      (save_sectors e t v.last stamp b ≡ save_sectors d t v.last stamp b) × (fresh_of e t v.last ≡ fresh_of d t v.last)
  same-save l stamp b =
      let v : Volume = unpack l in
      save-same d e (table_bytes (map_of v) v.last) v.last (names_same d e v.last (λ c h. same-content a c) (same-content a v.last))
      (same-everywhere d e (same-content a) (named_by d v.last)) stamp b

  same-sectors : (l : List ℕ) (stamp : List ℕ) (b : ℕ) → let v : Volume = unpack l in
      let t : List ℕ = table_bytes (map_of v) v.last in save_sectors d t v.last stamp b ≡ save_sectors e t v.last stamp b
  same-sectors l stamp b = sym (same-save l stamp b).0

  same_first : (l : List ℕ) (main reserve : Extent) (start : ℕ) → closing_first d (unpack l) main reserve start ≡ closing_first e (unpack l) main reserve start
  same_first l main reserve start = ap (λ (ss : List (List ℕ)). closing main reserve start (target (unpack l)) (length ss)) (sym (same-save l no_stamp 0).1)

  same-saved : (l : List ℕ) (first : List Sector) (stamp buffer : List ℕ) → let v : Volume = unpack l in saved d v (map_of v) v.last first stamp buffer ≡ saved e v (map_of v) v.last first stamp buffer
  same-saved l first stamp buffer = λ i.
      let v : Volume = unpack l in
      let at : ℕ = target v + length first in
      let save : List Sector = same-sectors l stamp at i in
      record {
        second = last_block at save;
        sectors = replicate (links v) link ++ (first ++ save);
        ledger = pack (committed (last_block at save) v);
        buffer = buffer;
      }

  same-forbidden : (b : ℕ) (block : List ℕ) → forbidden_at d b block ≡ forbidden_at e b block
  same-forbidden b block = ap (λ (lower : Lower). is_table lower block b || anchor_tagged block b) (sym (below-same d e b (λ c h. same-content a c)))

  same_tests : (l : List ℕ) (c : Call) → tests d l c ≡ tests e l c
  unfolding tests
  same_tests l begin = λ i. same-basic (ledger_lent l) i ++ (test 6 (is_some (same-newest a i)) ∷ [])
  same_tests l mount = λ i. same-basic (ledger_lent l) i ++ (test 7 (not (is_some (same-newest a i))) ∷ [])
  same_tests l (write n block) = λ i.
      same-basic (block_lent l block) i
      ++ (same-gate l i
      ++ (number_tests (unpack l) n
      ++ (test 14 (ltb (same-blanks a i) (links (unpack l) + 1 + reserve (length (a.same-kinds i))))
      ∷ test 15 (same-forbidden (target (unpack l)) block i)
      ∷ [])))
  same_tests l (release n) = λ i. same-basic (ledger_lent l) i ++ (same-gate l i ++ (test 10 (not_in_use (unpack l) n) ∷ []))
  same_tests l close_packet = λ i. same-basic (ledger_lent l) i ++ same-gate l i
  same_tests l (commit stamp) = λ i.
      same-basic (stamp_lent l stamp) i ++ (same-gate l i ++ (test 16 (stamp_wrong stamp) ∷ same-room (unpack l) (ap length (same-sectors l (stamp_of stamp) (target (unpack l)))) i ∷ []))
  same_tests l (close_session main reserve start) = λ i.
      same-basic (ledger_lent l) i ++ (same-gate l i ++ (test 18 (ltb farthest_start start) ∷ same-room (unpack l) {m = closing_length + 1} refl i ∷ []))
  same_tests l (read n block) = λ i.
      same-basic (block_lent l block) i
      ++ (same-unfit l i
      ∷ test 10 (not_in_use (unpack l) n)
      ∷ test 11 (not (eqb (same_kind a (block_of (unpack l) n) i) 1))
      ∷ [])
  same_tests l (look_back k) = λ i. same-basic (ledger_lent l) i ++ same-walk k i
  same_tests l (time_of k answer) = λ i. same-basic (answer_lent l answer) i ++ (same-walk k i ++ (test 16 (not (valid (same-time a k i))) ∷ []))

  pub same_outcome : (l : List ℕ) (c : Call) → outcome d l c ≡ outcome e l c
  unfolding outcome
  same_outcome l c = ap first (same_tests l c)

  -- the map that a mount or a look back shows
  found_map : (l : List ℕ) → outcome d l mount ≡ 0 → map_at d (block_found (newest d)) ≡ map_at e (block_found (newest e))
  found_map l h =
      let b : ℕ = (mount-done d l h).1.0 in
      let n : newest d ≡ Some b = (mount-done d l h).1.1 in
      let table : table_at d (block_found (newest d)) ≡ true = ap (λ (o : Option ℕ). table_at d (block_found o)) n ∙ newest-table (table_at d) (recorded d) b n in
      same_map a (block_found (newest d)) table ∙ ap (λ (o : Option ℕ). map_at e (block_found o)) (same-newest a)

  reached-map : (l : List ℕ) (k : ℕ) → outcome d l (look_back k) ≡ 0 → map_at d (block_reached (walked d k)) ≡ map_at e (block_reached (walked e k))
  reached-map l k h =
      let b : ℕ = (look-back-done d l k h).1.0 in
      let n : walked d k ≡ Ok b = (look-back-done d l k h).1.1 in
      let table : table_at d (block_reached (walked d k)) ≡ true = ap (λ (w : Walk). table_at d (block_reached w)) n ∙ walked-table d k b n in
      same_map a (block_reached (walked d k)) table ∙ ap (λ (w : Walk). map_at e (block_reached w)) (same-walked a k)

  same_effect : (l : List ℕ) (c : Call) → outcome d l c ≡ 0 → effect d l c ≡ effect e l c
  unfolding effect
  same_effect l begin h = λ i. settles 0 (pack (begun (same-recorded a i)))
  same_effect l mount h = λ i.
      settles (clean_number (eqb (block_found (same-newest a i) + 1) (same-recorded a i)))
      (pack (filled (found_map l h i) (block_found (same-newest a i)) (same-recorded a i) idle))
  same_effect l (write n block) h = refl
  same_effect l (release n) h = refl
  same_effect l close_packet h = refl
  same_effect l (commit stamp) h = same-saved l [] (stamp_of stamp) (stamp_buffer stamp)
  same_effect l (close_session main reserve start) h =
      let v : Volume = unpack l in
      same-saved l (closing_first d v main reserve start) no_stamp []
      ∙ ap (λ (first : List Sector). saved e v (map_of v) v.last first no_stamp []) (same_first l main reserve start)
  same_effect l (read n block) h = λ i.
      record {
        second = 0;
        sectors = [];
        ledger = l;
        buffer = a.same-data (block_of (unpack l) n) (read_done d l n block h).data-kind i;
      }
  same_effect l (look_back k) h = λ i.
      settles (block_reached (same-walked a k i))
      (pack (filled (reached-map l k h i) (block_reached (same-walked a k i)) (same-recorded a i) read_only))
  same_effect l (time_of k answer) h = λ i. record { second = 0; sectors = []; ledger = l; buffer = told (same-time a k i) }

  -- what settles a call: its outcome, and if it is done its effect
  settled-alike : (l : List ℕ) (c : Call) (o : ℕ) → outcome d l c ≡ o
      → Alike (settled d l (buffer_of c) o (effect d l c)).disc (settled e l (buffer_of c) o (effect e l c)).disc
  settled-alike l c zero z =
      subst₂ (λ (r : ℕ) (f : Effect). Alike (puts d (recorded d) (effect d l c).sectors) (puts e r f.sectors)) (same-recorded a) (same_effect l c z)
      (alike-puts (effect d l c).sectors (effect-whole d l c z) a (recorded d))
  settled-alike l c (suc n) z = a

  module _ (l : List ℕ) (c : Call) where
    same_if : {A : Type 0} (f g : ℕ → Effect → A) → ((x : Effect) → f 0 x ≡ g 0 x) → ((n : ℕ) (x y : Effect) → f (suc n) x ≡ g (suc n) y)
        → f (outcome d l c) (effect d l c) ≡ g (outcome e l c) (effect e l c)
    same_if {A} f g done refused = go (outcome d l c) refl ∙ ap (λ (o : ℕ). g o (effect e l c)) (same_outcome l c)
      where
        go : (o : ℕ) → outcome d l c ≡ o → f o (effect d l c) ≡ g o (effect e l c)
        go zero z = ap (f 0) (same_effect l c z) ∙ done (effect e l c)
        go (suc n) z = refused n (effect d l c) (effect e l c)

    pub same-call : SameCall d e l c
    unfolding after second_number sectors_of
    same-call =
        record {
          same_outcome = same_outcome l c;
          same_second = same_if (λ o x. if_done o x.second) (λ o x. if_done o x.second) (λ x. refl) (λ n x y. refl);
          same-sectors = same_if (λ o x. sectors_if o x.sectors) (λ o x. sectors_if o x.sectors) (λ x. refl) (λ n x y. refl);
          same_answer = same_if (λ o x. (settled d l (buffer_of c) o x).answer) (λ o x. (settled e l (buffer_of c) o x).answer) (λ x. refl) (λ n x y. refl);
          same-ledger = same_if (λ o x. (settled d l (buffer_of c) o x).ledger) (λ o x. (settled e l (buffer_of c) o x).ledger) (λ x. refl) (λ n x y. refl);
          same-buffer = same_if (λ o x. (settled d l (buffer_of c) o x).buffer) (λ o x. (settled e l (buffer_of c) o x).buffer) (λ x. refl) (λ n x y. refl);
          alike-discs =
              subst (λ (o : ℕ). Alike (settled d l (buffer_of c) (outcome d l c) (effect d l c)).disc (settled e l (buffer_of c) o (effect e l c)).disc) (same_outcome l c)
              (settled-alike l c (outcome d l c) refl);
        }
