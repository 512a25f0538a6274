-- What is recorded stays, and the ledger counts it, proved.
--     write-once        no event alters a recorded sector; `untouched-more`, `untouched-content`: it is recorded and reads as before
--     recorded-same     the ledger's recorded is the disc's, after each call that is done and whatever follows
-- Assumes nothing.
use Prim.Native.Nat.{ℕ, zero, suc, ◌+◌, ◌*◌, ◌≤◌, ◌<◌}
use native.Mathlib.Nat.{not-suc-le-zero, le_of_suc-le-suc, le_refl, add-zero}
use native.Mathlib.Numerals.{add-one}
use native.Mathlib.Omega.{arith}
use mathlib.Core.Path.{◌≡◌, refl, sym, ap, ap₂, ◌∙◌, subst}
use mathlib.Core.Bool.{Bool, true, false, not}
use mathlib.Core.List.{List, [], ◌∷◌, ◌++◌}
use Rattle.std.specs.Prelude.{Option, None, Some}
use lib.Dec.{eqb, ltb, lit<}
use lib.ListN.{length, get_or, take, drop, replicate, length-append, length-replicate, length-take, length-set}
use lib.Seq.{take-append-le, take-take, take-set-le, get_or-take}
use borrow.Author.Tests.{le-ltb}
use Rattle.vat.specs.Table.{sector_length, limit, unused}
use Rattle.vat.specs.Sector.{no_stamp, table_bytes}
use Rattle.disc.specs.Disc.{Disc, sized, counted, leading, recorded, in_order, blanks, kind_at, sector_at, readable, content, Sector, link, plain, torn, stored, put, puts}
use Rattle.disc.specs.Tables.{Walk}
use Rattle.disc.specs.Tables.{table_at, newest, block_found}
use Rattle.disc.specs.Again.{fresh_of}
use Rattle.disc.specs.Save.{save_sectors, last_block}
use Rattle.disc.proofs.Recording.{Sound, Recorded, put-recorded, sized-tells, leading_le, AllWhole, whole_append}
use Rattle.disc.proofs.Found.{newest-table}
use Rattle.disc.proofs.Save.{save-count, sectors-whole}
use Rattle.volume.specs.declared.Volume.{Volume}
use Rattle.volume.specs.Volume.{idle, read_only, unpack, pack, map_of, begun, filled, entries_with, wrote, released, closed, committed}
use Rattle.volume.proofs.State.{recorded-kept, proper-begun, long-unpack}
use Rattle.recorder.specs.Calls.{Call, begin, mount, write, release, close_packet, commit, close_session, read, look_back, time_of, stamp_buffer, buffer_of, only_tells, stamp_of}
use Rattle.recorder.specs.Refusals.{Test, test, first, basic, gate, links, target, ledger_lent, block_lent, stamp_lent, answer_lent, write_tests, commit_tests, closing_tests, not_in_use, numbered_tests, is_some, walk_tests, time_wrong, tests, outcome}
use Rattle.recorder.specs.Effects.{Effect, block_reached, saved, closing_first, effect, settled, after, sectors_if, sectors_of, shown_at}
use Rattle.recorder.proofs.Done.{stop, Fits, mount-done, write_done, release-done, close-done, SaveDone, commit-done, closing-done, read_done, begin-done, look-back-done}
use Rattle.recorder.proofs.Answers.{walked-table}
use Rattle.recorder.proofs.Sectors.{links-whole, behind, length-behind, behind-whole}
use Rattle.history.specs.Events.{World, Event, calls, cuts, ledger_held, torn_at, cut_disc, next, runs, after_call}
use Rattle.history.specs.Recorded.{Untouched, WriteOnce, RecordedSame}
use Rattle.history.proofs.Log.{none-some, some_same}
use Rattle.history.proofs.Steps.{refused-next, refused-records-none, records-nothing, proper-table}
use Rattle.history.proofs.Theorem.{started}

-- ---- what lies before a place stays

stored-first : (n : ℕ) (image : List ℕ) (at : ℕ) (s : List ℕ) → n ≤ at → n ≤ length image → take n (stored image at s) ≡ take n image
unfolding stored
stored-first n image at s low long =
    take-append-le n (take at image) (s ++ drop (at + length s) image) (omega (arith, length-take at image)) ∙ take-take n at image low

stored-long : (n : ℕ) (image : List ℕ) (at : ℕ) (s : List ℕ) → n ≤ at → n ≤ length image → n ≤ length (stored image at s)
unfolding stored
stored-long n image at s low long = omega (arith, length-append (take at image) (s ++ drop (at + length s) image), length-take at image)

-- the first r sectors of a disc stand as they stood, and within the image
record Keeps (r : ℕ) (d d' : Disc) : Type 0 where
  long : sector_length * r ≤ length d'.image
  kinds : take r d'.kinds ≡ take r d.kinds
  bytes : take (sector_length * r) d'.image ≡ take (sector_length * r) d.image

module _ (r : ℕ) where
  keeps_on : {d e f : Disc} → Keeps r d e → Keeps r e f → Keeps r d f
  keeps_on p q = record { long = q.long; kinds = q.kinds ∙ p.kinds; bytes = q.bytes ∙ p.bytes }

  put_keeps : (d : Disc) (b : ℕ) (s : Sector) → r ≤ b → sector_length * r ≤ length d.image → Keeps r d (put d b s)
  put_keeps d b link low long = record { long = long; kinds = take-set-le r d.kinds b 2 low; bytes = refl }
  put_keeps d b (plain s) low long =
      record {
        long = stored-long (sector_length * r) d.image (sector_length * b) s (omega arith) long;
        kinds = take-set-le r d.kinds b 1 low;
        bytes = stored-first (sector_length * r) d.image (sector_length * b) s (omega arith) long;
      }
  put_keeps d b (torn s) low long =
      record {
        long = stored-long (sector_length * r) d.image (sector_length * b) s (omega arith) long;
        kinds = take-set-le r d.kinds b 3 low;
        bytes = stored-first (sector_length * r) d.image (sector_length * b) s (omega arith) long;
      }

  puts-keeps : (ss : List Sector) (d : Disc) (b : ℕ) → r ≤ b → sector_length * r ≤ length d.image → Keeps r d (puts d b ss)
  unfolding puts
  puts-keeps [] d b low long = record { long = long; kinds = refl; bytes = refl }
  puts-keeps (s ∷ ss) d b low long =
      let p : Keeps r d (put d b s) = put_keeps d b s low long in
      keeps_on p (puts-keeps ss (put d b s) (b + 1) (omega arith) p.long)

  torn-keeps : (t : Bool) (tear : Option (List ℕ)) (d : Disc) (b : ℕ) → r ≤ b → sector_length * r ≤ length d.image → Keeps r d (torn_at t tear b d)
  torn-keeps true (Some s) d b low long = put_keeps d b (torn s) low long
  torn-keeps true None d b low long = record { long = long; kinds = refl; bytes = refl }
  torn-keeps false tear d b low long = record { long = long; kinds = refl; bytes = refl }

-- ---- one event

-- a disc of another size gives 1 to every call, so nothing is recorded
module _ (d : Disc) (l : List ℕ) (wrong : sized d ≡ false) where
  at_once : (lengths : Bool) (rest : List Test) → first (basic d lengths ++ rest) ≡ 1
  at_once lengths rest = stop 1 (not (sized d)) (test 2 (not lengths) ∷ test 3 (not (in_order d.kinds)) ∷ rest) (ap not wrong)

  refused-at-once : (c : Call) → outcome d l c ≡ 1
  unfolding outcome tests
  refused-at-once begin = at_once (ledger_lent l) (test 6 (is_some (newest d)) ∷ [])
  refused-at-once mount = at_once (ledger_lent l) (test 7 (not (is_some (newest d))) ∷ [])
  refused-at-once (write n block) = at_once (block_lent l block) (gate d l ++ write_tests d (unpack l) n block)
  refused-at-once (release n) = at_once (ledger_lent l) (gate d l ++ (test 10 (not_in_use (unpack l) n) ∷ []))
  refused-at-once close_packet = at_once (ledger_lent l) (gate d l)
  refused-at-once (commit stamp) = at_once (stamp_lent l stamp) (gate d l ++ commit_tests d (unpack l) stamp)
  refused-at-once (close_session main reserve start) = at_once (ledger_lent l) (gate d l ++ closing_tests d (unpack l) start)
  refused-at-once (read n block) = at_once (block_lent l block) (numbered_tests d l n)
  refused-at-once (look_back k) = at_once (ledger_lent l) (walk_tests d k)
  refused-at-once (time_of k answer) = at_once (answer_lent l answer) (walk_tests d k ++ (time_wrong d k ∷ []))

-- a call leaves the disc with its sectors
pub after-disc : (d : Disc) (l : List ℕ) (c : Call) → (after d l c).disc ≡ puts d (recorded d) (sectors_of d l c)
unfolding after sectors_of puts
after-disc d l c = go (outcome d l c)
  where
    go : (n : ℕ) → (settled d l (buffer_of c) n (effect d l c)).disc ≡ puts d (recorded d) (sectors_if n (effect d l c).sectors)
    go zero = refl
    go (suc n) = refl

pub cut-nothing : (d : Disc) (j : ℕ) (tear : Option (List ℕ)) → cut_disc d [] j tear ≡ d
unfolding cut_disc puts
cut-nothing d j tear = rw (le-ltb j 0 (omega arith)) (ap (puts d (recorded d)) (none-taken j))
  where
    none-taken : (j : ℕ) → take {A = Sector} j [] ≡ []
    none-taken zero = refl
    none-taken (suc j) = refl

untouched : {d d' : Disc} → Keeps (recorded d) d d' → Untouched d d'
untouched k = record { kinds = k.kinds; bytes = k.bytes }

untouched-same : (d : Disc) → Untouched d d
untouched-same d = record { kinds = refl; bytes = refl }

-- what a call records, all of it or cut
module _ (d : Disc) (l : List ℕ) (c : Call) where
  within : sized d ≡ true → sector_length * recorded d ≤ length d.image
  within s = omega (arith, (sized-tells d s).whole, leading_le d.kinds)

  call-untouched : (t : Bool) → sized d ≡ t → Untouched d (after d l c).disc
  unfolding puts
  call-untouched true s =
      subst (λ (x : Disc). Untouched d x) (sym (after-disc d l c)) (untouched (puts-keeps (recorded d) (sectors_of d l c) d (recorded d) (le_refl (recorded d)) (within s)))
  call-untouched false s =
      subst (λ (x : Disc). Untouched d x) (sym (after-disc d l c ∙ ap (puts d (recorded d)) (refused-records-none d l c 0 (refused-at-once d l s c)))) (untouched-same d)

  cut-untouched : (j : ℕ) (tear : Option (List ℕ)) (t : Bool) → sized d ≡ t → Untouched d (cut_disc d (sectors_of d l c) j tear)
  unfolding cut_disc
  cut-untouched j tear true s =
      let r : ℕ = recorded d in
      let ss : List Sector = sectors_of d l c in
      let p : Keeps r d (puts d r (take j ss)) = puts-keeps r (take j ss) d r (le_refl r) (within s) in
      untouched (keeps_on r p (torn-keeps r (ltb j (length ss)) tear (puts d r (take j ss)) (r + j) (omega arith) p.long))
  cut-untouched j tear false s =
      subst (λ (x : Disc). Untouched d x) (sym (ap (λ (ss : List Sector). cut_disc d ss j tear) (refused-records-none d l c 0 (refused-at-once d l s c)) ∙ cut-nothing d j tear))
      (untouched-same d)

event-untouched : (w : World) (e : Event) → Untouched w.disc (next w e).disc
unfolding next
event-untouched w (calls c junk) = call-untouched w.disc (ledger_held w.ledger junk) c (sized w.disc) refl
event-untouched w (cuts c junk j tear) = cut-untouched w.disc (ledger_held w.ledger junk) c j tear (sized w.disc) refl

-- ---- one after another

-- sectors that stand are still recorded
leading-kept : (r : ℕ) (ks ks' : List ℕ) → r ≤ leading ks → take r ks' ≡ take r ks → r ≤ leading ks'
unfolding leading
leading-kept zero ks ks' h e = omega arith
leading-kept (suc r) [] ks' h e = absurd (not-suc-le-zero h)
leading-kept (suc r) (k ∷ ks) [] h e = absurd (let z : ◌≡◌ {A = ℕ} 0 1 = ap shape e in omega arith)
  where
    shape : List ℕ → ℕ
    shape [] = 0
    shape (x ∷ xs) = 1
leading-kept (suc r) (k ∷ ks) (k' ∷ ks') h e = go (eqb k 0) refl h (λ low. leading-kept r ks ks' low (ap (drop 1) e))
  where
    same : k' ≡ k
    same = ap (λ (xs : List ℕ). get_or xs 0 0) e

    go : (t : Bool) → eqb k 0 ≡ t → suc r ≤ counted t (leading ks) → (r ≤ leading ks → r ≤ leading ks') → suc r ≤ counted (eqb k' 0) (leading ks')
    go true z low ih = absurd (not-suc-le-zero low)
    go false z low ih =
        let further : r ≤ leading ks' = ih (le_of_suc-le-suc low) in
        subst (λ (t : Bool). suc r ≤ counted t (leading ks')) (sym (ap (λ (x : ℕ). eqb x 0) same ∙ z)) (omega arith)

pub untouched-more : {d e : Disc} → Untouched d e → recorded d ≤ recorded e
untouched-more {d} {e} p = leading-kept (recorded d) d.kinds e.kinds (le_refl (recorded d)) p.kinds

-- a part of the first m
first_part : (n k m : ℕ) (xs : List ℕ) → n + k ≤ m → take k (drop n (take m xs)) ≡ take k (drop n xs)
first_part zero k m xs h = take-take k m xs (omega arith)
first_part (suc n) k zero xs h = absurd (omega arith)
first_part (suc n) k (suc m) [] h = refl
first_part (suc n) k (suc m) (x ∷ xs) h = first_part n k m xs (omega arith)

-- each sector reads what it read
pub untouched-content : {d e : Disc} → Untouched d e → (b : ℕ) → b < recorded d → content e b ≡ content d b
unfolding content sector_at
untouched-content {d} {e} p b h =
    let r : ℕ = recorded d in
    let at : ℕ = sector_length * b in
    let all : ℕ = sector_length * r in
    let kind : kind_at e b ≡ kind_at d b = sym (get_or-take r e.kinds b 0 h) ∙ ap (λ (ks : List ℕ). get_or ks b 0) p.kinds ∙ get_or-take r d.kinds b 0 h in
    let bytes : take sector_length (drop at e.image) ≡ take sector_length (drop at d.image) =
    sym (first_part at sector_length all e.image (omega arith)) ∙ ap (λ (xs : List ℕ). take sector_length (drop at xs)) p.bytes ∙ first_part at sector_length all d.image (omega arith) in
    ap₂ (λ (k : ℕ) (s : List ℕ). readable (eqb k 1) s) kind bytes

untouched-on : {d e f : Disc} → Untouched d e → Untouched e f → Untouched d f
untouched-on {d} {e} {f} p q =
    let r : ℕ = recorded d in
    let s : ℕ = recorded e in
    let more : r ≤ s = untouched-more p in
    record {
      kinds = sym (take-take r s f.kinds more) ∙ ap (take r) q.kinds ∙ take-take r s e.kinds more ∙ p.kinds;
      bytes =
          let further : sector_length * r ≤ sector_length * s = omega arith in
          sym (take-take (sector_length * r) (sector_length * s) f.image further)
          ∙ ap (take (sector_length * r)) q.bytes
          ∙ take-take (sector_length * r) (sector_length * s) e.image further
          ∙ p.bytes;
    }

pub write-once : WriteOnce
unfolding runs
write-once w [] = untouched-same w.disc
write-once w (e ∷ es) = untouched-on (event-untouched w e) (write-once (next w e) es)

-- ---- what a call that is done has recorded

-- a save of the working state
abbrev saved_by : Disc → List ℕ → List Sector → List ℕ → List ℕ → Effect
saved_by d l first stamp buffer = saved d (unpack l) (map_of (unpack l)) (unpack l).last first stamp buffer

-- every sector of a save fills its block
save-whole : (d : Disc) (l : List ℕ) (first : List Sector) (stamp buffer : List ℕ) → SaveDone d l first stamp → AllWhole (saved_by d l first stamp buffer).sectors
save-whole d l first stamp buffer f =
    let v : Volume = unpack l in
    let t : List ℕ = table_bytes (map_of v) v.last in
    let b : ℕ = target v + length first in
    let save : List Sector = save_sectors d t v.last stamp b in
    whole_append (replicate (links v) link) (first ++ save) (links-whole (links v)) (whole_append first save f.whole (sectors-whole d t v.last stamp b))

pub effect-whole : (d : Disc) (l : List ℕ) (c : Call) → outcome d l c ≡ 0 → AllWhole (effect d l c).sectors
unfolding effect
effect-whole d l begin e = tt
effect-whole d l mount e = tt
effect-whole d l (write n block) e = behind-whole (replicate (links (unpack l)) link) block (links-whole (links (unpack l))) (write_done d l n block e).block-long
effect-whole d l (release n) e = tt
effect-whole d l close_packet e = tt
effect-whole d l (commit stamp) e = save-whole d l [] (stamp_of stamp) (stamp_buffer stamp) (commit-done d l stamp e).saving
effect-whole d l (close_session main reserve start) e =
    save-whole d l (closing_first d (unpack l) main reserve start) no_stamp [] (closing-done d l main reserve start e).saving
effect-whole d l (read n block) e = tt
effect-whole d l (look_back k) e = tt
effect-whole d l (time_of k answer) e = tt

puts-counted : (ss : List Sector) (d : Disc) → Sound d → recorded d + length ss ≤ length d.kinds → AllWhole ss → recorded (puts d (recorded d) ss) ≡ recorded d + length ss
unfolding puts
puts-counted [] d ok room w = sym (add-zero (recorded d))
puts-counted (s ∷ ss) d ok room w =
    let here : recorded d < length d.kinds = omega arith in
    let d₁ : Disc = put d (recorded d) s in
    let r : Recorded d d₁ s = put-recorded d ok here s w.0 in
    let next-block : recorded d + 1 ≡ recorded d₁ = add-one (recorded d) ∙ sym r.one_more in
    ap (λ (b : ℕ). recorded (puts d₁ b ss)) next-block
    ∙ puts-counted ss d₁ r.still-sound (omega (arith, r.one_more, r.same_length)) w.1
    ∙ omega (arith, r.one_more)

few-recorded : (d : Disc) → Sound d → recorded d < 4294967296
few-recorded d ok = omega (arith, leading_le d.kinds, ok.few)

long-with : (n : Option ℕ) (b : ℕ) (l : List ℕ) → length (entries_with n b (unpack l).entries) ≡ limit
long-with None b l = long-unpack l
long-with (Some n) b l = length-set (unpack l).entries n b ∙ long-unpack l

-- ---- the ledger that it leaves counts that

behind-recorded : (d : Disc) → Sound d → (ss : List Sector) (s : List ℕ) (n : ℕ) → length ss ≡ n → AllWhole (behind ss s) → n + 1 ≤ blanks d
    → recorded (puts d (recorded d) (behind ss s)) ≡ recorded d + n + 1
behind-recorded d ok ss s n long w room =
    let count : length (behind ss s) ≡ n + 1 = length-behind ss s ∙ ap (λ (k : ℕ). k + 1) long in
    puts-counted (behind ss s) d ok (omega (arith, count, leading_le d.kinds)) w ∙ omega (arith, count)

save-left : (d : Disc) (l : List ℕ) (first : List Sector) (stamp buffer : List ℕ) → SaveDone d l first stamp
    → (unpack (saved_by d l first stamp buffer).ledger).recorded ≡ recorded (puts d (recorded d) (saved_by d l first stamp buffer).sectors)
unfolding committed
save-left d l first stamp buffer f =
    let v : Volume = unpack l in
    let t : List ℕ = table_bytes (map_of v) v.last in
    let at : ℕ = target v + length first in
    let save : List Sector = save_sectors d t v.last stamp at in
    let b : ℕ = last_block at save in
    let all : List Sector = replicate (links v) link ++ (first ++ save) in
    let some-there : length save ≡ length (fresh_of d t v.last) + 1 = save-count d t v.last stamp at in
    let long : length all ≡ links v + (length first + length save) =
    length-append (replicate (links v) link) (first ++ save) ∙ ap₂ ◌+◌ (length-replicate (links v) link) (length-append first save) in
    recorded-kept (committed b v) (long-unpack l) (omega (arith, f.room, some-there, f.fit.same-recorded, f.sound-disc.few, leading_le d.kinds))
    ∙ omega (arith, f.fit.same-recorded, some-there, long)
    ∙ sym (puts-counted all d f.sound-disc (omega (arith, f.room, long, leading_le d.kinds)) (save-whole d l first stamp buffer f))

write-left : (d : Disc) (l : List ℕ) (n : Option ℕ) (block : List ℕ) → outcome d l (write n block) ≡ 0
    → (unpack (pack (wrote n (target (unpack l)) (unpack l)))).recorded ≡ recorded (puts d (recorded d) (behind (replicate (links (unpack l)) link) block))
unfolding wrote
write-left d l n block e =
    let v : Volume = unpack l in
    let f = write_done d l n block e in
    recorded-kept (wrote n (target v) v) (long-with n (target v) l) (omega (arith, f.room, f.fit.same-recorded, f.sound-disc.few, leading_le d.kinds))
    ∙ omega (arith, f.fit.same-recorded)
    ∙ sym (behind-recorded d f.sound-disc (replicate (links v) link) block (links v) (length-replicate (links v) link)
    (behind-whole (replicate (links v) link) block (links-whole (links v)) f.block-long) (omega (arith, f.room)))

filled-left : (d : Disc) → Sound d → (b mode : ℕ) → mode < 4294967296 → table_at d b ≡ true → (unpack (pack (shown_at d b mode))).recorded ≡ recorded d
unfolding filled
filled-left d ok b mode word e = recorded-kept (shown_at d b mode) (proper-table d ok b mode word e).long (few-recorded d ok)

-- a state that is changed without recording
working-left : (d : Disc) (l : List ℕ) (v : Volume) → Sound d → Fits d (unpack l) → length v.entries ≡ limit → v.recorded ≡ (unpack l).recorded → (unpack (pack v)).recorded ≡ recorded d
working-left d l v ok f long same = recorded-kept v long (omega (arith, same, f.same-recorded, few-recorded d ok)) ∙ same ∙ f.same-recorded

effect-left : (d : Disc) (l : List ℕ) (c : Call) → outcome d l c ≡ 0 → only_tells c ≡ false → (unpack (effect d l c).ledger).recorded ≡ recorded (puts d (recorded d) (effect d l c).sectors)
unfolding effect puts begun released closed
effect-left d l begin e t =
    let ok : Sound d = (begin-done d l e).0 in
    recorded-kept (begun (recorded d)) (proper-begun (recorded d) (few-recorded d ok)).long (few-recorded d ok)
effect-left d l mount e t =
    let f = mount-done d l e in
    let b : ℕ = f.1.0 in
    subst (λ (o : Option ℕ). (unpack (pack (shown_at d (block_found o) idle))).recorded ≡ recorded d) (sym f.1.1)
    (filled-left d f.0 b idle (lit< tt) (newest-table (table_at d) (recorded d) b f.1.1))
effect-left d l (write n block) e t = write-left d l n block e
effect-left d l (release n) e t =
    let f = release-done d l n e in
    working-left d l (released n (unpack l)) f.0 f.1.fit (length-set (unpack l).entries n unused ∙ long-unpack l) refl
effect-left d l close_packet e t = let f = close-done d l e in working-left d l (closed (unpack l)) f.0 f.1.fit (long-unpack l) refl
effect-left d l (commit stamp) e t = save-left d l [] (stamp_of stamp) (stamp_buffer stamp) (commit-done d l stamp e).saving
effect-left d l (close_session main reserve start) e t =
    save-left d l (closing_first d (unpack l) main reserve start) no_stamp [] (closing-done d l main reserve start e).saving
effect-left d l (read n block) e t = (read_done d l n block e).fit.same-recorded
effect-left d l (look_back k) e t =
    let f = look-back-done d l k e in
    let b : ℕ = f.1.0 in
    subst (λ (w : Walk). (unpack (pack (shown_at d (block_reached w) read_only))).recorded ≡ recorded d) (sym f.1.1)
    (filled-left d f.0 b read_only (lit< tt) (walked-table d k b f.1.1))
effect-left d l (time_of k answer) e t = absurd (mathlib.Core.Bool.true≢false t)

-- ---- and so it is after any events

abbrev Counts : World → Type 0
Counts w = (m : List ℕ) → w.ledger ≡ Some m → (unpack m).recorded ≡ recorded w.disc

done-counts : (d : Disc) (l : List ℕ) (c : Call) → outcome d l c ≡ 0 → only_tells c ≡ false → Counts (after_call d l c)
unfolding after
done-counts d l c e t m here =
    subst (λ (x : List ℕ). (unpack x).recorded ≡ recorded (after d l c).disc) (some_same (after d l c).ledger m here) (rw e (effect-left d l c e t))

settled-counts : (w : World) (c : Call) (junk : List ℕ) → only_tells c ≡ false → Counts w → Counts (next w (calls c junk))
settled-counts w c junk t k = go (outcome w.disc (ledger_held w.ledger junk) c) refl
  where
    go : (n : ℕ) → outcome w.disc (ledger_held w.ledger junk) c ≡ n → Counts (next w (calls c junk))
    go zero e = subst Counts (sym (started w junk c t e)) (done-counts w.disc (ledger_held w.ledger junk) c e t)
    go (suc n) e = subst Counts (sym (refused-next w c junk n e)) k

time-counts : (w : World) (n : ℕ) (answer junk : List ℕ) → Counts w → Counts (next w (calls (time_of n answer) junk))
unfolding next puts
time-counts w n answer junk k m here =
    let l : List ℕ = ledger_held w.ledger junk in
    k m here ∙ sym (ap recorded (after-disc w.disc l (time_of n answer) ∙ ap (puts w.disc (recorded w.disc)) (records-nothing w.disc l (time_of n answer) tt)))

event-counts : (w : World) (e : Event) → Counts w → Counts (next w e)
unfolding next
event-counts w (calls begin junk) k = settled-counts w begin junk refl k
event-counts w (calls mount junk) k = settled-counts w mount junk refl k
event-counts w (calls (write n block) junk) k = settled-counts w (write n block) junk refl k
event-counts w (calls (release n) junk) k = settled-counts w (release n) junk refl k
event-counts w (calls close_packet junk) k = settled-counts w close_packet junk refl k
event-counts w (calls (commit stamp) junk) k = settled-counts w (commit stamp) junk refl k
event-counts w (calls (close_session main reserve start) junk) k = settled-counts w (close_session main reserve start) junk refl k
event-counts w (calls (read n block) junk) k = settled-counts w (read n block) junk refl k
event-counts w (calls (look_back n) junk) k = settled-counts w (look_back n) junk refl k
event-counts w (calls (time_of n answer) junk) k = time-counts w n answer junk k
event-counts w (cuts c junk j tear) k = λ m here. absurd (none-some m here)

all-count : (es : List Event) (w : World) → Counts w → Counts (runs w es)
unfolding runs
all-count [] w k = k
all-count (e ∷ es) w k = all-count es (next w e) (event-counts w e k)

pub recorded-same : RecordedSame
recorded-same d l c e t es = all-count es (after_call d l c) (done-counts d l c e t)
