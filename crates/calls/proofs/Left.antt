-- What a call leaves, from its outcome: every byte as it was, or what its definition says, part by part.
-- Assumes nothing.
use Prim.Native.Nat.{ℕ, zero, suc, ◌+◌, ◌-◌, ◌*◌, ◌≤◌, ◌<◌}
use native.Mathlib.Omega.{arith}
use mathlib.Core.Path.{◌≡◌, refl, sym, ap, ap₂, ◌∙◌, subst}
use mathlib.Core.Bool.{Bool, true, false, ◌||◌}
use mathlib.Core.List.{List, [], ◌∷◌, ◌++◌, append_assoc}
use Rattle.std.specs.Prelude.{Option, Some}
use lib.Dec.{eqb}
use lib.ListN.{length, set, replicate, length-append, length-replicate}
use Rattle.timestamp.specs.Timestamp.{stamp_length, told}
use Rattle.vat.specs.Table.{sector_length, limit, unused, tag_version}
use Rattle.vat.specs.Sector.{no_stamp, table_bytes, icb}
use Rattle.extent.specs.declared.Extent.{Extent}
use Rattle.anchor.specs.Anchor.{farthest_start, anchor}
use Rattle.disc.specs.Tables.{Walk}
use Rattle.std.specs.Prelude.{Ok}
use Rattle.disc.specs.Disc.{Disc, lent, most_sectors, sized, in_order, Sector, link, plain, recorded, sector_at, stored, put, puts}
use Rattle.disc.specs.Tables.{table_at, time_at, block_found, newest}
use Rattle.disc.specs.Session.{zero_sectors, zero_sector, closing, closing_length}
use Rattle.disc.specs.Again.{own_blocks, again_of, fresh_of, plains}
use Rattle.disc.specs.Save.{icb_of, save_sectors, last_block}
use Rattle.disc.proofs.Recording.{Sound, sound, sound-sized, sound-order, leading_le, AllWhole, whole_append, puts-append, puts-links, stored-part}
use Rattle.disc.proofs.Told.{table_same}
use Rattle.disc.proofs.Found.{table-recorded, table-within}
use Rattle.disc.proofs.Growing.{Grew, puts-grew}
use Rattle.disc.proofs.Save.{own_recorded, own-count, save-ends, save-count, grown-save}
use Rattle.vat.proofs.Theorems.{few-own, limit-held, icb-long}
use Rattle.anchor.proofs.Theorems.{length-anchor}
use Rattle.volume.proofs.Fit.{entries_below}
use Rattle.volume.proofs.Standing.{entries-committed}
use Rattle.volume.specs.declared.Volume.{Volume}
use Rattle.volume.specs.Volume.{ledger_length, idle, read_only, unpack, pack, map_of, begun, wrote, released, closed, committed}
use Rattle.recorder.specs.Calls.{Call, begin, mount, write, release, close_packet, commit, close_session, read, look_back, time_of, stamp_buffer, buffer_of, stamp_of}
use Rattle.recorder.specs.Refusals.{links, target, block_of, walked, time_reached, outcome}
use Rattle.recorder.specs.Effects.{Effect, effect, block_reached, clean_number, saved, closing_first, After, left, settled, after, shown_at}
use Rattle.recorder.proofs.Sectors.{links-whole, closing-whole, length-closing, own-few}
use Rattle.recorder.proofs.Done.{ledger-accepted, WriteDone, write_done, SaveDone, commit-done, ClosingDone, closing-done}

-- equal parts leave the same
same_after : {a a' : ℕ} {x x' : Disc} {l l' b : List ℕ} → a ≡ a' → x ≡ x' → l ≡ l'
    → ◌≡◌ {A = After} (record { answer = a; disc = x; ledger = l; buffer = b }) (record { answer = a'; disc = x'; ledger = l'; buffer = b })
same_after p q r = cc

-- the pointer, then the zero sectors
puts_first : (d : Disc) (b : ℕ) (s : Sector) (ss : List Sector) → puts (put d b s) (b + 1) ss ≡ puts d b (s ∷ ss)
unfolding puts
puts_first d b s ss = refl

pub closing-puts : (main reserved : Extent) (start b own : ℕ) (d : Disc)
    → puts (put d b (plain (anchor tag_version main reserved (start + b)))) (b + 1) (replicate (zero_sectors - own) zero_sector) ≡ puts d b (closing main reserved start b own)
unfolding closing
closing-puts main reserved start b own d = puts_first d b (plain (anchor tag_version main reserved (start + b))) (replicate (zero_sectors - own) zero_sector)

-- the table's own sectors, and the ICB behind them
module _ (d : Disc) (t : List ℕ) (previous : ℕ) (stamp : List ℕ) (b : ℕ) where
  pub icb-behind : (x : Disc) (at : ℕ) (blocks : List ℕ) → x ≡ puts d b (plains (fresh_of d t previous)) → at ≡ b + length (fresh_of d t previous) → blocks ≡ own_blocks (again_of d t previous) b
      → put x at (plain (icb t blocks stamp at)) ≡ puts d b (save_sectors d t previous stamp b)
  unfolding puts icb_of
  icb-behind x at blocks e behind own =
      let first : List Sector = own_recorded d t previous in
      let last : List ℕ = icb_of d t previous stamp b in
      ap₂ (λ (y : Disc) (bs : List ℕ). put y at (plain (icb t bs stamp at))) e own
      ∙ ap (λ (n : ℕ). put (puts d b first) n (plain (icb t (own_blocks (again_of d t previous) b) stamp n))) behind
      ∙ ap (λ (n : ℕ). put (puts d b first) (b + n) (plain last)) (sym (own-count d t previous))
      ∙ sym (ap (puts d b) (save-ends d t previous stamp b) ∙ puts-append first (plain last ∷ []) d b)

module _ (d : Disc) (l : List ℕ) where
  -- a refusal
  pub refused-left : (c : Call) (n : ℕ) → n ≡ outcome d l c → (n ≡ 0 → ⊥) → left (n * 4294967296) d.image d.kinds l (buffer_of c) ≡ after d l c
  unfolding after
  refused-left c zero e h = absurd (h refl)
  refused-left c (suc n) e h = ap (λ (k : ℕ). settled d l (buffer_of c) k (effect d l c)) e

  -- a call that is done
  done-left : (c : Call) → outcome d l c ≡ 0 → settled d l (buffer_of c) 0 (effect d l c) ≡ after d l c
  unfolding after
  done-left c z = ap (λ (k : ℕ). settled d l (buffer_of c) k (effect d l c)) (sym z)

  pub begin-left : outcome d l begin ≡ 0 → left 0 d.image d.kinds (pack (begun (recorded d))) [] ≡ after d l begin
  unfolding effect puts
  begin-left z = done-left begin z

  pub mount-left : (b : ℕ) → outcome d l mount ≡ 0 → newest d ≡ Some b
      → left (clean_number (eqb (b + 1) (recorded d))) d.image d.kinds (pack (shown_at d b idle)) [] ≡ after d l mount
  unfolding effect puts
  mount-left b z e =
      ap (λ (o : Option ℕ). left (clean_number (eqb (block_found o + 1) (recorded d))) d.image d.kinds (pack (shown_at d (block_found o) idle)) []) (sym e)
      ∙ done-left mount z

  pub look-back-left : (k b : ℕ) → outcome d l (look_back k) ≡ 0 → walked d k ≡ Ok b
      → left b d.image d.kinds (pack (shown_at d b read_only)) [] ≡ after d l (look_back k)
  unfolding effect puts
  look-back-left k b z e =
      ap (λ (w : Walk). left (block_reached w) d.image d.kinds (pack (shown_at d (block_reached w) read_only)) []) (sym e)
      ∙ done-left (look_back k) z

  pub release-left : (n : ℕ) → outcome d l (release n) ≡ 0 → left 0 d.image d.kinds (pack (released n (unpack l))) [] ≡ after d l (release n)
  unfolding effect puts
  release-left n z = done-left (release n) z

  pub close-left : outcome d l close_packet ≡ 0 → left 0 d.image d.kinds (pack (closed (unpack l))) [] ≡ after d l close_packet
  unfolding effect puts
  close-left z = done-left close_packet z

  pub read_left : (n : ℕ) (block : List ℕ) → outcome d l (read n block) ≡ 0
      → left 0 d.image d.kinds l (sector_at d (block_of (unpack l) n)) ≡ after d l (read n block)
  unfolding effect puts
  read_left n block z = done-left (read n block) z

  pub time-left : (k b : ℕ) (answer : List ℕ) → outcome d l (time_of k answer) ≡ 0 → walked d k ≡ Ok b
      → left 0 d.image d.kinds l (told (time_at d b)) ≡ after d l (time_of k answer)
  unfolding effect puts
  time-left k b answer z e =
      ap (λ (w : Walk). left 0 d.image d.kinds l (told (time_reached d w))) (sym e) ∙ done-left (time_of k answer) z

  -- the kinds with the links
  abbrev pub linked_kinds : List ℕ
  linked_kinds = (puts (lent [] d.kinds) (unpack l).recorded (replicate (links (unpack l)) link)).kinds

  -- links, then one data sector
  abbrev pub behind_links : List ℕ → List Sector
  behind_links s = replicate (links (unpack l)) link ++ (plain s ∷ [])

  -- what is recorded behind the links
  pub linked-puts : (first : List Sector) → puts d (unpack l).recorded (replicate (links (unpack l)) link ++ first) ≡ puts (lent d.image linked_kinds) (target (unpack l)) first
  linked-puts first =
      let k : ℕ = links (unpack l) in
      let r : ℕ = (unpack l).recorded in
      let place : r + length (replicate {A = Sector} k link) ≡ target (unpack l) = ap (λ (n : ℕ). r + n) (length-replicate k link) in
      puts-append (replicate k link) first d r ∙ ap₂ (λ (x : Disc) (n : ℕ). puts x n first) (puts-links k d.image d.kinds r) place

  pub recorded-block : (s : List ℕ)
      → lent (stored d.image (sector_length * target (unpack l)) s) (set linked_kinds (target (unpack l)) 1) ≡ puts d (unpack l).recorded (behind_links s)
  unfolding puts
  recorded-block s = sym (linked-puts (plain s ∷ []))

  -- what recording a write's block asks for, and a write that is done meets it
  abbrev pub Recordable : List ℕ → Type 0
  Recordable block =
      (length l ≡ ledger_length) × (length d.image ≡ sector_length * length d.kinds) × (target (unpack l) < length d.kinds) × (length d.kinds ≤ most_sectors) × (length block ≡ sector_length)

  pub write-records : (n : Option ℕ) (block : List ℕ) → outcome d l (write n block) ≡ 0 → Recordable block
  write-records n block z =
      let f : WriteDone d l n block = write_done d l n block z in (
        ledger-accepted d l (write n block) z,
        f.sound-disc.whole,
        omega (arith, f.room, f.fit.same-recorded, leading_le d.kinds),
        f.sound-disc.few,
        f.block-long,
      )

  pub write-left : (n : Option ℕ) (block : List ℕ) → outcome d l (write n block) ≡ 0 → {a : ℕ} {i k m : List ℕ}
      → a ≡ target (unpack l) → lent i k ≡ puts d (unpack l).recorded (behind_links block) → m ≡ pack (wrote n (target (unpack l)) (unpack l))
      → left a i k m block ≡ after d l (write n block)
  unfolding effect
  write-left n block z at disc ledger =
      same_after at (disc ∙ ap (λ (r : ℕ). puts d r (behind_links block)) (write_done d l n block z).fit.same-recorded) ledger
      ∙ done-left (write n block) z

  -- ---- saves

  -- a save of the working state, and its table's bytes
  abbrev pub saved_by : List Sector → List ℕ → List ℕ → Effect
  saved_by first stamp buffer = saved d (unpack l) (map_of (unpack l)) (unpack l).last first stamp buffer

  abbrev pub table_of : List ℕ
  table_of = table_bytes (map_of (unpack l)) (unpack l).last

  -- its sectors, behind what it puts first
  abbrev pub table_sectors : List Sector → List ℕ → List Sector
  table_sectors first stamp = save_sectors d table_of (unpack l).last stamp (target (unpack l) + length first)

  -- what a save answers and leaves, part by part
  abbrev pub Saved : List Sector → List ℕ → ℕ → List ℕ → List ℕ → List ℕ → Type 0
  Saved first stamp answer image kinds ledger =
      (answer ≡ (saved_by first stamp []).second)
      × (lent image kinds ≡ puts d (unpack l).recorded (saved_by first stamp []).sectors)
      × (ledger ≡ (saved_by first stamp []).ledger)

  -- what is known before a save
  pub record Ready (first : List Sector) (stamp : List ℕ) : Type 0 where
    pub sound-disc : Sound d
    pub same-recorded : (unpack l).recorded ≡ recorded d
    pub last-known : (eqb (unpack l).last unused || table_at d (unpack l).last) ≡ true
    pub whole : AllWhole first
    pub room : target (unpack l) + (length first + length (table_sectors first stamp)) ≤ length d.kinds

  -- the links and what a save puts first are recorded, as far as block b
  pub record Behind (first : List Sector) (stamp : List ℕ) (x : Disc) (b : ℕ) : Type 0 where
    pub ready : Ready first stamp
    pub disc : x ≡ puts (lent d.image linked_kinds) (target (unpack l)) first
    pub end : b ≡ target (unpack l) + length first

  -- then the disc is sound, and its table's sectors are the same
  module _ (first : List Sector) (stamp : List ℕ) (x : Disc) (b : ℕ) (k : Behind first stamp x b) where
    linked : List Sector
    linked = replicate (links (unpack l)) link

    ahead : x ≡ puts d (recorded d) (linked ++ first)
    unfolding linked
    ahead = k.disc ∙ sym (linked-puts first) ∙ ap (λ (n : ℕ). puts d n (replicate (links (unpack l)) link ++ first)) k.ready.same-recorded

    length-ahead : length (linked ++ first) ≡ links (unpack l) + length first
    unfolding linked
    length-ahead = length-append (replicate (links (unpack l)) link) first ∙ ap (λ (n : ℕ). n + length first) (length-replicate (links (unpack l)) link)

    grew : Grew d x (length (linked ++ first))
    unfolding linked
    grew =
        subst (λ (y : Disc). Grew d y (length (linked ++ first))) (sym ahead)
        (puts-grew (linked ++ first) d k.ready.sound-disc (omega (arith, length-ahead, k.ready.room, k.ready.same-recorded)) (whole_append linked first (links-whole (links (unpack l))) k.ready.whole))

    pub behind-sound : (sized x ≡ true) × (in_order x.kinds ≡ true)
    behind-sound = (sound-sized x grew.still-sound, sound-order x grew.still-sound)

    pub behind-at : b ≡ recorded x
    behind-at = omega (arith, k.end, grew.counted, length-ahead, k.ready.same-recorded)

    same-sectors : save_sectors x table_of (unpack l).last stamp b ≡ table_sectors first stamp
    same-sectors =
        grown-save d x k.ready.sound-disc grew.kept grew.still-sound.few table_of (unpack l).last k.ready.last-known stamp b
        ∙ ap (save_sectors d table_of (unpack l).last stamp) k.end

    pub behind-known : (eqb (unpack l).last unused || table_at x (unpack l).last) ≡ true
    behind-known = go (eqb (unpack l).last unused) k.ready.last-known
      where
        go : (t : Bool) → (t || table_at d (unpack l).last) ≡ true → (t || table_at x (unpack l).last) ≡ true
        go true h = refl
        go false h =
            let low : (unpack l).last < recorded d = table-recorded d k.ready.sound-disc (unpack l).last h in
            table_same d x (unpack l).last (λ c n. grew.kept c (omega arith)) (grew.kept (unpack l).last low) ∙ h

    pub behind-room : b + length (save_sectors x table_of (unpack l).last stamp b) ≤ length x.kinds
    behind-room = omega (arith, ap length same-sectors, k.end, k.ready.room, grew.same_length)

    -- and the table's sectors behind them
    pub saved-disc : puts x b (save_sectors x table_of (unpack l).last stamp b) ≡ puts d (unpack l).recorded (saved_by first stamp []).sectors
    unfolding linked
    saved-disc =
        let v : Volume = unpack l in
        let save : List Sector = table_sectors first stamp in
        ap (puts x b) same-sectors
        ∙ ap₂ (λ (y : Disc) (n : ℕ). puts y n save) ahead (omega (arith, k.end, length-ahead, k.ready.same-recorded))
        ∙ sym (puts-append (linked ++ first) save d (recorded d))
        ∙ ap₂ (λ (n : ℕ) (ss : List Sector). puts d n ss) (sym k.ready.same-recorded) (append_assoc (replicate (links v) link) first save)

    pub saved-at : last_block b (save_sectors x table_of (unpack l).last stamp b) ≡ (saved_by first stamp []).second
    saved-at = ap₂ last_block k.end same-sectors

    -- so a save there has what it asks for, and leaves what a save leaves
    pub save-asks : length l ≡ ledger_length → (unpack l).size ≤ limit → length stamp ≡ stamp_length
        → (length l ≡ ledger_length)
        × (sized x ≡ true)
        × (in_order x.kinds ≡ true)
        × (b ≡ recorded x)
        × ((unpack l).size ≤ limit)
        × ((eqb (unpack l).last unused || table_at x (unpack l).last) ≡ true)
        × (length stamp ≡ stamp_length)
        × (b + length (save_sectors x table_of (unpack l).last stamp b) ≤ length x.kinds)
    save-asks long few timely = (long, behind-sound.0, behind-sound.1, behind-at, few, behind-known, timely, behind-room)

    pub save-leaves : {a : ℕ} {i k m : List ℕ}
        → (a ≡ last_block b (save_sectors x table_of (unpack l).last stamp b))
        × (lent i k ≡ puts x b (save_sectors x table_of (unpack l).last stamp b))
        × (m ≡ pack (committed a (unpack l)))
        → Saved first stamp a i k m
    save-leaves s =
        let at : _ = s.0 ∙ saved-at in
        (at, s.1 ∙ saved-disc, s.2 ∙ ap (λ (n : ℕ). pack (committed n (unpack l))) at)

  -- a save that is done
  saved-left : (c : Call) (first : List Sector) (stamp buffer : List ℕ) → outcome d l c ≡ 0 → effect d l c ≡ saved_by first stamp buffer → (unpack l).recorded ≡ recorded d
      → {a : ℕ} {i k m : List ℕ} → Saved first stamp a i k m → left a i k m buffer ≡ after d l c
  saved-left c first stamp buffer z is same {a} {i} {k} {m} s =
      let e : Effect = saved_by first stamp buffer in
      let disc : lent i k ≡ puts d (recorded d) e.sectors = s.1 ∙ ap (λ (n : ℕ). puts d n e.sectors) same in
      same_after s.0 disc s.2
      ∙ ap (λ (e : Effect). settled d l (buffer_of c) 0 e) (sym is)
      ∙ done-left c z

  -- what a save asks for, and a save that is done meets it
  abbrev pub Savable : Type 0
  Savable =
      (length l ≡ ledger_length)
      × (sized d ≡ true)
      × (in_order d.kinds ≡ true)
      × ((unpack l).recorded ≡ recorded d)
      × ((unpack l).size ≤ limit)
      × ((eqb (unpack l).last unused || table_at d (unpack l).last) ≡ true)

  savable : (first : List Sector) (stamp : List ℕ) → length l ≡ ledger_length → SaveDone d l first stamp → Savable
  savable first stamp long f =
      (long, sound-sized d f.sound-disc, sound-order d f.sound-disc, f.fit.same-recorded, f.fit.few, f.fit.last-known)

  pub ready_of : (first : List Sector) (stamp : List ℕ) → Savable → AllWhole first → target (unpack l) + (length first + length (table_sectors first stamp)) ≤ length d.kinds → Ready first stamp
  ready_of first stamp s w room =
      record { sound-disc = sound d s.1 s.2; same-recorded = s.3; last-known = s.5; whole = w; room = room }

  pub commit-saves : (stamp : Option (List ℕ)) → outcome d l (commit stamp) ≡ 0
      → Savable × (length (stamp_of stamp) ≡ stamp_length) × (recorded d + length (saved_by [] (stamp_of stamp) []).sectors ≤ length d.kinds)
  commit-saves stamp z =
      let f : SaveDone d l [] (stamp_of stamp) = (commit-done d l stamp z).saving in
      let long : length (saved_by [] (stamp_of stamp) []).sectors ≡ links (unpack l) + length (table_sectors [] (stamp_of stamp)) =
      length-append (replicate (links (unpack l)) link) (table_sectors [] (stamp_of stamp)) ∙ ap (λ (n : ℕ). n + length (table_sectors [] (stamp_of stamp))) (length-replicate (links (unpack l)) link) in
      (savable [] (stamp_of stamp) (ledger-accepted d l (commit stamp) z) f, f.timely, omega (arith, long, f.room, leading_le d.kinds))

  pub commit-left : (stamp : Option (List ℕ)) → outcome d l (commit stamp) ≡ 0
      → {a : ℕ} {i k m : List ℕ} → Saved [] (stamp_of stamp) a i k m → left a i k m (stamp_buffer stamp) ≡ after d l (commit stamp)
  unfolding effect
  commit-left stamp z s = saved-left (commit stamp) [] (stamp_of stamp) (stamp_buffer stamp) z refl (commit-done d l stamp z).saving.fit.same-recorded s

  -- and so does a closing
  module _ (main reserved : Extent) (start : ℕ) (z : outcome d l (close_session main reserved start) ≡ 0) where
    pub closing-saves : Savable × (target (unpack l) + closing_length < length d.kinds) × (start ≤ farthest_start)
    closing-saves =
        let f : ClosingDone d l main reserved start = closing-done d l main reserved start z in
        let first : List Sector = closing_first d (unpack l) main reserved start in
        let own : ℕ = length (fresh_of d table_of (unpack l).last) in (
          savable first no_stamp (ledger-accepted d l (close_session main reserved start) z) f.saving,
          omega
              (arith, f.saving.room, save-count d table_of (unpack l).last no_stamp (target (unpack l) + length first), length-closing main reserved start (target (unpack l)) own (omega (arith, own-few d (unpack l) f.saving.fit.few)), f.saving.fit.same-recorded, leading_le d.kinds),
          f.near,
        )

    pub closing-left : {a : ℕ} {i k m : List ℕ} → Saved (closing_first d (unpack l) main reserved start) no_stamp a i k m → left a i k m [] ≡ after d l (close_session main reserved start)
    unfolding effect
    closing-left s =
        saved-left (close_session main reserved start) (closing_first d (unpack l) main reserved start) no_stamp [] z refl
        (closing-done d l main reserved start z).saving.fit.same-recorded s

  -- what a closing puts first, and its room
  pub closing-ready : (main reserved : Extent) (start : ℕ) → Savable → target (unpack l) + closing_length < length d.kinds → Ready (closing_first d (unpack l) main reserved start) no_stamp
  closing-ready main reserved start s room =
      let first : List Sector = closing_first d (unpack l) main reserved start in
      let own : ℕ = length (fresh_of d table_of (unpack l).last) in
      let all : length first + own ≡ closing_length = length-closing main reserved start (target (unpack l)) own (omega (arith, own-few d (unpack l) s.4)) in
      ready_of first no_stamp s (closing-whole main reserved start (target (unpack l)) own)
      (omega (arith, all, save-count d table_of (unpack l).last no_stamp (target (unpack l) + length first)))

-- what the check is to know of sectors made in their place, and of a save's
pub ruleset saves = (table-within, stored-part, length-anchor, icb-long, leading_le, entries_below, entries-committed, few-own, limit-held, own-few, save-count)
