-- What a host wants of its days: what was saved is read back, where the answers said, however long ago and whatever was cut since.
--     saved-shows, saved-reads, saved-back   a save, mounted, read, and one step back from it
--     left-later                             the disc as a program leaves it that made such calls
--     long-ago-reads                         a save with any calls behind it
--     released-reads, nothing-mounts         a number released; a disc without a save
--     cut-reads                              a save, a write, and any call that was cut
--     storing-reads, marking-reads           the same of a program that was stopped
-- Assumes nothing.
use Prim.Native.Nat.{ℕ, zero, suc, ◌+◌, ◌*◌, ◌≤◌, ◌<◌}
use native.Mathlib.Omega.{arith}
use mathlib.Core.Path.{◌≡◌, refl, sym, ap, ◌∙◌, subst, subst₂}
use mathlib.Core.Bool.{Bool, true, false, ◌&&◌}
use mathlib.Core.List.{List, [], ◌∷◌, ◌++◌}
use Rattle.std.specs.Prelude.{Option, None, Some}
use borrow.Author.Tests.{eqb-true, eqb-false, ne_eqb, lt-ltb}
use lib.Dec.{eqb, ltb}
use lib.ListN.{length, get_or, take, set, length-set, length-append}
use lib.Seq.{get_or-set_same, get_or-append_seam}
use Rattle.vat.specs.Table.{sector_length, unused}
use Rattle.disc.specs.Disc.{Disc, lent, Sector, recorded, puts}
use Rattle.disc.proofs.Recording.{Sound, leading_le}
use Rattle.volume.specs.declared.Volume.{Volume}
use Rattle.volume.specs.Volume.{ledger_length, unpack, map_of, begun, grown, wrote, committed}
use Rattle.volume.proofs.State.{Proper, length-pack, unpack-pack, proper-begun, proper-wrote, proper-committed}
use Rattle.recorder.specs.Calls.{Call, begin, mount, write, release, close_packet, commit, look_back, buffer_of, saves}
use Rattle.recorder.specs.Refusals.{outcome, target}
use Rattle.recorder.specs.Effects.{Effect, effect, sectors_if, after, second_number, sectors_of}
use Rattle.alike.specs.Alike.{Alike}
use Rattle.recorder.proofs.Done.{begin-done, WriteDone, write_done, ledger-accepted, links-few}
use Rattle.recorder.proofs.Answers.{answer-of, done-small}
use Rattle.recorder.proofs.Sectors.{before_icb, ends-in-icb}
use Rattle.alike.proofs.Discs.{blank-bytes}
use Rattle.alike.proofs.Ahead.{marked-call}
use Rattle.history.specs.History.{unused_entry, shows, Snapshot, History, Told, placed, saved_if, done, feed}
use Rattle.history.specs.Events.{cuts, Torn, torn_at, cut_disc, next, told, kept, cut_if, cut_short, fed}
use Rattle.history.specs.Claim.{block_number, DoneShowing, Mounts, Claim}
use Rattle.history.specs.Times.{saved_stamp}
use Rattle.alike.specs.Scribbles.{event, scribble, AllHappen, ends, recalls}
use Rattle.history.proofs.Saving.{told-save, unsaved, Saving, saving-done, small, table_block, at_table}
use Rattle.history.proofs.Theorem.{Kept, saved-page, Remounted, remounts}
use Rattle.client.specs.Day.{Day, ended, morning, day, AllDone, opening, ShowsSave, back_if, one_back, saves_among, struck, OneSector, sectors_behind, CutBehind, table_kept, reads_of, StoppedStoring, StoppedMarking, world}
use Rattle.client.proofs.Days.{joined, part-done, did, done_first, called-done, first_done, rest-done, last_done, first-long, Fit, first-fit, opening-fit, last_fit}
use Rattle.client.proofs.Claimed.{not-lost, history, kept_next, start_page, start_pages, opened, remembered, claim-behind, claim-at, kept_at}
use Rattle.client.proofs.Shown.{Reads, mount-disc, mount-reads, mount-unused, look-reads}

-- ---- entries of a page

abbrev pub written : Snapshot → ℕ → ℕ → List ℕ → Snapshot
written p v b block = placed (eqb v (length p)) p v (shows b (Some block))

-- an entry that was placed is there
module _ (p : Snapshot) (v b : ℕ) (block : List ℕ) (no_gap : v ≤ length p) where
  written-there : get_or (written p v b block) v unused_entry ≡ shows b (Some block)
  written-there = go (eqb v (length p)) refl
    where
      go : (t : Bool) → eqb v (length p) ≡ t → get_or (placed t p v (shows b (Some block))) v unused_entry ≡ shows b (Some block)
      go true z = ap (λ (k : ℕ). get_or (p ++ (shows b (Some block) ∷ [])) k unused_entry) (eqb-true v (length p) z) ∙ get_or-append_seam p (shows b (Some block)) [] unused_entry
      go false z = get_or-set_same p v (shows b (Some block)) unused_entry (let other = eqb-false v (length p) z in omega (arith, other))

length-written : (p : Snapshot) (v b : ℕ) (block : List ℕ) → length (written p v b block) ≡ grown (eqb v (length p)) (length p)
length-written p v b block = go (eqb v (length p))
  where
    go : (t : Bool) → length (placed t p v (shows b (Some block))) ≡ grown t (length p)
    go true = length-append p (shows b (Some block) ∷ [])
    go false = length-set p v (shows b (Some block))

grown-more : (t : Bool) (n : ℕ) → n ≤ grown t n
grown-more true n = omega arith
grown-more false n = omega arith

released-there : (p : Snapshot) (v : ℕ) → get_or (set p v unused_entry) v unused_entry ≡ unused_entry
released-there [] v = refl
released-there (e ∷ es) zero = refl
released-there (e ∷ es) (suc v) = released-there es v

-- ---- the ledger that a call leaves

few : (d : Disc) → Sound d → recorded d ≤ 360000
few d ok = omega (arith, leading_le d.kinds, ok.few)

begun-size : (d : Disc) (l : List ℕ) → outcome d l begin ≡ 0 → (unpack (after d l begin).ledger).size ≡ 0
unfolding after effect begun
begun-size d l e =
    rw e (ap (λ v. v.size) (unpack-pack (begun (recorded d)) (proper-begun (recorded d) (omega (arith, few d (begin-done d l e).0)))))

module _ (d : Disc) (l : List ℕ) (good : Proper (unpack l)) where
  -- a write leaves the last table
  written_last : (v : ℕ) (block : List ℕ) → outcome d l (write (Some v) block) ≡ 0 → (unpack (after d l (write (Some v) block)).ledger).last ≡ (unpack l).last
  unfolding after effect wrote
  written_last v block e =
      let f : WriteDone d l (Some v) block = write_done d l (Some v) block e in
      let s : Volume = unpack l in
      rw e (ap (λ v. v.last) (unpack-pack (wrote (Some v) (target s) s) (proper-wrote s good (Some v) (target s) f.fit.few (omega (arith, few d f.sound-disc, f.fit.same-recorded, links-few s)))))

  save-long : (c : Call) → saves c ≡ true → outcome d l c ≡ 0 → length (after d l c).ledger ≡ ledger_length
  unfolding after
  save-long c is-save e =
      let s : Saving d l c = saving-done d l c is-save e in
      let v : Volume = unpack l in
      let ok : Sound d = s.done.sound-disc in
      let b : ℕ = table_block d l ok good c s in
      rw e
      (ap (λ (x : Effect). length x.ledger) s.leaves
      ∙ length-pack (committed b v) (proper-committed v good b (omega (arith, at_table d l ok good c s, small d l ok good c s))))

one-step : (last : ℕ) {answer : ℕ} → (last ≡ unused → answer ≡ 9 * 4294967296) → ((last ≡ unused → ⊥) → answer ≡ last) → answer ≡ one_back last
one-step last {answer} none-there there = go (eqb last unused) refl
  where
    go : (t : Bool) → eqb last unused ≡ t → answer ≡ back_if t last
    go true z = none-there (eqb-true last unused z)
    go false z = there (eqb-false last unused z)

-- ---- a start and a write

-- the block that the write took, and the page that it makes
abbrev pub taken : Day → Bool → ℕ → List ℕ → ℕ
taken x fresh v block = second_number (opened x fresh).disc (opened x fresh).ledger (write (Some v) block)

abbrev pub first_page : Day → Bool → ℕ → List ℕ → Snapshot
first_page x fresh v block = written (start_page fresh x.disc) v (taken x fresh v block) block

module _ (x : Day) (fresh : Bool) (ok : x.answer < 4294967296) where
  -- the ledger has the size of the page that the day starts from
  start-size : outcome x.disc x.ledger (opening fresh) ≡ 0 → (unpack (opened x fresh).ledger).size ≡ length (start_page fresh x.disc)
  unfolding day
  start-size = go fresh
    where
      go : (t : Bool) → outcome x.disc x.ledger (opening t) ≡ 0 → (unpack (after x.disc x.ledger (opening t)).ledger).size ≡ length (start_page t x.disc)
      go true e = begun-size x.disc x.ledger e
      go false e =
          let y : Day = record { answer = 0; disc = x.disc; roles = x.disc.kinds; ledger = x.ledger } in
          let mounted : day y (mount ∷ []) ≡ did y mount = first-fit y mount [] (omega arith) refl in
          subst (λ (d : Disc). (unpack (after d x.ledger mount).ledger).size ≡ length (start_page false x.disc)) (ap (λ (z : Day). z.disc) mounted ∙ mount-disc x.disc x.ledger)
          ((claim-at y false (omega arith) [] (subst (λ (z : Day). z.answer < 4294967296) (sym mounted) (done-small x.disc x.ledger mount e))).mounts x.ledger (ledger-accepted x.disc x.ledger mount e)).showing.size

  -- number v is written first
  module _ (v : ℕ) (block : List ℕ) (cs : List Call) (a : AllDone x (opening fresh ∷ write (Some v) block ∷ cs)) where
    abbrev start-done : outcome x.disc x.ledger (opening fresh) ≡ 0
    start-done = done_first x (opening fresh) (write (Some v) block ∷ cs) ok a

    abbrev opened-done : (opened x fresh).answer < 4294967296
    opened-done = called-done x (opening fresh) (write (Some v) block ∷ cs) ok a

    pub write-is-done : outcome (opened x fresh).disc (opened x fresh).ledger (write (Some v) block) ≡ 0
    write-is-done = done_first (opened x fresh) (write (Some v) block) cs opened-done (rest-done x (opening fresh) (write (Some v) block ∷ cs) ok a)

    no_gap : v ≤ length (start_page fresh x.disc)
    no_gap = omega (arith, (write_done (opened x fresh).disc (opened x fresh).ledger (Some v) block write-is-done).writable.1, start-size start-done)

    pub first-there : get_or (first_page x fresh v block) v unused_entry ≡ shows (taken x fresh v block) (Some block)
    first-there = written-there (start_page fresh x.disc) v (taken x fresh v block) block no_gap

    below-first : v ≤ length (first_page x fresh v block)
    below-first = omega (arith, no_gap, length-written (start_page fresh x.disc) v (taken x fresh v block) block, grown-more (eqb v (length (start_page fresh x.disc))) (length (start_page fresh x.disc)))

    answered-taken : (day x (opening fresh ∷ write (Some v) block ∷ [])).answer ≡ taken x fresh v block
    unfolding day
    answered-taken =
        let both : AllDone x (opening fresh ∷ write (Some v) block ∷ []) = part-done (opening fresh ∷ write (Some v) block ∷ []) cs x a in
        ap (λ (y : Day). y.answer) (first_done x (opening fresh) (write (Some v) block ∷ []) ok both ∙ first_done (opened x fresh) (write (Some v) block) [] opened-done (rest-done x (opening fresh) (write (Some v) block ∷ []) ok both))
        ∙ answer-of (opened x fresh).disc (opened x fresh).ledger (write (Some v) block) write-is-done

  -- ---- a save

  module _ (v : ℕ) (block : List ℕ) (c : Call) (is-save : saves c ≡ true) (a : AllDone x (opening fresh ∷ write (Some v) block ∷ c ∷ [])) where
    abbrev recorded-day : Day
    recorded-day = day x (opening fresh ∷ write (Some v) block ∷ [])

    abbrev pub saved-day : Day
    saved-day = day x (opening fresh ∷ write (Some v) block ∷ c ∷ [])

    -- the write, as the history goes on from it
    abbrev written-first : Day
    written-first = did (opened x fresh) (write (Some v) block)

    record-done : AllDone x (opening fresh ∷ write (Some v) block ∷ [])
    record-done = part-done (opening fresh ∷ write (Some v) block ∷ []) (c ∷ []) x a

    save-called : saved-day ≡ did recorded-day c
    save-called = last_done x (opening fresh ∷ write (Some v) block ∷ []) c a

    saved-fit : Fit saved-day
    saved-fit = opening-fit x fresh (write (Some v) block ∷ c ∷ []) ok a

    save-is-done : outcome recorded-day.disc recorded-day.ledger c ≡ 0
    save-is-done = done_first recorded-day c [] record-done (subst (λ (y : Day). y.answer < 4294967296) (joined (opening fresh ∷ write (Some v) block ∷ []) (c ∷ []) x) a)

    recorded-good : Proper (unpack recorded-day.ledger)
    recorded-good = (kept_at x fresh ok (write (Some v) block ∷ []) record-done).good.ledger-good

    pub saved-long : length saved-day.ledger ≡ ledger_length
    saved-long = ap (λ (y : Day). length y.ledger) save-called ∙ save-long recorded-day.disc recorded-day.ledger recorded-good c is-save save-is-done

    again : Remounted recorded-day.disc recorded-day.ledger c saved-day.ledger
    again = remounts recorded-day.disc recorded-day.ledger recorded-good c is-save save-is-done saved-day.ledger saved-long

    saved-disc : saved-day.disc ≡ (after recorded-day.disc recorded-day.ledger c).disc
    saved-disc = ap (λ (y : Day). y.disc) save-called

    mounts : DoneShowing saved-day.disc saved-day.ledger mount (first_page x fresh v block)
    mounts =
        subst (λ (t : Told). Mounts saved-day.disc saved-day.ledger (done t (second_number written-first.disc written-first.ledger c) (remembered x fresh (write (Some v) block ∷ []))).pages) (told-save c is-save)
        ((claim-at x fresh ok (write (Some v) block ∷ c ∷ []) a).mounts saved-day.ledger saved-long)

    pub saved-shows : ShowsSave x (opening fresh) v block c (after saved-day.disc saved-day.ledger mount).answer (after saved-day.disc saved-day.ledger mount).ledger
    unfolding day
    saved-shows =
        let p : Snapshot = start_page fresh x.disc in
        let b : ℕ = taken x fresh v block in
        let n : ℕ = (unpack (opened x fresh).ledger).size in
        let sized : n ≡ length p = start-size (start-done v block (c ∷ []) a) in
        record {
          clean = ap (λ (d : Disc). (after d saved-day.ledger mount).answer) saved-disc ∙ again.clean;
          table = ap (λ (d : Disc). (unpack (after d saved-day.ledger mount).ledger).last) saved-disc ∙ again.that-block ∙ ap (λ (y : Day). y.answer) (sym save-called);
          entry = mounts.showing.entry v ∙ ap block_number (first-there v block (c ∷ []) a) ∙ sym (answered-taken v block (c ∷ []) a);
          size =
              mounts.showing.size ∙ length-written p v b block
              ∙ ap (λ (k : ℕ). grown (eqb v k) k) (sym sized ∙ ap (λ (y : Day). (unpack y.ledger).size) (sym (first_done x (opening fresh) [] ok (part-done (opening fresh ∷ []) (write (Some v) block ∷ c ∷ []) x a))));
        }

    -- what a program sees that mounts it
    pub mounted-shows : {r : ℕ} {i k o m : List ℕ} → ended r i k o m ≡ day x (opening fresh ∷ write (Some v) block ∷ c ∷ mount ∷ []) → ShowsSave x (opening fresh) v block c r m
    mounted-shows e =
        subst (λ (y : Day). ShowsSave x (opening fresh) v block c y.answer y.ledger) (sym (e ∙ last_fit x (opening fresh ∷ write (Some v) block ∷ c ∷ []) mount a saved-fit)) saved-shows

    pub saved-reads : (out : List ℕ) → length out ≡ sector_length → Reads saved-day mount v out 0 block
    saved-reads out long = mount-reads saved-day a saved-fit v out long mounts (first-there v block (c ∷ []) a)

    -- one step back: the table that was last when the day was opened
    pub saved-back : {r : ℕ} {i k o m : List ℕ} → ended r i k o m ≡ day x (opening fresh ∷ write (Some v) block ∷ c ∷ look_back 1 ∷ [])
        → r ≡ one_back (unpack (day x (opening fresh ∷ [])).ledger).last
    unfolding day
    saved-back e =
        let o : Day = day x (opening fresh ∷ []) in
        let o-done : AllDone x (opening fresh ∷ []) = part-done (opening fresh ∷ []) (write (Some v) block ∷ c ∷ []) x a in
        let same : (unpack recorded-day.ledger).last ≡ (unpack o.ledger).last =
        ap (λ (y : Day). (unpack y.ledger).last) (last_done x (opening fresh ∷ []) (write (Some v) block) record-done)
        ∙ written_last o.disc o.ledger (kept_at x fresh ok [] o-done).good.ledger-good v block
        (done_first o (write (Some v) block) [] o-done (subst (λ (y : Day). y.answer < 4294967296) (joined (opening fresh ∷ []) (write (Some v) block ∷ []) x) record-done)) in
        let here : (after saved-day.disc saved-day.ledger (look_back 1)).answer ≡ (after (after recorded-day.disc recorded-day.ledger c).disc saved-day.ledger (look_back 1)).answer =
        ap (λ (d : Disc). (after d saved-day.ledger (look_back 1)).answer) saved-disc in
        ap (λ (y : Day). y.answer) (e ∙ last_fit x (opening fresh ∷ write (Some v) block ∷ c ∷ []) (look_back 1) a saved-fit)
        ∙ here ∙ one-step (unpack o.ledger).last (λ z. again.none-back (same ∙ z)) (λ used. again.one-back (λ z. used (sym same ∙ z)) ∙ same)

-- ---- any calls behind a save

-- every page moves one back with each save
pub record MovedBack (before after : List Snapshot) (n : ℕ) : Type 0 where
  pub page : (i : ℕ) → get_or after (i + n) [] ≡ get_or before i []
  pub count : length after ≡ length before + n

moved_on : {ps qs rs : List Snapshot} {p : Snapshot} {n : ℕ} → qs ≡ p ∷ ps → MovedBack qs rs n → MovedBack ps rs (n + 1)
moved_on {ps} {qs} {rs} {p} {n} e m =
    record {
      page = λ i.
          let on : i + (n + 1) ≡ suc i + n = omega arith in
          ap (λ (k : ℕ). get_or rs k []) on ∙ m.page (suc i) ∙ ap (λ (q : List Snapshot). get_or q (suc i) []) e;
      count =
          let more : length qs ≡ suc (length ps) = ap length e in
          m.count ∙ (let k : length qs + n ≡ length ps + (n + 1) = omega (arith, more) in k);
    }

pub moved_back : (cs : List Call) (x : Day) (h : History) → x.answer < 4294967296 → AllDone x cs → Kept (world x) h → MovedBack h.pages (history x h cs).pages (saves_among cs)
moved_back [] x h ok a k =
    record {
      page = λ i. ap (λ (n : ℕ). get_or h.pages n []) (let e : i + 0 ≡ i = omega arith in e);
      count = let e : length h.pages ≡ length h.pages + 0 = omega arith in e;
    }
moved_back (c ∷ cs) x h ok a k =
    let z : outcome x.disc x.ledger c ≡ 0 = done_first x c cs ok a in
    go (saves c) refl z
    (moved_back cs (did x c) (done (told c) (second_number x.disc x.ledger c) h) (called-done x c cs ok a) (rest-done x c cs ok a)
    (kept_next x c z h k))
  where
    go : (t : Bool) → saves c ≡ t → outcome x.disc x.ledger c ≡ 0 → {qs : List Snapshot} → MovedBack (done (told c) (second_number x.disc x.ledger c) h).pages qs (saves_among cs) → MovedBack h.pages qs (grown t (saves_among cs))
    go true is e r = moved_on (saved-page x.disc x.ledger h k c is e (second_number x.disc x.ledger c)) r
    go false is e {qs} r = subst (λ (ps : List Snapshot). MovedBack ps qs (saves_among cs)) (unsaved c is (second_number x.disc x.ledger c) h) r

-- a later day on the disc that the calls left, lent any bytes as roles, one a sector, any 16,364 bytes as ledger and a block
pub record Later (x : Day) (cs : List Call) (y : Day) (out : List ℕ) : Type 0 where
  pub ok : y.answer < 4294967296
  pub there : (day x cs).disc ≡ y.disc
  pub roles-fit : Fit y
  pub ledger-long : length y.ledger ≡ ledger_length
  pub block-long : length out ≡ sector_length

-- as a program leaves it that made the calls, whatever it did then to the roles and the ledger
pub left-later : (x : Day) (fresh : Bool) → x.answer < 4294967296 → (cs : List Call) → AllDone x (opening fresh ∷ cs) → {r : ℕ} {i k o m : List ℕ} → ended r i k o m ≡ day x (opening fresh ∷ cs)
    → (o₁ m₁ out : List ℕ) → length o₁ ≡ length o → length m₁ ≡ length x.ledger → length out ≡ sector_length → Later x (opening fresh ∷ cs) (morning i k o₁ m₁) out
left-later x fresh ok cs a e o₁ m₁ out as_many same whole =
    record {
      ok = omega arith;
      there = ap (λ (y : Day). y.disc) (sym e);
      roles-fit = as_many ∙ subst Fit (sym e) (opening-fit x fresh cs ok a);
      ledger-long = same ∙ first-long x (opening fresh) cs ok a;
      block-long = whole;
    }

module _ (x : Day) (fresh : Bool) (ok : x.answer < 4294967296) (v : ℕ) where
  claim-later : (cs : List Call) → AllDone x (opening fresh ∷ cs) → {y : Day} {out : List ℕ} → Later x (opening fresh ∷ cs) y out → Claim y.disc (remembered x fresh cs)
  claim-later cs a g = subst (λ (d : Disc). Claim d (remembered x fresh cs)) g.there (claim-at x fresh ok cs a)

  pub long-ago-reads : (c : Call) → saves c ≡ true → (block : List ℕ) (since : List Call) → AllDone x (opening fresh ∷ write (Some v) block ∷ c ∷ since)
      → (y : Day) (out : List ℕ) → Later x (opening fresh ∷ write (Some v) block ∷ c ∷ since) y out
      → Reads y (look_back (saves_among since)) v out 0 block
  unfolding day
  long-ago-reads c is-save block since a y out g =
      let o : Day = opened x fresh in
      let w : Day = did o (write (Some v) block) in
      let z : Day = did w c in
      let h : History = remembered x fresh (write (Some v) block ∷ c ∷ []) in
      let o-done : o.answer < 4294967296 = called-done x (opening fresh) (write (Some v) block ∷ c ∷ since) ok a in
      let o-rest : AllDone o (write (Some v) block ∷ c ∷ since) = rest-done x (opening fresh) (write (Some v) block ∷ c ∷ since) ok a in
      let w-done : w.answer < 4294967296 = called-done o (write (Some v) block) (c ∷ since) o-done o-rest in
      let w-rest : AllDone w (c ∷ since) = rest-done o (write (Some v) block) (c ∷ since) o-done o-rest in
      let first : AllDone x (opening fresh ∷ write (Some v) block ∷ c ∷ []) = part-done (opening fresh ∷ write (Some v) block ∷ c ∷ []) since x a in
      let o-first : AllDone o (write (Some v) block ∷ c ∷ []) = rest-done x (opening fresh) (write (Some v) block ∷ c ∷ []) ok first in
      let same : day x (opening fresh ∷ write (Some v) block ∷ c ∷ []) ≡ z = first_done x (opening fresh) (write (Some v) block ∷ c ∷ []) ok first ∙ first_done o (write (Some v) block) (c ∷ []) o-done o-first ∙ first_done w c [] w-done (rest-done o (write (Some v) block) (c ∷ []) o-done o-first) in
      let k : Kept (world z) h = subst (λ (d : Day). Kept (world d) h) same (kept_at x fresh ok (write (Some v) block ∷ c ∷ []) first) in
      let m : MovedBack h.pages (remembered x fresh (write (Some v) block ∷ c ∷ since)).pages (saves_among since) =
      moved_back since z h (called-done w c since w-done w-rest) (rest-done w c since w-done w-rest) k in
      let made : h.pages ≡ first_page x fresh v block ∷ start_pages fresh x.disc =
      ap (λ (t : Told). (done t (second_number w.disc w.ledger c) (remembered x fresh (write (Some v) block ∷ []))).pages) (told-save c is-save) in
      let page : get_or (remembered x fresh (write (Some v) block ∷ c ∷ since)).pages (saves_among since) [] ≡ first_page x fresh v block =
      ap (λ (n : ℕ). get_or (remembered x fresh (write (Some v) block ∷ c ∷ since)).pages n []) (let e : saves_among since ≡ 0 + saves_among since = omega arith in e) ∙ m.page 0 ∙ ap (λ (ps : List Snapshot). get_or ps 0 []) made in
      let some-page : length h.pages ≡ suc (length (start_pages fresh x.disc)) = ap length made in
      look-reads y g.ok g.roles-fit v out g.block-long (saves_among since)
      ((claim-later (write (Some v) block ∷ c ∷ since) a g).looks y.ledger g.ledger-long (saves_among since) (omega (arith, m.count, some-page)))
      (ap (λ (p : Snapshot). get_or p v unused_entry) page ∙ first-there x fresh ok v block (c ∷ since) a)

  -- two saves: the newer reads what was written last
  pub newer-reads : (old new : List ℕ) → (a : AllDone x (opening fresh ∷ write (Some v) old ∷ commit None ∷ write (Some v) new ∷ close_packet ∷ commit None ∷ []))
      → (y : Day) (out : List ℕ) → Later x (opening fresh ∷ write (Some v) old ∷ commit None ∷ write (Some v) new ∷ close_packet ∷ commit None ∷ []) y out → Reads y mount v out 0 new
  newer-reads old new a y out g =
      mount-reads y g.ok g.roles-fit v out g.block-long ((claim-later (write (Some v) old ∷ commit None ∷ write (Some v) new ∷ close_packet ∷ commit None ∷ []) a g).mounts y.ledger g.ledger-long)
      (written-there (first_page x fresh v old) v _ new (below-first x fresh ok v old (commit None ∷ write (Some v) new ∷ close_packet ∷ commit None ∷ []) a))

-- ---- a number released, and a disc without a save

pub released-reads : (x : Day) → x.answer < 4294967296 → (v : ℕ) → AllDone x (mount ∷ release v ∷ commit None ∷ [])
    → (y : Day) (out : List ℕ) → Later x (mount ∷ release v ∷ commit None ∷ []) y out → Reads y mount v out (10 * 4294967296) out
released-reads x ok v a y out g =
    mount-unused y g.ok g.roles-fit v out g.block-long ((claim-later x false ok v (release v ∷ commit None ∷ []) a g).mounts y.ledger g.ledger-long) (released-there (start_page false x.disc) v)

refused-answer : (d : Disc) (l : List ℕ) (c : Call) (n : ℕ) → outcome d l c ≡ suc n → (after d l c).answer ≡ suc n * 4294967296
unfolding after
refused-answer d l c n e = rw e

begun-long : (d : Disc) (l : List ℕ) → outcome d l begin ≡ 0 → length (after d l begin).ledger ≡ ledger_length
unfolding after effect
begun-long d l e = rw e (length-pack (begun (recorded d)) (proper-begun (recorded d) (omega (arith, few d (begin-done d l e).0))))

pub nothing-mounts : (x : Day) → x.answer < 4294967296 → AllDone x (begin ∷ []) → (day x (begin ∷ mount ∷ [])).answer ≡ 7 * 4294967296
unfolding day
nothing-mounts x ok a =
    let y : Day = day x (begin ∷ []) in
    let e : outcome x.disc x.ledger begin ≡ 0 = done_first x begin [] ok a in
    let long : length y.ledger ≡ ledger_length = ap (λ (z : Day). length z.ledger) (first_done x begin [] ok a) ∙ begun-long x.disc x.ledger e in
    ap (λ (z : Day). z.answer) (last_fit x (begin ∷ []) mount a (opening-fit x true [] ok a)) ∙ refused-answer y.disc y.ledger mount 6 ((claim-at x true ok [] a).mounts y.ledger long)

-- ---- a call that is cut

struck-torn : (t : Bool) (tear : Option (List ℕ)) (b : ℕ) (d : Disc) → struck t tear b d ≡ torn_at t tear b d
struck-torn true (Some bytes) b d = refl
struck-torn true None b d = refl
struck-torn false (Some bytes) b d = refl
struck-torn false None b d = refl

torn-sector : (tear : Option (List ℕ)) → OneSector tear → Torn tear
torn-sector None t = t
torn-sector (Some bytes) t = t

ends-in : (ss : List Sector) (s : Sector) → 0 < length (ss ++ (s ∷ []))
ends-in ss s = omega (arith, length-append ss (s ∷ []))

-- a save records sectors exactly if it is done
kept_table : (d : Disc) (l : List ℕ) (c : Call) → saves c ≡ true → (j : ℕ) → kept d l c j ≡ (ltb 0 (length (sectors_of d l c)) && eqb j (length (sectors_of d l c)))
unfolding sectors_of
kept_table d l c is-save j = go (outcome d l c) refl
  where
    go : (n : ℕ) → outcome d l c ≡ n → (eqb n 0 && eqb j (length (sectors_if n (effect d l c).sectors))) ≡ (ltb 0 (length (sectors_if n (effect d l c).sectors)) && eqb j (length (sectors_if n (effect d l c).sectors)))
    go zero e =
        let ss : List Sector = (effect d l c).sectors in
        let s : Saving d l c = saving-done d l c is-save e in
        let v : Volume = unpack l in
        let some-there : 0 < length ss = subst (λ (x : Effect). 0 < length x.sectors) (sym s.leaves) (subst (λ (ss : List Sector). 0 < length ss) (sym (ends-in-icb d v (map_of v) v.last s.first (saved_stamp c) (buffer_of c))) (ends-in (before_icb d v (map_of v) v.last s.first) _)) in
        ap (λ (t : Bool). t && eqb j (length ss)) (sym (lt-ltb 0 (length ss) some-there))
    go (suc n) e = ap (λ (t : Bool). t && eqb j 0) (ne_eqb (suc n) 0 (λ e. omega (arith, e)))

pub cut-history : (d : Disc) (l : List ℕ) (h : History) (c : Call) (j : ℕ)
    → feed h (cut_short d l c j) ≡ record { pages = saved_if (table_kept c j (length (sectors_of d l c))) h.draft h.pages; draft = None }
unfolding feed
cut-history d l h c j = go (saves c) refl
  where
    go : (t : Bool) → saves c ≡ t → feed h (cut_if t (told c) (kept d l c j)) ≡ record { pages = saved_if (t && (ltb 0 (length (sectors_of d l c)) && eqb j (length (sectors_of d l c)))) h.draft h.pages; draft = None }
    go true is = ap {B = History} (λ k. record { pages = saved_if k h.draft h.pages; draft = None }) (kept_table d l c is j)
    go false is = refl

module _ (x : Day) (fresh : Bool) (ok : x.answer < 4294967296) (v : ℕ) (stamp : Option (List ℕ)) (old new : List ℕ) (c : Call) (j : ℕ) (tear : Option (List ℕ)) where
  abbrev before-cut : List Call
  before-cut = write (Some v) old ∷ commit stamp ∷ write (Some v) new ∷ []

  abbrev cut-day : Day
  cut-day = day x (opening fresh ∷ before-cut)

  abbrev keeps : Bool
  keeps = table_kept c j (length (sectors_behind x (opening fresh ∷ before-cut) c))

  -- bytes that mean nothing may have changed since
  cut-claim : {d e : Disc} → CutBehind x (opening fresh ∷ before-cut) c j tear d → Alike d e
      → Claim e (record { pages = saved_if keeps (remembered x fresh before-cut).draft (remembered x fresh before-cut).pages; draft = None })
  unfolding AllHappen ends recalls next fed cut_disc
  cut-claim {d} {e} g alike =
      let ss : List Sector = sectors_behind x (opening fresh ∷ before-cut) c in
      let same : d ≡ cut_disc cut-day.disc ss j tear = g.is-left ∙ struck-torn (ltb j (length ss)) tear (recorded cut-day.disc + j) (puts cut-day.disc (recorded cut-day.disc) (take j ss)) in
      subst (Claim e)
      (cut-history cut-day.disc cut-day.ledger (remembered x fresh before-cut) c j)
      (claim-behind x fresh ok before-cut g.all_done (event (cuts c [] j tear) ∷ scribble e ∷ [])
      ((λ z. absurd (not-lost cut-day.ledger z), g.within, torn-sector tear g.one-sector), (subst (λ (x : Disc). Alike x e) same alike, tt)))

  pub cut-reads : (d : Disc) (y : Day) (out : List ℕ) → y.answer < 4294967296 → Fit y → CutBehind x (opening fresh ∷ before-cut) c j tear d → Alike d y.disc → length y.ledger ≡ ledger_length → length out ≡ sector_length
      → Reads y mount v out 0 (reads_of keeps old new)
  cut-reads d y out y-ok fit g alike long whole = go keeps (cut-claim g alike)
    where
      go : (t : Bool) → Claim y.disc (record { pages = saved_if t (remembered x fresh before-cut).draft (remembered x fresh before-cut).pages; draft = None }) → Reads y mount v out 0 (reads_of t old new)
      go true claim = mount-reads y y-ok fit v out whole (claim.mounts y.ledger long) (written-there (first_page x fresh v old) v _ new (below-first x fresh ok v old (commit stamp ∷ write (Some v) new ∷ []) g.all_done))
      go false claim = mount-reads y y-ok fit v out whole (claim.mounts y.ledger long) (first-there x fresh ok v old (commit stamp ∷ write (Some v) new ∷ []) g.all_done)

-- ---- a program that is stopped

unstruck : (t : Bool) (b : ℕ) (d : Disc) → struck t None b d ≡ d
unstruck true b d = refl
unstruck false b d = refl

module _ (x : Day) (fresh : Bool) (ok : x.answer < 4294967296) (v : ℕ) (stamp : Option (List ℕ)) (old new : List ℕ) (y : Day) (out : List ℕ) (y-ok : y.answer < 4294967296) (fit : Fit y) (long : length y.ledger ≡ ledger_length) (whole : length out ≡ sector_length) where
  abbrev written-day : Day
  written-day = day x (opening fresh ∷ write (Some v) old ∷ commit stamp ∷ write (Some v) new ∷ [])

  -- no sector marked: as if a call that saves nothing had been cut before its first sector
  pub storing-reads : StoppedStoring x (opening fresh ∷ write (Some v) old ∷ commit stamp ∷ write (Some v) new ∷ []) y.disc → Reads y mount v out 0 old
  unfolding puts
  storing-reads s =
      let d : Disc = written-day.disc in
      let ss : List Sector = sectors_behind x (opening fresh ∷ write (Some v) old ∷ commit stamp ∷ write (Some v) new ∷ []) mount in
      let good : Sound d = (kept_at x fresh ok (write (Some v) old ∷ commit stamp ∷ write (Some v) new ∷ []) s.all_done).good.sound-disc in
      let alike : Alike d y.disc = subst (λ (ks : List ℕ). Alike d (lent y.disc.image ks)) s.same-kinds (blank-bytes d good y.disc.image s.same_length s.same-recorded) in
      cut-reads x fresh ok v stamp old new mount 0 None d y out y-ok fit
      (record { all_done = s.all_done; within = omega arith; one-sector = tt; is-left = sym (unstruck (ltb 0 (length ss)) (recorded d + 0) d) }) alike long whole

  -- the first j sectors marked: as if the call had been cut after them
  pub marking-reads : (c : Call) (j : ℕ) → StoppedMarking x (opening fresh ∷ write (Some v) old ∷ commit stamp ∷ write (Some v) new ∷ []) c j y.disc
      → Reads y mount v out 0 (reads_of (table_kept c j (length (sectors_behind x (opening fresh ∷ write (Some v) old ∷ commit stamp ∷ write (Some v) new ∷ []) c))) old new)
  marking-reads c j s =
      let d : Disc = written-day.disc in
      let ss : List Sector = sectors_behind x (opening fresh ∷ write (Some v) old ∷ commit stamp ∷ write (Some v) new ∷ []) c in
      let cut : Disc = puts d (recorded d) (take j ss) in
      let alike : Alike cut y.disc = subst₂ (λ (i ks : List ℕ). Alike cut (lent i ks)) s.all-stored s.some-marked (marked-call d written-day.ledger c j) in
      cut-reads x fresh ok v stamp old new c j None cut y out y-ok fit
      (record { all_done = s.all_done; within = s.within; one-sector = tt; is-left = sym (unstruck (ltb j (length ss)) (recorded d + j) cut) }) alike long whole
