-- Runs in a day: a run is shown as it was stored, and what an entry showed behind a save it shows however many saves later.
--     stored-seen, stored-given   blocks and their entry, then a view of it
--     seen-since, looks-back   a save among any calls, seen as many saves back as saves follow it
-- Assumes nothing.
use Prim.Native.Nat.{ℕ, suc, ◌+◌, ◌*◌, ◌≤◌, ◌<◌}
use native.Mathlib.Nat.{add-zero}
use native.Mathlib.Omega.{arith}
use mathlib.Core.Path.{◌≡◌, sym, ap, ap₂, ◌∙◌, subst, subst₂}
use mathlib.Core.Bool.{Bool, true, false}
use mathlib.Core.List.{List, [], ◌∷◌, ◌++◌, append-nil, map}
use Rattle.std.specs.Prelude.{None, Some, Result, Err}
use lib.ListN.{length, take, drop}
use borrow.Author.Tests.{lt-ltb, le-ltb}
use Rattle.vat.specs.Table.{sector_length}
use Rattle.extent.specs.Extents.{extent}
use Rattle.disc.specs.Disc.{Disc, lent, recorded, content}
use Rattle.volume.specs.Volume.{ledger_length, unpack}
use Rattle.volume.proofs.State.{Proper}
use Rattle.recorder.specs.Calls.{Call, write, look_back}
use Rattle.recorder.specs.Refusals.{target, outcome}
use Rattle.recorder.specs.Refused.{answer_of}
use Rattle.recorder.specs.declared.Refusal.{Refusal}
use Rattle.recorder.specs.Effects.{After, left, after}
use Rattle.recorder.proofs.Done.{write_done}
use Rattle.recorder.proofs.Answers.{done-small}
use Rattle.recorder.proofs.Refused.{refusal-high}
use Rattle.roles.specs.Keeping.{left_roles, after_roles}
use Rattle.run.specs.Entry.{entry}
use Rattle.run.specs.View.{most_viewed, view}
use Rattle.history.specs.History.{History}
use Rattle.history.specs.Events.{Event, AllAllowed, runs, remembers, after_call}
use Rattle.archive.specs.Earlier.{seen, seen_back, SeenLater, showing}
use Rattle.archive.proofs.Theorem.{earlier-entries}
use Rattle.history.proofs.Theorem.{claimed}
use Rattle.alike.specs.Alike.{Alike}
use Rattle.alike.proofs.Views.{mean-nothing}
use Rattle.space.specs.Called.{as_events}
use Rattle.client.specs.Day.{Day, ended, going_on, day, AllDone, opening, saves_among, world, filling, storing, joined_blocks, viewed}
use Rattle.client.proofs.Days.{without-roles, joined, part-done, did, done_first, called-done, first_done, last_done, rest-done, first-fit}
use Rattle.client.proofs.Claimed.{start_history, start-kept, opened, remembered, claim-at}
use Rattle.client.proofs.Since.{Went, went, history-joined, saved, book, SavedThere}
use Rattle.client.proofs.Written.{Wrote, write-told, write-small, written}
use Rattle.client.proofs.Blocks.{Stand, open-behind, StoredBlocks, stored-blocks, entry-shows}

-- ---- a day that goes on with a view

module _ (x : Day) (v offset : ℕ) (out : List ℕ) where
  module _ (refusal : Refusal) {i k o l : List ℕ} (e : ended (answer_of (Err refusal)) i k o l ≡ x) where
    pub stops-unviewed : (told : Result ℕ Refusal) → told ≡ Err refusal → ended (answer_of told) i k o l ≡ viewed x v offset out
    stops-unviewed told same =
        let y : Day = ended (answer_of (Err refusal)) i k o l in
        let next : Day = ended (view (lent i k) l v offset out).answer i k o l in
        ap (λ (r : Result ℕ Refusal). ended (answer_of r) i k o l) same
        ∙ ap (λ (t : Bool). going_on t y next) (sym (le-ltb y.answer 4294967296 (refusal-high refusal))) ∙ ap (λ (z : Day). viewed z v offset out) e

  module _ {r : ℕ} {i k o l : List ℕ} (e : ended r i k o l ≡ x) where
    pub goes-on-viewed : r < 4294967296 → {a : ℕ} {got : List ℕ} → left a i k l got ≡ view (lent i k) l v offset out → ended a i k o l ≡ viewed x v offset out
    goes-on-viewed h shown =
        let y : Day = ended r i k o l in
        let next : Day = ended (view (lent i k) l v offset out).answer i k o l in
        ap (λ (z : After). ended z.answer i k o l) shown ∙ ap (λ (t : Bool). going_on t y next) (sym (lt-ltb r 4294967296 h)) ∙ ap (λ (z : Day). viewed z v offset out) e

-- ---- a run that was stored

module _ (x : Day) (fresh : Bool) (ok : x.answer < 4294967296) (block : List ℕ) where
  -- the block that the unnumbered write took
  abbrev taken : ℕ
  taken = (day x (opening fresh ∷ write None block ∷ [])).answer

  module _ (cs : List Call) (a : AllDone x (opening fresh ∷ write None block ∷ cs)) where
    abbrev opened-done : (opened x fresh).answer < 4294967296
    opened-done = called-done x (opening fresh) (write None block ∷ cs) ok a

    write-is-done : outcome (opened x fresh).disc (opened x fresh).ledger (write None block) ≡ 0
    write-is-done = done_first (opened x fresh) (write None block) cs opened-done (rest-done x (opening fresh) (write None block ∷ cs) ok a)

    taken-target : taken ≡ target (unpack (opened x fresh).ledger)
    unfolding day
    taken-target =
        let both : AllDone x (opening fresh ∷ write None block ∷ []) = part-done (opening fresh ∷ write None block ∷ []) cs x a in
        ap (λ (y : Day). y.answer) (first_done x (opening fresh) (write None block ∷ []) ok both ∙ first_done (opened x fresh) (write None block) [] opened-done (rest-done x (opening fresh) (write None block ∷ []) ok both))
        ∙ write-told (opened x fresh).disc (opened x fresh).ledger None block write-is-done

    pub taken-small : taken < 400000
    taken-small = subst (λ (b : ℕ). b < 400000) (sym taken-target) (write-small (opened x fresh).disc (opened x fresh).ledger None block write-is-done)

  module _ (more : List (List ℕ)) (v n : ℕ) (a : AllDone x (storing x fresh v block more n)) (some_bytes : 0 < n) (few_bytes : n < 1073741824) (short : n ≤ sector_length * length (block ∷ more)) (offset : ℕ) (out : List ℕ) (inside : offset ≤ n) (room : length out ≤ most_viewed) where
    pub stored-shows : seen (view (day x (storing x fresh v block more n)).disc (day x (storing x fresh v block more n)).ledger v offset out)
        ≡ filling (take (length out) (drop offset (take n (joined_blocks (block ∷ more))))) out
    stored-shows =
        let bs : List (List ℕ) = block ∷ more in
        let entered : List ℕ = entry (extent n taken ∷ []) (taken + length bs) in
        let last : Call = write (Some v) entered in
        let cs : List Call = map (write None) more in
        let tail : List Call = cs ++ (last ∷ []) in
        let o : Day = opened x fresh in
        let o-done : o.answer < 4294967296 = opened-done tail a in
        let rest : AllDone o (write None block ∷ tail) = rest-done x (opening fresh) (write None block ∷ tail) ok a in
        let good : Proper (unpack o.ledger) = (start-kept fresh x.disc x.ledger (done_first x (opening fresh) (write None block ∷ tail) ok a)).good.ledger-good in
        let w : Day = did o (write None block) in
        let w-done : w.answer < 4294967296 = called-done o (write None block) tail o-done rest in
        let w-rest : AllDone w tail = rest-done o (write None block) tail o-done rest in
        let p : Wrote o.disc (unpack o.ledger) None block w.disc w.ledger = written o.disc o.ledger good None block (write-is-done tail a) in
        let y : Day = day w cs in
        let y-done : AllDone w cs = part-done cs (last ∷ []) w w-rest in
        let s : StoredBlocks w y more = stored-blocks more w w-done (open-behind p) y-done in
        let y-rest : AllDone y (last ∷ []) = subst (λ (z : Day). z.answer < 4294967296) (joined cs (last ∷ []) w) w-rest in
        let e : outcome y.disc y.ledger last ≡ 0 = done_first y last [] y-done y-rest in
        let first_taken : taken ≡ target (unpack o.ledger) = taken-target tail a in
        let one-recorded : recorded w.disc ≡ suc taken = omega (arith, p.counted, first_taken) in
        let counted : recorded y.disc ≡ taken + length bs = omega (arith, s.counted, one-recorded) in
        let standing : Stand y.disc taken bs =
        (s.more.contents taken (omega (arith, one-recorded)) ∙ ap (content w.disc) first_taken ∙ p.holds, subst (λ (t : ℕ). Stand y.disc t more) one-recorded s.stand) in
        let same : day x (storing x fresh v block more n) ≡ did y last =
        first_done x (opening fresh) (write None block ∷ tail) ok a ∙ first_done o (write None block) tail o-done rest ∙ last_done w cs last w-rest in
        ap (λ (z : Day). seen (view z.disc z.ledger v offset out)) same
        ∙ entry-shows y.ledger (did y last).ledger v n taken bs some_bytes few_bytes short s.still_open.proper (s.still_open.next ∙ counted) counted standing (written y.disc y.ledger s.still_open.proper (Some v) entered e)
        (write_done y.disc y.ledger (Some v) entered e).writable offset out inside room

    -- what a program is shown of such a disc and ledger
    pub stored-seen : {a : ℕ} {i k l got : List ℕ} → lent i k ≡ (day x (storing x fresh v block more n)).disc → l ≡ (day x (storing x fresh v block more n)).ledger
        → left a i k l got ≡ view (lent i k) l v offset out → showing a got ≡ filling (take (length out) (drop offset (take n (joined_blocks (block ∷ more))))) out
    stored-seen discs ledgers viewed = ap seen viewed ∙ ap₂ (λ (d : Disc) (l : List ℕ). seen (view d l v offset out)) discs ledgers ∙ stored-shows

  -- and one that stored a single block
  pub stored-given : (v n : ℕ) → AllDone x (storing x fresh v block [] n) → 0 < n → n ≤ sector_length → (offset : ℕ) (out : List ℕ) → offset ≤ n → length out ≤ most_viewed
      → {r a : ℕ} {i k o l got : List ℕ} → ended r i k o l ≡ day x (storing x fresh v block [] n) → left a i k l got ≡ view (lent i k) l v offset out
      → showing a got ≡ filling (take (length out) (drop offset (take n block))) out
  stored-given v n a some_bytes short offset out inside room e viewed =
      stored-seen [] v n a some_bytes (omega arith) (omega arith) offset out inside room (ap (λ (y : Day). y.disc) e) (ap (λ (y : Day). y.ledger) e) viewed
      ∙ ap (λ (bytes : List ℕ). filling (take (length out) (drop offset (take n bytes))) out) (append-nil block)

-- ---- a save, seen as many saves back as saves follow it

start_seen : (fresh : Bool) (d : Disc) (l : List ℕ) → outcome d l (opening fresh) ≡ 0 → (es : List Event) → AllAllowed (after_call d l (opening fresh)) es
    → SeenLater (runs (after_call d l (opening fresh)) es) (remembers (after_call d l (opening fresh)) (start_history fresh d) es)
start_seen true d l e = earlier-entries.after-begin d l e
start_seen false d l e = earlier-entries.after-mount d l e

module _ (x : Day) (fresh : Bool) (ok : x.answer < 4294967296) (before since : List Call) (c : Call) (s : SavedThere x fresh before c since) where
  abbrev start : Day
  start = opened x fresh

  seen-later : SeenLater (world (saved x fresh before c)) (book x fresh before c)
  seen-later =
      let h : History = start_history fresh x.disc in
      let there : AllDone start (before ++ (c ∷ [])) = subst (λ (y : Day). y.answer < 4294967296) (sym s.ends_there) s.saved-done in
      let w : Went start h (before ++ (c ∷ [])) = went (before ++ (c ∷ [])) start h s.opened-done there in
      subst₂ SeenLater (w.ended ∙ ap world s.ends_there) (w.recalled ∙ history-joined before (c ∷ []) start h s.opened-done s.before-done)
      (start_seen fresh x.disc x.ledger s.start-done (as_events (before ++ (c ∷ []))) w.allowed)

  pub seen-since : (now then : List ℕ) → length now ≡ ledger_length → length then ≡ ledger_length → (n offset : ℕ) (buffer : List ℕ)
      → seen_back (day x (opening fresh ∷ (before ++ (c ∷ since)))).disc now (saves_among since) n offset buffer
      ≡ seen_back (day x (opening fresh ∷ (before ++ (c ∷ [])))).disc then 0 n offset buffer
  seen-since now then now-long then-long n offset buffer =
      let behind : (saved x fresh before c).disc ≡ (day x (opening fresh ∷ (before ++ (c ∷ [])))).disc =
      ap (λ (y : Day). y.disc) (sym s.ends_there ∙ sym (first-fit x (opening fresh) (before ++ (c ∷ [])) ok s.roles-fit)) in
      let all : seen_back (runs (world (saved x fresh before c)) (as_events since)).disc now (saves_among since + 0) n offset buffer ≡ seen_back (saved x fresh before c).disc then 0 n offset buffer =
      seen-later (as_events since) s.went-since.allowed (saves_among since) s.counted 0 then now
      ((claimed (world (saved x fresh before c)) (book x fresh before c) s.saved-kept).looks then then-long 0 (omega (arith, s.a-page))).is-done now-long n offset buffer in
      ap (λ (d : Disc). seen_back d now (saves_among since) n offset buffer) (sym s.same-disc)
      ∙ ap (λ (m : ℕ). seen_back (runs (world (saved x fresh before c)) (as_events since)).disc now m n offset buffer) (sym (add-zero (saves_among since)))
      ∙ all
      ∙ ap (λ (d : Disc). seen_back d then 0 n offset buffer) behind

  -- and the look back is done
  pub looks-back : AllDone x (opening fresh ∷ (before ++ (c ∷ since))) → (l : List ℕ) → length l ≡ ledger_length
      → (after (day x (opening fresh ∷ (before ++ (c ∷ since)))).disc l (look_back (saves_among since))).answer < 4294967296
  looks-back a l long =
      let d : Disc = (day x (opening fresh ∷ (before ++ (c ∷ since)))).disc in
      let hz : History = book x fresh before c in
      let pages : length (remembered x fresh (before ++ (c ∷ since))).pages ≡ saves_among since + length hz.pages =
      ap (λ (g : History). length g.pages) (history-joined before (c ∷ since) start (start_history fresh x.disc) s.opened-done s.before-done ∙ sym s.went-since.recalled) ∙ s.counted in
      done-small d l (look_back (saves_among since))
      ((claim-at x fresh ok (before ++ (c ∷ since)) a).looks l long (saves_among since) (omega (arith, pages, s.a-page))).is-done

-- ---- what a program is shown

-- bytes that mean nothing change nothing of it
pub seen_alike : (d e : Disc) → Alike d e → (l : List ℕ) (k n offset : ℕ) (buffer : List ℕ) → seen_back d l k n offset buffer ≡ seen_back e l k n offset buffer
seen_alike d e a l k n offset buffer =
    mean-nothing.views d e a (after d l (look_back k)).ledger n offset buffer
    ∙ ap (λ (m : List ℕ). seen (view e m n offset buffer)) (mean-nothing.calls d e a l (look_back k)).same-ledger

pub seen-given : (i k o l : List ℕ) → length o ≡ length k → (n v offset : ℕ) (out : List ℕ) {a r : ℕ} {o' l' b got : List ℕ} → left_roles a i k o' l' b ≡ after_roles (lent i k) o l (look_back n)
    → left r i k l' got ≡ view (lent i k) l' v offset out → showing r got ≡ seen_back (lent i k) l n v offset out
seen-given i k o l fit n v offset out looked viewed =
    ap seen viewed ∙ ap (λ (m : List ℕ). seen (view (lent i k) m v offset out)) (ap (λ (x : After). x.ledger) (without-roles (lent i k) o l (look_back n) fit looked))
