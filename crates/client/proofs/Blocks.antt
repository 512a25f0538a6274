-- Blocks recorded without a number, one behind the other, and the entry behind them: where they stand, and what a view of it shows.
--     stored-blocks   what writes of several blocks leave
--     entry-shows     what is seen of the entry of one extent over them
-- Assumes nothing.
use Prim.Native.Nat.{ℕ, zero, suc, ◌+◌, ◌*◌, ◌/◌, ◌≤◌, ◌<◌}
use native.Mathlib.Nat.{add-zero}
use native.Mathlib.Omega.{arith}
use mathlib.Core.Path.{◌≡◌, refl, sym, ap, ap₂, ◌∙◌, subst}
use mathlib.Core.Bool.{true, false}
use mathlib.Core.List.{List, [], ◌∷◌, ◌++◌, append-nil, map}
use Rattle.std.specs.Prelude.{Option, None, Some}
use lib.Dec.{eqb, lit≤}
use lib.ListN.{length, take, drop}
use lib.Seq.{drop-cons, take-take}
use borrow.Author.Tests.{eq-eqb, lt-ltb, le-ltb, le-leb}
use Rattle.le.specs.Bytes.{every}
use Rattle.vat.specs.Table.{sector_length}
use Rattle.extent.specs.declared.Extent.{Extent}
use Rattle.extent.specs.Extents.{extent, total_length}
use Rattle.disc.specs.Disc.{Disc, recorded, kind_at, sector_at, content}
use Rattle.disc.proofs.Recording.{sound-sized, sound-order}
use Rattle.disc.proofs.Told.{data-there}
use Rattle.volume.specs.declared.Volume.{Volume}
use Rattle.volume.specs.Volume.{ledger_length, unpack, wrote}
use Rattle.volume.proofs.State.{Proper}
use Rattle.recorder.specs.Calls.{Call, write}
use Rattle.recorder.specs.Refusals.{first, links, target, block_of, not_in_use, outcome}
use Rattle.recorder.proofs.Done.{Writable}
use Rattle.run.specs.Entry.{extents_of, lies, laid, is_entry, entry_at, extents_at, extent_bytes, run_bytes, entry}
use Rattle.run.specs.View.{most_viewed, view_outcome, shown_from, view}
use Rattle.run.proofs.Theorems.{reads-back}
use Rattle.viewer.proofs.Outcome.{view-done}
use Rattle.archive.specs.Earlier.{seen}
use Rattle.archive.proofs.Runs.{sectors-split}
use Rattle.history.proofs.Log.{Extends, extends-same, extends-on}
use Rattle.history.proofs.Growth.{F, data-within}
use Rattle.client.specs.Day.{Day, day, AllDone, joined_blocks, filling}
use Rattle.client.proofs.Days.{did, done_first, called-done, first_done, rest-done}
use Rattle.client.proofs.Written.{Wrote, written, names-block}

-- with a packet open no links come between
next-block : (v : Volume) (n : Option ℕ) (b : ℕ) → target (wrote n b v) ≡ b + 1
unfolding links wrote
next-block v n b = add-zero (b + 1)

pub block-behind : {d d' : Disc} {v : Volume} {n : Option ℕ} {block l : List ℕ} → Wrote d v n block d' l → target (unpack l) ≡ target v + 1
block-behind {d} {d'} {v} {n} p = ap target p.unpacked ∙ next-block v n (target v)

-- ---- blocks that stand one behind the other

abbrev pub Stand : Disc → ℕ → List (List ℕ) → Type 0
Stand d t [] = Unit
Stand d t (b ∷ bs) = (content d t ≡ Some b) × Stand d (suc t) bs

stand-on : {d d' : Disc} → Extends F d d' → (bs : List (List ℕ)) (t : ℕ) → t + length bs ≤ recorded d → Stand d t bs → Stand d' t bs
stand-on e [] t h s = tt
stand-on e (b ∷ bs) t h s = (e.contents t (omega arith) ∙ s.0, stand-on e bs (suc t) (omega arith) s.1)

-- their kinds, as far as wanted, and their bytes
all-data : (bs : List (List ℕ)) (d : Disc) (t : ℕ) → Stand d t bs → (k : ℕ) → k ≤ length bs → every (λ x. eqb x 1) (take k (drop t d.kinds)) ≡ true
unfolding every
all-data bs d t s zero h = refl
all-data [] d t s (suc k) h = absurd (omega arith)
all-data (b ∷ bs) d t s (suc k) h =
    let is : kind_at d t ≡ 1 = (data-there d t b s.0).0 in
    rw (drop-cons d.kinds t 0 (data-within d.kinds t is), is) (all-data bs d (suc t) s.1 k (omega arith))

all-bytes : (bs : List (List ℕ)) (d : Disc) (t : ℕ) → Stand d t bs → take (sector_length * length bs) (drop (sector_length * t) d.image) ≡ joined_blocks bs
unfolding sector_at
all-bytes [] d t s = refl
all-bytes (b ∷ bs) d t s =
    sectors-split (length bs) t d.image ∙ ap₂ (λ (xs ys : List ℕ). xs ++ ys) (data-there d t b s.0).1 (all-bytes bs d (suc t) s.1)

-- ---- what writes of several blocks leave

-- on a day whose packet is open: the next block is the one behind what is recorded
pub record Open (x : Day) : Type 0 where
  pub proper : Proper (unpack x.ledger)
  pub next : target (unpack x.ledger) ≡ recorded x.disc

pub open-behind : {d : Disc} {v : Volume} {n : Option ℕ} {block : List ℕ} {y : Day} → Wrote d v n block y.disc y.ledger → Open y
open-behind p = record { proper = p.proper; next = block-behind p ∙ sym p.counted }

pub record StoredBlocks (x y : Day) (bs : List (List ℕ)) : Type 0 where
  pub still_open : Open y
  pub more : Extends F x.disc y.disc
  pub counted : recorded y.disc ≡ recorded x.disc + length bs
  pub stand : Stand y.disc (recorded x.disc) bs

pub stored-blocks : (bs : List (List ℕ)) (x : Day) → x.answer < 4294967296 → Open x → AllDone x (map (write None) bs) → StoredBlocks x (day x (map (write None) bs)) bs
unfolding day
stored-blocks [] x ok o a = record { still_open = o; more = extends-same F x.disc; counted = sym (add-zero (recorded x.disc)); stand = tt }
stored-blocks (b ∷ bs) x ok o a =
    let c : Call = write None b in
    let cs : List Call = map (write None) bs in
    let e : outcome x.disc x.ledger c ≡ 0 = done_first x c cs ok a in
    let w : Day = did x c in
    let r : ℕ = recorded x.disc in
    let p : Wrote x.disc (unpack x.ledger) None b w.disc w.ledger = written x.disc x.ledger o.proper None b e in
    let one_more : recorded w.disc ≡ suc r = omega (arith, p.counted, o.next) in
    let q : StoredBlocks w (day w cs) bs = stored-blocks bs w (called-done x c cs ok a) (open-behind p) (rest-done x c cs ok a) in
    let here : content (day w cs).disc r ≡ Some b = q.more.contents r (omega (arith, one_more)) ∙ ap (content w.disc) (sym o.next) ∙ p.holds in
    subst (λ (y : Day). StoredBlocks x y (b ∷ bs)) (sym (first_done x c cs ok a))
    (record {
      still_open = q.still_open;
      more = extends-on F p.more q.more;
      counted = omega (arith, q.counted, one_more);
      stand = (here, subst (λ (t : ℕ). Stand (day w cs).disc t bs) one_more q.stand);
    })

-- ---- the entry behind them

one-laid : (kinds : List ℕ) (b : ℕ) (e : Extent) → lies kinds b e ≡ true → laid kinds b (e ∷ []) ≡ true
unfolding laid
one-laid kinds b e l = rw l

one-total : (n t : ℕ) → total_length (extent n t ∷ []) ≡ n
unfolding total_length
one-total n t = add-zero n

module _ {d₁ d₂ : Disc} (l₁ l₂ : List ℕ) (v n t : ℕ) (bs : List (List ℕ)) (some_bytes : 0 < n) (few_bytes : n < 1073741824) (short : n ≤ sector_length * length bs) (good : Proper (unpack l₁)) (here : target (unpack l₁) ≡ t + length bs) (counted : recorded d₁ ≡ t + length bs) (standing : Stand d₁ t bs) (q : Wrote d₁ (unpack l₁) (Some v) (entry (extent n t ∷ []) (t + length bs)) d₂ l₂) (w : Writable (unpack l₁) (Some v)) where
  abbrev es : List Extent
  es = extent n t ∷ []

  abbrev b : ℕ
  b = t + length bs

  still : Stand d₂ t bs
  still = stand-on q.more bs t (omega (arith, counted)) standing

  entry-there : (eqb (kind_at d₂ b) 1 ≡ true) × (sector_at d₂ b ≡ entry es b)
  entry-there =
      let s = data-there d₂ b (entry es b) (ap (content d₂) (sym here) ∙ q.holds) in
      (eq-eqb (kind_at d₂ b) 1 s.0, s.1)

  lies-there : lies d₂.kinds b (extent n t) ≡ true
  unfolding lies
  lies-there =
      let sectors : (n + 2047) / sector_length ≤ length bs = omega arith in
      rw (lt-ltb 0 n some_bytes, lt-ltb n 1073741824 few_bytes, le-leb (t + (n + 2047) / sector_length) b (omega (arith, sectors))) (all-data bs d₂ t still ((n + 2047) / sector_length) sectors)

  is-there : (is_entry d₂.kinds (entry es b) b ≡ true) × (extents_of (entry es b) ≡ es)
  is-there = reads-back d₂.kinds es b (omega (arith, here, q.small)) (lit≤ tt) (lit≤ tt) (one-laid d₂.kinds b (extent n t) lies-there)

  its-run : extents_at d₂ b ≡ es
  its-run = ap extents_of entry-there.1 ∙ is-there.1

  run-bytes : run_bytes d₂ es ≡ take n (joined_blocks bs)
  unfolding run_bytes extent_bytes
  run-bytes =
      let from : List ℕ = drop (sector_length * t) d₂.image in
      append-nil (take n from) ∙ sym (take-take n (sector_length * length bs) from short) ∙ ap (take n) (all-bytes bs d₂ t still)

  -- the number names the entry
  numbered : (not_in_use (unpack l₂) v ≡ false) × (block_of (unpack l₂) v ≡ b)
  numbered =
      let named = names-block (unpack l₁) v (target (unpack l₁)) w good.long q.small in
      (ap (λ (u : Volume). not_in_use u v) q.unpacked ∙ named.0, ap (λ (u : Volume). block_of u v) q.unpacked ∙ named.1 ∙ here)

  module _ (offset : ℕ) (out : List ℕ) (inside : offset ≤ n) (room : length out ≤ most_viewed) where
    view-is-done : view_outcome d₂ l₂ v offset out ≡ 0
    unfolding view_outcome first
    view-is-done =
        let is : entry_at d₂ b ≡ true = ap (λ (s : List ℕ). is_entry d₂.kinds s b) entry-there.1 ∙ is-there.0 in
        rw (sound-sized d₂ q.sound-disc, eq-eqb (length l₂) ledger_length q.long, le-leb (length out) most_viewed room, sound-order d₂ q.sound-disc, q.fit, numbered.0, numbered.1, entry-there.0, is, its-run, one-total n t, le-ltb n offset inside)

    run-shown : shown_from d₂ b offset (length out) ≡ take (length out) (drop offset (take n (joined_blocks bs)))
    unfolding shown_from
    run-shown = ap (λ (bytes : List ℕ). take (length out) (drop offset bytes)) (ap (run_bytes d₂) its-run ∙ run-bytes)

    pub entry-shows : seen (view d₂ l₂ v offset out) ≡ filling (take (length out) (drop offset (take n (joined_blocks bs)))) out
    entry-shows =
        ap seen (sym (view-done d₂ l₂ v offset out view-is-done))
        ∙ ap (λ (bytes : List ℕ). filling bytes out) (ap (λ (x : ℕ). shown_from d₂ x offset (length out)) numbered.1 ∙ run-shown)
