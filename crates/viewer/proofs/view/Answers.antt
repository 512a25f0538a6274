-- `viewer::view` meets its contract: what a read of the same number answers, and then whether what it reads is the entry of a run.
-- Assumes nothing.
use Prim.Native.Nat.{ℕ, ◌*◌, ◌<◌, ◌≤◌}
use native.Mathlib.Omega.{arith}
use mathlib.Core.Path.{◌≡◌, sym, ap, ap₂, ◌∙◌}
use mathlib.Core.Bool.{Bool, true, false, not}
use mathlib.Core.List.{List, [], ◌∷◌}
use Rattle.std.specs.Prelude.{Result, Ok, Err}
use Rattle.std.proofs.Common.{rules}
use lib.Dec.{ltb}
use lib.ListN.{length, take, drop, replicate, length-replicate}
use borrow.Author.Tests.{not-false, le-ltb, lt-ltb}
use Rattle.le.specs.Field.{read_le}
use Rattle.vat.specs.Table.{sector_length}
use Rattle.extent.specs.Extents.{total_length}
use Rattle.disc.specs.Disc.{Disc, lent, recorded, sector_at}
use Rattle.disc.proofs.Recording.{sized-tells, sound-sized, leading_le}
use Rattle.disc.proofs.Found.{sector-long}
use Rattle.volume.specs.Volume.{places, ledger_length, unpack}
use Rattle.recorder.specs.Calls.{read}
use Rattle.recorder.specs.Refusals.{test, first, block_of, outcome}
use Rattle.recorder.specs.Effects.{After, left, after}
use Rattle.recorder.specs.declared.Refusal.{Refusal}
use Rattle.recorder.specs.Refused.{number, outcome_of, answer_of}
use Rattle.recorder.proofs.Refused.{number-above}
use Rattle.recorder.proofs.Done.{stop, skip, none_left, ledger-accepted, ReadDone, read_done, entry-recorded}
use Rattle.run.specs.Entry.{extents_of, is_entry, entry_at, extents_at, run_bytes}
use Rattle.run.specs.View.{most_viewed, view_outcome, shown_from, filled_with}
use Rattle.run.proofs.Theorems.{recognised}
use Rattle.viewer.proofs.Pieces.{of_image}
use Rattle.viewer.proofs.Outcome.{view-1, view-2, view-stopped, view-tested, view-refused, view-done, read-answers, read-shows}
use Rattle.viewer.proofs.view.Goals as goal
use Rattle.viewer.proofs.view.Goals.{In_ok-read, Else-not-is_entry}

-- what the read is lent
unfoldable spare : List ℕ
spare = replicate sector_length 0

spare-long : length spare ≡ sector_length
unfolding spare
spare-long = length-replicate {A = ℕ} sector_length 0

-- what a read that is done tells of the number's block and of the bytes that it leaves
record Shown (d : Disc) (l : List ℕ) (v : ℕ) (block : List ℕ) : Type 0 where
  done : outcome d l (read v spare) ≡ 0
  numbered : (length l ≡ ledger_length) × (v < places)
  within : block_of (unpack l) v < length d.kinds
  whole : length d.image ≡ sector_length * length d.kinds
  shown : block ≡ sector_at d (block_of (unpack l) v)
  long : length block ≡ sector_length

module _ (image kinds l : List ℕ) (v : ℕ) (answer : Result ℕ Refusal) (block : List ℕ)
    (said : left (answer_of answer) image kinds l block ≡ after (lent image kinds) l (read v spare)) where
  abbrev d : Disc
  d = lent image kinds

  answered : answer_of answer ≡ outcome d l (read v spare) * 4294967296
  answered = ap {A = After} (λ x. x.answer) said ∙ read-answers d l v spare

  refused : (r : Refusal) → answer ≡ Err r → outcome d l (read v spare) ≡ number r
  refused r w = omega (arith, sym answered ∙ ap answer_of w)

  shows : (n : ℕ) → n < 4294967296 → answer ≡ Ok n → Shown d l v block
  shows n low w =
      let done : outcome d l (read v spare) ≡ 0 = omega (arith, low, sym answered ∙ ap answer_of w) in
      let told : ReadDone d l v spare = read_done d l v spare done in
      let names : (v < (unpack l).size) × (block_of (unpack l) v < recorded d) = entry-recorded d (unpack l) v told.fit told.used in
      let within : block_of (unpack l) v < length kinds = omega (arith, names.1, leading_le kinds) in
      let shown : block ≡ sector_at d (block_of (unpack l) v) = ap {A = After} (λ x. x.buffer) said ∙ read-shows d l v spare done in
      record {
        done = done;
        numbered = (ledger-accepted d l (read v spare) done, omega (arith, names.0, told.fit.few));
        within = within;
        whole = told.sound-disc.whole;
        shown = shown;
        long = ap length shown ∙ sector-long d (sized-tells d (sound-sized d told.sound-disc)) (block_of (unpack l) v) within;
      }

-- whether it is the entry of a run, and how long that is
module _ (d : Disc) (l : List ℕ) (v offset : ℕ) (buffer block : List ℕ) (few : length buffer ≤ most_viewed) (r : Shown d l v block) where
  abbrev b : ℕ
  b = block_of (unpack l) v

  abbrev far : Bool
  far = ltb (total_length (extents_at d b)) offset

  tested : view_outcome d l v offset buffer ≡ first (test 19 (not (entry_at d b)) ∷ test 20 far ∷ [])
  tested = view-tested d l v offset buffer spare spare-long r.done few

  judged : (k : List ℕ) (e : ℕ) → e ≡ b → is_entry k block e ≡ is_entry k (sector_at d b) b
  judged k e h = ap₂ (is_entry k) r.shown h

  no-run : entry_at d b ≡ false → view_outcome d l v offset buffer ≡ 19
  no-run e = tested ∙ stop 19 (not (entry_at d b)) (test 20 far ∷ []) (ap not e)

  too-far : entry_at d b ≡ true → total_length (extents_at d b) < offset → view_outcome d l v offset buffer ≡ 20
  too-far e h = tested ∙ skip 19 (not (entry_at d b)) (test 20 far ∷ []) (ap not e) ∙ stop 20 far [] (lt-ltb (total_length (extents_at d b)) offset h)

  fine : entry_at d b ≡ true → offset ≤ total_length (extents_at d b) → view_outcome d l v offset buffer ≡ 0
  fine e h =
      tested ∙ skip 19 (not (entry_at d b)) (test 20 far ∷ []) (ap not e) ∙ skip 20 far [] (le-ltb (total_length (extents_at d b)) offset h) ∙ none_left

  informed : entry_at d b ≡ true → read_le 8 block 56 ≡ total_length (extents_at d b)
  informed e = ap (λ (x : List ℕ). read_le 8 x 56) r.shown ∙ (recognised d.kinds (sector_at d b) b e).information

pub returns-then-not-sized : goal.returns-then-not-sized
returns-then-not-sized c =
    let d : Disc = lent c.args.image.now c.args.kinds.now in
    view-refused d c.args.ledger.now c.args.v c.args.offset c.args.buffer.now 1
    (view-1 d c.args.ledger.now c.args.v c.args.offset c.args.buffer.now (sym c.sized.ensures ∙ c.if-not-sized.true)) (λ z. omega arith)

pub returns-then-buffer-gt-MOST_VIEWED : goal.returns-then-buffer-gt-MOST_VIEWED
returns-then-buffer-gt-MOST_VIEWED c =
    let d : Disc = lent c.args.image.now c.args.kinds.now in
    view-refused d c.args.ledger.now c.args.v c.args.offset c.args.buffer.now 2
    (view-2 d c.args.ledger.now c.args.v c.args.offset c.args.buffer.now (sym c.sized.ensures ∙ c.if-not-sized.false) c.if-buffer-gt-MOST_VIEWED.true)
    (λ z. omega arith)

above-0 : (r : Refusal) → number r ≡ 0 → ⊥
above-0 r z = omega (arith, number-above r)

pub returns-in_err-read : goal.returns-in_err-read
unfolding spare
returns-in_err-read c =
    let d : Disc = lent c.args.image.now c.args.kinds.now in
    let l : List ℕ = c.args.ledger.now in
    let e : Refusal = c.in_err-read.field-0.0 in
    let told : c.from_residual.result ≡ Err e = search rules in
    let found : outcome d l (read c.args.v spare) ≡ number e = refused d.image d.kinds l c.args.v c.read.result c.read.new.block c.read.ensures e c.in_err-read.was in
    ap (λ (x : Result ℕ Refusal). left (answer_of x) d.image d.kinds l c.args.buffer.now) told
    ∙ view-refused d l c.args.v c.args.offset c.args.buffer.now (number e)
    (view-stopped d l c.args.v c.args.offset c.args.buffer.now spare spare-long (λ z. above-0 e (sym found ∙ z)) (omega (arith, c.if-buffer-gt-MOST_VIEWED.false)) ∙ found) (above-0 e)

-- the read, as far as it is done
module _ (c : In_ok-read) where
  shown-here : Shown (lent c.args.image.now c.args.kinds.now) c.args.ledger.now c.args.v c.read.new.block
  unfolding spare
  shown-here = shows c.args.image.now c.args.kinds.now c.args.ledger.now c.args.v c.read.result c.read.new.block c.read.ensures c.in_ok-read.field-0 (omega arith) c.in_ok-read.was

pub entry-requires : goal.entry-requires
entry-requires c = (shown-here (goal.at.entry-requires c).In_ok-read).numbered

pub is_entry-requires : goal.is_entry-requires
is_entry-requires c =
    let r = shown-here (goal.at.is_entry-requires c).In_ok-read in
    (r.long, omega (arith, c.entry.ensures, r.within))

pub returns-then-not-is_entry : goal.returns-then-not-is_entry
returns-then-not-is_entry c =
    let d : Disc = lent c.args.image.now c.args.kinds.now in
    let few : length c.args.buffer.now ≤ most_viewed = omega (arith, c.if-buffer-gt-MOST_VIEWED.false) in
    let r = shown-here (goal.at.returns-then-not-is_entry c).In_ok-read in
    let none : entry_at d (block_of (unpack c.args.ledger.now) c.args.v) ≡ false =
    sym (judged d c.args.ledger.now c.args.v c.args.offset c.args.buffer.now c.read.new.block few r d.kinds c.entry.result c.entry.ensures) ∙ sym c.is_entry.ensures ∙ c.if-not-is_entry.true in
    view-refused d c.args.ledger.now c.args.v c.args.offset c.args.buffer.now 19
    (no-run d c.args.ledger.now c.args.v c.args.offset c.args.buffer.now c.read.new.block few r none) (λ z. omega arith)

-- behind the test of the entry it is one, and the length that it tells is the run's
module _ (c : Else-not-is_entry) (r : Shown (lent c.args.image.now c.args.kinds.now) c.args.ledger.now c.args.v c.read.new.block) where
  abbrev e : Disc
  e = lent c.args.image.now c.args.kinds.now

  abbrev n : ℕ
  n = block_of (unpack c.args.ledger.now) c.args.v

  few-here : length c.args.buffer.now ≤ most_viewed
  few-here = omega (arith, c.if-buffer-gt-MOST_VIEWED.false)

  entry-here : is_entry c.args.kinds.now c.read.new.block n ≡ true
  entry-here = ap (is_entry c.args.kinds.now c.read.new.block) (sym c.entry.ensures) ∙ sym c.is_entry.ensures ∙ c.if-not-is_entry.false

  is-run : entry_at e n ≡ true
  is-run = ap (λ (x : List ℕ). is_entry c.args.kinds.now x n) (sym r.shown) ∙ entry-here

pub returns-then-information_length-offset : goal.returns-then-information_length-offset
returns-then-information_length-offset c =
    let d : Disc = lent c.args.image.now c.args.kinds.now in
    let r = shown-here (goal.at.returns-then-information_length-offset c).In_ok-read in
    let h = (goal.at.returns-then-information_length-offset c).Else-not-is_entry in
    let long : c.information_length.result ≡ total_length (extents_at d (n h r)) =
    c.information_length.ensures ∙ informed d c.args.ledger.now c.args.v c.args.offset c.args.buffer.now c.read.new.block (few-here h r) r (is-run h r) in
    view-refused d c.args.ledger.now c.args.v c.args.offset c.args.buffer.now 20
    (too-far d c.args.ledger.now c.args.v c.args.offset c.args.buffer.now c.read.new.block (few-here h r) r (is-run h r)
    (omega (arith, long, c.if-information_length-offset.true))) (λ z. omega arith)

pub show-requires : goal.show-requires
show-requires c =
    let r = shown-here (goal.at.show-requires c).In_ok-read in
    let h = (goal.at.show-requires c).Else-not-is_entry in
    (c.args.kinds.now, n h r, entry-here h r, omega (arith, r.whole, r.within))

pub returns : goal.returns
unfolding shown_from
returns c =
    let d : Disc = lent c.args.image.now c.args.kinds.now in
    let B : List ℕ = c.args.buffer.now in
    let r = shown-here (goal.at.returns c).In_ok-read in
    let h = (goal.at.returns c).Else-not-is_entry in
    let long : c.information_length.result ≡ total_length (extents_at d (n h r)) =
    c.information_length.ensures ∙ informed d c.args.ledger.now c.args.v c.args.offset B c.read.new.block (few-here h r) r (is-run h r) in
    let bytes : List ℕ = shown_from d (n h r) c.args.offset (length B) in
    let same : take (length B) (drop c.args.offset (run_bytes (lent d.image []) (extents_of c.read.new.block))) ≡ bytes =
    ap (λ (x : List ℕ). take (length B) (drop c.args.offset x))
    (of_image d.image d.kinds (extents_of c.read.new.block) ∙ ap (λ (x : List ℕ). run_bytes d (extents_of x)) r.shown) in
    ap₂ (λ (a : ℕ) (x : List ℕ). left a d.image d.kinds c.args.ledger.now x) (c.show.ensures.0 ∙ ap length same) (c.show.ensures.1 ∙ ap (λ (x : List ℕ). filled_with x B) same)
    ∙ view-done d c.args.ledger.now c.args.v c.args.offset B
    (fine d c.args.ledger.now c.args.v c.args.offset B c.read.new.block (few-here h r) r (is-run h r) (omega (arith, long, c.if-information_length-offset.false)))
