-- What an earlier entry shows stays, proved: after any events a number that names the same block tells what it told before.
--     entries-stay      of any two ledgers that fit
--     earlier-entries   of each save that a look back reaches, drawn from it
-- Assumes nothing.
use Prim.Native.Nat.{ℕ, ◌+◌, ◌<◌}
use native.Mathlib.Omega.{arith}
use mathlib.Core.Path.{◌≡◌, refl, sym, ap, ◌∙◌, subst}
use mathlib.Core.Bool.{true, false}
use mathlib.Core.List.{List}
use Rattle.std.specs.Prelude.{Option, None, Some}
use lib.Dec.{eqb, lit<}
use lib.ListN.{length, get_or}
use Rattle.vat.specs.Table.{unused}
use Rattle.disc.specs.Disc.{Disc, recorded}
use Rattle.std.specs.Prelude.{Ok}
use Rattle.disc.specs.Tables.{table_at, map_at, newest}
use Rattle.disc.proofs.Recording.{Sound, leading_le}
use Rattle.disc.proofs.Found.{table-recorded, newest-table}
use Rattle.volume.specs.Volume.{ledger_length, read_only, unpack, pack}
use Rattle.recorder.specs.Calls.{begin, mount, look_back}
use Rattle.recorder.specs.Refusals.{block_of, walk_from, walked}
use Rattle.recorder.specs.Effects.{after, shown_at}
use Rattle.recorder.proofs.Done.{ledger-accepted, look-back-done}
use Rattle.recorder.proofs.Answers.{walked-table}
use Rattle.history.specs.History.{History}
use Rattle.history.specs.Events.{World, runs, remembers, after_call, begun_history, mounted_history}
use Rattle.history.specs.Recorded.{Untouched}
use Rattle.history.proofs.Log.{Extends}
use Rattle.history.proofs.Growth.{F}
use Rattle.history.proofs.Back.{walk-way, Behind, Since}
use Rattle.history.proofs.Shown.{HoldsMap, holds-table}
use Rattle.history.proofs.Theorem.{Kept, all-kept, all-extends, all-since, walked-behind, look-back-leaves, begun_kept, mounted-kept}
use Rattle.history.proofs.Recorded.{write-once, untouched-more, untouched-content}
use Rattle.archive.specs.Earlier.{Fitting, ShownAlike, EntriesStay, SeenLater, EarlierEntries}
use Rattle.archive.proofs.Runs.{SameBelow}
use Rattle.archive.proofs.Views.{Fit, fit_of, fitting-of, block-recorded, read_told, view_told, read-tells, view_tells_lem, read_same, view-same}

-- ---- of any two ledgers that fit

-- a disc that only adds to another has the same data below what was recorded
same-below : {d d' : Disc} → Untouched d d' → SameBelow (recorded d) d d'
same-below {d} {d'} u =
    record { sectors = leading_le d.kinds; sectors' = omega (arith, untouched-more u, leading_le d'.kinds); contents = untouched-content u }

shown-alike : {d d' : Disc} → Untouched d d' → (now then : List ℕ) → Fitting d now → Fitting d' then → (n m : ℕ) → block_of (unpack then) m ≡ block_of (unpack now) n → ShownAlike d d' now then n m
shown-alike {d} {d'} u now then fit fit' n m same =
    let f : Fit d now = fit_of d now fit in
    let f' : Fit d' then = fit_of d' then fit' in
    let x : ℕ = block_of (unpack now) n in
    let inside : eqb x unused ≡ false → x < recorded d = block-recorded d (unpack now) f.parts n in
    record {
      reads = λ block.
          read-tells d' then f' m block ∙ ap (λ (b : ℕ). read_told d' b block) same ∙ read_same (same-below u) x inside block ∙ sym (read-tells d now f n block);
      views = λ offset buffer.
          view_tells_lem d' then f' m offset buffer ∙ ap (λ (b : ℕ). view_told d' b offset buffer) same ∙ view-same (same-below u) x inside offset buffer
          ∙ sym (view_tells_lem d now f n offset buffer);
    }

pub entries-stay : EntriesStay
entries-stay w es = shown-alike (write-once w es)

-- ---- of each save that a look back reaches

-- the table that it reaches is so many steps back
reached-behind : (d : Disc) → Sound d → (k t : ℕ) → walked d k ≡ Ok t → Behind F d k t
unfolding walked
reached-behind d ok k t e = go (newest d) refl e
  where
    go : (o : Option ℕ) → newest d ≡ o → walk_from d k o ≡ Ok t → Behind F d k t
    go None n e = absurd (let z : ◌≡◌ {A = ℕ} 0 1 = cc in omega arith)
    go (Some b) n e =
        record {
          newest = b;
          is-newest = n;
          way = walk-way F d (table-recorded d ok) k b t (table-recorded d ok b (newest-table (table_at d) (recorded d) b n)) e;
        }

-- what it leaves fits the disc, and names the blocks of that table
module _ (d : Disc) (ok : Sound d) (l : List ℕ) (long : length l ≡ ledger_length) (k t : ℕ) (r : Behind F d k t) (table : table_at d t ≡ true) where
  left_behind : (after d l (look_back k)).ledger ≡ pack (shown_at d t read_only)
  left_behind = look-back-leaves d l ok long k r.newest t r.is-newest (walked-behind d k t r)

  held : HoldsMap d (pack (shown_at d t read_only)) (map_at d t)
  held = holds-table d ok t read_only (lit< tt) (refl, refl) table

  fits-behind : Fitting d (after d l (look_back k)).ledger
  fits-behind = subst (Fitting d) (sym left_behind) (fitting-of d (pack (shown_at d t read_only)) ok held.long held.fit)

  block-behind : (n : ℕ) → block_of (unpack (after d l (look_back k)).ledger) n ≡ get_or (map_at d t) n unused
  block-behind n = ap (λ (m : List ℕ). block_of (unpack m) n) left_behind ∙ held.entry n

seen-later : (w : World) (h : History) → Kept w h → SeenLater w h
seen-later w h r later follow m counted k now then done then-long n offset buffer =
    let d : Disc = w.disc in
    let d' : Disc = (runs w later).disc in
    let ok : Sound d = r.good.sound-disc in
    let ok' : Sound d' = (all-kept later w h r follow).good.sound-disc in
    let e : Extends F d d' = all-extends later w r.good follow in
    let way = (look-back-done d now k done).1 in
    let t : ℕ = way.0 in
    let table : table_at d t ≡ true = walked-table d k t way.1 in
    let inside : t < recorded d = table-recorded d ok t table in
    let b : Behind F d k t = reached-behind d ok k t way.1 in
    let s : Since F d' (remembers w h later).pages (length h.pages) k t = all-since later w h r follow (record { followed = k; counted = refl; behind = b }) in
    let back : s.followed ≡ m + k = omega (arith, s.counted, counted) in
    let b' : Behind F d' (m + k) t = subst (λ (j : ℕ). Behind F d' j t) back s.behind in
    let table' : table_at d' t ≡ true = e.tables t inside ∙ table in
    let long : length now ≡ ledger_length = ledger-accepted d now (look_back k) done in
    let same : block_of (unpack (after d' then (look_back (m + k))).ledger) n ≡ block_of (unpack (after d now (look_back k)).ledger) n =
    block-behind d' ok' then then-long (m + k) t b' table' n ∙ ap (λ (xs : List ℕ). get_or xs n unused) (e.maps t inside) ∙ sym (block-behind d ok now long k t b table n) in
    (entries-stay w later (after d now (look_back k)).ledger (after d' then (look_back (m + k))).ledger
    (fits-behind d ok now long k t b table) (fits-behind d' ok' then then-long (m + k) t b' table') n n same).views offset buffer

pub earlier-entries : EarlierEntries
earlier-entries =
    record {
      after-begin = λ d l e es a.
          seen-later (runs (after_call d l begin) es) (remembers (after_call d l begin) begun_history es) (all-kept es (after_call d l begin) begun_history (begun_kept d l e) a);
      after-mount = λ d l e es a.
          seen-later (runs (after_call d l mount) es) (remembers (after_call d l mount) (mounted_history d) es) (all-kept es (after_call d l mount) (mounted_history d) (mounted-kept d l e) a);
    }
