-- Pages compared: tests that compute, and what a test that passes says.
-- Assumes nothing.
use Prim.Native.Nat.{ℕ, ◌+◌, ◌*◌}
use mathlib.Core.Bool.{Bool, true, false, ◌&&◌}
use mathlib.Core.List.{List, [], ◌∷◌}
use Rattle.std.specs.Prelude.{None, Some}
use mathlib.Core.Path.{◌≡◌, refl, sym, ap, ap₂, subst, subst₂}
use lib.Dec.{T, eqb, leb, eqb→eq}
use Rattle.disc.specs.Disc.{Disc}
use Rattle.disc.specs.Again.{same}
use Rattle.volume.specs.declared.Volume.{Volume}
use Rattle.volume.specs.Volume.{unpack}
use Rattle.recorder.specs.Calls.{Call, mount, read, look_back}
use Rattle.recorder.specs.Refusals.{ledger_lent, outcome}
use Rattle.recorder.specs.Effects.{After, after}
use Rattle.history.specs.History.{Entry, unused_entry, shows, Snapshot}
use Rattle.bench.proofs.States.{outcome_of, Step, step, Holds, holds-own, Left, both, outcome-same, stepped}
use Rattle.bench.proofs.Starred.{block, same_bytes, full}

-- ---- a page, compared with what a state on a disc reads

-- The answer of a read and the block that it leaves are what the entry says.
unfoldable pub reads_as : ℕ → List ℕ → Entry → Bool
reads_as answer buffer unused_entry = eqb answer (10 * 4294967296)
reads_as answer buffer (shows b (Some bytes)) = eqb answer 0 && same buffer bytes
reads_as answer buffer (shows b None) = eqb answer (11 * 4294967296)

unfoldable pub reads-page : Disc → List ℕ → ℕ → Snapshot → Bool
reads-page d l n [] = eqb (unpack l).size n
reads-page d l n (e ∷ es) = let a : After = after d l (read n (block 0)) in reads_as a.answer a.buffer e && reads-page d l (n + 1) es

-- A call, worked out, is done, for its answer is below 4,294,967,296, and shows the page.
unfoldable pub shows-page : Disc → After → Snapshot → Bool
shows-page d a p = leb a.answer 4294967295 && reads-page d a.ledger 0 p

-- Mount shows the newest of the pages, or is refused where there is none.
unfoldable pub mounts-to : Disc → List Snapshot → Bool
mounts-to d [] = eqb (outcome d full mount) 7
mounts-to d (p ∷ ps) = shows-page d (after d full mount) p

-- Look back k, k + 1 and so on show these pages.
unfoldable pub looks-to : Disc → ℕ → List Snapshot → Bool
looks-to d k [] = true
looks-to d k (p ∷ ps) = shows-page d (after d full (look_back k)) p && looks-to d (k + 1) ps

-- ---- the same, worked out on the states that the ledgers hold

unfoldable pub page-held : Disc → Bool → Volume → ℕ → Snapshot → Bool
page-held d long v n [] = eqb v.size n
page-held d long v n (e ∷ es) =
    let s : Step = step d long v (read n (block 0)) in
    (s.held && reads_as s.answer s.buffer e) && page-held d long v (n + 1) es

unfoldable pub shows-held : Disc → Step → Snapshot → Bool
shows-held d s p = s.held && (leb s.answer 4294967295 && page-held d s.long s.state 0 p)

unfoldable pub mounts-held : Disc → List Snapshot → Bool
mounts-held d [] = eqb (outcome_of d (ledger_lent full) (unpack full) mount) 7
mounts-held d (p ∷ ps) = let s : Step = step d (ledger_lent full) (unpack full) mount in shows-held d s p

unfoldable pub looks-held : Disc → ℕ → List Snapshot → Bool
looks-held d k [] = true
looks-held d k (p ∷ ps) = let s : Step = step d (ledger_lent full) (unpack full) (look_back k) in shows-held d s p && looks-held d (k + 1) ps

pub joint : (a b : Bool) → T a → T b → T (a && b)
joint true b t u = u
joint false b t u = absurd t

page-read : (p : Snapshot) (d : Disc) (l : List ℕ) (n : ℕ) {long : Bool} {v : Volume} → Holds l long v → T (page-held d long v n p) → T (reads-page d l n p)
unfolding page-held reads-page
page-read [] d l n h t = subst (λ (u : Volume). T (eqb u.size n)) (sym h.unpacked) t
page-read (e ∷ es) d l n {long} {v} h t =
    let s : Step = step d long v (read n (block 0)) in
    let a : After = after d l (read n (block 0)) in
    let here : Bool = reads_as s.answer s.buffer e in
    let q = both (s.held && here) (page-held d long v (n + 1) es) t in
    let r = both s.held here q.0 in
    let left : Left a s = stepped d l (read n (block 0)) h r.0 in
    joint (reads_as a.answer a.buffer e) (reads-page d l (n + 1) es)
    (subst₂ (λ (x : ℕ) (bytes : List ℕ). T (reads_as x bytes e)) (sym left.answer) (sym left.buffer) r.1) (page-read es d l (n + 1) h q.1)

shows-read : (d : Disc) (l : List ℕ) (c : Call) (p : Snapshot) {long : Bool} {v : Volume} → Holds l long v → T (shows-held d (step d long v c) p)
    → T (shows-page d (after d l c) p)
unfolding shows-held shows-page
shows-read d l c p {long} {v} h t =
    let s : Step = step d long v c in
    let a : After = after d l c in
    let below : Bool = leb s.answer 4294967295 in
    let page : Bool = page-held d s.long s.state 0 p in
    let q = both s.held (below && page) t in
    let r = both below page q.1 in
    let left : Left a s = stepped d l c h q.0 in
    joint (leb a.answer 4294967295) (reads-page d a.ledger 0 p)
    (subst (λ (x : ℕ). T (leb x 4294967295)) (sym left.answer) r.0) (page-read p d a.ledger 0 left.holds r.1)

pub mounts-read : (d : Disc) (ps : List Snapshot) → T (mounts-held d ps) → T (mounts-to d ps)
unfolding mounts-held mounts-to
mounts-read d [] t = subst (λ (n : ℕ). T (eqb n 7)) (sym (outcome-same d full mount (holds-own full))) t
mounts-read d (p ∷ ps) t = shows-read d full mount p (holds-own full) t

pub looks-read : (ps : List Snapshot) (d : Disc) (k : ℕ) → T (looks-held d k ps) → T (looks-to d k ps)
unfolding looks-held looks-to
looks-read [] d k t = tt
looks-read (p ∷ ps) d k t =
    let s : Step = step d (ledger_lent full) (unpack full) (look_back k) in
    let q = both (shows-held d s p) (looks-held d (k + 1) ps) t in
    joint (shows-page d (after d full (look_back k)) p) (looks-to d (k + 1) ps) (shows-read d full (look_back k) p (holds-own full) q.0) (looks-read ps d (k + 1) q.1)

-- ---- pages, compared with pages

unfoldable pub same-entry : Entry → Entry → Bool
same-entry unused_entry unused_entry = true
same-entry unused_entry (shows b c) = false
same-entry (shows b c) unused_entry = false
same-entry (shows b None) (shows b' None) = eqb b b'
same-entry (shows b None) (shows b' (Some y)) = false
same-entry (shows b (Some x)) (shows b' None) = false
same-entry (shows b (Some x)) (shows b' (Some y)) = eqb b b' && same x y

unfoldable pub same-page : Snapshot → Snapshot → Bool
same-page [] [] = true
same-page [] (e ∷ es) = false
same-page (e ∷ es) [] = false
same-page (e ∷ es) (f ∷ fs) = same-entry e f && same-page es fs

unfoldable pub same-pages : List Snapshot → List Snapshot → Bool
same-pages [] [] = true
same-pages [] (p ∷ ps) = false
same-pages (p ∷ ps) [] = false
same-pages (p ∷ ps) (q ∷ qs) = same-page p q && same-pages ps qs

entry-same : (e f : Entry) → T (same-entry e f) → e ≡ f
unfolding same-entry
entry-same unused_entry unused_entry t = refl
entry-same unused_entry (shows b c) t = absurd t
entry-same (shows b c) unused_entry t = absurd t
entry-same (shows b None) (shows b' None) t = ap (λ (x : ℕ). shows x None) (eqb→eq b b' t)
entry-same (shows b None) (shows b' (Some y)) t = absurd t
entry-same (shows b (Some x)) (shows b' None) t = absurd t
entry-same (shows b (Some x)) (shows b' (Some y)) t =
    let s = both (eqb b b') (same x y) t in
    ap₂ (λ (z : ℕ) (zs : List ℕ). shows z (Some zs)) (eqb→eq b b' s.0) (same_bytes x y s.1)

pub page-same : (p q : Snapshot) → T (same-page p q) → p ≡ q
unfolding same-page
page-same [] [] t = refl
page-same [] (f ∷ fs) t = absurd t
page-same (e ∷ es) [] t = absurd t
page-same (e ∷ es) (f ∷ fs) t =
    let s = both (same-entry e f) (same-page es fs) t in
    ap₂ (λ (z : Entry) (zs : Snapshot). z ∷ zs) (entry-same e f s.0) (page-same es fs s.1)

pub pages-same : (ps qs : List Snapshot) → T (same-pages ps qs) → ps ≡ qs
unfolding same-pages
pages-same [] [] t = refl
pages-same [] (q ∷ qs) t = absurd t
pages-same (p ∷ ps) [] t = absurd t
pages-same (p ∷ ps) (q ∷ qs) t =
    let s = both (same-page p q) (same-pages ps qs) t in
    ap₂ (λ (z : Snapshot) (zs : List Snapshot). z ∷ zs) (page-same p q s.0) (pages-same ps qs s.1)
