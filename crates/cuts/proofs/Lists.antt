-- The claim about power cuts is not empty: lists of events that the checker works out from the definitions. Every event in them is allowed, each list
-- leaves the pages that are written beside it, with real bytes in them, and on the disc that it leaves mount shows the newest of them and each look back
-- its own.
-- Assumes nothing.
use Prim.Native.Nat.{ℕ}
use mathlib.Core.Bool.{Bool, true, ◌&&◌}
use mathlib.Core.List.{List, [], ◌∷◌}
use Rattle.std.specs.Prelude.{Option, None, Some}
use mathlib.Core.Path.{sym, subst}
use lib.Dec.{T, eqb}
use lib.ListN.{length, get_or, replicate}
use Rattle.vat.specs.Table.{unused}
use Rattle.vat.specs.Sector.{no_stamp, table_bytes, icb}
use Rattle.vat.specs.Own.{own_sector}
use Rattle.disc.specs.Disc.{Disc, link, plain, torn, puts}
use Rattle.disc.specs.Again.{same}
use Rattle.volume.specs.declared.Volume.{Volume}
use Rattle.volume.specs.Volume.{unpack}
use Rattle.recorder.specs.Calls.{begin, mount, write, release, close_packet, commit, look_back}
use Rattle.recorder.specs.Refusals.{ledger_lent}
use Rattle.recorder.specs.Effects.{after}
use Rattle.history.specs.History.{unused_entry, shows, Snapshot, History, feed}
use Rattle.history.specs.Events.{World, Event, calls, cuts, cut_disc, runs, remembers, after_call, begun_history, mounted_history}
use Rattle.bench.proofs.States.{Step, step, holds-own, Left, both, stepped}
use Rattle.bench.proofs.Starred.{opened, blank, block, full}
use Rattle.cuts.proofs.Pages.{joint, same-entry, same-page, same-pages}
use Rattle.cuts.proofs.Worked.{Played, So, played, more-so, played-from, from-so, works, Works, works-so}
use Rattle.cuts.proofs.CutCommit.{commit-works}

-- A list is worked out on a blank disc of n sectors, after begin.
abbrev pub start : ℕ → World
start n = after_call (blank n) full begin

abbrev pub Begun : ℕ → List Event → List Snapshot → Type 0
Begun n es ps = Works (blank n) begin begun_history es ps

abbrev pub Mounted : Disc → List Event → List Snapshot → Type 0
Mounted d es ps = Works d mount (mounted_history d) es ps

-- ---- the sectors that a cut leaves

-- a link that is kept, and a block that is struck, or stays blank
abbrev struck : Option (List ℕ) → List ℕ
struck tear = (cut_disc (blank 4) (link ∷ plain (block 1) ∷ plain (block 2) ∷ []) 1 tear).kinds

kinds-left : T (same (struck (Some (block 9))) (2 ∷ 3 ∷ 0 ∷ 0 ∷ []) && same (struck None) (2 ∷ 0 ∷ 0 ∷ 0 ∷ []))
unfolding opened cut_disc
kinds-left = tt

-- ---- the lists

-- begin, write, commit, a commit cut in the links, look back, mount
unfoldable pub in-the-links : List Event
in-the-links =
    calls (write (Some 0) (block 5)) [] ∷ calls (commit None) [] ∷ calls close_packet [] ∷ cuts (commit None) [] 3 (Some (block 9)) ∷ calls (look_back 0) full ∷ calls mount full ∷ []

unfoldable pub in-the-links-pages : List Snapshot
in-the-links-pages = (shows 0 (Some (block 5)) ∷ []) ∷ []

pub shown-in-the-links : Begun 17 in-the-links in-the-links-pages
unfolding works in-the-links in-the-links-pages
shown-in-the-links = works-so (blank 17) begin begun_history in-the-links in-the-links-pages tt

-- a cut before the first table: no page
unfoldable pub no-table-yet : List Event
no-table-yet = cuts (write (Some 0) (block 4)) [] 1 None ∷ []

pub shown-no-table-yet : Begun 17 no-table-yet []
unfolding works no-table-yet
shown-no-table-yet = works-so (blank 17) begin begun_history no-table-yet [] tt

-- the same, then begin, and a save
unfoldable pub before-the-first-table : List Event
before-the-first-table =
    cuts (write (Some 0) (block 4)) [] 1 None ∷ calls mount full ∷ calls begin [] ∷ calls begin full ∷ calls (write (Some 0) (block 6)) [] ∷ calls (commit None) [] ∷ []

unfoldable pub first-table-pages : List Snapshot
first-table-pages = (shows 8 (Some (block 6)) ∷ []) ∷ []

pub shown-before-the-first-table : Begun 25 before-the-first-table first-table-pages
unfolding works before-the-first-table first-table-pages
shown-before-the-first-table = works-so (blank 25) begin begun_history before-the-first-table first-table-pages tt

-- a sector that was struck is unreadable, though its bytes are those of a table at its block
unfoldable pub looks-like-a-table : List Event
looks-like-a-table = calls (write (Some 0) (block 5)) [] ∷ calls (commit None) [] ∷ cuts (commit None) [] 0 (Some (icb (table_bytes [] 1) [] no_stamp 2)) ∷ []

unfoldable pub struck-pages : List Snapshot
struck-pages = (shows 0 (Some (block 5)) ∷ []) ∷ []

pub shown-looks-like-a-table : Begun 17 looks-like-a-table struck-pages
unfolding works looks-like-a-table struck-pages
shown-looks-like-a-table = works-so (blank 17) begin begun_history looks-like-a-table struck-pages tt

-- a save three back, and a number released
unfoldable pub three_back : List Event
three_back =
    calls (write (Some 0) (block 1)) [] ∷ calls (commit None) []
    ∷ calls (write (Some 1) (block 2)) [] ∷ calls (commit None) []
    ∷ calls (release 0) [] ∷ calls (commit None) []
    ∷ calls (write (Some 0) (block 3)) [] ∷ calls (commit None) []
    ∷ []

unfoldable pub three-back-pages : List Snapshot
three-back-pages =
    (shows 5 (Some (block 3)) ∷ shows 2 (Some (block 2)) ∷ [])
    ∷ (unused_entry ∷ shows 2 (Some (block 2)) ∷ [])
    ∷ (shows 0 (Some (block 1)) ∷ shows 2 (Some (block 2)) ∷ [])
    ∷ (shows 0 (Some (block 1)) ∷ [])
    ∷ []

pub shown-three-back : Begun 22 three_back three-back-pages
unfolding works three_back three-back-pages
shown-three-back = works-so (blank 22) begin begun_history three_back three-back-pages tt

-- a mount on a disc whose block of number 0 cannot be read; then a save, and a write of that number that is cut
unfoldable pub scratched : Disc
scratched = puts (blank 29) 0 (torn (block 5) ∷ plain (block 6) ∷ plain (icb (table_bytes (0 ∷ 1 ∷ []) unused) [] no_stamp 2) ∷ [])

unfoldable pub on-scratched : List Event
on-scratched = calls (write (Some 2) (block 7)) [] ∷ calls (commit None) [] ∷ cuts (write (Some 0) (block 8)) [] 1 None ∷ []

unfoldable pub scratched-pages : List Snapshot
scratched-pages =
    (shows 0 None ∷ shows 1 (Some (block 6)) ∷ shows 10 (Some (block 7)) ∷ [])
    ∷ (shows 0 None ∷ shows 1 (Some (block 6)) ∷ [])
    ∷ []

pub shown-on-scratched : Mounted scratched on-scratched scratched-pages
unfolding works scratched on-scratched scratched-pages
shown-on-scratched = works-so scratched mount (mounted_history scratched) on-scratched scratched-pages tt

-- a save on it that is cut, a write that is refused while the ledger is lost, a mount and a save, and one more that is cut
unfoldable pub cut_twice : List Event
cut_twice =
    calls (write (Some 2) (block 7)) [] ∷ cuts (commit None) [] 0 (Some (block 9)) ∷ calls (write (Some 0) (block 8)) []
    ∷ calls mount full ∷ calls (commit None) [] ∷ cuts (commit None) [] 0 None ∷ []

unfoldable pub cut-twice-pages : List Snapshot
cut-twice-pages = (shows 0 None ∷ shows 1 (Some (block 6)) ∷ []) ∷ (shows 0 None ∷ shows 1 (Some (block 6)) ∷ []) ∷ []

pub shown-cut-twice : Mounted scratched cut_twice cut-twice-pages
unfolding works scratched cut_twice cut-twice-pages
shown-cut-twice = works-so scratched mount (mounted_history scratched) cut_twice cut-twice-pages tt

-- writes without a number, done and cut, between saves: no page shows their blocks
unfoldable pub unnumbered : List Event
unnumbered =
    calls (write (Some 0) (block 5)) [] ∷ calls (commit None) []
    ∷ calls (write None (block 6)) [] ∷ calls (commit None) []
    ∷ cuts (write None (block 7)) [] 1 None ∷ calls mount full ∷ calls (commit None) []
    ∷ []

unfoldable pub unnumbered-pages : List Snapshot
unnumbered-pages = (shows 0 (Some (block 5)) ∷ []) ∷ (shows 0 (Some (block 5)) ∷ []) ∷ (shows 0 (Some (block 5)) ∷ []) ∷ []

pub shown-unnumbered : Begun 21 unnumbered unnumbered-pages
unfolding works unnumbered unnumbered-pages
shown-unnumbered = works-so (blank 21) begin begun_history unnumbered unnumbered-pages tt

-- a commit cut after each j of its 8 sectors: 0 to 7 show the old save, 8 the new
unfoldable pub before-the-cut : List Event
before-the-cut = calls (write (Some 0) (block 5)) [] ∷ calls (commit None) [] ∷ calls (write (Some 1) (block 6)) [] ∷ calls close_packet [] ∷ []

unfoldable pub old-page : Snapshot
old-page = shows 0 (Some (block 5)) ∷ []

unfoldable pub new-page : Snapshot
new-page = shows 0 (Some (block 5)) ∷ shows 2 (Some (block 6)) ∷ []

-- for every j at once: after these calls a commit has 8 sectors, the old page is the newest and the new one is the draft
pub shown-before-the-cut : T (commit-works (blank 19) begin begun_history before-the-cut 8 (old-page ∷ []) new-page)
unfolding commit-works before-the-cut old-page new-page
shown-before-the-cut = tt

-- a mount on a table of 504 numbers in two own sectors, a write, and a commit of 7 links, both own sectors and the ICB: a page only with the ICB
unfoldable pub large-table : List ℕ
large-table = table_bytes (replicate 504 unused) unused

unfoldable pub large : Disc
unfolding large-table
large = puts (blank 27) 0 (plain (own_sector large-table 0) ∷ plain (own_sector large-table 1) ∷ plain (icb large-table (0 ∷ 1 ∷ []) no_stamp 2) ∷ [])

unfoldable pub before-the-large-cut : List Event
before-the-large-cut = calls (write (Some 0) (block 5)) [] ∷ calls close_packet [] ∷ []

unfoldable pub large-page : Snapshot
large-page = replicate 504 unused_entry

unfoldable pub next-large-page : Snapshot
next-large-page = shows 10 (Some (block 5)) ∷ replicate 503 unused_entry

pub shown-before-the-large-cut : T (commit-works large mount (mounted_history large) before-the-large-cut 10 (large-page ∷ []) next-large-page)
unfolding commit-works large before-the-large-cut large-page next-large-page
shown-before-the-large-cut = tt

-- and for each j alone, worked out, of the first of these commits: the history after the cut has these pages, and mount finds a table of the newest one's size
abbrev cut_after : ℕ → Event
cut_after j = cuts (commit None) [] j (Some (block 9))

unfoldable pub finds : World → History → List Snapshot → Bool
finds w h ps = same-pages h.pages ps && eqb (unpack (after w.disc full mount).ledger).size (length (get_or ps 0 []))

unfoldable pub each-cut : World → History → List ℕ → List Snapshot → Bool
each-cut w h [] ps = true
each-cut w h (j ∷ js) ps = finds (runs w (cut_after j ∷ [])) (remembers w h (cut_after j ∷ [])) ps && each-cut w h js ps

-- on the states that the ledgers hold
unfoldable pub finds-held : Played → List Snapshot → Bool
finds-held p ps =
    let s : Step = step p.disc (ledger_lent full) (unpack full) mount in
    p.allowed && (s.held && (same-pages p.past.pages ps && eqb s.state.size (length (get_or ps 0 []))))

unfoldable pub each-held : Played → List ℕ → List Snapshot → Bool
unfolding opened same-entry same-page same-pages finds-held cut_disc feed played
each-held p [] ps = true
each-held p (j ∷ js) ps = let q : Played = played p.allowed p.disc p.kept p.past (cut_after j ∷ []) in finds-held q ps && each-held p js ps

module _ (w : World) (h : History) (es : List Event) (p : Played) (so : So w h es p) where
  found : (j : ℕ) (ps : List Snapshot) → let q : Played = played p.allowed p.disc p.kept p.past (cut_after j ∷ []) in T (finds-held q ps)
      → T (finds (runs (runs w es) (cut_after j ∷ [])) (remembers (runs w es) (remembers w h es) (cut_after j ∷ [])) ps)
  unfolding finds-held finds
  found j ps t =
      let q : Played = played p.allowed p.disc p.kept p.past (cut_after j ∷ []) in
      let s : Step = step q.disc (ledger_lent full) (unpack full) mount in
      let size : Bool = eqb s.state.size (length (get_or ps 0 [])) in
      let a = both q.allowed (s.held && (same-pages q.past.pages ps && size)) t in
      let b = both s.held (same-pages q.past.pages ps && size) a.1 in
      let c = both (same-pages q.past.pages ps) size b.1 in
      let cut = more-so w h es p so (cut_after j ∷ []) a.0 in
      let left : Left (after q.disc full mount) s = stepped q.disc full mount (holds-own full) b.0 in
      joint (same-pages (remembers (runs w es) (remembers w h es) (cut_after j ∷ [])).pages ps)
      (eqb (unpack (after (runs (runs w es) (cut_after j ∷ [])).disc full mount).ledger).size (length (get_or ps 0 [])))
      (subst (λ (x : History). T (same-pages x.pages ps)) (sym cut.past) c.0)
      (subst (λ (x : Disc). T (eqb (unpack (after x full mount).ledger).size (length (get_or ps 0 [])))) (sym cut.disc)
      (subst (λ (v : Volume). T (eqb v.size (length (get_or ps 0 [])))) (sym left.holds.unpacked) c.1))

  each-found : (js : List ℕ) (ps : List Snapshot) → T (each-held p js ps) → T (each-cut (runs w es) (remembers w h es) js ps)
  unfolding each-held each-cut
  each-found [] ps t = tt
  each-found (j ∷ js) ps t =
      let q : Played = played p.allowed p.disc p.kept p.past (cut_after j ∷ []) in
      let s = both (finds-held q ps) (each-held p js ps) t in
      joint (finds (runs (runs w es) (cut_after j ∷ [])) (remembers (runs w es) (remembers w h es) (cut_after j ∷ [])) ps) (each-cut (runs w es) (remembers w h es) js ps)
      (found j ps s.0) (each-found js ps s.1)

unfoldable pub every_held : List Snapshot → List Snapshot → Bool
unfolding each-held before-the-cut played-from
every_held old new =
    let p : Played = played-from (blank 19) begin begun_history before-the-cut in
    p.allowed && (each-held p (0 ∷ 1 ∷ 2 ∷ 3 ∷ 4 ∷ 5 ∷ 6 ∷ 7 ∷ []) old && each-held p (8 ∷ []) new)

held-every-cut : T (every_held (old-page ∷ []) (new-page ∷ old-page ∷ []))
unfolding every_held old-page new-page
held-every-cut = tt

shown-every-cut :
    let w : World = runs (start 19) before-the-cut in
    let h : History = remembers (start 19) begun_history before-the-cut in
    T (each-cut w h (0 ∷ 1 ∷ 2 ∷ 3 ∷ 4 ∷ 5 ∷ 6 ∷ 7 ∷ []) (old-page ∷ [])) × T (each-cut w h (8 ∷ []) (new-page ∷ old-page ∷ []))
unfolding every_held
shown-every-cut =
    let p : Played = played-from (blank 19) begin begun_history before-the-cut in
    let first : Bool = each-held p (0 ∷ 1 ∷ 2 ∷ 3 ∷ 4 ∷ 5 ∷ 6 ∷ 7 ∷ []) (old-page ∷ []) in
    let last : Bool = each-held p (8 ∷ []) (new-page ∷ old-page ∷ []) in
    let a = both p.allowed (first && last) held-every-cut in
    let b = both first last a.1 in
    let so : So (start 19) begun_history before-the-cut p = from-so (blank 19) begin begun_history before-the-cut a.0 in (
      each-found (start 19) begun_history before-the-cut p so (0 ∷ 1 ∷ 2 ∷ 3 ∷ 4 ∷ 5 ∷ 6 ∷ 7 ∷ []) (old-page ∷ []) b.0,
      each-found (start 19) begun_history before-the-cut p so (8 ∷ []) (new-page ∷ old-page ∷ []) b.1,
    )
