-- What the claim about power cuts gives for each list, drawn from it in plain equations: what mount and every look back answer, lent any 16,364 bytes, and
-- what each number then reads. The pages are those that proofs/Lists.antt works out from the definitions, where mount and look back are computed beside.
-- Assumes nothing.
use Prim.Native.Nat.{ℕ, suc, ◌+◌, ◌*◌, ◌≤◌, ◌<◌}
use native.Mathlib.Omega.{arith}
use mathlib.Core.Bool.{Bool, false}
use mathlib.Core.List.{List, [], ◌∷◌, ◌++◌}
use Rattle.std.specs.Prelude.{Option, None, Some}
use mathlib.Core.Path.{◌≡◌, ap, ◌∙◌, subst}
use lib.Dec.{T, eqb, lit≤}
use borrow.Author.Tests.{ne_eqb}
use lib.ListN.{length, get_or}
use Rattle.vat.specs.Table.{unused}
use Rattle.disc.specs.Disc.{Disc}
use Rattle.volume.specs.Volume.{unpack}
use Rattle.recorder.specs.Calls.{Call, begin, mount, commit, read, look_back}
use Rattle.recorder.specs.Refusals.{outcome}
use Rattle.recorder.specs.Effects.{after}
use Rattle.history.specs.History.{Entry, unused_entry, shows, Snapshot, History, saved_if}
use Rattle.history.specs.Events.{Event, cuts, Torn, AllAllowed, runs, remembers, after_call, begun_history, mounted_history}
use Rattle.history.specs.Claim.{block_number, reading, Shows, DoneShowing, Mounts, Claim}
use Rattle.history.proofs.Theorem.{power-cuts}
use Rattle.bench.proofs.Starred.{blank, block, full}
use Rattle.cuts.proofs.CutCommit.{commit-works, cut_started, cut-allowed, cut-pages}
use Rattle.cuts.proofs.Lists.{start, Begun, Mounted, in-the-links, in-the-links-pages, shown-in-the-links, no-table-yet, shown-no-table-yet}
use Rattle.cuts.proofs.Lists.{before-the-first-table, first-table-pages, shown-before-the-first-table}
use Rattle.cuts.proofs.Lists.{looks-like-a-table, struck-pages, shown-looks-like-a-table, three_back, three-back-pages, shown-three-back}
use Rattle.cuts.proofs.Lists.{unnumbered, unnumbered-pages, shown-unnumbered, cut_twice, cut-twice-pages, shown-cut-twice}
use Rattle.cuts.proofs.Lists.{scratched, on-scratched, scratched-pages, shown-on-scratched, before-the-cut, old-page, new-page, shown-before-the-cut}
use Rattle.cuts.proofs.Lists.{large, before-the-large-cut, large-page, next-large-page, shown-before-the-large-cut}

-- ---- what is drawn

-- What read of n leaves, lent any 2,048 bytes: disc and ledger as they were, the bytes where they can be read, else a refusal and the block as lent.
abbrev pub ReadsAs : Disc → List ℕ → ℕ → Entry → Type 0
ReadsAs d l n unused_entry =
    (lent : List ℕ) → length lent ≡ 2048 → after d l (read n lent) ≡ record { answer = 10 * 4294967296; disc = d; ledger = l; buffer = lent }
ReadsAs d l n (shows b (Some bytes)) =
    (lent : List ℕ) → length lent ≡ 2048 → after d l (read n lent) ≡ record { answer = 0; disc = d; ledger = l; buffer = bytes }
ReadsAs d l n (shows b None) =
    (lent : List ℕ) → length lent ≡ 2048 → after d l (read n lent) ≡ record { answer = 11 * 4294967296; disc = d; ledger = l; buffer = lent }

-- The block that a number stands for.
abbrev pub StandsFor : List ℕ → ℕ → Entry → Type 0
StandsFor l n unused_entry = get_or (unpack l).entries n unused ≡ unused
StandsFor l n (shows b bytes) = get_or (unpack l).entries n unused ≡ b

-- The numbers from n on are these entries, and none behind them is in use.
abbrev pub ReadsFrom : Disc → List ℕ → ℕ → Snapshot → Type 0
ReadsFrom d l n [] = ((unpack l).size ≡ n) × ((i : ℕ) → ReadsAs d l (n + i) unused_entry)
ReadsFrom d l n (e ∷ es) = (StandsFor l n e × ReadsAs d l n e) × ReadsFrom d l (n + 1) es

-- The call, lent any 16,364 bytes as ledger, is done and leaves a state that shows the page.
abbrev pub GivesPage : Disc → Call → Snapshot → Type 0
GivesPage d c p = (l : List ℕ) → length l ≡ 16364 → (outcome d l c ≡ 0) × ReadsFrom d (after d l c).ledger 0 p

-- Look back k, k + 1 and so on give these pages.
abbrev pub LooksFrom : Disc → ℕ → List Snapshot → Type 0
LooksFrom d k [] = Unit
LooksFrom d k (p ∷ ps) = GivesPage d (look_back k) p × LooksFrom d (k + 1) ps

-- Mount gives the newest page and each look back its page; with no page, mount is refused with 7.
abbrev pub Gives : Disc → List Snapshot → Type 0
Gives d [] = (l : List ℕ) → length l ≡ 16364 → outcome d l mount ≡ 7
Gives d (p ∷ ps) = GivesPage d mount p × LooksFrom d 0 (p ∷ ps)

-- ---- drawing it from the claim

reads-entry : (d : Disc) (l : List ℕ) (n : ℕ) (p : Snapshot) → Shows d l p → (e : Entry) → get_or p n unused_entry ≡ e → ReadsAs d l n e
reads-entry d l n p s unused_entry q = λ lent long. s.reads n lent long ∙ ap (reading d l lent) q
reads-entry d l n p s (shows b (Some bytes)) q = λ lent long. s.reads n lent long ∙ ap (reading d l lent) q
reads-entry d l n p s (shows b None) q = λ lent long. s.reads n lent long ∙ ap (reading d l lent) q

stands-for : (d : Disc) (l : List ℕ) (n : ℕ) (p : Snapshot) → Shows d l p → (e : Entry) → get_or p n unused_entry ≡ e → StandsFor l n e
stands-for d l n p s unused_entry q = s.entry n ∙ ap block_number q
stands-for d l n p s (shows b bytes) q = s.entry n ∙ ap block_number q

-- the entries of p from n on are es
reads-from : (d : Disc) (l : List ℕ) (p : Snapshot) → Shows d l p → (es : Snapshot) (n : ℕ) → ((i : ℕ) → get_or p (n + i) unused_entry ≡ get_or es i unused_entry)
    → length p ≡ n + length es → ReadsFrom d l n es
reads-from d l p s [] n same long = (s.size ∙ long ∙ omega arith, λ i. reads-entry d l (n + i) p s unused_entry (same i))
reads-from d l p s (e ∷ es) n same long =
    let here : get_or p n unused_entry ≡ e = ap (λ (i : ℕ). get_or p i unused_entry) (omega arith) ∙ same 0 in
    let behind : (i : ℕ) → get_or p (n + 1 + i) unused_entry ≡ get_or es i unused_entry =
    λ i. ap (λ (j : ℕ). get_or p j unused_entry) (omega arith) ∙ same (suc i) in
    ((stands-for d l n p s e here, reads-entry d l n p s e here), reads-from d l p s es (n + 1) behind (long ∙ omega arith))

gives-page : (d : Disc) (c : Call) (p : Snapshot) → ((l : List ℕ) → length l ≡ 16364 → DoneShowing d l c p) → GivesPage d c p
gives-page d c p f l long =
    let s : Shows d (after d l c).ledger p = (f l long).showing in
    ((f l long).is-done, reads-from d (after d l c).ledger p s p 0 (λ i. ap (λ (j : ℕ). get_or p j unused_entry) (omega arith)) (omega arith))

looks-from : (d : Disc) (ps : List Snapshot) (k : ℕ)
    → ((i : ℕ) → i < length ps → (l : List ℕ) → length l ≡ 16364 → DoneShowing d l (look_back (k + i)) (get_or ps i [])) → LooksFrom d k ps
looks-from d [] k f = tt
looks-from d (p ∷ ps) k f =
    let zeroth : k + 0 ≡ k = omega arith in
    let here : (l : List ℕ) → length l ≡ 16364 → DoneShowing d l (look_back k) p =
    λ l long. subst (λ (i : ℕ). DoneShowing d l (look_back i) p) zeroth (f 0 (omega arith) l long) in
    let behind : (i : ℕ) → i < length ps → (l : List ℕ) → length l ≡ 16364 → DoneShowing d l (look_back (k + 1 + i)) (get_or ps i []) =
    λ i below l long.
    let further : k + suc i ≡ k + 1 + i = omega arith in
    subst (λ (j : ℕ). DoneShowing d l (look_back j) (get_or ps i [])) further (f (suc i) (omega (arith, below)) l long) in
    (gives-page d (look_back k) p here, looks-from d ps (k + 1) behind)

gives : (d : Disc) (h : History) → Claim d h → (ps : List Snapshot) → h.pages ≡ ps → Gives d ps
gives d h c [] q = λ l long. subst (λ (qs : List Snapshot). Mounts d l qs) q (c.mounts l long)
gives d h c (p ∷ ps) q =
    let all : (i : ℕ) → i < length (p ∷ ps) → (l : List ℕ) → length l ≡ 16364 → DoneShowing d l (look_back (0 + i)) (get_or (p ∷ ps) i []) =
    λ i below l long.
    let at : i ≡ 0 + i = omega arith in
    let looked : (qs : List Snapshot) → h.pages ≡ qs → i < length qs → DoneShowing d l (look_back i) (get_or qs i []) =
    λ qs r. subst (λ (xs : List Snapshot). i < length xs → DoneShowing d l (look_back i) (get_or xs i [])) r (c.looks l long i) in
    subst (λ (j : ℕ). DoneShowing d l (look_back j) (get_or (p ∷ ps) i [])) at (looked (p ∷ ps) q below) in
    (gives-page d mount p (λ l long. subst (λ (qs : List Snapshot). Mounts d l qs) q (c.mounts l long)), looks-from d (p ∷ ps) 0 all)

begun-gives : (n : ℕ) (es : List Event) (ps : List Snapshot) → Begun n es ps → Gives (runs (start n) es).disc ps
begun-gives n es ps t =
    gives (runs (start n) es).disc (remembers (start n) begun_history es) (power-cuts.after-begin (blank n) full t.started es t.allowed) ps t.pages

mounted-gives : (d : Disc) (es : List Event) (ps : List Snapshot) → Mounted d es ps → Gives (runs (after_call d full mount) es).disc ps
mounted-gives d es ps t =
    gives (runs (after_call d full mount) es).disc (remembers (after_call d full mount) (mounted_history d) es)
    (power-cuts.after-mount d full t.started es t.allowed) ps t.pages

cut-gives : (n : ℕ) (es : List Event) (k : ℕ) (ps : List Snapshot) (draft : Snapshot) → T (commit-works (blank n) begin begun_history es k ps draft)
    → (j : ℕ) → j ≤ k → (tear : Option (List ℕ)) → Torn tear
    → Gives (runs (start n) (es ++ (cuts (commit None) [] j tear ∷ []))).disc (saved_if (eqb j k) (Some draft) ps)
cut-gives n es k ps draft t j most tear long =
    let fs : List Event = es ++ (cuts (commit None) [] j tear ∷ []) in
    gives (runs (start n) fs).disc (remembers (start n) begun_history fs)
    (power-cuts.after-begin (blank n) full (cut_started (blank n) begin begun_history es k ps draft t) fs (cut-allowed (blank n) begin begun_history es k ps draft t j most tear long))
    (saved_if (eqb j k) (Some draft) ps) (cut-pages (blank n) begin begun_history es k ps draft t j tear)

mounted-cut-gives : (d : Disc) (es : List Event) (k : ℕ) (ps : List Snapshot) (draft : Snapshot) → T (commit-works d mount (mounted_history d) es k ps draft)
    → (j : ℕ) → j ≤ k → (tear : Option (List ℕ)) → Torn tear
    → Gives (runs (after_call d full mount) (es ++ (cuts (commit None) [] j tear ∷ []))).disc (saved_if (eqb j k) (Some draft) ps)
mounted-cut-gives d es k ps draft t j most tear long =
    let fs : List Event = es ++ (cuts (commit None) [] j tear ∷ []) in
    let h : History = mounted_history d in
    gives (runs (after_call d full mount) fs).disc (remembers (after_call d full mount) h fs)
    (power-cuts.after-mount d full (cut_started d mount h es k ps draft t) fs (cut-allowed d mount h es k ps draft t j most tear long))
    (saved_if (eqb j k) (Some draft) ps) (cut-pages d mount h es k ps draft t j tear)

-- ---- every list is allowed

pub allowed-in-the-links : AllAllowed (start 17) in-the-links
allowed-in-the-links = shown-in-the-links.allowed

pub allowed-no-table-yet : AllAllowed (start 17) no-table-yet
allowed-no-table-yet = shown-no-table-yet.allowed

pub allowed-before-the-first-table : AllAllowed (start 25) before-the-first-table
allowed-before-the-first-table = shown-before-the-first-table.allowed

pub allowed-looks-like-a-table : AllAllowed (start 17) looks-like-a-table
allowed-looks-like-a-table = shown-looks-like-a-table.allowed

pub allowed-three-back : AllAllowed (start 22) three_back
allowed-three-back = shown-three-back.allowed

pub allowed-unnumbered : AllAllowed (start 21) unnumbered
allowed-unnumbered = shown-unnumbered.allowed

pub allowed-on-scratched : AllAllowed (after_call scratched full mount) on-scratched
allowed-on-scratched = shown-on-scratched.allowed

pub allowed-cut-twice : AllAllowed (after_call scratched full mount) cut_twice
allowed-cut-twice = shown-cut-twice.allowed

pub allowed-cut : (j : ℕ) → j ≤ 8 → (tear : Option (List ℕ)) → Torn tear → AllAllowed (start 19) (before-the-cut ++ (cuts (commit None) [] j tear ∷ []))
allowed-cut = cut-allowed (blank 19) begin begun_history before-the-cut 8 (old-page ∷ []) new-page shown-before-the-cut

-- ---- what the claim gives for each list

pub drawn-in-the-links : Gives (runs (start 17) in-the-links).disc in-the-links-pages
drawn-in-the-links = begun-gives 17 in-the-links in-the-links-pages shown-in-the-links

pub drawn-no-table-yet : (l : List ℕ) → length l ≡ 16364 → outcome (runs (start 17) no-table-yet).disc l mount ≡ 7
drawn-no-table-yet = begun-gives 17 no-table-yet [] shown-no-table-yet

pub drawn-before-the-first-table : Gives (runs (start 25) before-the-first-table).disc first-table-pages
drawn-before-the-first-table = begun-gives 25 before-the-first-table first-table-pages shown-before-the-first-table

pub drawn-looks-like-a-table : Gives (runs (start 17) looks-like-a-table).disc struck-pages
drawn-looks-like-a-table = begun-gives 17 looks-like-a-table struck-pages shown-looks-like-a-table

pub drawn-three-back : Gives (runs (start 22) three_back).disc three-back-pages
drawn-three-back = begun-gives 22 three_back three-back-pages shown-three-back

pub drawn-unnumbered : Gives (runs (start 21) unnumbered).disc unnumbered-pages
drawn-unnumbered = begun-gives 21 unnumbered unnumbered-pages shown-unnumbered

pub drawn-on-scratched : Gives (runs (after_call scratched full mount) on-scratched).disc scratched-pages
drawn-on-scratched = mounted-gives scratched on-scratched scratched-pages shown-on-scratched

pub drawn-cut-twice : Gives (runs (after_call scratched full mount) cut_twice).disc cut-twice-pages
drawn-cut-twice = mounted-gives scratched cut_twice cut-twice-pages shown-cut-twice

-- whatever the struck sector holds
pub drawn-cut-short : (j : ℕ) → j < 8 → (tear : Option (List ℕ)) → Torn tear
    → Gives (runs (start 19) (before-the-cut ++ (cuts (commit None) [] j tear ∷ []))).disc (old-page ∷ [])
drawn-cut-short j below tear long =
    let short : eqb j 8 ≡ false = ne_eqb j 8 (λ q. omega (arith, below, q)) in
    subst (λ (t : Bool). Gives (runs (start 19) (before-the-cut ++ (cuts (commit None) [] j tear ∷ []))).disc (saved_if t (Some new-page) (old-page ∷ []))) short
    (cut-gives 19 before-the-cut 8 (old-page ∷ []) new-page shown-before-the-cut j (omega (arith, below)) tear long)

pub drawn-cut-at-the-end : (tear : Option (List ℕ)) → Torn tear
    → Gives (runs (start 19) (before-the-cut ++ (cuts (commit None) [] 8 tear ∷ []))).disc (new-page ∷ old-page ∷ [])
drawn-cut-at-the-end tear long = cut-gives 19 before-the-cut 8 (old-page ∷ []) new-page shown-before-the-cut 8 (lit≤ tt) tear long

-- the links and both own sectors of the large save make no page, its ICB does
abbrev large_cut : ℕ → Option (List ℕ) → Disc
large_cut j tear = (runs (after_call large full mount) (before-the-large-cut ++ (cuts (commit None) [] j tear ∷ []))).disc

pub drawn-large-cut-short : (j : ℕ) → j < 10 → (tear : Option (List ℕ)) → Torn tear → Gives (large_cut j tear) (large-page ∷ [])
drawn-large-cut-short j below tear long =
    let short : eqb j 10 ≡ false = ne_eqb j 10 (λ q. omega (arith, below, q)) in
    subst (λ (t : Bool). Gives (large_cut j tear) (saved_if t (Some next-large-page) (large-page ∷ []))) short
    (mounted-cut-gives large before-the-large-cut 10 (large-page ∷ []) next-large-page shown-before-the-large-cut j (omega (arith, below)) tear long)

pub drawn-large-cut-at-the-end : (tear : Option (List ℕ)) → Torn tear → Gives (large_cut 10 tear) (next-large-page ∷ large-page ∷ [])
drawn-large-cut-at-the-end tear long =
    mounted-cut-gives large before-the-large-cut 10 (large-page ∷ []) next-large-page shown-before-the-large-cut 10 (lit≤ tt) tear long

-- ---- some of it, written out

module _ (l lent : List ℕ) (ledger-lent : length l ≡ 16364) (block-lent : length lent ≡ 2048) where
  -- number 0 reads what it had three saves back, and is not in use one save back
  abbrev back : ℕ → List ℕ
  back k = (after (runs (start 22) three_back).disc l (look_back k)).ledger

  pub reads-three-back : after (runs (start 22) three_back).disc (back 3) (read 0 lent)
      ≡ record { answer = 0; disc = (runs (start 22) three_back).disc; ledger = back 3; buffer = block 1 }
  unfolding three-back-pages
  reads-three-back = (drawn-three-back.1.1.1.1.0 l ledger-lent).1.0.1 lent block-lent

  pub reads-one-back : after (runs (start 22) three_back).disc (back 1) (read 0 lent)
      ≡ record { answer = 10 * 4294967296; disc = (runs (start 22) three_back).disc; ledger = back 1; buffer = lent }
  unfolding three-back-pages
  reads-one-back = (drawn-three-back.1.1.0 l ledger-lent).1.0.1 lent block-lent

  -- number 0 of the scratched disc is refused with 11
  abbrev found : List ℕ
  found = (after (runs (after_call scratched full mount) on-scratched).disc l mount).ledger

  pub reads-scratched : after (runs (after_call scratched full mount) on-scratched).disc found (read 0 lent)
      ≡ record { answer = 11 * 4294967296; disc = (runs (after_call scratched full mount) on-scratched).disc; ledger = found; buffer = lent }
  unfolding scratched-pages
  reads-scratched = (drawn-on-scratched.0 l ledger-lent).1.0.1 lent block-lent
