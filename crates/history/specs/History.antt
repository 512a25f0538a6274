-- The history of a disc (document 01: the book): its saves, newest first, and what is being written. It changes only by what it is fed.
use Rattle.std.specs.Prelude.{ℕ, zero, suc, Bool, true, false, List, [], ◌∷◌, ◌++◌, eqb, length, set}
use Rattle.std.specs.Prelude.{Option, None, Some}

-- Of one number: "unused, or a block number (in use) with what it reads: 2048 bytes or 11" (none).
pub data Entry : Type 0 where
  unused_entry : Entry
  shows : ℕ → Option (List ℕ) → Entry

-- Document 01: a page, or the draft. "Each is a size and, for each number below it", an entry.
abbrev pub Snapshot : Type 0
Snapshot = List Entry

pub record History : Type 0 where
  pub pages : List Snapshot
  pub draft : Option Snapshot

-- "The book is fed each call with its v or k, a write's lent block ..
pub data Told : Type 0 where
  begin : Told
  mount : Told
  write : Option ℕ → List ℕ → Told
  release : ℕ → Told
  close_packet : Told
  commit : Told
  read : ℕ → Told
  look_back : ℕ → Told
  time_of : ℕ → Told

-- .. and the two numbers answered; of a cut call, instead of these numbers, that it was cut, and for a commit whether its table sector was kept."
pub data Fed : Type 0 where
  answered : Told → ℕ → ℕ → Fed
  cut : Told → Fed
  cut_commit : Bool → Fed

-- Entry n of a snapshot is e; "if v equals size, size grows by one".
abbrev pub placed : Bool → Snapshot → ℕ → Entry → Snapshot
placed true p n e = p ++ (e ∷ [])
placed false p n e = set p n e

abbrev pub on_draft : (Snapshot → Snapshot) → Option Snapshot → Option Snapshot
on_draft f None = None
on_draft f (Some p) = Some (f p)

abbrev pub newest_page : List Snapshot → Option Snapshot
newest_page [] = None
newest_page (p ∷ ps) = Some p

-- "a copy of the draft is the newest page": the one way in which a save makes a page.
abbrev pub saved : Option Snapshot → List Snapshot → List Snapshot
saved None pages = pages
saved (Some p) pages = p ∷ pages

abbrev pub saved_if : Bool → Option Snapshot → List Snapshot → List Snapshot
saved_if true draft pages = saved draft pages
saved_if false draft pages = pages

-- A call that was done, by its second number. A write without a number is one that the draft does not see.
abbrev pub done : Told → ℕ → History → History
done begin second h = record { pages = h.pages; draft = Some [] }
done mount second h = record { pages = h.pages; draft = newest_page h.pages }
done (write None block) second h = h
done (write (Some n) block) second h =
    record { pages = h.pages; draft = on_draft (λ p. placed (eqb n (length p)) p n (shows second (Some block))) h.draft }
done (release n) second h = record { pages = h.pages; draft = on_draft (λ p. set p n unused_entry) h.draft }
done close_packet second h = h
done commit second h = record { pages = saved h.draft h.pages; draft = h.draft }
done (read n) second h = h
done (look_back k) second h = record { pages = h.pages; draft = None }
done (time_of k) second h = h

-- "Read, close packet, any refused call: no change", and a call that only tells "counts as a refused one" (document 02, R-3). "Cut: a commit whose table
-- sector was kept makes its page; then no draft."
unfoldable pub feed : History → Fed → History
feed h (answered c zero second) = done c second h
feed h (answered c (suc refusal) second) = h
feed h (cut c) = record { pages = h.pages; draft = None }
feed h (cut_commit kept) = record { pages = saved_if kept h.draft h.pages; draft = None }
