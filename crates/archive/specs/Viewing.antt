-- A view in a list of events (document 02, R-6). It only tells, and such a call "counts as a refused one" (R-3): in a list it is a question for a time that is
-- lent no answer, which is refused. Done or refused it changes nothing; cut, it loses ledger and draft, as every call that is cut.
use Rattle.std.specs.Prelude.{ℕ, List, [], ◌≡◌}
use Rattle.std.specs.Prelude.{None}
use Rattle.disc.specs.Disc.{Disc}
use Rattle.recorder.specs.Calls.{time_of}
use Rattle.run.specs.View.{view}
use Rattle.history.specs.History.{History, feed}
use Rattle.history.specs.Events.{World, Event, calls, cuts, Allowed, next, fed}

abbrev pub viewing : Event
viewing = calls (time_of 0 []) []

abbrev pub cut_viewing : Event
cut_viewing = cuts (time_of 0 []) [] 0 None

pub record ViewsInLists : Type 0 where
  pub leaves : (d : Disc) (l : List ℕ) (n offset : ℕ) (buffer : List ℕ) → ((view d l n offset buffer).disc ≡ d) × ((view d l n offset buffer).ledger ≡ l)
  pub allowed : (w : World) → Allowed w viewing × Allowed w cut_viewing
  pub unchanged : (w : World) (h : History) → (next w viewing ≡ w) × (feed h (fed w viewing) ≡ h)
  pub cut_short : (w : World) (h : History)
      → (next w cut_viewing ≡ record { disc = w.disc; ledger = None }) × (feed h (fed w cut_viewing) ≡ record { pages = h.pages; draft = None })
