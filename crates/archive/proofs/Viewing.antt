-- Which event a view is in a list, proved: one that changes nothing, and cut one that loses ledger and draft.
--     views-in-lists   the claim of specs/Viewing.antt
-- Assumes nothing.
use Prim.Native.Nat.{ℕ, zero, suc}
use native.Mathlib.Omega.{arith}
use mathlib.Core.Path.{◌≡◌, refl, ap, ◌∙◌}
use mathlib.Core.List.{List, []}
use Rattle.std.specs.Prelude.{None}
use Rattle.disc.specs.Disc.{Disc, Sector, recorded, puts}
use Rattle.recorder.specs.Calls.{Call, time_of}
use Rattle.recorder.specs.Refusals.{outcome}
use Rattle.recorder.specs.Effects.{settled, after, second_number, sectors_of}
use Rattle.run.specs.View.{view_outcome, view_effect, view}
use Rattle.history.specs.History.{History, Told, answered, feed}
use Rattle.history.specs.Events.{World, ledger_held, Follows, Allowed, cut_disc, next, fed}
use Rattle.history.proofs.Steps.{records-nothing}
use Rattle.history.proofs.Recorded.{after-disc, cut-nothing}
use Rattle.archive.specs.Viewing.{viewing, cut_viewing, ViewsInLists}

abbrev asked : Call
asked = time_of 0 []

leaves : (d : Disc) (l : List ℕ) (n offset : ℕ) (buffer : List ℕ) → ((view d l n offset buffer).disc ≡ d) × ((view d l n offset buffer).ledger ≡ l)
unfolding view view_effect puts
leaves d l n offset buffer = go (view_outcome d l n offset buffer)
  where
    go : (o : ℕ) → ((settled d l buffer o (view_effect d l n offset buffer)).disc ≡ d) × ((settled d l buffer o (view_effect d l n offset buffer)).ledger ≡ l)
    go zero = (refl, refl)
    go (suc o) = (refl, refl)

-- it never counts as done
follows : (w : World) → Follows w asked []
follows w lost counts = absurd (mathlib.Core.Bool.true≢false counts.1)

allowed : (w : World) → Allowed w viewing × Allowed w cut_viewing
allowed w = (follows w, (follows w, omega arith, tt))

module _ (w : World) where
  abbrev held : List ℕ
  held = ledger_held w.ledger []

  none-recorded : sectors_of w.disc held asked ≡ []
  none-recorded = records-nothing w.disc held asked tt

  same-disc : (after w.disc held asked).disc ≡ w.disc
  unfolding puts
  same-disc = after-disc w.disc held asked ∙ ap (puts w.disc (recorded w.disc)) none-recorded

  same-world : next w viewing ≡ w
  unfolding next
  same-world = λ i. record { disc = same-disc i; ledger = w.ledger }

  same-history : (h : History) → feed h (fed w viewing) ≡ h
  unfolding feed fed
  same-history h = go (outcome w.disc held asked)
    where
      go : (n : ℕ) → feed h (answered (Told.time_of 0) n (second_number w.disc held asked)) ≡ h
      go zero = refl
      go (suc n) = refl

  cut-world : next w cut_viewing ≡ record { disc = w.disc; ledger = None }
  unfolding next
  cut-world =
      let same : cut_disc w.disc (sectors_of w.disc held asked) 0 None ≡ w.disc = ap (λ (ss : List Sector). cut_disc w.disc ss 0 None) none-recorded ∙ cut-nothing w.disc 0 None in
      λ i. record { disc = same i; ledger = None }

  cut-history : (h : History) → feed h (fed w cut_viewing) ≡ record { pages = h.pages; draft = None }
  unfolding feed fed
  cut-history h = refl

pub views-in-lists : ViewsInLists
views-in-lists =
    record {
      leaves = leaves;
      allowed = allowed;
      unchanged = λ w h. (same-world w, same-history w h);
      cut_short = λ w h. (cut-world w, cut-history w h);
    }
