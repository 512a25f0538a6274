-- `listing::list::put_listed` meets its contract: a refused mount is told, or the heading and the rows are put.
-- Assumes nothing.
use Prim.Native.Nat.{ℕ, ◌+◌}
use native.Mathlib.Omega.{arith}
use mathlib.Core.Path.{◌≡◌, sym, ap, ◌∙◌}
use mathlib.Core.List.{List, ◌++◌}
use lib.Dec.{eqb}
use lib.ListN.{length}
use lib.Seq.{sets}
use Rattle.disc.specs.Disc.{Disc, lent}
use Rattle.recorder.specs.Calls.{mount}
use Rattle.recorder.specs.Effects.{After, after}
use Rattle.recorder.specs.Refused.{number, answer_of}
use Rattle.recorder.proofs.Refused.{number-above}
use Rattle.listing.specs.Text.{heading, refused_line}
use Rattle.listing.specs.Listing.{outcome_in, second_in, spare, rows_from, most_listed, listed}
use Rattle.listing.proofs.Rows.{refused-outcome, done-outcome, done-second, listed-refused, listed-rows, heading-put, heading-length}
use Rattle.listing.proofs.list.put_listed.Goals as goal

pub returns-in-Err : goal.returns-in-Err
unfolding spare
returns-in-Err c =
    let a = c.args in
    let d : Disc = lent a.image.now a.kinds.now in
    let told : outcome_in (after d spare mount).answer ≡ number c.in-Err.refusal =
    ap outcome_in (sym (ap {A = After} (λ x. x.answer) c.mount.ensures) ∙ ap answer_of c.in-Err.is) ∙ refused-outcome c.in-Err.refusal in
    let line : refused_line c.number.result ≡ listed d =
    ap refused_line (c.number.ensures ∙ sym told) ∙ listed-refused d (λ e. omega (arith, number-above c.in-Err.refusal, told, e)) in
    (c.put_refused.ensures.0 ∙ ap (sets a.out.now 0) line, c.put_refused.ensures.1 ∙ ap length line)

pub returns-in-Ok : goal.returns-in-Ok
unfolding heading spare
returns-in-Ok c =
    let a = c.args in
    let d : Disc = lent a.image.now a.kinds.now in
    let out : List ℕ = a.out.now in
    let answered : c.in-Ok.clean ≡ (after d spare mount).answer = sym (ap answer_of c.in-Ok.is) ∙ ap {A = After} (λ x. x.answer) c.mount.ensures in
    let done : outcome_in (after d spare mount).answer ≡ 0 = ap outcome_in (sym answered) ∙ done-outcome c.in-Ok.clean (omega arith) in
    let second : c.in-Ok.clean ≡ second_in (after d spare mount).answer = sym (done-second c.in-Ok.clean (omega arith)) ∙ ap second_in answered in
    let rows : List ℕ = rows_from d (eqb c.in-Ok.clean 1) (most_listed + 1) 0 in
    let all : heading ++ rows ≡ listed d =
    ap (λ (x : ℕ). heading ++ rows_from d (eqb x 1) (most_listed + 1) 0) second ∙ listed-rows d done in
    let titled : c.put_text.new.s ≡ sets out 0 heading = c.put_text.ensures in (
      c.put_rows.ensures.0 ∙ ap (λ (x : List ℕ). sets x 25 rows) titled ∙ heading-put out rows ∙ ap (sets out 0) all,
      c.put_rows.ensures.1 ∙ heading-length rows ∙ ap length all,
    )
