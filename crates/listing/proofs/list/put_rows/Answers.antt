-- `listing::list::put_rows` meets its contract: the rows so far, and those that are left, are all of them.
-- Assumes nothing.
use Prim.Native.Nat.{ℕ, ◌+◌, ◌-◌}
use native.Mathlib.Omega.{arith}
use mathlib.Core.Path.{◌≡◌, sym, ap, ap₂, ◌∙◌}
use mathlib.Core.Bool.{Bool, false}
use mathlib.Core.List.{List}
use lib.Dec.{eqb}
use lib.ListN.{length}
use lib.Seq.{sets, length-sets}
use Rattle.disc.specs.Disc.{Disc, lent}
use Rattle.volume.specs.Volume.{unpack}
use Rattle.recorder.specs.Calls.{look_back}
use Rattle.recorder.specs.Effects.{After, after}
use Rattle.recorder.specs.Refused.{number, answer_of}
use Rattle.recorder.proofs.Refused.{number-above}
use Rattle.listing.specs.Text.{row_line, used}
use Rattle.listing.specs.Listing.{outcome_in, second_in, spare, last_line, row_of, rows_from}
use Rattle.listing.proofs.Rows.{refused-outcome, done-outcome, done-second, row-of, rows-stop, rows_end, row-put-on, row-length-on}
use Rattle.listing.proofs.list.put_rows.Goals as goal

same_row : (k : ℕ) {x x' y y' z z' : ℕ} → x ≡ x' → y ≡ y' → z ≡ z' → row_line k x y z ≡ row_line k x' y' z'
same_row k p q r = cc

pub returns-in-Err : goal.returns-in-Err
unfolding spare
returns-in-Err c =
    let l = c.loop-k in
    let a = c.args in
    let d : Disc = lent a.image.now a.kinds.now in
    let n : ℕ = number c.in-Err.refusal in
    let told : outcome_in (after d spare (look_back l.k)).answer ≡ n =
    ap outcome_in (sym (ap {A = After} (λ x. x.answer) c.look_back.ensures) ∙ ap answer_of c.in-Err.is) ∙ refused-outcome c.in-Err.refusal in
    let line : last_line c.is_broken.result a.clean ≡ rows_from d a.clean (32 - l.k) l.k =
    ap (λ (b : Bool). last_line b a.clean) (c.is_broken.ensures ∙ ap (λ (m : ℕ). eqb m 8) (sym told))
    ∙ rows-stop d a.clean (32 - l.k) l.k (omega arith) (λ e. omega (arith, number-above c.in-Err.refusal, told, e)) in
    (c.put_last.ensures.0 ∙ ap (sets l.out l.at) line ∙ l.invariant.2, c.put_last.ensures.1 ∙ ap (λ (x : List ℕ). l.at + length x) line ∙ l.invariant.3)

pub loop-k-preserved : goal.loop-k-preserved
unfolding spare
loop-k-preserved c =
    let l = c.loop-k in
    let a = c.args in
    let d : Disc = lent a.image.now a.kinds.now in
    let left_by : After = after d spare (look_back l.k) in
    let answered : c.in-Ok.block ≡ left_by.answer = sym (ap answer_of c.in-Ok.is) ∙ ap {A = After} (λ x. x.answer) c.look_back.ensures in
    let shown : c.look_back.new.ledger ≡ left_by.ledger = ap {A = After} (λ x. x.ledger) c.look_back.ensures in
    let done : outcome_in left_by.answer ≡ 0 = ap outcome_in (sym answered) ∙ done-outcome c.in-Ok.block (omega arith) in
    let second : c.in-Ok.block ≡ second_in left_by.answer = sym (done-second c.in-Ok.block (omega arith)) ∙ ap second_in answered in
    let size : c.size-size.result ≡ (unpack left_by.ledger).size = c.size-size.ensures ∙ ap (λ (x : List ℕ). (unpack x).size) shown in
    let count : c.used-used.result ≡ used (unpack left_by.ledger).entries = c.used-used.ensures ∙ ap (λ (x : List ℕ). used (unpack x).entries) shown in
    let one : List ℕ = row_line l.k c.in-Ok.block c.size-size.result c.used-used.result in
    let is : one ≡ row_of l.k left_by = same_row l.k second size count ∙ row-of l.k left_by in
    let left : 32 - (l.k + 1) ≡ 32 - l.k - 1 = omega arith in (
      omega (arith, l.invariant.0),
      ap length c.put_row.ensures ∙ length-sets l.out l.at one ∙ l.invariant.1,
      ap₂ (λ (x : List ℕ) (n : ℕ). sets x (l.at + 25) (rows_from d a.clean n (l.k + 1))) c.put_row.ensures left
          ∙ row-put-on d a.clean (32 - l.k) l.k (omega arith) done one is l.out l.at
          ∙ l.invariant.2,
      ap (λ (n : ℕ). l.at + 25 + length (rows_from d a.clean n (l.k + 1))) left
          ∙ row-length-on d a.clean (32 - l.k) l.k (omega arith) done one is l.at
          ∙ l.invariant.3,
    )

pub returns : goal.returns
returns c =
    let l = c.loop-k in
    let a = c.args in
    let line : last_line false a.clean ≡ rows_from (lent a.image.now a.kinds.now) a.clean (32 - l.k) l.k = rows_end (lent a.image.now a.kinds.now) a.clean (32 - l.k) l.k (omega arith) in
    (c.put_last-2.ensures.0 ∙ ap (sets l.out l.at) line ∙ l.invariant.2, c.put_last-2.ensures.1 ∙ ap (λ (x : List ℕ). l.at + length x) line ∙ l.invariant.3)
