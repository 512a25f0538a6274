-- `vat::table::words_held` meets its contract: what was found so far, and what is left of both halves, make the answer.
-- Assumes nothing.
use Prim.Native.Nat.{ℕ, ◌+◌, ◌-◌, ◌/◌}
use native.Mathlib.Omega.{arith}
use mathlib.Core.Path.{◌≡◌, sym, ap, ap₂, ◌∙◌}
use mathlib.Core.Bool.{Bool, ◌&&◌}
use mathlib.Core.List.{List}
use lib.ListN.{get_or}
use Rattle.le.specs.Field.{words}
use Rattle.le.proofs.Runs.{length-words, get_d_words}
use Rattle.le.proofs.Halves.{left_of, pair-taken, all_left, none_left}
use Rattle.vat.specs.Table.{unused_or_below}
use Rattle.vat.proofs.table.words_held.Goals as goal

pub loop-i-init : goal.loop-i-init
loop-i-init c =
    let a = c.args in all_left (unused_or_below a.b) (words a.n a.s.now a.at) (a.n / 2) (a.n - a.n / 2) (omega arith)

pub loop-i-preserved : goal.loop-i-preserved
loop-i-preserved c =
    let a = c.args in let l = c.loop-i in
    let f : ℕ → Bool = unused_or_below a.b in
    let xs : List ℕ = words a.n a.s.now a.at in
    let half : ℕ = a.n / 2 in
    let one : c.may_name-one.result ≡ f (get_or xs l.i 0) =
    c.may_name-one.ensures ∙ ap f (c.read32.ensures ∙ sym (get_d_words a.n a.s.now a.at l.i 0 (omega arith))) in
    let other : c.may_name-other.result ≡ f (get_or xs (half + l.i) 0) =
    c.may_name-other.ensures ∙ ap f (c.read32-in-loop-i.ensures ∙ sym (get_d_words a.n a.s.now a.at (half + l.i) 0 (omega arith))) in
    ap₂ (λ (s t : Bool). left_of f xs half (a.n - half) (l.i + 1) (l.held && (s && t))) one other
    ∙ pair-taken f xs half (a.n - half) l.i l.held (omega arith) (omega (arith, length-words a.n a.s.now a.at))
    ∙ l.invariant

pub returns : goal.returns
returns c =
    let a = c.args in let l = c.loop-i in
    let xs : List ℕ = words a.n a.s.now a.at in
    let half : ℕ = a.n / 2 in
    sym (none_left (unused_or_below a.b) xs half (a.n - half) l.i l.held (omega arith) (omega (arith, length-words a.n a.s.now a.at))) ∙ l.invariant
