-- `listing::list::put_last` meets its contract: the line of its case.
-- Assumes nothing.
use Prim.Native.Nat.{ℕ, ◌+◌}
use mathlib.Core.Path.{◌≡◌, sym, ap, ap₂, ◌∙◌}
use mathlib.Core.Bool.{Bool}
use mathlib.Core.List.{List}
use lib.ListN.{length}
use lib.Seq.{sets}
use Rattle.listing.specs.Text.{clean_line, dirty_line, broken_line}
use Rattle.listing.specs.Listing.{last_line}
use Rattle.listing.proofs.list.put_last.Goals as goal

pub returns-then-broken : goal.returns-then-broken
unfolding broken_line
returns-then-broken c =
    let a = c.args in
    let line : broken_line ≡ last_line a.broken a.clean = sym (ap (λ (c : Bool). last_line c a.clean) c.if-broken.true) in
    (c.put_text.ensures ∙ ap (sets a.out.now a.at) line, ap (λ (l : List ℕ). a.at + length l) line)

pub returns-then-clean : goal.returns-then-clean
unfolding clean_line
returns-then-clean c =
    let a = c.args in
    let line : clean_line ≡ last_line a.broken a.clean = sym (ap₂ last_line c.if-broken.false c.if-clean.true) in
    (c.put_text-then-clean.ensures ∙ ap (sets a.out.now a.at) line, ap (λ (l : List ℕ). a.at + length l) line)

pub returns : goal.returns
unfolding dirty_line
returns c =
    let a = c.args in
    let line : dirty_line ≡ last_line a.broken a.clean = sym (ap₂ last_line c.if-broken.false c.if-clean.false) in
    (c.put_text-2.ensures ∙ ap (sets a.out.now a.at) line, ap (λ (l : List ℕ). a.at + length l) line)
