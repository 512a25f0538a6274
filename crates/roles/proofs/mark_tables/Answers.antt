-- `roles::mark_tables` meets its contract: below the block come to every table is marked, and what it names; then the block at the end is passed over, too.
-- Assumes nothing.
use Prim.Native.Nat.{ℕ, ◌+◌, ◌≤◌}
use native.Mathlib.Omega.{arith}
use mathlib.Core.Path.{◌≡◌, sym, ap, ◌∙◌, subst}
use mathlib.Core.Bool.{true}
use mathlib.Core.List.{List, ◌∷◌}
use lib.ListN.{length}
use borrow.Author.Rules.{rules}
use Rattle.disc.specs.Disc.{Disc, lent, recorded}
use Rattle.disc.specs.Tables.{table_at, named_by}
use Rattle.disc.proofs.Recording.{leading_le}
use Rattle.disc.proofs.Found.{table-within}
use Rattle.roles.specs.declared.TablesEnd.TheVariants.{Below, At}
use Rattle.roles.specs.Roles.{tabulate, marked_at}
use Rattle.roles.specs.Keeping.{EndThere}
use Rattle.roles.proofs.Roles.{length-tabulate}
use Rattle.roles.proofs.Scanning.{passed_to, none_passed, all-passed, table-passed, other-passed, others-passed}
use Rattle.roles.proofs.mark_tables.Goals as goal
use Rattle.roles.proofs.mark_tables.Goals.{then-table_at, else-table_at, in-Below, in-Below-2}

pub loop-b-init : goal.loop-b-init
loop-b-init c =
    let D : Disc = lent c.args.image.now c.args.kinds.now in
    let inside : c.match-tables.end ≤ recorded D = search rules in
    (omega arith, inside, c.requires.1 ∙ none_passed D (length c.args.kinds.now))

pub plain_group-requires : goal.plain_group-requires
plain_group-requires c =
    (c.requires.0, omega (arith, leading_le c.args.kinds.now))

pub loop-b-preserved-then-plain_group : goal.loop-b-preserved-then-plain_group
loop-b-preserved-then-plain_group c =
    let l = c.loop-b in
    let D : Disc = lent c.args.image.now c.args.kinds.now in
    (omega arith, l.invariant.1, l.invariant.2 ∙ others-passed D (length c.args.kinds.now) l.b 8 (c.plain_group.ensures c.if-plain_group.true))

pub mark_table-requires : goal.mark_table-requires
mark_table-requires c =
    let D : Disc = lent c.args.image.now c.args.kinds.now in
    let M : ℕ = length c.args.kinds.now in
    (c.requires.0, ap length c.loop-b.invariant.2 ∙ length-tabulate (passed_to D c.loop-b.b) M, sym c.table_at.ensures ∙ c.if-table_at.true)

pub loop-b-preserved : goal.loop-b-preserved
loop-b-preserved c =
    let d : Disc = lent c.args.image.now c.args.kinds.now in
    let M : ℕ = length c.args.kinds.now in
    let l = c.loop-b in
    let here = c.table_at.ensures in (
      omega arith,
      l.invariant.1,
      elim c.if-table_at.branch [
        | then-table_at w ↦
            let found : table_at d l.b ≡ true = sym here ∙ w.if-table_at.true in
            w.roles-is ∙ w.mark_table.ensures ∙ ap (marked_at (l.b ∷ named_by d l.b)) l.invariant.2 ∙ table-passed d M l.b (table-within d l.b found) found
        | else-table_at w ↦ w.roles-is ∙ l.invariant.2 ∙ other-passed d M l.b (sym here ∙ w.if-table_at.false)
      ],
    )

pub mark_table-requires-in-At : goal.mark_table-requires-in-At
mark_table-requires-in-At c =
    let D : Disc = lent c.args.image.now c.args.kinds.now in
    let M : ℕ = length c.args.kinds.now in
    let there : EndThere D c.match-tables.tables = search rules in
    (c.requires.0, ap length c.loop-b.invariant.2 ∙ length-tabulate (passed_to D c.loop-b.b) M, (subst (EndThere D) c.in-At.is there).1)

pub returns-in-At : goal.returns-in-At
returns-in-At c =
    let d : Disc = lent c.args.image.now c.args.kinds.now in
    let M : ℕ = length c.args.kinds.now in
    let last : ℕ = c.in-At.last in
    let there : EndThere d c.match-tables.tables = search rules in
    let ends : EndThere d (At last) = subst (EndThere d) c.in-At.is there in
    let end : c.match-tables.end ≡ last = search rules in
    let all : c.loop-b.b ≡ last = omega arith in
    let marks : List ℕ → List ℕ = marked_at (last ∷ named_by d last) in
    c.mark_table-in-At.ensures
    ∙ ap marks (c.loop-b.invariant.2 ∙ ap (λ (n : ℕ). tabulate (passed_to d n) M) all)
    ∙ table-passed d M last (table-within d last ends.1) ends.1
    ∙ all-passed d M (last + 1) (omega arith) (λ b h. ends.2 b (omega arith))

pub returns-in_default : goal.returns-in_default
returns-in_default c =
    let d : Disc = lent c.args.image.now c.args.kinds.now in
    let M : ℕ = length c.args.kinds.now in
    let n : ℕ = c.in_default.field-0 in
    let there : EndThere d c.match-tables.tables = search rules in
    let ends : EndThere d (Below n) = subst (EndThere d) c.in_default.is there in
    let end : c.match-tables.end ≡ n = search rules in
    let all : c.loop-b.b ≡ n = omega arith in
    c.loop-b.invariant.2 ∙ ap (λ (k : ℕ). tabulate (passed_to d k) M) all ∙ all-passed d M n (omega arith) ends.1
