-- `calls::effects::show` meets its contract: the entries of the table that the plan names are copied, and the others and the fields put behind them.
-- Assumes nothing.
use Prim.Native.Nat.{ℕ, ◌*◌, ◌≤◌, ◌<◌}
use native.Mathlib.Omega.{arith}
use mathlib.Core.Path.{◌≡◌, refl, sym, ap, ◌∙◌, subst}
use mathlib.Core.Bool.{true}
use mathlib.Core.List.{List}
use lib.ListN.{length}
use lib.Seq.{sets, length-sets}
use Rattle.le.specs.Field.{words, le_words}
use Rattle.le.proofs.Runs.{Words, words-put, length-words}
use Rattle.vat.specs.Table.{own_of, table_of, entries_of, entry_count, is_table}
use Rattle.vat.proofs.Theorems.{framed_of, Recognised, recognised, tells, all_fit}
use Rattle.disc.specs.Disc.{Disc, lent, sector_at}
use Rattle.disc.specs.Tables.{below, map_at}
use Rattle.disc.proofs.Recording.{sized-tells}
use Rattle.disc.proofs.Told.{data-kind, table-of, map_of_lem}
use Rattle.disc.proofs.Found.{table-within}
use Rattle.disc.proofs.Forms.{laid-any}
use Rattle.volume.specs.Volume.{pack, filled}
use Rattle.calls.proofs.effects.show.Goals as goal
use Rattle.calls.proofs.effects.show.Goals.{After-sector_at-s, After-entry_count-n}

-- the sector that the plan names is a table's
its-bytes : (c : After-sector_at-s) → sector_at (lent c.args.image.now c.args.kinds.now) c.args.plan.block ≡ c.sector_at-s.result.now
its-bytes c = sym (c.sector_at-s.ensures c.args.kinds.now)

shown : (c : After-sector_at-s) → is_table (below (lent c.args.image.now c.args.kinds.now) c.args.plan.block) c.sector_at-s.result.now c.args.plan.block ≡ true
shown c =
    let D : Disc = lent c.args.image.now c.args.kinds.now in
    let B : ℕ = c.args.plan.block in
    sym (table-of D B (below D B) c.sector_at-s.result.now refl (its-bytes c) (data-kind D B c.requires.2)) ∙ c.requires.2

-- so many entries are copied, which the ledger holds
record Counted (c : After-entry_count-n) : Type 0 where
  all : c.entry_count-n.result ≡ entry_count (table_of (below (lent c.args.image.now c.args.kinds.now) c.args.plan.block) c.sector_at-s.result.now)
  few : 4 * c.entry_count-n.result ≤ 16348

counted : (c : After-entry_count-n) → is_table (below (lent c.args.image.now c.args.kinds.now) c.args.plan.block) c.sector_at-s.result.now c.args.plan.block ≡ true → Counted c
counted c here =
    let D : Disc = lent c.args.image.now c.args.kinds.now in
    let B : ℕ = c.args.plan.block in
    let all = c.entry_count-n.ensures c.args.image.now c.requires.1 in
    record { all = all; few = omega (arith, all, (tells (below D B) c.sector_at-s.result.now B here).few) }

pub entry_count-n-requires : goal.entry_count-n-requires
entry_count-n-requires c =
    let D : Disc = lent c.args.image.now c.args.kinds.now in
    let B : ℕ = c.args.plan.block in
    let S : List ℕ = c.sector_at-s.result.now in
    let here = shown (goal.at.entry_count-n-requires c).After-sector_at-s in
    let told : Recognised (below D B) S B = recognised (below D B) S B here in
    (omega (arith, table-within D B c.requires.2), told.whole, framed_of (below D B) S B here, λ image. laid-any image D B (own_of S) ∙ told.on-data)

pub copied-requires : goal.copied-requires
copied-requires c =
    let D : Disc = lent c.args.image.now c.args.kinds.now in
    let here = shown (goal.at.copied-requires c).After-sector_at-s in
    let count : Counted (goal.at.copied-requires c).After-entry_count-n = counted (goal.at.copied-requires c).After-entry_count-n here in
    (c.requires.1, omega (arith, table-within D c.args.plan.block c.requires.2), here, count.all, omega (arith, count.few, c.requires.0))

pub show-requires : goal.show-requires
show-requires c =
    let D : Disc = lent c.args.image.now c.args.kinds.now in
    let T : List ℕ = table_of (below D c.args.plan.block) c.sector_at-s.result.now in
    let here = shown (goal.at.show-requires c).After-sector_at-s in
    let count : Counted (goal.at.show-requires c).After-entry_count-n = counted (goal.at.show-requires c).After-entry_count-n here in
    (ap length c.copied.ensures ∙ length-sets c.args.ledger.now 0 (le_words (words c.entry_count-n.result T 0)) ∙ c.requires.0, omega (arith, count.few))

pub returns : goal.returns
unfolding entries_of
returns c =
    let a = c.args in
    let D : Disc = lent a.image.now a.kinds.now in
    let B : ℕ = a.plan.block in
    let S : List ℕ = c.sector_at-s.result.now in
    let T : List ℕ = table_of (below D B) S in
    let here = shown (goal.at.returns c).After-sector_at-s in
    let count : Counted (goal.at.returns c).After-entry_count-n = counted (goal.at.returns c).After-entry_count-n here in
    let n : ℕ = c.entry_count-n.result in
    let map : List ℕ = words n T 0 in
    let told-map : map ≡ entries_of T = ap (λ (k : ℕ). words k T 0) count.all in
    let many : length map ≡ n = length-words n T 0 in
    let below-limit : B < 4294967296 = omega (arith, table-within D B c.requires.2, (sized-tells D c.requires.1).few) in
    let fit : Words map = subst Words (sym told-map) (all_fit B (entries_of T) below-limit (recognised (below D B) S B here).entries) in
    let its_map : words n c.copied.new.l 0 ≡ map_at D B =
    ap (λ (k : List ℕ). words n k 0) c.copied.ensures
    ∙ ap (λ (k : ℕ). words k (sets a.ledger.now 0 (le_words map)) 0) (sym many)
    ∙ words-put a.ledger.now map (omega (arith, many, count.few, c.requires.0)) fit
    ∙ told-map
    ∙ sym (map_of_lem D B (below D B) S refl (its-bytes (goal.at.returns c).After-sector_at-s)) in
    c.show.ensures ∙ ap (λ (entries : List ℕ). pack (filled entries B a.plan.recorded a.mode)) its_map
