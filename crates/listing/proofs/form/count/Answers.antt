-- `listing::form::count` meets its contract: the highest count that the first line gives decides.
-- Assumes nothing.
use Rattle.std.proofs.Common.{ℕ, List, true, ◌≡◌, ◌<◌, ◌≤◌, rules}
use Rattle.std.specs.Prelude.{MatchOption}
use Rattle.std.proofs.iter.runs.Sources.{ranges}
use Rattle.le.specs.Bytes.{holds_text}
use Rattle.listing.specs.Listing.{most_listed, first_line}
use Rattle.listing.proofs.Input.{NoneAbove, count-found}
use Rattle.listing.proofs.form.count.Goals as goal

pub returns-clause-number : goal.returns-clause-number
returns-clause-number c =
    let s : List ℕ = c.args.input.now in
    let found : MatchOption c.find.result (NoneAbove s 0 most_listed) (λ n. (0 < n) × (n ≤ most_listed) × (holds_text s 0 (first_line n) ≡ true) × NoneAbove s n most_listed) = search (rules, ranges) in
    count-found s most_listed c.find.result found
