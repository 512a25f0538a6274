-- `listing::form::every_digit` meets its contract.
-- Assumes nothing.
use Rattle.std.proofs.Common.{refl, rules}
use Rattle.std.proofs.lemmas.List.Recursion.{and_is}
use Rattle.le.specs.Bytes.{every}
use Rattle.listing.specs.Listing.{is_kind_digit}
use Rattle.listing.proofs.form.every_digit.Goals as goal

pub returns : goal.returns
unfolding every
returns c = and_is (every is_kind_digit) is_kind_digit refl (λ _ _. refl) c.args.s.now 0 c.all.result (search rules) (search rules)
