-- `client::account::is_in_use` meets its contract.
-- Assumes nothing.
use Rattle.std.proofs.Common.{ℕ, List, false, eqb, get_or, length, rules, inl, inr, ◌≡◌, ◌≤◌, ◌<◌, ◌∙◌}
use Rattle.std.proofs.lemmas.Bool.{cases_lt}
use Rattle.roles.specs.Roles.{in_use}
use Rattle.client.proofs.Counted.{is_held, is-not-held}
use Rattle.client.proofs.account.is_in_use.Goals as goal

pub returns : goal.returns
returns c =
    let roles : List ℕ = c.args.roles.now in
    let b : ℕ = c.args.b in
    let within : b < length roles → c.eq.result ≡ eqb (get_or roles b 0) in_use = λ h. search rules in
    let behind : length roles ≤ b → c.eq.result ≡ false = λ h. search rules in
    λ s call cs left. elim (cases_lt b (length roles)) [ inl h ↦ within h ∙ is_held s call cs left b h | inr h ↦ behind h ∙ is-not-held s call cs left b h ]
