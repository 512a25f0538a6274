-- A call that is refused answers the refusal, and leaves every lent byte as it was.
-- Assumes nothing.
use Prim.Native.Nat.{ℕ, ◌<◌}
use native.Mathlib.Omega.{arith}
use mathlib.Core.Path.{◌≡◌, ap, ◌∙◌}
use mathlib.Core.List.{List}
use Rattle.std.specs.Prelude.{Result, Err}
use Rattle.std.specs.Result.{IsErrAnd}
use Rattle.std.proofs.lemmas.Result.{err_from_is_err_and}
use Rattle.disc.specs.Disc.{Disc}
use Rattle.recorder.specs.declared.Refusal.{Refusal}
use Rattle.recorder.specs.Calls.{Call, buffer_of}
use Rattle.recorder.specs.Refusals.{outcome}
use Rattle.recorder.specs.Effects.{left, after}
use Rattle.recorder.specs.Refused.{number, answer_of}
use Rattle.calls.proofs.Left.{refused-left}

-- every refusal has a number above 0, which says done
pub above : (r : Refusal) → 0 < number r
above r = grind arith

pub refused : (d : Disc) (l : List ℕ) (c : Call) (r : Refusal) (told : Result ℕ Refusal) → number r ≡ outcome d l c → IsErrAnd told (λ e. e ≡ r)
    → left (answer_of told) d.image d.kinds l (buffer_of c) ≡ after d l c
refused d l c r told o e =
    let p = err_from_is_err_and told e in
    ap (λ (t : Result ℕ Refusal). left (answer_of t) d.image d.kinds l (buffer_of c)) (p.1 ∙ ap Err p.2) ∙ refused-left d l c (number r) o (λ z. omega (arith, above r))
