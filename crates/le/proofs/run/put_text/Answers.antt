-- `le::run::put_text` meets its contract: the part of s that is written is the text.
-- Assumes nothing.
use Prim.Native.Nat.{◌+◌, ◌-◌}
use lib.ListN.{length}
use native.Mathlib.Omega.{arith}
use Rattle.le.proofs.Runs.{put_mid-sets}
use Rattle.le.proofs.run.put_text.Goals as goal

pub returns : goal.returns
returns c =
    let a = c.args in
    rw c.copy_from_slice.ensures.after (put_mid-sets a.s.now a.text.now a.at (a.at + length a.text.now - a.at) (omega arith) c.requires)
