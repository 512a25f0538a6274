-- `roles::mark` meets its contract: three parts filled one behind the other are three runs stored.
-- Assumes nothing.
use Prim.Native.Nat.{◌+◌}
use mathlib.Core.Path.{◌≡◌}
use lib.ListN.{replicate}
use borrow.Author.Rules.{rules}
use Rattle.disc.specs.Disc.{stored}
use Rattle.roles.specs.Roles.{unnumbered, link_role}
use Rattle.roles.proofs.Naming.{filled-part, marked-runs}
use Rattle.roles.proofs.mark.Goals as goal

pub returns : goal.returns
returns c =
    let a = c.args in
    let linked : c.fill.new.self ≡ replicate a.links link_role = search rules in
    let apart : c.fill-2.new.self ≡ replicate a.between unnumbered = search rules in
    let own : c.fill-3.new.self ≡ replicate a.count a.role = search rules in
    rw (
      filled-part a.at a.links link_role a.roles.now _ linked,
      filled-part (a.at + a.links) a.between unnumbered (stored a.roles.now a.at (replicate a.links link_role)) _ apart,
      filled-part (a.at + a.links + a.between) a.count a.role (stored (stored a.roles.now a.at (replicate a.links link_role)) (a.at + a.links) (replicate a.between unnumbered)) _ own,
    )
    (marked-runs a.at a.links a.between a.count a.role a.roles.now c.requires.0)
