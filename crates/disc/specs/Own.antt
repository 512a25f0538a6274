-- A table in sectors of its own, as it is read where these lie.
use Rattle.std.specs.Prelude.{ℕ, List}
use Rattle.extent.specs.Extents.{extents_from}
use Rattle.vat.specs.Table.{joined}
use Rattle.disc.specs.declared.own.OwnTable.{OwnTable}
use Rattle.disc.specs.Disc.{lent}
use Rattle.disc.specs.Tables.{below}

-- Its bytes: those of its own sectors, one behind the other.
abbrev pub own_bytes : OwnTable → List ℕ
own_bytes t = joined (below (lent t.image.now t.kinds.now) t.b) (extents_from t.m t.s.now t.at)
