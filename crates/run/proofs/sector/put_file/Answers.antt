-- `run::sector::put_file` meets its contract: the rows, put one after another.
-- Assumes nothing.
use Rattle.le.specs.Field.{lay}
use Rattle.run.specs.Entry.{file_rows}
use Rattle.run.proofs.sector.put_file.Goals as goal

pub returns : goal.returns
unfolding lay file_rows
returns c =
    cc
