-- `disc::tables::walk_back` ends: the count falls at each call.
use Rattle.disc.proofs.tables.+walk_back.Given as goal

abbrev pub decreases-walk_back : goal.decreases-walk_back
decreases-walk_back l = l.k
