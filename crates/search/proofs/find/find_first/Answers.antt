use Rattle.search.proofs.Descending.{descending_start}
use Rattle.search.proofs.find.find_first.Goals as goal

pub loop-phase-init : goal.loop-phase-init
loop-phase-init g c = descending_start c.requires.alike c.new-codes.ensures
