use Rattle.model.proofs.Exact.{recount_exact}
use Rattle.model.proofs.Returning.{recount_gives_back}
use Rattle.model.proofs.theorems.recount_is_exact.Goals as goal

pub returns-clause-exact : goal.returns-clause-exact
returns-clause-exact c = recount_exact

pub returns-clause-gives_back : goal.returns-clause-gives_back
returns-clause-gives_back c = recount_gives_back
