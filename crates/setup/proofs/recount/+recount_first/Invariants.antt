use Rattle.setup.proofs.recount.+recount_first.Given as goal

abbrev pub decreases-recount_first : goal.decreases-recount_first
decreases-recount_first l = l.count
