use Rattle.std.proofs.Common.{◌≡◌, ◌+◌, ◌≤◌}
use Rattle.model.specs.Recounting.{names_before}
use Rattle.setup.proofs.recount.names_before.Given as goal

-- the names passed are counted. For term 0 too the loop starts at 1
abbrev pub invariant-loop-earlier : goal.invariant-loop-earlier
invariant-loop-earlier l = (l.count ≡ names_before l.terms l.earlier) × (l.count ≤ l.earlier) × (l.earlier ≤ l.term + 1)
