use Rattle.search.specs.Engines.{AllowedIn}
use Rattle.search.proofs.Descending.{falls_descended, falls_found, known_descended}
use Rattle.search.proofs.find.step.Goals as goal

pub returns-then-place_code-clause-known : goal.returns-then-place_code-clause-known
returns-then-place_code-clause-known g c =
    known_descended c.args.codes.now.items c.in-Descend-true-true.is-0 (AllowedIn g.F.Engine g.S.Engine c.args.first.now c.args.second.now) c.requires.known c.if-place_code.ensures.placed

pub returns-then-place_code-clause-goes_on : goal.returns-then-place_code-clause-goes_on
returns-then-place_code-clause-goes_on g c = falls_descended c.args.codes.now.items c.in-Descend-true-true.is-0 c.if-place_code.ensures.placed

pub returns-else-place_code-clause-goes_on : goal.returns-else-place_code-clause-goes_on
returns-else-place_code-clause-goes_on g c = falls_found _ _ _ _ c.in-Descend-true-true.is-0
