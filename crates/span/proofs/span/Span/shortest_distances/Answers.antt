use Rattle.std.proofs.Common.{sym, ◌∙◌, subst}
use Rattle.graph.specs.Graph.{Within}
use Rattle.engine.proofs.Bounds.{bounds}
use Rattle.span.proofs.Limits.{within}
use Rattle.span.proofs.span.Span.shortest_distances.Goals as goal

pub relax_rounds-requires-clause-within : goal.relax_rounds-requires-clause-within
relax_rounds-requires-clause-within c =
    subst (Within 32) (sym (c.as_slice.ensures.value ∙ c.list_constraints-list.ensures)) (within (bounds c.args.self.now.held))
