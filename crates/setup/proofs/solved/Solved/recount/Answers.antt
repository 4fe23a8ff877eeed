use Rattle.std.proofs.Common.{◌∙◌, ap}
use Rattle.sheet.specs.Causes.{in_layer}
use Rattle.engine.proofs.Bounds.{bounds}
use Rattle.bench.specs.Benches.{terms_shown}
use Rattle.bench.specs.Letters.{result_letter}
use Rattle.model.specs.Recounting.{recount}
use Rattle.setup.proofs.Retelling.{recount_told}
use Rattle.setup.proofs.solved.Solved.recount.Goals as goal

pub returns-clause-exact : goal.returns-clause-exact
returns-clause-exact g c =
    let shown = c.args.self.now.shown in
    let names = c.args.names.now in
    let es = c.args.entries.now in
    recount_told (terms_shown shown) names es (bounds shown.standing.held).terms_fit c.args.term result_letter c.recount_term.result c.in_layer.result
    (c.recount_term.ensures ∙ ap (λ ts. recount ts names es c.args.term) c.terms.ensures)
    (c.in_layer.ensures ∙ ap (in_layer result_letter) c.ok_or.ensures.value)
