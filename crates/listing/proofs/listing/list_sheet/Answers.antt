use Rattle.std.proofs.Common.{string_bytes}
use Rattle.std.proofs.lemmas.Result.{IfOk-weaker}
use Rattle.bench.specs.Benches.{rows_at, terms_at}
use Rattle.listing.proofs.OneAnswer.{sheet_only}
use Rattle.listing.proofs.listing.list_sheet.Goals as goal

pub returns-clause-only : goal.returns-clause-only
returns-clause-only c =
    let loaded = c.load-loaded.result in
    IfOk-weaker c.list_loaded.result _ _
    (λ l h. sheet_only c.args.sheet.now loaded.refusal l.refusal (terms_at loaded.bench) (rows_at loaded.bench) (string_bytes l.text) c.load-loaded.ensures.only h)
    c.list_loaded.ensures
