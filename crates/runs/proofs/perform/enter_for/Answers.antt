use Rattle.std.proofs.Common.{length, ap}
use Rattle.engine.specs.Refusals.{row_refusal}
use Rattle.bench.specs.Benches.{rows_at, terms_at}
use Rattle.runs.specs.Events.{refused}
use Rattle.runs.specs.Law.{open_with}
use Rattle.runs.proofs.Attending.{refused_by}
use Rattle.runs.proofs.perform.enter_for.Goals as goal

pub returns-in-Err : goal.returns-in-Err
returns-in-Err g c =
    let b = c.args.bench in
    let e = c.enter.ensures in
    record {
      answer = refused c.in-Err.fault;
      on_record = c.told_refused.ensures.history;
      answered = (refused_by (row_refusal (terms_at b) (length (rows_at b)) c.args.row) c.in-Err.fault c.in-Err.ensures.answers, ap open_with e.rows);
      terms = e.terms;
      keeps_first = ap g.F.Engine.setting e.engines.0;
      keeps_second = ap g.S.Engine.setting e.engines.1;
    }
