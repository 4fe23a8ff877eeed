use Rattle.bench.specs.Benches.{found, rows_at, terms_at}
use Rattle.setup.proofs.Finding.{every_row_true, standing_accepted}
use Rattle.setup.proofs.table_and_span.solve_with_table_and_span.Goals as goal

pub returns-clause-solves : goal.returns-clause-solves
returns-clause-solves c =
    let bench = c.args.bench in
    let solved = c.solve.ensures in
    record {
      judged = solved.judges;
      picked = solved.picks;
      only = solved.only;
      right = solved.right;
      true_rows = every_row_true (terms_at bench) (rows_at bench) (standing_accepted bench.standing) (found c.solve.result.shown) c.solve.result.set_up solved.judges solved.right;
    }
