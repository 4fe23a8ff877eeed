-- What is asked of terms and rows by all that is proved here.
use Rattle.std.specs.Prelude.{◌≡◌, true, List, All}
use Rattle.sheet.specs.declared.row.Row.{Row}
use Rattle.sheet.specs.declared.term.Term.{Term}
use Rattle.engine.specs.declared.noted.Noted.{Noted}
use Rattle.engine.specs.Fitting.{all_rows_fit, all_terms_fit, row_fits}

-- zero stands first and each later term was accepted after those before it, and each row was accepted over these terms. How many rows there are
-- is not asked
pub record Accepted (ts : List Term) (rows : List Row) : Type 0 where
  pub each_term : all_terms_fit ts ≡ true
  pub each_row : All (λ r. row_fits ts r ≡ true) rows

-- the same of rows with marks, whether they are active or not
pub record NotedAccepted (ts : List Term) (noted : List Noted) : Type 0 where
  pub each_term : all_terms_fit ts ≡ true
  pub each_row : all_rows_fit ts noted ≡ true
