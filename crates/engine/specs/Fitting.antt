-- Lists of terms and rows that were accepted one by one.
use Rattle.std.specs.Prelude.{Bool, true, false, not, ◌&&◌, List, [], ◌∷◌, ◌++◌, length, Some, None, Option}
use Rattle.sheet.specs.declared.fault.Cause.{Cause}
use Rattle.sheet.specs.declared.row.Row.{Row}
use Rattle.sheet.specs.declared.term.Form.{Form}
use Rattle.sheet.specs.declared.term.Form.TheVariants.{Name, One, Two}
use Rattle.sheet.specs.declared.term.Term.{Term}
use Rattle.sheet.specs.Terms.{is_dated}
use Rattle.engine.specs.declared.noted.Noted.{Noted}
use Rattle.engine.specs.Rows.{terms_below, is_span_on_level, bound_past_limit}
use Rattle.engine.specs.Refusals.{term_refusal}

abbrev pub is_name : Form → Bool
is_name Name = true
is_name (One a x) = false
is_name (Two a x y) = false

abbrev pub is_zero_term : Term → Bool
is_zero_term t = is_dated t.kind && is_name t.form

abbrev pub is_accepted : Option Cause → Bool
is_accepted None = true
is_accepted (Some c) = false

-- each term is one that those before it can take
abbrev pub terms_fit : List Term → List Term → Bool
terms_fit before [] = true
terms_fit before (t ∷ ts) = is_accepted (term_refusal before t) && terms_fit (before ++ t ∷ []) ts

-- zero stands first, and each later term was accepted when it came
abbrev pub all_terms_fit : List Term → Bool
all_terms_fit [] = false
all_terms_fit (t ∷ ts) = is_zero_term t && terms_fit (t ∷ []) ts

-- the row names terms that are there, a span names dated ones, and its bound is within the limits
abbrev pub row_fits : List Term → Row → Bool
row_fits ts r = terms_below (length ts) r && (not (is_span_on_level ts r) && not (bound_past_limit r))

abbrev pub all_rows_fit : List Term → List Noted → Bool
all_rows_fit ts [] = true
all_rows_fit ts (m ∷ ms) = row_fits ts m.row && all_rows_fit ts ms
