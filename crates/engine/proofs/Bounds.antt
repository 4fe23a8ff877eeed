-- How much an engine holds at most, and that it was accepted one by one.
use Rattle.std.proofs.Common.{◌≡◌, ◌≤◌, true, length, vec_items, vec_len, ap, ◌∙◌, arith}
use Rattle.engine.specs.declared.holdings.Holdings.{Holdings}
use Rattle.engine.specs.Arrangements.{is_valid}
use Rattle.engine.specs.Fitting.{all_rows_fit, all_terms_fit}
use Rattle.engine.specs.Holding.{state_of}
use Rattle.engine.specs.States.{State}
use Rattle.engine.specs.Terms.{seats_of}

-- of any state, whoever holds it: what is proved of engines asks no more than this
pub record Bounds (s : State) : Type 0 where
  pub terms : length s.terms ≤ 32
  pub seats : length (seats_of s.terms) ≤ 8
  pub rows : length s.rows ≤ 64
  pub placed : length s.codes ≤ length (seats_of s.terms)
  pub terms_fit : all_terms_fit s.terms ≡ true
  pub rows_fit : all_rows_fit s.terms s.rows ≡ true
  pub codes_valid : is_valid 0 s.codes ≡ true

pub bounds : (h : Holdings) → Bounds (state_of h)
bounds h =
    let seats : vec_len h.seats ≡ length (seats_of (vec_items h.terms)) = h.seats.ok.0 ∙ ap length h.seats_listed in
    let codes : vec_len h.codes ≡ length (vec_items h.codes) = h.codes.ok.0 in
    record {
      terms = omega (arith, h.terms.ok.0, h.few_terms);
      seats = omega (arith, h.few_seats);
      rows = omega (arith, h.rows.ok.0, h.few_rows);
      placed = omega (arith, h.codes_fit);
      terms_fit = h.terms_fit;
      rows_fit = h.rows_fit;
      codes_valid = h.codes_valid;
    }
