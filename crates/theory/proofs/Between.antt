-- An instant between 4 and 6, and none between 4 and 5.
use Rattle.std.proofs.Common.{◌≡◌, ◌≢◌, ℕ, true, ◌≤◌, ◌==◌, if◌then◌else◌, get_or, pos, refl, arith, rules}
use Rattle.std.proofs.lemmas.Bool.Decides.{nat_tests}
use Rattle.std.proofs.lemmas.Int.{ints}
use Rattle.std.proofs.lemmas.List.Elements.{All-from_recursion, recursion_from_All}
use Rattle.engine.specs.Arrangements.{Arrangement}
use Rattle.engine.specs.Dates.{RightDates}
use Rattle.engine.specs.Fitting.{row_fits}
use Rattle.engine.specs.Meaning.{Holds, Satisfiable}
use Rattle.engine.specs.Parts.{InstantsMet, LevelsMet}
use Rattle.engine.specs.Rules.{SpanAllowed, TableAllowed}
use Rattle.engine.specs.Terms.{seats_of}
use Rattle.engine.proofs.EachPair.{each_two}
use Rattle.congruence.proofs.Interpreting.{congruence_is_needed}
use Rattle.theory.specs.Accepted.{Accepted}
use Rattle.theory.specs.Combining.{AllowedByBoth}
use Rattle.theory.specs.Models.{DatedModel}
use Rattle.theory.specs.Sheets.{counts_all, dates_between, equalities_of, from_4_to, holding, level_terms, spans_of, x_between, x_past_both, x_with_a}
use Rattle.theory.specs.Unsound.{NoEqualityImplied}
use Rattle.theory.proofs.Together.{dated}
use Rattle.theory.proofs.LevelSheets.{allowed_at, instants_at, levels_at, numbers_at, satisfied_at, span_allowed_at, table_allowed_at}

pub accepted_to : (b : ℕ) → b ≤ 1000000 → Accepted level_terms (from_4_to (pos b))
accepted_to b l = record { each_term = refl; each_row = All-from_recursion (λ r. row_fits level_terms r ≡ true) (from_4_to (pos b)) (grind (arith, ints, nat_tests)) }

-- From 4 to 6, where x has 5
pub allowed_to_6 : AllowedByBoth TableAllowed SpanAllowed level_terms (from_4_to (pos 6)) x_between
allowed_to_6 = allowed_at 5 6 _ (search rules) _ (search rules) (search (arith, ints)) (search (arith, ints))

pub right_dates : RightDates counts_all (holding (from_4_to (pos 6)) x_between) dates_between
right_dates = search rules

pub dated_to_6 : (found : TableAllowed level_terms (from_4_to (pos 6)) x_between)
    × DatedModel counts_all (holding (from_4_to (pos 6)) x_between) found.numbers dates_between
dated_to_6 =
    let found = allowed_to_6.by_first in
    (found, dated counts_all (holding (from_4_to (pos 6)) x_between) dates_between (accepted_to 6 (omega arith)) allowed_to_6.arrangement found right_dates)

-- From 4 to 5, where the spans allow x the number of a, and the levels allow it 6
pub spans_satisfied : Satisfiable level_terms (spans_of (from_4_to (pos 5)))
spans_satisfied = satisfied_at 4 5 _ (search (arith, ints))

pub equalities_satisfied : Satisfiable level_terms (equalities_of (from_4_to (pos 5)))
equalities_satisfied = satisfied_at 6 5 _ (search (arith, ints))

pub by_table_to_5 : Arrangement 4 x_past_both × TableAllowed level_terms (from_4_to (pos 5)) x_past_both
by_table_to_5 = (search rules, table_allowed_at 6 5 _ (search rules) _ (search (arith, ints)))

pub by_spans_to_5 : Arrangement 4 x_with_a × SpanAllowed level_terms (from_4_to (pos 5)) x_with_a
by_spans_to_5 = (search rules, span_allowed_at 4 5 _ (search rules) _ (search (arith, ints)))

pub levels_met : LevelsMet level_terms (from_4_to (pos 5))
levels_met = levels_at 6 5 _ (search (arith, ints))

pub instants_met : (x : ℕ) → 4 ≤ x → x ≤ 5 → InstantsMet (from_4_to (pos 5))
instants_met x l m = instants_at x 5 (from_4_to (pos 5)) (search (arith, ints))

-- a number of x by which the instant i and each earlier one differ: 4 where i is b, and else 5
abbrev apart : ℕ → ℕ
apart i = if i == 3 then 4 else 5

pub nothing_implied : NoEqualityImplied level_terms (from_4_to (pos 5))
unfolding levels_met instants_met
nothing_implied =
    record {
      by_instants = λ p q l m.
          let x : ℕ = apart (get_or (seats_of level_terms) q 0) in (
            instants_met x (grind (arith, nat_tests)) (grind (arith, nat_tests)),
            each_two (λ i j. numbers_at (apart j) 5 i ≢ numbers_at (apart j) 5 j) (seats_of level_terms) (search (arith, ints)) p q 0 l m,
          );
      by_levels = λ p q l m. (levels_met, each_two (λ i j. numbers_at 6 5 i ≢ numbers_at 6 5 j) (seats_of level_terms) (search (arith, ints)) p q 0 l m);
    }

-- the spans leave x the number of a or of b alone, and then its level is that of a or of b
pub no_tick_between : Satisfiable level_terms (from_4_to (pos 5)) → ⊥
no_tick_between s =
    let v = s.numbers in
    let rows = recursion_from_All (Holds v) (from_4_to (pos 5)) s.hold in
    let equal = (congruence_is_needed level_terms s.tables v s.interprets).1 in
    let not_at_a : v 1 ≢ v 2 = λ e. let level = equal.unary 4 5 65 1 2 refl refl e in omega (arith, ints) in
    let not_at_b : v 1 ≢ v 3 = λ e. let level = equal.unary 4 6 65 1 3 refl refl e in omega (arith, ints) in
    omega (arith, ints)
