-- The sheet with three instants in two ticks.
use Rattle.std.proofs.Common.{min, pos, refl, ap, arith, rules}
use Rattle.std.proofs.lemmas.Int.{ints}
use Rattle.std.proofs.lemmas.List.Elements.{All-from_recursion, recursion_from_All}
use Rattle.engine.specs.Meaning.{Holds, Numbers, Satisfiable}
use Rattle.engine.specs.Rules.{EqualityHolds, SpanHolds, TableAllowed}
use Rattle.theory.specs.Accepted.{Accepted}
use Rattle.theory.specs.Combining.{AllowedByBoth}
use Rattle.theory.specs.Sheets.{each_past, in_two_ticks, three_terms}
use Rattle.theory.specs.Unsound.{SpanAllowedInBlocks}
use Rattle.theory.proofs.Checking.{adding_10, interpreted}

pub accepted_in_two_ticks : Accepted three_terms in_two_ticks
accepted_in_two_ticks = search rules

-- 1, 2 and 3 are numbers of x, y and z that differ, and 1, 1 and 1 lie within the two ticks
pub allowed_in_blocks : AllowedByBoth TableAllowed SpanAllowedInBlocks three_terms in_two_ticks each_past
allowed_in_blocks =
    let v : Numbers = λ i. pos i in
    let x : Numbers = λ i. pos (min i 1) in
    record {
      arrangement = record { full = refl; valid = refl };
      by_first =
          record {
            tables = adding_10;
            numbers = v;
            interprets = interpreted adding_10 v three_terms refl (search rules);
            hold = All-from_recursion (EqualityHolds v) in_two_ticks (search (arith, ints));
            blocks = record { same = λ p q lp lq e. ap v e; apart = λ p q lp lq e. omega (arith, ints) };
          };
      by_second = (x, record { hold = All-from_recursion (SpanHolds x) in_two_ticks (search (arith, ints)); same = λ p q lp lq e. ap x e });
    }

pub no_third_tick : Satisfiable three_terms in_two_ticks → ⊥
no_third_tick s = let rows = recursion_from_All (Holds s.numbers) in_two_ticks s.hold in omega (arith, ints)
