-- Numbers and tables for the sheets with levels.
use Rattle.std.specs.List.{AllByRecursion, AllZip}
use Rattle.std.proofs.Common.{◌≡◌, ℕ, ◌+◌, ◌*◌, min, List, [], ◌∷◌, ℤ, pos, refl, arith, rules}
use Rattle.std.proofs.lemmas.Int.{ints}
use Rattle.std.proofs.lemmas.List.Elements.{All-from_recursion}
use Rattle.sheet.specs.declared.row.Row.{Row}
use Rattle.engine.specs.Arrangements.{Arrangement, InOrder, ranks}
use Rattle.engine.specs.Meaning.{Holds, Interprets, Numbers, Satisfiable, numbers_in}
use Rattle.engine.specs.Parts.{InstantsMet, LevelsMet}
use Rattle.engine.specs.Rules.{EqualityHolds, SpanAllowed, SpanHolds, TableAllowed, seat_numbers}
use Rattle.engine.specs.Terms.{seats_of}
use Rattle.engine.proofs.Allowing.{instants_allowed, levels_allowed}
use Rattle.theory.specs.Combining.{AllowedByBoth}
use Rattle.theory.specs.Sheets.{level_terms}
use Rattle.theory.proofs.Checking.{adding_10, in_order, interpreted}

-- x and b have these numbers, a has 4, and each level 10 more than its instant
module _ (x b : ℕ) where
  abbrev pub list_at : List ℤ
  list_at = pos 0 ∷ pos x ∷ pos 4 ∷ pos b ∷ pos (x + 10) ∷ pos 14 ∷ pos (b + 10) ∷ []

  abbrev pub numbers_at : Numbers
  numbers_at = numbers_in list_at

  pub interpreted_at : Interprets adding_10 level_terms numbers_at
  interpreted_at = interpreted adding_10 numbers_at level_terms refl (search rules)

  module _ (rows : List Row) where
    pub satisfied_at : AllByRecursion (Holds numbers_at) rows → Satisfiable level_terms rows
    satisfied_at h = record { tables = adding_10; numbers = numbers_at; interprets = interpreted_at; hold = All-from_recursion (Holds numbers_at) rows h }

    abbrev pub levels_at : AllByRecursion (EqualityHolds numbers_at) rows → LevelsMet level_terms rows
    levels_at h = record { tables = adding_10; numbers = numbers_at; interprets = interpreted_at; hold = All-from_recursion (EqualityHolds numbers_at) rows h }

    abbrev pub instants_at : AllByRecursion (SpanHolds numbers_at) rows → InstantsMet rows
    instants_at h = (numbers_at, All-from_recursion (SpanHolds numbers_at) rows h)

  -- codes by which the seats of the ranks 0, 1, 2 and so on have the numbers 0, 4, 5 and so on
  module _ (codes : List ℕ) (at : AllZip (λ i r. numbers_at i ≡ pos (r + 3 * min r 1)) (seats_of level_terms) (ranks codes)) where
    pub followed_at : InOrder (ranks codes) (seat_numbers level_terms numbers_at)
    followed_at = in_order (λ r. pos (r + 3 * min r 1)) (λ r s l. omega (arith, ints)) level_terms (ranks codes) numbers_at at

    module _ (rows : List Row) where
      pub table_allowed_at : AllByRecursion (EqualityHolds numbers_at) rows → TableAllowed level_terms rows codes
      table_allowed_at h = levels_allowed level_terms rows codes (levels_at rows h) followed_at

      pub span_allowed_at : AllByRecursion (SpanHolds numbers_at) rows → SpanAllowed level_terms rows codes
      span_allowed_at h = instants_allowed level_terms rows codes (instants_at rows h) followed_at

      pub allowed_at : Arrangement 4 codes → AllByRecursion (EqualityHolds numbers_at) rows → AllByRecursion (SpanHolds numbers_at) rows
          → AllowedByBoth TableAllowed SpanAllowed level_terms rows codes
      allowed_at a h k = record { arrangement = a; by_first = table_allowed_at h; by_second = span_allowed_at k }
