-- What is left of the sheet from 4 to 5 without its last row.
use Rattle.std.specs.Prelude.{int_lt}
use Rattle.std.proofs.Common.{◌≡◌, ℕ, ◌<◌, int_eq, ◌-ℤ◌, sym, ◌∙◌, if◌then◌else◌, List, ℤ, pos, refl, ap, arith, rules}
use Rattle.std.proofs.lemmas.Int.{ints}
use Rattle.std.proofs.lemmas.List.Elements.{All-from_recursion}
use Rattle.sheet.specs.declared.row.Row.{Row}
use Rattle.engine.specs.Equalities.{AlwaysEqual, Equates, SameHolds}
use Rattle.engine.specs.Meaning.{Numbers, numbers_in}
use Rattle.engine.specs.Rules.{SpanAllowed, TableAllowed}
use Rattle.engine.specs.States.{active_rows}
use Rattle.congruence.proofs.Interpreting.{congruence_is_needed}
use Rattle.theory.specs.Accepted.{Accepted, NotedAccepted}
use Rattle.theory.specs.Combining.{AllowedByBoth}
use Rattle.theory.specs.Models.{EqualityModel}
use Rattle.theory.specs.Sheets.{from_4_to, level_terms, numbers_with_b, without_the_last, x_with_b}
use Rattle.theory.proofs.Checking.{adding_10, each_below}
use Rattle.theory.proofs.Combining.{chosen_accepted}
use Rattle.theory.proofs.Sufficing.{classes_suffice}
use Rattle.theory.proofs.LevelSheets.{allowed_at, followed_at, interpreted_at, numbers_at}

-- x and b have 5
abbrev rows_left : List Row
rows_left = active_rows (without_the_last (from_4_to (pos 5)))

pub accepted_without_the_last : NotedAccepted level_terms (without_the_last (from_4_to (pos 5)))
accepted_without_the_last = search rules

accepted_left : Accepted level_terms rows_left
accepted_left = chosen_accepted level_terms (without_the_last (from_4_to (pos 5))) accepted_without_the_last

pub allowed_without_the_last : AllowedByBoth TableAllowed SpanAllowed level_terms rows_left x_with_b
allowed_without_the_last = allowed_at 5 5 _ (search rules) _ (search rules) (search (arith, ints)) (search (arith, ints))

-- x and b share a block, and so have one number, as their levels have
equates_left : Equates level_terms rows_left x_with_b adding_10 (numbers_at 5 5)
equates_left =
    record {
      interprets = interpreted_at 5 5;
      hold = All-from_recursion (SameHolds (numbers_at 5 5)) rows_left (search rules);
      blocks = (followed_at 5 5 x_with_b (search rules)).same;
    }

-- terms that are always equal are so by the numbers found, and these tell the numbers chosen
abbrev chosen : ℤ → ℤ
chosen z = if int_lt z (pos 10) then z else pos 21 -ℤ z

always_chosen : (i j : ℕ) → i < 7 → j < 7 → AlwaysEqual level_terms rows_left x_with_b i j → numbers_in numbers_with_b i ≡ numbers_in numbers_with_b j
always_chosen i j l k always =
    let at = each_below (λ i. numbers_in numbers_with_b i ≡ chosen (numbers_at 5 5 i)) 7 (search rules) in
    at i l ∙ ap chosen (always adding_10 (numbers_at 5 5) equates_left) ∙ sym (at j k)

-- and the numbers chosen tell the numbers of any choice by which the block of x and b has one number
abbrev of_choice : Numbers → ℤ → ℤ
of_choice v z = if int_eq z (pos 0) then v 0 else if int_eq z (pos 5) then v 1 else if int_eq z (pos 4) then v 2 else if int_eq z (pos 6) then v 4 else v 5

chosen_always : (i j : ℕ) → i < 7 → j < 7 → numbers_in numbers_with_b i ≡ numbers_in numbers_with_b j → AlwaysEqual level_terms rows_left x_with_b i j
chosen_always i j l k e m v t =
    let block : v 1 ≡ v 3 = t.blocks 1 3 (omega arith) (omega arith) refl in
    let levels : v 4 ≡ v 6 = (congruence_is_needed level_terms m v t.interprets).1.unary 4 6 65 1 3 refl refl block in
    let at = each_below (λ i. v i ≡ of_choice v (numbers_in numbers_with_b i)) 7 (refl, (refl, (refl, (sym block, (refl, (refl, (sym levels, tt))))))) in
    at i l ∙ ap (of_choice v) e ∙ sym (at j k)

pub model_without_the_last : EqualityModel level_terms rows_left (numbers_in numbers_with_b)
model_without_the_last =
    classes_suffice level_terms rows_left x_with_b (numbers_in numbers_with_b) accepted_left allowed_without_the_last.by_first refl
    (λ i j l k. (always_chosen i j l k, chosen_always i j l k))
