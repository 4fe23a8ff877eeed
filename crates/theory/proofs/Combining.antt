-- What both rules allow, and what makes every row true.
use Rattle.std.proofs.Common.{◌≡◌, ℕ, true, List, length, get_or, ℤ, arith}
use Rattle.std.proofs.lemmas.Bool.Decides.{nat_tests}
use Rattle.sheet.specs.declared.row.Row.{Row}
use Rattle.sheet.specs.declared.row.Row.TheVariants.{Span, Same, Unlike}
use Rattle.sheet.specs.declared.term.Term.{Term}
use Rattle.engine.specs.declared.noted.Noted.{Noted}
use Rattle.engine.specs.Fitting.{row_fits}
use Rattle.engine.specs.Meaning.{Numbers, Holds, Satisfiable}
use Rattle.engine.specs.Parts.{InstantsMet, LevelsMet}
use Rattle.engine.specs.Rows.{on_dated}
use Rattle.engine.specs.Rules.{EqualityHolds, SpanAllowed, SpanHolds, TableAllowed, seat_numbers}
use Rattle.engine.specs.States.{active_rows}
use Rattle.engine.specs.Terms.{seats_of}
use Rattle.engine.proofs.Allowing.{instants_allowed, levels_allowed}
use Rattle.engine.proofs.Fitting.{all_active, each_row_fits}
use Rattle.engine.proofs.Following.{every_choice_is_followed}
use Rattle.congruence.specs.Entries.{entries_of, tables_of}
use Rattle.theory.specs.Accepted.{Accepted, NotedAccepted}
use Rattle.theory.specs.Combining.{ExactForChosen, ExactTogether, Possible}
use Rattle.theory.specs.Models.{StillHolds}
use Rattle.theory.proofs.Together.{put_together}

-- a row that holds, holds for the rule that looks at it
span_holds : (v : Numbers) (r : Row) → Holds v r → SpanHolds v r
span_holds v (Span i j c) h = h
span_holds v (Same i j) h = tt
span_holds v (Unlike i j) h = tt

equality_holds : (v : Numbers) (r : Row) → Holds v r → EqualityHolds v r
equality_holds v (Span i j c) h = tt
equality_holds v (Same i j) h = h
equality_holds v (Unlike i j) h = h

-- and each row is looked at by one of them, spans being on instants
pub spans_on_dated : (ts : List Term) (i j : ℕ) (c : ℤ) → row_fits ts (Span i j c) ≡ true → on_dated ts (Span i j c) ≡ true
spans_on_dated ts i j c fits = grind (arith, nat_tests)

each_holds : (ts : List Term) (x w : Numbers) (r : Row) → row_fits ts r ≡ true → EqualityHolds w r → StillHolds ts x w r → SpanHolds x r → Holds w r
each_holds ts x w (Span i j c) fits e still h = still (spans_on_dated ts i j c fits) h
each_holds ts x w (Same i j) fits e still h = e
each_holds ts x w (Unlike i j) fits e still h = e

module _ (ts : List Term) (rows : List Row) where
  possible_satisfied : Accepted ts rows → Possible TableAllowed SpanAllowed ts rows → Satisfiable ts rows
  possible_satisfied accepted (codes, allowed) =
      let (x, fits) = allowed.by_second in
      let p = put_together ts rows codes x accepted allowed.arrangement allowed.by_first fits.ordered in
      let w = p.numbers in
      record {
        tables = tables_of (entries_of ts w);
        numbers = w;
        interprets = p.model.interpreted.first_fit (entries_of ts w) p.model.interpreted.entries;
        hold = λ k d l. each_holds ts x w (get_or rows k d) (accepted.each_row k d l) (p.model.hold k d l) (p.on_instants k d l) (fits.hold k d l);
      }

  abbrev levels_of : Satisfiable ts rows → LevelsMet ts rows
  levels_of s =
      record {
        tables = s.tables;
        numbers = s.numbers;
        interprets = s.interprets;
        hold = λ k d l. equality_holds s.numbers (get_or rows k d) (s.hold k d l);
      }

  abbrev instants_of : Satisfiable ts rows → InstantsMet rows
  instants_of s = (s.numbers, (λ k d l. span_holds s.numbers (get_or rows k d) (s.hold k d l)))

  satisfied_possible : Satisfiable ts rows → Possible TableAllowed SpanAllowed ts rows
  satisfied_possible s =
      let f = every_choice_is_followed (length (seats_of ts)) (seat_numbers ts s.numbers) in (
        f.codes,
        record {
          arrangement = f.arrangement;
          by_first = levels_allowed ts rows f.codes (levels_of s) f.followed;
          by_second = instants_allowed ts rows f.codes (instants_of s) f.followed;
        },
      )

pub exact_together : ExactTogether TableAllowed SpanAllowed
exact_together ts rows accepted = (possible_satisfied ts rows accepted, satisfied_possible ts rows)

-- rows chosen of a list that was accepted are accepted
pub chosen_accepted : (ts : List Term) (noted : List Noted) → NotedAccepted ts noted → Accepted ts (active_rows noted)
chosen_accepted ts noted a = record { each_term = a.each_term; each_row = all_active (λ r. row_fits ts r ≡ true) noted (each_row_fits ts noted a.each_row) }

pub exact_for_chosen : ExactForChosen TableAllowed SpanAllowed
exact_for_chosen ts noted a = exact_together ts (active_rows noted) (chosen_accepted ts noted a)
