-- The set-up of a result.
use Rattle.std.specs.Prelude.{◌≡◌, ℕ, Bool, List, Option, Some, None, ℤ, All}
use Rattle.sheet.specs.declared.row.Row.{Row}
use Rattle.sheet.specs.declared.term.Term.{Term}
use Rattle.engine.specs.Rows.{RowKind}
use Rattle.engine.specs.Dates.{GreatestDates}
use Rattle.engine.specs.Meaning.{Holds, Interprets, Satisfiable, numbers_in}
use Rattle.engine.specs.Rules.{SpanAllowed, TableAllowed}
use Rattle.congruence.specs.declared.entry.Entry.{Entry}
use Rattle.congruence.specs.Entries.{tables_of}
use Rattle.search.specs.Verdicts.{Finding, Judged, arranged, clash, found_state}
use Rattle.model.specs.SetUps.{PickedSetUp, RightSetUp}
use Rattle.span.specs.Dating.{counts_spans}
use Rattle.setup.specs.declared.set_up.SetUp.{SetUp}

module _ (rule : List Term → List Row → List ℕ → Type 0) (counts : RowKind → Bool) (picks : List Term → List Row → List ℕ → List ℤ → Type 0) (ts : List Term) (rows : List Row) where
  -- at an arrangement it is the one that is picked, and at a clash there is none
  abbrev pub SetUpFound : Finding → Option SetUp → Type 0
  SetUpFound (arranged codes) (Some u) = PickedSetUp rule counts picks (found_state ts rows (arranged codes)) u.numbers.items u.entries.items
  SetUpFound (arranged codes) None = ⊥
  SetUpFound (clash places) (Some u) = ⊥
  SetUpFound (clash places) None = Unit {0}

  -- there is only one
  abbrev pub SetUpOnly : Finding → Option SetUp → Type 0
  SetUpOnly (arranged codes) (Some u) = (numbers : List ℤ) (entries : List Entry)
      → PickedSetUp rule counts picks (found_state ts rows (arranged codes)) numbers entries → (numbers ≡ u.numbers.items) × (entries ≡ u.entries.items)
  SetUpOnly (arranged codes) None = ⊥
  SetUpOnly (clash places) u = Unit {0}

  -- and it is right, by the dates for which it was picked
  abbrev pub SetUpRight : Finding → Option SetUp → Type 0
  SetUpRight (arranged codes) (Some u) = (picked : PickedSetUp rule counts picks (found_state ts rows (arranged codes)) u.numbers.items u.entries.items)
      × RightSetUp counts ts rows codes picked.dates u.numbers.items u.entries.items
  SetUpRight (arranged codes) None = ⊥
  SetUpRight (clash places) u = Unit {0}

-- there is one exactly where an arrangement was found
abbrev pub SetUpThere : Finding → Option SetUp → Type 0
SetUpThere (arranged codes) (Some u) = Unit {0}
SetUpThere (arranged codes) None = ⊥
SetUpThere (clash places) (Some u) = ⊥
SetUpThere (clash places) None = Unit {0}

-- the numbers, with the entries as tables, make every row true; at a clash no numbers and tables do
abbrev pub EveryRowTrue : List Term → List Row → Finding → Option SetUp → Type 0
EveryRowTrue ts rows (arranged codes) (Some u) = Interprets (tables_of u.entries.items) ts (numbers_in u.numbers.items) × All (Holds (numbers_in u.numbers.items)) rows
EveryRowTrue ts rows (arranged codes) None = ⊥
EveryRowTrue ts rows (clash places) u = Satisfiable ts rows → ⊥

-- With the table engine and the span engine: what is found is what both rules allow first, or the rows of a clash; the set-up is the one picked, with the
-- greatest dates; and it makes every row true. At a clash no numbers and tables do
pub record SolvedTruly (ts : List Term) (rows : List Row) (what : Finding) (u : Option SetUp) : Type 0 where
  pub judged : Judged TableAllowed SpanAllowed ts rows what
  pub picked : SetUpFound SpanAllowed counts_spans GreatestDates ts rows what u
  pub only : SetUpOnly SpanAllowed counts_spans GreatestDates ts rows what u
  pub right : SetUpRight SpanAllowed counts_spans GreatestDates ts rows what u
  pub true_rows : EveryRowTrue ts rows what u
