-- What two rules allow together.
use Rattle.std.specs.Prelude.{◌↔◌, ℕ, List, length}
use Rattle.sheet.specs.declared.row.Row.{Row}
use Rattle.sheet.specs.declared.term.Term.{Term}
use Rattle.engine.specs.declared.noted.Noted.{Noted}
use Rattle.engine.specs.Arrangements.{Arrangement}
use Rattle.engine.specs.Meaning.{Satisfiable}
use Rattle.engine.specs.States.{active_rows}
use Rattle.engine.specs.Terms.{seats_of}
use Rattle.theory.specs.Accepted.{Accepted, NotedAccepted}

module _ (first second : List Term → List Row → List ℕ → Type 0) where
  -- the codes are an arrangement of the seats that both rules allow
  pub record AllowedByBoth (ts : List Term) (rows : List Row) (codes : List ℕ) : Type 0 where
    pub arrangement : Arrangement (length (seats_of ts)) codes
    pub by_first : first ts rows codes
    pub by_second : second ts rows codes

  -- and there are such codes
  abbrev pub Possible : List Term → List Row → Type 0
  Possible ts rows = (codes : List ℕ) × AllowedByBoth ts rows codes

  -- the rules are sound together: where some arrangement is allowed by both, some numbers and tables make every row true, whichever terms and
  -- rows were accepted
  abbrev pub SoundTogether : Type 0
  SoundTogether = (ts : List Term) (rows : List Row) → Accepted ts rows → Possible ts rows → Satisfiable ts rows

  -- and exact: that is so exactly where some arrangement is allowed by both
  abbrev pub ExactTogether : Type 0
  ExactTogether = (ts : List Term) (rows : List Row) → Accepted ts rows → Possible ts rows ↔ Satisfiable ts rows

  -- the same of the rows that are chosen of a list by its marks
  abbrev pub ExactForChosen : Type 0
  ExactForChosen = (ts : List Term) (noted : List Noted) → NotedAccepted ts noted
      → Possible ts (active_rows noted) ↔ Satisfiable ts (active_rows noted)
