-- Three shorter methods, which are unsound: what each goes by, and the claim that it needs, which is false.
use Rattle.std.specs.Prelude.{◌≡◌, ℕ, ◌<◌, List, length, All}
use Rattle.sheet.specs.declared.row.Row.{Row}
use Rattle.sheet.specs.declared.term.Term.{Term}
use Rattle.engine.specs.Arrangements.{Arrangement, OneInEachBlock, ranks}
use Rattle.engine.specs.Meaning.{Numbers, Satisfiable}
use Rattle.engine.specs.Parts.{InstantsMet, LevelsMet}
use Rattle.engine.specs.Rules.{SpanAllowed, SpanHolds, TableAllowed, seat_numbers}
use Rattle.engine.specs.Terms.{seats_of}
use Rattle.theory.specs.Accepted.{Accepted}

-- Waiting for equalities: once one part implies that two instants are equal, the equality is added to the other part. No equality is implied
-- if for each two instants each part can be met by numbers that differ there
pub record NoEqualityImplied (ts : List Term) (rows : List Row) : Type 0 where
  pub by_instants : (p q : ℕ) → p < q → q < length (seats_of ts)
      → (m : InstantsMet rows) × (seat_numbers ts m.0 p ≡ seat_numbers ts m.0 q → ⊥)
  pub by_levels : (p q : ℕ) → p < q → q < length (seats_of ts)
      → (m : LevelsMet ts rows) × (seat_numbers ts m.numbers p ≡ seat_numbers ts m.numbers q → ⊥)

-- the claim: then the parts can be met together, if each can by itself
abbrev pub WaitingSuffices : Type 0
WaitingSuffices = (ts : List Term) (rows : List Row) → Accepted ts rows
    → InstantsMet rows → LevelsMet ts rows → NoEqualityImplied ts rows → Satisfiable ts rows

-- Separate arrangements, one for each rule. The claim: they are enough
abbrev pub SeparateArrangementsSuffice : Type 0
SeparateArrangementsSuffice = (ts : List Term) (rows : List Row) (codes others : List ℕ) → Accepted ts rows
    → Arrangement (length (seats_of ts)) codes → TableAllowed ts rows codes
    → Arrangement (length (seats_of ts)) others → SpanAllowed ts rows others → Satisfiable ts rows

-- Branching on equal and unlike alone: the spans are given the equalities between instants, and no order. That two numbers differ, difference
-- bounds cannot say, so instants of different blocks may have one number
pub record SpanFitsBlocks (ts : List Term) (rows : List Row) (codes : List ℕ) (v : Numbers) : Type 0 where
  pub hold : All (SpanHolds v) rows
  pub same : OneInEachBlock (ranks codes) (seat_numbers ts v)

-- the claim: this rule is sound together with the table rule
abbrev pub SpanAllowedInBlocks : List Term → List Row → List ℕ → Type 0
SpanAllowedInBlocks ts rows codes = (v : Numbers) × SpanFitsBlocks ts rows codes v
