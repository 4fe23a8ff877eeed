use Rattle.std.proofs.Common.{◌∙◌, arith}
use Rattle.search.specs.Standing.{state_in, terms_of}
use Rattle.search.proofs.Giving.{row_given, term_given}
use Rattle.search.proofs.note.note_standing.Goals as goal

pub loop-term-preserved : goal.loop-term-preserved
loop-term-preserved g c =
    let s = c.args.standing.now in
    let i = c.loop-term.term-index in
    let held = c.loop-term.invariant in (
      c.note_term.ensures.leaves ∙ term_given (g.E.Engine.state c.loop-term.engine) (terms_of s) s.held.terms_fit _ i held.1 held.0 c.loop-term-test.true,
      held.1,
      held.2,
      c.note_term.ensures.keeps ∙ held.3,
    )

pub loop-noted-preserved : goal.loop-noted-preserved
loop-noted-preserved g c =
    let s = c.args.standing.now in
    let held = c.loop-noted.invariant in (
      c.note_row.ensures.leaves ∙ row_given (g.E.Engine.state c.loop-noted.engine) (terms_of s) s.held.terms_fit (state_in s).rows s.held.rows_fit (omega (arith, s.held.few_rows, s.held.rows.ok.0)) _ c.loop-noted.noted-index held.1 held.0 c.loop-noted-test.true,
      held.1,
      held.2,
      c.note_row.ensures.keeps ∙ held.3,
    )
