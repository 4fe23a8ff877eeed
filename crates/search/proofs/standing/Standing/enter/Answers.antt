use Rattle.std.proofs.Common.{◌≡◌, ◌↔◌, ◌<◌, true, length, sym, ap, ◌∙◌, subst}
use Rattle.std.specs.Prelude.{IsOk}
use Rattle.engine.specs.Fitting.{row_fits}
use Rattle.engine.specs.Holding.{state_of}
use Rattle.engine.specs.Refusals.{answer_of}
use Rattle.engine.specs.States.{State}
use Rattle.search.specs.Unmuted.{all_unmuted, unmarked}
use Rattle.search.proofs.Noting.{Stands, row_answers, row_rows, row_stands, row_taken, row_terms}
use Rattle.search.proofs.standing.Standing.enter.Goals as goal

pub invariant_of-self-clause-unmuted : goal.invariant_of-self-clause-unmuted
invariant_of-self-clause-unmuted c =
    let s : State = state_of c.args.self.now.held in
    let k : Stands s = record { unmuted = c.args.self.now.unmuted; bare = c.args.self.now.no_codes } in
    ap (λ (q : State). all_unmuted q.rows) c.note_row.ensures.leaves ∙ (row_stands s k c.args.row).unmuted

pub invariant_of-self-clause-no_codes : goal.invariant_of-self-clause-no_codes
invariant_of-self-clause-no_codes c =
    let s : State = state_of c.args.self.now.held in
    let k : Stands s = record { unmuted = c.args.self.now.unmuted; bare = c.args.self.now.no_codes } in
    ap (λ (q : State). q.codes) c.note_row.ensures.leaves ∙ (row_stands s k c.args.row).bare

pub returns-clause-taken : goal.returns-clause-taken
returns-clause-taken c =
    let s : State = state_of c.args.self.now.held in
    let k : Stands s = record { unmuted = c.args.self.now.unmuted; bare = c.args.self.now.no_codes } in
    subst (λ r. IsOk r ↔ ((length (unmarked s.rows) < 64) × (row_fits s.terms c.args.row ≡ true))) (sym (c.note_row.ensures.answers ∙ ap answer_of (row_answers s k c.args.row)))
    (row_taken s.terms (length (unmarked s.rows)) c.args.row)

pub returns-clause-answers : goal.returns-clause-answers
returns-clause-answers c =
    let s : State = state_of c.args.self.now.held in
    let k : Stands s = record { unmuted = c.args.self.now.unmuted; bare = c.args.self.now.no_codes } in
    c.note_row.ensures.answers ∙ ap answer_of (row_answers s k c.args.row)

pub returns-clause-terms : goal.returns-clause-terms
returns-clause-terms c =
    let s : State = state_of c.args.self.now.held in
    let k : Stands s = record { unmuted = c.args.self.now.unmuted; bare = c.args.self.now.no_codes } in
    ap (λ (q : State). q.terms) c.note_row.ensures.leaves ∙ row_terms s k c.args.row

pub returns-clause-rows : goal.returns-clause-rows
returns-clause-rows c =
    let s : State = state_of c.args.self.now.held in
    let k : Stands s = record { unmuted = c.args.self.now.unmuted; bare = c.args.self.now.no_codes } in
    ap (λ (q : State). unmarked q.rows) c.note_row.ensures.leaves ∙ row_rows s k c.args.row
