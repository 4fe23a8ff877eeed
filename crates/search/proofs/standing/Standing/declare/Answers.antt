use Rattle.std.proofs.Common.{ap, ◌∙◌}
use Rattle.engine.specs.Holding.{state_of}
use Rattle.engine.specs.Refusals.{answer_of}
use Rattle.engine.specs.States.{State}
use Rattle.search.specs.Unmuted.{all_unmuted, unmarked}
use Rattle.search.proofs.Noting.{Stands, term_answers, term_rows, term_stands, term_terms}
use Rattle.search.proofs.standing.Standing.declare.Goals as goal

pub invariant_of-self-clause-unmuted : goal.invariant_of-self-clause-unmuted
invariant_of-self-clause-unmuted c =
    let s : State = state_of c.args.self.now.held in
    let k : Stands s = record { unmuted = c.args.self.now.unmuted; bare = c.args.self.now.no_codes } in
    ap (λ (q : State). all_unmuted q.rows) c.note_term.ensures.leaves ∙ (term_stands s k c.args.term).unmuted

pub invariant_of-self-clause-no_codes : goal.invariant_of-self-clause-no_codes
invariant_of-self-clause-no_codes c =
    let s : State = state_of c.args.self.now.held in
    let k : Stands s = record { unmuted = c.args.self.now.unmuted; bare = c.args.self.now.no_codes } in
    ap (λ (q : State). q.codes) c.note_term.ensures.leaves ∙ (term_stands s k c.args.term).bare

pub returns-clause-answers : goal.returns-clause-answers
returns-clause-answers c =
    let s : State = state_of c.args.self.now.held in
    let k : Stands s = record { unmuted = c.args.self.now.unmuted; bare = c.args.self.now.no_codes } in
    c.note_term.ensures.answers ∙ ap answer_of (term_answers s k c.args.term)

pub returns-clause-terms : goal.returns-clause-terms
returns-clause-terms c =
    let s : State = state_of c.args.self.now.held in
    let k : Stands s = record { unmuted = c.args.self.now.unmuted; bare = c.args.self.now.no_codes } in
    ap (λ (q : State). q.terms) c.note_term.ensures.leaves ∙ term_terms s k c.args.term

pub returns-clause-rows : goal.returns-clause-rows
returns-clause-rows c =
    let s : State = state_of c.args.self.now.held in
    let k : Stands s = record { unmuted = c.args.self.now.unmuted; bare = c.args.self.now.no_codes } in
    ap (λ (q : State). unmarked q.rows) c.note_term.ensures.leaves ∙ term_rows s k c.args.term
