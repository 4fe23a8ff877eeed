use Rattle.std.proofs.Common.{◌≡◌, ◌+◌, ◌≤◌, ◌++◌, true, false, None, length, take, slice_index_or, sym, ap, ◌∙◌, arith}
use Rattle.runs.specs.Heard.{answers_heard}
use Rattle.benchrun.specs.Sessions.{asked_by, is_performed, replay}
use Rattle.benchrun.proofs.Passing.{adds_nothing, asks, judged_shown, still_counts, still_shown, waits}
use Rattle.benchrun.proofs.session.Session.next_command.Goals as goal

pub invariant_of-self-then-is_performed : goal.invariant_of-self-then-is_performed
invariant_of-self-then-is_performed g c =
    let s = c.loop-self.self in
    let yes : is_performed s.shown (slice_index_or s.said.now s.passed None) ≡ true = ap (λ b. is_performed b (slice_index_or s.said.now s.passed None)) c.loop-self.invariant.2 ∙ sym c.is_performed.ensures ∙ c.if-is_performed.true in
    let below : s.passed + 1 ≤ length s.said.now = let h = c.loop-self-test.true in omega arith in
    record {
      same = s.same;
      within = below;
      stage = c.is_judge-self.ensures ∙ judged_shown s.said.now s.passed c.loop-self-test.true s.shown s.stage s.heard.items s.waiting c.loop-self.invariant.1 s.count yes;
      count = waits s.said.now s.passed c.loop-self-test.true s.shown s.stage s.heard.items s.waiting c.loop-self.invariant.1 s.count yes;
    }

pub returns-then-is_performed-clause-asked : goal.returns-then-is_performed-clause-asked
returns-then-is_performed-clause-asked g c =
    let s = c.loop-self.self in
    let o = c.args.self.now in
    let l = slice_index_or s.said.now s.passed None in
    let yes : is_performed s.shown l ≡ true = ap (λ b. is_performed b l) c.loop-self.invariant.2 ∙ sym c.is_performed.ensures ∙ c.if-is_performed.true in
    asks s.said.now s.passed c.loop-self-test.true s.shown s.stage s.heard.items s.waiting c.loop-self.invariant.1 s.count yes
    ∙ ap (λ r. r ++ asked_by l) (c.loop-self.invariant.0 ∙ ap (λ n. replay false (take o.passed o.said.now) (answers_heard n)) c.reserve.ensures.items)

pub invariant_of-self-else-is_performed : goal.invariant_of-self-else-is_performed
invariant_of-self-else-is_performed g c =
    let s = c.loop-self.self in
    let no : is_performed s.shown (slice_index_or s.said.now s.passed None) ≡ false = ap (λ b. is_performed b (slice_index_or s.said.now s.passed None)) c.loop-self.invariant.2 ∙ sym c.is_performed.ensures ∙ c.if-is_performed.false in
    let below : s.passed + 1 ≤ length s.said.now = let h = c.loop-self-test.true in omega arith in
    record {
      same = s.same;
      within = below;
      stage = still_shown s.said.now s.passed c.loop-self-test.true s.shown s.stage s.heard.items s.waiting c.loop-self.invariant.1 s.count no;
      count = still_counts s.said.now s.passed c.loop-self-test.true s.shown s.stage s.heard.items s.waiting c.loop-self.invariant.1 s.count no;
    }

pub loop-self-preserved : goal.loop-self-preserved
loop-self-preserved g c =
    let s = c.loop-self.self in
    let i = c.loop-self.invariant in
    let no : is_performed s.shown (slice_index_or s.said.now s.passed None) ≡ false = ap (λ b. is_performed b (slice_index_or s.said.now s.passed None)) i.2 ∙ sym c.is_performed.ensures ∙ c.if-is_performed.false in
    (adds_nothing s.said.now s.passed c.loop-self-test.true s.shown s.stage s.heard.items s.waiting i.1 s.count no ∙ i.0, i.1, i.2, i.3, i.4)
