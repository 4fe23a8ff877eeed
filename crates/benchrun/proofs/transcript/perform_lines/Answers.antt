use Rattle.std.proofs.Common.{◌++◌, [], arith, false, length, drop, take, sym, subst, ap, ◌∙◌}
use Rattle.std.proofs.Math.ListN.{drop_of_length-le}
use Rattle.std.proofs.lemmas.Bool.{ltb-false, ltb-true}
use Rattle.std.proofs.lemmas.List.{take-append-drop, length-drop}
use Rattle.bench.specs.Benches.{declared}
use Rattle.engine.specs.Rules.{SpanAllowed, TableAllowed}
use Rattle.runs.specs.Judging.{JudgedTruly}
use Rattle.runs.specs.Law.{Run, open_with}
use Rattle.runs.specs.Stages.{status_of}
use Rattle.runs.specs.Heard.{answers_heard}
use Rattle.benchrun.specs.Sessions.{lines_printed}
use Rattle.benchrun.proofs.transcript.perform_lines.Goals as goal

pub returns : goal.returns
returns g c =
    let s = c.run_with_table_and_span.new.client in
    let ts = declared c.args.draft in
    record {
      passed = take s.passed s.said.now;
      left = drop s.passed s.said.now;
      in_order = c.requires ∙ sym s.same ∙ sym (take-append-drop s.passed s.said.now);
      all = λ h. drop_of_length-le s.said.now (ltb-false s.passed (length s.said.now) h);
      answers = answers_heard s.heard.items;
      some = λ h e. (let less = ltb-true s.passed (length s.said.now) h in let none = sym (length-drop s.passed s.said.now) ∙ ap length e in absurd (omega (arith, less, none)));
      end = status_of c.run_with_table_and_span.result;
      law = (let v = c.run_with_table_and_span.ensures.law in subst (λ es. Run (JudgedTruly TableAllowed SpanAllowed ts) ts (open_with []) es (status_of c.run_with_table_and_span.result)) (sym (v.on_record ∙ ap (λ before. before ++ v.events) c.new-session.ensures)) v.run);
      printed = c.in_ok-text.ensures ∙ ap (λ notes. lines_printed false (take s.passed s.said.now) (answers_heard notes)) c.deref.ensures.value;
    }
