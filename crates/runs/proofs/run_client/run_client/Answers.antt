use Rattle.std.proofs.Common.{refl, ap, arith}
use Rattle.bench.specs.Benches.{declared}
use Rattle.runs.specs.declared.stage.Stage.TheVariants.{AtBench, AtResult}
use Rattle.runs.specs.Events.{enter, strike, judge, reopen}
use Rattle.runs.proofs.Attending.{attending_start, served_on, stopped_at}
use Rattle.runs.proofs.Determined.{choices_determine}
use Rattle.runs.proofs.Only.{judged_only}
use Rattle.runs.proofs.Serving.{sofar_limit}
use Rattle.runs.proofs.Truth.{served_truly}
use Rattle.runs.proofs.run_client.run_client.Goals as goal
use Rattle.runs.proofs.run_client.run_client.Goals.{in-AtBench+in-Enter, in-AtBench+in-Strike, in-AtBench+in-Judge, in-AtResult+in-Reopen}

pub loop-init : goal.loop-init
loop-init g c =
    let f = g.F.Engine in
    let s = g.S.Engine in
    let e = c.seal.ensures in
    attending_start f s (f.setting c.args.first) (s.setting c.args.second) (declared c.args.draft) (g.C.Client.history c.args.client.now) c.seal.result (g.C.Client.history c.args.client.now) e.terms e.rows e.keeps_first e.keeps_second refl

pub loop-preserved : goal.loop-preserved
loop-preserved g c =
    let f = g.F.Engine in
    let s = g.S.Engine in
    let n = f.setting c.args.first in
    let m = s.setting c.args.second in
    let ts = declared c.args.draft in
    let before = g.C.Client.history c.args.client.now in
    let held = c.loop.invariant in
    elim c.match-stage.branch [
      | in-AtBench+in-Enter w ↦ served_on f s n m ts before (enter w.in-Enter.row) held w.in-AtBench.is w.in-Enter.ensures.history w.enter_for.ensures w.stage-is (ap g.C.Client.history w.client-is)
      | in-AtBench+in-Strike w ↦ served_on f s n m ts before strike held w.in-AtBench.is w.in-Strike.ensures.history w.strike_for.ensures w.stage-is (ap g.C.Client.history w.client-is)
      | in-AtBench+in-Judge w ↦ served_on f s n m ts before judge held w.in-AtBench.is w.in-Judge.ensures.history w.judge_for.ensures w.stage-is (ap g.C.Client.history w.client-is)
      | in-AtResult+in-Reopen w ↦ served_on f s n m ts before reopen held w.in-AtResult.is w.in-Reopen.ensures.history w.reopen_for.ensures w.stage-is (ap g.C.Client.history w.client-is)
    ]

pub returns-in-Stop-clause-truth : goal.returns-in-Stop-clause-truth
returns-in-Stop-clause-truth g c =
    let f = g.F.Engine in
    let s = g.S.Engine in
    let n = f.setting c.args.first in
    let m = s.setting c.args.second in
    let ts = declared c.args.draft in
    let e = c.in-Stop.ensures in
    λ exact. served_truly (f.rule n) (s.rule m) exact ts c.args.draft.standing.held.terms_fit
    (stopped_at f s n m ts (g.C.Client.history c.args.client.now) (AtBench c.in-AtBench.bench) c.loop.invariant c.in-AtBench.is e.history e.stopped c.loop-test.true)

pub returns-in-Stop-clause-determined : goal.returns-in-Stop-clause-determined
returns-in-Stop-clause-determined g c = choices_determine (judged_only _ _ _)

pub returns-in-Stop-choose_at_result-clause-truth :
    goal.returns-in-Stop-choose_at_result-clause-truth
returns-in-Stop-choose_at_result-clause-truth g c =
    let f = g.F.Engine in
    let s = g.S.Engine in
    let n = f.setting c.args.first in
    let m = s.setting c.args.second in
    let ts = declared c.args.draft in
    let e = c.in-Stop-choose_at_result.ensures in
    λ exact. served_truly (f.rule n) (s.rule m) exact ts c.args.draft.standing.held.terms_fit
    (stopped_at f s n m ts (g.C.Client.history c.args.client.now) (AtResult c.in-AtResult.shown) c.loop.invariant c.in-AtResult.is e.history e.stopped c.loop-test.true)

pub returns-in-Stop-choose_at_result-clause-determined :
    goal.returns-in-Stop-choose_at_result-clause-determined
returns-in-Stop-choose_at_result-clause-determined g c = choices_determine (judged_only _ _ _)

pub returns-clause-truth : goal.returns-clause-truth
returns-clause-truth g c =
    let f = g.F.Engine in
    let s = g.S.Engine in
    λ exact. served_truly (f.rule (f.setting c.args.first)) (s.rule (s.setting c.args.second)) exact (declared c.args.draft) c.args.draft.standing.held.terms_fit
    (sofar_limit c.loop.invariant.sofar (omega (arith, c.loop-test.false, c.loop.auto.counter-end)))

pub returns-clause-determined : goal.returns-clause-determined
returns-clause-determined g c = choices_determine (judged_only _ _ _)
