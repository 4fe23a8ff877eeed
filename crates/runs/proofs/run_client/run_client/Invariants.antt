use Rattle.bench.specs.Benches.{declared}
use Rattle.runs.proofs.Attending.{Attending}
use Rattle.runs.proofs.run_client.run_client.Given as goal

-- the client was served so many times
abbrev pub invariant-loop : goal.invariant-loop
invariant-loop g l =
    Attending g.F.Engine g.S.Engine (g.F.Engine.setting l.fn.first) (g.S.Engine.setting l.fn.second) (declared l.fn.draft) (g.C.Client.history l.fn.client)
    l.stage (g.C.Client.history l.client) l.counter
