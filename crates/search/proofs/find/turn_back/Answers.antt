use Rattle.std.proofs.Common.{arith}
use Rattle.search.proofs.Turning.{code_low, falls_turned, known_turned, known_turned_out, turning_on, turning_start}
use Rattle.search.proofs.find.turn_back.Goals as goal

pub loop-code-init : goal.loop-code-init
loop-code-init g c = turning_start c.requires.alike c.requires.known

pub overflow_add-code : goal.overflow_add-code
overflow_add-code g c =
    let low = code_low c.loop-code.invariant c.in-Some.code c.in-Some.ensures.alike c.in-Some.ensures.lifted in
    omega (arith, c.requires.few, low)

pub loop-code-preserved : goal.loop-code-preserved
loop-code-preserved g c =
    turning_on c.loop-code.invariant c.in-Some.code c.in-Some.ensures.alike c.in-Some.ensures.lifted c.if-place_code.ensures.placed c.if-place_code.ensures.alike

pub returns-then-place_code-clause-known : goal.returns-then-place_code-clause-known
returns-then-place_code-clause-known g c =
    known_turned c.loop-code.invariant c.in-Some.code c.in-Some.ensures.alike c.in-Some.ensures.lifted c.if-place_code.ensures.placed

pub returns-then-place_code-clause-goes_on : goal.returns-then-place_code-clause-goes_on
returns-then-place_code-clause-goes_on g c =
    falls_turned c.loop-code.invariant c.in-Some.code c.in-Some.ensures.alike c.in-Some.ensures.lifted c.if-place_code.ensures.placed

pub returns-clause-known : goal.returns-clause-known
returns-clause-known g c = known_turned_out c.loop-code.invariant c.lift_code.new.codes.items c.in_default.ensures.lifted c.in_default.ensures.none
