-- What is known of a ground, once a call has answered by it.
use Rattle.std.proofs.Common.{◌≡◌, Some, None, Ok, Err, Option, refl}
use Rattle.sheet.specs.declared.fault.Cause.{Cause}
use Rattle.engine.specs.Calls.{unless_refused, ◌or_else◌}
use Rattle.engine.specs.Refusals.{answer_of}
use Rattle.engine.specs.States.{State}

pub none_from_ok : (o : Option Cause) (u : Unit {0}) → Ok u ≡ answer_of o → o ≡ None
none_from_ok None u e = refl
none_from_ok (Some c) u e = cc

pub some_from_err : (o : Option Cause) (c : Cause) → Err c ≡ answer_of o → o ≡ Some c
some_from_err None c e = cc
some_from_err (Some d) c e = cc

-- a second ground refuses whatever the first one says
pub kept_by_second : (a b : Option Cause) (s t : State) (c : Cause) → Err c ≡ answer_of b → s ≡ unless_refused (a or_else b) s t
kept_by_second None None s t c e = cc
kept_by_second None (Some d) s t c e = refl
kept_by_second (Some d) b s t c e = refl
