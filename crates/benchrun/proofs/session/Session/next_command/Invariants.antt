use Rattle.std.proofs.Common.{◌≡◌, ◌<◌, ◌-◌, true, false, length, vec_capacity, vec_len}
use Rattle.benchrun.specs.Histories.{history_of}
use Rattle.benchrun.proofs.session.Session.next_command.Given as goal

-- lines that are not performed leave nothing in the history
abbrev pub invariant-loop-self : goal.invariant-loop-self
invariant-loop-self g l = (history_of l.self ≡ history_of l.initial.self) × (l.self.waiting ≡ false) × (l.self.shown ≡ l.shown) × (l.self.stopped ≡ true) × (vec_len l.self.heard < vec_capacity l.self.heard)

abbrev pub decreases-loop-self : goal.decreases-loop-self
decreases-loop-self g l = length l.self.said.now - l.self.passed
