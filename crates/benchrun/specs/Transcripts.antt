-- What is known of a session.
use Rattle.std.specs.Prelude.{◌≡◌, ℕ, true, false, List, [], ◌∷◌, ◌++◌, Ok, Err, Option, Result, string_bytes}
use Rattle.sheet.specs.declared.refusal.Refusal.{Refusal}
use Rattle.sheet.specs.declared.term.Term.{Term}
use Rattle.engine.specs.Rules.{SpanAllowed, TableAllowed}
use Rattle.engine.specs.Terms.{zero_term}
use Rattle.runs.specs.Events.{Answer}
use Rattle.runs.specs.Judging.{JudgedTruly}
use Rattle.runs.specs.Law.{Run, Status, open_with}
use Rattle.benchrun.specs.declared.command.Command.{Command}
use Rattle.benchrun.specs.declared.transcript.Transcript.{Transcript}
use Rattle.benchrun.specs.Sessions.{commands_in, lines_printed, replay}
use Rattle.load.specs.TermFields.{TermsDeclared, TermsStopped}

-- What the lines say is performed over these terms, in order, and all of it unless lines are left. The answers obey the law of runs, and the text says them.
pub record LinesPerformed (terms : List Term) (said : List (Option Command)) (t : Transcript) : Type 0 where
  pub passed : List (Option Command)
  pub left : List (Option Command)
  pub in_order : said ≡ passed ++ left
  pub all : t.lines_left ≡ false → left ≡ []
  pub some : t.lines_left ≡ true → left ≡ [] → ⊥
  pub answers : List Answer
  pub end : Status
  pub law : Run (JudgedTruly TableAllowed SpanAllowed terms) terms (open_with []) (replay false passed answers) end
  pub printed : string_bytes t.text ≡ lines_printed false passed answers

-- the terms are declared, and the lines behind them are performed
pub record Held (input : List ℕ) (t : Transcript) : Type 0 where
  pub terms : List Term
  pub lines : List ℕ
  pub declared : TermsDeclared input (zero_term ∷ []) lines terms
  pub performed : LinesPerformed terms (commands_in lines) t

-- or a term is refused
abbrev pub SessionHeld : List ℕ → Result Transcript Refusal → Type 0
SessionHeld input (Ok t) = Held input t
SessionHeld input (Err refusal) = (terms : List Term) × TermsStopped input (zero_term ∷ []) terms refusal
