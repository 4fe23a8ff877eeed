use Rattle.std.proofs.Common.{◌≡◌, ap, ◌∙◌}
use Rattle.benchrun.specs.Commands.{command_in, command_of, words_of}
use Rattle.benchrun.proofs.Ending.{stripped}
use Rattle.benchrun.proofs.Spelling.{read_back}
use Rattle.benchrun.proofs.command.read_command.Goals as goal
use Rattle.benchrun.proofs.command.read_command.Goals.{After-read_words}

answered : (c : After-read_words) → c.read_words.result ≡ command_in c.args.line.now
answered c =
    c.read_words.ensures
    ∙ ap (λ line. command_of (words_of line.now)) c.unwrap_or-line.ensures
    ∙ ap (λ l. command_of (words_of l)) (stripped c.args.line c.strip_suffix.result c.strip_suffix.ensures.cases)

pub returns-clause-answer : goal.returns-clause-answer
returns-clause-answer c = answered (goal.at.returns-clause-answer c).After-read_words

pub returns-clause-spelled : goal.returns-clause-spelled
returns-clause-spelled c = λ d fits said. answered (goal.at.returns-clause-spelled c).After-read_words ∙ ap command_in said ∙ read_back d fits
