use Rattle.std.proofs.lemmas.Result.{IfOk-weaker}
use Rattle.parts.proofs.Telling.{told}
use Rattle.parts.proofs.report.report_parts.Goals as goal

pub returns-clause-tells : goal.returns-clause-tells
returns-clause-tells c = IfOk-weaker c.report_sheet.result _ _ (λ report d. told c.args.sheet.now _ _ _ report.diagnosis d) c.report_sheet.ensures.tells

pub returns-clause-engines : goal.returns-clause-engines
returns-clause-engines c = IfOk-weaker c.report_sheet.result _ _ (λ report d. (_, _, _, d)) c.report_sheet.ensures.tells
