use Rattle.lw_report.proofs.Once.{report_once}
use Rattle.lw_report.proofs.laws.reports_are_one.Goals as goal

pub returns : goal.returns
returns c = report_once
