use Rattle.script_runner.proofs.WrittenTexts.{faulty_told}
use Rattle.script_runner.proofs.reports.delivery.run_text.Goals as goal

pub returns-clause-syntax : goal.returns-clause-syntax
returns-clause-syntax g c line cause faulty =
    faulty_told c.args.script.now c.deliver.result _ _ line cause c.deliver.ensures.holds faulty
