use Rattle.std.proofs.Common.{inr}
use Rattle.fault_world.proofs.ScenariosLemmas.Texts.{of_no_text, of_text}
use Rattle.fault_world.proofs.scenarios.reading.read_scenario_as.Goals as goal

pub returns-in-Err-clause-fault : goal.returns-in-Err-clause-fault
returns-in-Err-clause-fault c = inr (of_no_text c.args.profile c.args.text.now c.in-Err.ensures.cases.0)

pub returns-clause-steps : goal.returns-clause-steps
returns-clause-steps c = rw (of_text c.args.profile c.args.text.now c.in_default.ensures.cases.1) c.steps_of_lines.ensures.steps

pub returns-clause-fault : goal.returns-clause-fault
returns-clause-fault c = rw (of_text c.args.profile c.args.text.now c.in_default.ensures.cases.1) c.steps_of_lines.ensures.fault
