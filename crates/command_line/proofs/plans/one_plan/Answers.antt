use Rattle.command_line.proofs.PlanWords.{plan_is_one}
use Rattle.command_line.proofs.plans.one_plan.Goals as goal

pub returns : goal.returns
returns c = plan_is_one
