use Rattle.dsc_cmd.proofs.SomeOutput.{plan_outputs}
use Rattle.dsc_cmd.proofs.laws.inputs_have_an_output.Goals as goal

pub returns : goal.returns
returns c = plan_outputs (record { encode = c.inputs_have_outputs.ensures; sentences = c.inputs_have_outputs-2.ensures; exchange = c.inputs_have_outputs-3.ensures })
