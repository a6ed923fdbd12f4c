use Rattle.dsc_cmd.proofs.SomeOutput.{plan_there}
use Rattle.dsc_cmd.proofs.laws.no_output_is_lacking.Goals as goal

pub returns : goal.returns
returns c = plan_there (record {
  known = c.inputs_have_an_output.ensures;
  join = c.no_output_is_lacking.ensures.join;
  evidence = c.no_output_is_lacking.ensures.evidence;
  replay = c.no_output_is_lacking-2.ensures;
  capture = c.no_output_is_lacking-3.ensures;
  book = c.no_output_is_lacking-4.ensures;
  made = c.made_text_is_there.ensures;
})
