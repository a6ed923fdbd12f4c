use Rattle.line_engine.proofs.PublicLaws.{one_text, one_first}
use Rattle.dsc_cmd.specs.Plans.{meaning_of}
use Rattle.dsc_cmd.proofs.OneOutput.{Laws, plan_determined, plan_column}
use Rattle.dsc_cmd.proofs.laws.inputs_have_one_output.Goals as goal

laws_of : goal.After-made_text_is_one → Laws
laws_of c = record {
  join = c.lines_determine_output.ensures.join;
  evidence = c.lines_determine_output.ensures.evidence;
  encode = c.lines_determine_output-2.ensures;
  sentences = c.lines_determine_output-3.ensures;
  replay = c.lines_determine_output-4.ensures;
  capture = c.lines_determine_output-5.ensures;
  exchange = c.lines_determine_output-6.ensures;
  book = c.logs_determine_output.ensures;
  made = c.made_text_is_one.ensures;
}

pub returns-clause-determined : goal.returns-clause-determined
returns-clause-determined c = plan_determined (laws_of c)

pub returns-clause-output : goal.returns-clause-output
returns-clause-output c = λ plan one. one_text (meaning_of plan) (plan_determined (laws_of c) plan one)

pub returns-clause-fault : goal.returns-clause-fault
returns-clause-fault c = λ plan. one_first (meaning_of plan) (plan_column (laws_of c) plan)
