use Rattle.call_values.specs.Calls.{IsCall}
use Rattle.call_texts.specs.CallParts.{call_text}
use Rattle.line_grammar.proofs.Forms.{answered}
use Rattle.call_texts.proofs.laws.bare_call_texts_are_read.Goals as goal

pub returns : goal.returns
returns c call answer h told = answered IsCall call_text call answer h told
