use Rattle.std.proofs.Common.{rules, refl}
use Rattle.std.proofs.lemmas.List.{nil_from_length}
use Rattle.input_lines.proofs.Choices.{empty_says_nothing}
use Rattle.input_lines.proofs.sentences.sentence_line.Goals as goal

pub returns-in_default : goal.returns-in_default
returns-in_default c = empty_says_nothing c.args.line.now (nil_from_length c.args.line.now c.in_default.ensures.cases)

pub returns-in-36 : goal.returns-in-36
returns-in-36 c = (refl, (c.in-Some.field-0-1.now, search rules))
