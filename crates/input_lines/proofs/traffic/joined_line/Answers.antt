use Rattle.std.proofs.Common.{rules, refl}
use Rattle.std.proofs.lemmas.List.{nil_from_length}
use Rattle.input_lines.specs.ReceiverLine.{nothing}
use Rattle.input_lines.proofs.Choices.{empty_says_nothing, comment_says_nothing}
use Rattle.input_lines.proofs.traffic.joined_line.Goals as goal

pub returns-in_default : goal.returns-in_default
returns-in_default c = (nothing, ((tt, empty_says_nothing c.args.line.now (nil_from_length c.args.line.now c.in_default.ensures.cases)), refl))

pub returns-in-35 : goal.returns-in-35
returns-in-35 c = (nothing, ((tt, comment_says_nothing c.args.line.now c.in-Some.field-0-1.now (search rules)), refl))
