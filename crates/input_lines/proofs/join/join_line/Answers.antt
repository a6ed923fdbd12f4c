use Rattle.std.proofs.Common.{rules, refl}
use Rattle.std.proofs.lemmas.List.{nil_from_length}
use Rattle.input_lines.specs.ReceiverLine.{nothing}
use Rattle.input_lines.proofs.Choices.{empty_says_nothing, comment_says_nothing}
use Rattle.input_lines.proofs.Faults.{other_fault}
use Rattle.input_lines.proofs.join.join_line.Goals as goal

pub returns-in_default : goal.returns-in_default
returns-in_default c = (nothing, (empty_says_nothing c.args.line.now (nil_from_length c.args.line.now c.in_default.ensures.cases), refl))

pub returns-in-35 : goal.returns-in-35
returns-in-35 c = (nothing, (comment_says_nothing c.args.line.now c.in-Some.rest.now (search rules), refl))

pub returns-in_default-first : goal.returns-in_default-first
returns-in_default-first c = other_fault c.args.line.now c.in-Some.rest.now c.in-Some.first.now (search rules) (search rules) (search rules) (search rules)
