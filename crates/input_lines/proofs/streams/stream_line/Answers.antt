use Rattle.std.proofs.Common.{rules, inl, refl}
use Rattle.std.proofs.lemmas.List.{nil_from_length}
use Rattle.input_lines.proofs.Choices.{empty_says_nothing, comment_says_nothing}
use Rattle.input_lines.proofs.streams.stream_line.Goals as goal

pub returns-in_default-clause-line : goal.returns-in_default-clause-line
returns-in_default-clause-line c = inl (refl, empty_says_nothing c.args.line.now (nil_from_length c.args.line.now c.in_default.ensures.cases))

pub returns-in-35-clause-line : goal.returns-in-35-clause-line
returns-in-35-clause-line c = inl (refl, comment_says_nothing c.args.line.now c.in-Some.rest.now (search rules))
