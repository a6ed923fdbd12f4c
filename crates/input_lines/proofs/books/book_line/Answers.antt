use Rattle.std.proofs.Common.{rules}
use Rattle.std.proofs.lemmas.List.{nil_from_length}
use Rattle.input_lines.proofs.Choices.{empty_says_nothing, comment_says_nothing, other_book}
use Rattle.input_lines.proofs.books.book_line.Goals as goal

pub returns-in_default : goal.returns-in_default
returns-in_default c = empty_says_nothing c.args.line.now (nil_from_length c.args.line.now c.in_default.ensures.cases)

pub returns-in-35 : goal.returns-in-35
returns-in-35 c = comment_says_nothing c.args.line.now c.in-Some.field-0-1.now (search rules)

pub returns-in_default-first : goal.returns-in_default-first
returns-in_default-first c = other_book c.args.line.now c.in-Some.field-0-1.now c.in-Some.first.now (search rules) (search rules) (search rules)
