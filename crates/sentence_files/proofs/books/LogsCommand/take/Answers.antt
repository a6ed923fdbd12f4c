use Rattle.std.proofs.Common.{◌≡◌, true, subst}
use Rattle.input_lines.specs.declared.books.BookLine.{BookLine}
use Rattle.input_lines.specs.declared.books.BookLine.TheVariants.{Nothing, Sentence}
use Rattle.input_lines.specs.BookLine.{is_sentence, IsBookLine}
use Rattle.sentence_files.proofs.Taken.{stands_on, takes_nothing}
use Rattle.sentence_files.proofs.books.LogsCommand.take.Goals as goal

-- a line that says nothing is no sentence
no_sentence : (c : goal.In-Nothing) → is_sentence c.args.line.now ≡ true → ⊥
no_sentence c sentence =
    let nothing = subst (λ (says : BookLine). IsBookLine says c.args.line.now) c.in-Nothing.is c.in_ok-book_line.ensures in
    absurd (let same : Nothing ≡ Sentence = c.one_book_line.ensures Nothing Sentence c.args.line.now nothing sentence in cc)

pub returns-in-Nothing-clause-stands : goal.returns-in-Nothing-clause-stands
returns-in-Nothing-clause-stands c = λ lines written stands.
    stands_on c.args.self.now c.args.self.now lines c.args.line.now _ stands (takes_nothing c.args.self.now c.args.line.now (no_sentence c))

pub returns-in_ok-hear-in-Sentence-clause-stands : goal.returns-in_ok-hear-in-Sentence-clause-stands
returns-in_ok-hear-in-Sentence-clause-stands c = λ lines written stands.
    stands_on c.args.self.now c.hear.new.self lines c.args.line.now _ stands c.in_ok-hear-in-Sentence.ensures
