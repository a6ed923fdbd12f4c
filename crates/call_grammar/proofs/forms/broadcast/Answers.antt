use Rattle.symbol_reader.specs.declared.letters.Letter.TheVariants.{Exactly}
use Rattle.symbol_reader.proofs.Laws.{then_good, only_good}
use Rattle.symbol_reader.proofs.Steps.{letter_good, next, stop, fail, only_read}
use Rattle.dsc_symbols.specs.declared.ends.TheConstants.{EOS}
use Rattle.call_grammar.proofs.CodedParts.{first_good, second_good}
use Rattle.call_grammar.proofs.FieldParts.{field_good}
use Rattle.call_grammar.proofs.forms.broadcast.Goals as goal

pub returns-in_err-first : goal.returns-in_err-first
returns-in_err-first c = fail c.from_residual.ensures.1
    (stop first_good (λ _ _ _. then_good _ _ second_good (λ _ _ _. then_good _ _ field_good (λ _ _ _. then_good _ _ field_good (λ _ _ _. then_good _ _ (letter_good (Exactly EOS)) (λ _ _ _. only_good _))))) c.in_err-first.ensures)

pub returns-in_err-second : goal.returns-in_err-second
returns-in_err-second c = fail c.from_residual-in_err-second.ensures.1
    (next first_good c.in_ok-first.ensures
    (stop second_good (λ _ _ _. then_good _ _ field_good (λ _ _ _. then_good _ _ field_good (λ _ _ _. then_good _ _ (letter_good (Exactly EOS)) (λ _ _ _. only_good _)))) c.in_err-second.ensures))

pub returns-in_err-f1 : goal.returns-in_err-f1
returns-in_err-f1 c = fail c.from_residual-in_err-f1.ensures.1
    (next first_good c.in_ok-first.ensures
    (next second_good c.in_ok-second.ensures
    (stop field_good (λ _ _ _. then_good _ _ field_good (λ _ _ _. then_good _ _ (letter_good (Exactly EOS)) (λ _ _ _. only_good _))) c.in_err-f1.ensures)))

pub returns-in_err-f2 : goal.returns-in_err-f2
returns-in_err-f2 c = fail c.from_residual-in_err-f2.ensures.1
    (next first_good c.in_ok-first.ensures
    (next second_good c.in_ok-second.ensures
    (next field_good c.in_ok-f1.ensures
    (stop field_good (λ _ _ _. then_good _ _ (letter_good (Exactly EOS)) (λ _ _ _. only_good _)) c.in_err-f2.ensures))))

pub returns-in_err-symbol : goal.returns-in_err-symbol
returns-in_err-symbol c = fail c.from_residual-in_err-symbol.ensures.1
    (next first_good c.in_ok-first.ensures
    (next second_good c.in_ok-second.ensures
    (next field_good c.in_ok-f1.ensures
    (next field_good c.in_ok-f2.ensures
    (stop (letter_good (Exactly EOS)) (λ _ _ _. only_good _) c.in_err-symbol.ensures.reads)))))

pub returns : goal.returns
returns c =
    (next first_good c.in_ok-first.ensures
    (next second_good c.in_ok-second.ensures
    (next field_good c.in_ok-f1.ensures
    (next field_good c.in_ok-f2.ensures
    (next (letter_good (Exactly EOS)) c.in_ok-symbol.ensures.reads
    (rw c.request_of.ensures (only_read _ _)))))))
