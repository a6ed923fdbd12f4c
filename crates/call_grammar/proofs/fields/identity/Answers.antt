use Rattle.symbol_reader.specs.declared.letters.Letter.TheVariants.{UpTo, Digits}
use Rattle.symbol_reader.proofs.Steps.{letter_good, alike, next, stop, fail, only_read}
use Rattle.call_grammar.specs.inside.Grammar.{identity_of}
use Rattle.call_grammar.proofs.IdentityParts.{identity_alike, second_good, third_good, fourth_good, last_good}
use Rattle.symbol_reader.proofs.Laws.{only_good}
use Rattle.call_grammar.proofs.fields.identity.Goals as goal

pub returns-in_err-a : goal.returns-in_err-a
returns-in_err-a c = fail c.from_residual.ensures.1 (alike identity_alike
    (stop (letter_good (UpTo 99)) (λ a _ _. second_good a) c.in_err-a.ensures.reads))

pub returns-in_err-b : goal.returns-in_err-b
returns-in_err-b c = fail c.from_residual-in_err-b.ensures.1 (alike identity_alike
    (next (letter_good (UpTo 99)) c.in_ok-a.ensures.reads
    (stop (letter_good (UpTo 99)) (λ b _ _. third_good c.in_ok-a.a b) c.in_err-b.ensures.reads)))

pub returns-in_err-c : goal.returns-in_err-c
returns-in_err-c c = fail c.from_residual-in_err-c.ensures.1 (alike identity_alike
    (next (letter_good (UpTo 99)) c.in_ok-a.ensures.reads
    (next (letter_good (UpTo 99)) c.in_ok-b.ensures.reads
    (stop (letter_good (UpTo 99)) (λ x _ _. fourth_good c.in_ok-a.a c.in_ok-b.b x) c.in_err-c.ensures.reads))))

pub returns-in_err-d : goal.returns-in_err-d
returns-in_err-d c = fail c.from_residual-in_err-d.ensures.1 (alike identity_alike
    (next (letter_good (UpTo 99)) c.in_ok-a.ensures.reads
    (next (letter_good (UpTo 99)) c.in_ok-b.ensures.reads
    (next (letter_good (UpTo 99)) c.in_ok-c.ensures.reads
    (stop (letter_good (UpTo 99)) (λ x _ _. last_good c.in_ok-a.a c.in_ok-b.b c.in_ok-c.c x) c.in_err-d.ensures.reads)))))

pub returns-in_err-e : goal.returns-in_err-e
returns-in_err-e c = fail c.from_residual-in_err-e.ensures.1 (alike identity_alike
    (next (letter_good (UpTo 99)) c.in_ok-a.ensures.reads
    (next (letter_good (UpTo 99)) c.in_ok-b.ensures.reads
    (next (letter_good (UpTo 99)) c.in_ok-c.ensures.reads
    (next (letter_good (UpTo 99)) c.in_ok-d.ensures.reads
    (stop (letter_good (Digits 9 0)) (λ x _ _. only_good (identity_of c.in_ok-a.a c.in_ok-b.b c.in_ok-c.c c.in_ok-d.d x)) c.in_err-e.ensures.reads))))))

pub returns : goal.returns
returns c = alike identity_alike
    (next (letter_good (UpTo 99)) c.in_ok-a.ensures.reads
    (next (letter_good (UpTo 99)) c.in_ok-b.ensures.reads
    (next (letter_good (UpTo 99)) c.in_ok-c.ensures.reads
    (next (letter_good (UpTo 99)) c.in_ok-d.ensures.reads
    (next (letter_good (Digits 9 0)) c.in_ok-e.ensures.reads
    (rw c.identity_of.ensures (only_read _ _)))))))
