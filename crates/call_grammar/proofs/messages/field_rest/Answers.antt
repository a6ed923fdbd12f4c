use Rattle.std.proofs.lemmas.Bool.{ne_eqb, eq-eqb}
use Rattle.symbol_reader.specs.declared.letters.Letter.TheVariants.{UpTo}
use Rattle.symbol_reader.proofs.Laws.{only_good}
use Rattle.symbol_reader.proofs.Steps.{letter_good, next, stop, fail, chosen, not_chosen, only_read}
use Rattle.call_grammar.specs.inside.Grammar.{field_letter, long_field}
use Rattle.call_grammar.proofs.FieldParts.{field_third_good, field_end_good}
use Rattle.call_grammar.proofs.messages.field_rest.Goals as goal

pub returns-in_err-b : goal.returns-in_err-b
returns-in_err-b c =
    let b = rw c.field_letter.ensures at c.in_err-b.ensures.reads in
    fail c.from_residual.ensures.1 (stop (letter_good (field_letter c.args.initial)) (λ x _ _. field_third_good c.args.initial x) b)

pub returns-in_err-c : goal.returns-in_err-c
returns-in_err-c c =
    let b = rw c.field_letter.ensures at c.in_ok-b.ensures.reads in
    let d = rw c.field_letter-2.ensures at c.in_err-c.ensures.reads in
    fail c.from_residual-in_err-c.ensures.1
    (next (letter_good (field_letter c.args.initial)) b
    (stop (letter_good (field_letter c.args.initial)) (λ x _ _. field_end_good c.args.initial c.in_ok-b.b x) d))

pub returns-in_err-d : goal.returns-in_err-d
returns-in_err-d c =
    let b = rw c.field_letter.ensures at c.in_ok-b.ensures.reads in
    let d = rw c.field_letter-2.ensures at c.in_ok-c.ensures.reads in
    fail c.from_residual-in_err-d.ensures.1
    (next (letter_good (field_letter c.args.initial)) b
    (next (letter_good (field_letter c.args.initial)) d
    (chosen (eq-eqb _ 4 c.if-initial-eq4.true)
    (stop (letter_good (UpTo 99)) (λ x _ _. only_good (long_field c.args.initial c.in_ok-b.b c.in_ok-c.c x)) c.in_err-d.ensures.reads))))

pub returns-then-initial-eq4 : goal.returns-then-initial-eq4
returns-then-initial-eq4 c =
    let b = rw c.field_letter.ensures at c.in_ok-b.ensures.reads in
    let d = rw c.field_letter-2.ensures at c.in_ok-c.ensures.reads in
    next (letter_good (field_letter c.args.initial)) b
    (next (letter_good (field_letter c.args.initial)) d
    (chosen (eq-eqb _ 4 c.if-initial-eq4.true)
    (next (letter_good (UpTo 99)) c.in_ok-d.ensures.reads
    (rw c.long_field.ensures (only_read _ _)))))

pub returns : goal.returns
returns c =
    let b = rw c.field_letter.ensures at c.in_ok-b.ensures.reads in
    let d = rw c.field_letter-2.ensures at c.in_ok-c.ensures.reads in
    next (letter_good (field_letter c.args.initial)) b
    (next (letter_good (field_letter c.args.initial)) d
    (not_chosen (ne_eqb _ 4 c.if-initial-eq4.false)
    (rw c.short_field.ensures (only_read _ _))))
