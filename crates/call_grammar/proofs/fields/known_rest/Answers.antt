use Rattle.std.proofs.Common.{◌≡◌, Some, arith}
use Rattle.std.proofs.lemmas.Grind.{common_steps}
use Rattle.symbol_reader.proofs.Laws.{only_good}
use Rattle.symbol_reader.proofs.Steps.{letter_good, next, stop, fail, only_read}
use Rattle.call_grammar.specs.inside.Grammar.{fix_of, latitude_ones, minutes_and_hundreds, longitude_ones, longitude_minutes}
use Rattle.call_grammar.proofs.PositionParts.{hundreds_good, longitude_good, minutes_good}
use Rattle.call_grammar.proofs.fields.known_rest.Goals as goal

pub returns-in_err-b : goal.returns-in_err-b
returns-in_err-b c =
    let b = rw c.latitude_ones.ensures at c.in_err-b.ensures.reads in
    fail c.from_residual.ensures.1
    (stop (letter_good (latitude_ones c.args.initial)) (λ b _ _. hundreds_good c.args.initial b) b)

pub returns-in_err-c : goal.returns-in_err-c
returns-in_err-c c =
    let b = rw c.latitude_ones.ensures at c.in_ok-b.ensures.reads in
    let d = rw c.minutes_and_hundreds.ensures at c.in_err-c.ensures.reads in
    fail c.from_residual-in_err-c.ensures.1
    (next (letter_good (latitude_ones c.args.initial)) b
    (stop (letter_good (minutes_and_hundreds c.args.initial)) (λ x _ _. longitude_good c.args.initial c.in_ok-b.b x) d))

pub returns-in_err-d : goal.returns-in_err-d
returns-in_err-d c =
    let b = rw c.latitude_ones.ensures at c.in_ok-b.ensures.reads in
    let d = rw c.minutes_and_hundreds.ensures at c.in_ok-c.ensures.reads in
    let e = rw c.longitude_ones.ensures at c.in_err-d.ensures.reads in
    fail c.from_residual-in_err-d.ensures.1
    (next (letter_good (latitude_ones c.args.initial)) b
    (next (letter_good (minutes_and_hundreds c.args.initial)) d
    (stop (letter_good (longitude_ones c.in_ok-c.c)) (λ x _ _. minutes_good c.args.initial c.in_ok-b.b c.in_ok-c.c x) e)))

pub returns-in_err-e : goal.returns-in_err-e
returns-in_err-e c =
    let b = rw c.latitude_ones.ensures at c.in_ok-b.ensures.reads in
    let d = rw c.minutes_and_hundreds.ensures at c.in_ok-c.ensures.reads in
    let e = rw c.longitude_ones.ensures at c.in_ok-d.ensures.reads in
    let f = rw c.longitude_minutes.ensures at c.in_err-e.ensures.reads in
    fail c.from_residual-in_err-e.ensures.1
    (next (letter_good (latitude_ones c.args.initial)) b
    (next (letter_good (minutes_and_hundreds c.args.initial)) d
    (next (letter_good (longitude_ones c.in_ok-c.c)) e
    (stop (letter_good (longitude_minutes c.in_ok-c.c c.in_ok-d.d))
    (λ x _ _. only_good (Some (fix_of c.args.initial c.in_ok-b.b c.in_ok-c.c c.in_ok-d.d x))) f))))

pub returns : goal.returns
returns c =
    let b = rw c.latitude_ones.ensures at c.in_ok-b.ensures.reads in
    let d = rw c.minutes_and_hundreds.ensures at c.in_ok-c.ensures.reads in
    let e = rw c.longitude_ones.ensures at c.in_ok-d.ensures.reads in
    let f = rw c.longitude_minutes.ensures at c.in_ok-e.ensures.reads in
    (next (letter_good (latitude_ones c.args.initial)) b
    (next (letter_good (minutes_and_hundreds c.args.initial)) d
    (next (letter_good (longitude_ones c.in_ok-c.c)) e
    (next (letter_good (longitude_minutes c.in_ok-c.c c.in_ok-d.d)) f
    (let value : c.unwrap.result ≡ Some (fix_of c.args.initial c.in_ok-b.b c.in_ok-c.c c.in_ok-d.d c.in_ok-e.e) = grind (arith, common_steps) in
    rw value (only_read _ _))))))
