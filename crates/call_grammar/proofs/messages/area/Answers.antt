use Rattle.std.proofs.Common.{◌≡◌, arith}
use Rattle.std.proofs.lemmas.Grind.{common_steps}
use Rattle.symbol_reader.specs.declared.letters.Letter.TheVariants.{UpTo}
use Rattle.symbol_reader.proofs.Laws.{only_good}
use Rattle.symbol_reader.proofs.Steps.{letter_good, alike, next, stop, fail, only_read}
use Rattle.call_grammar.specs.inside.Grammar.{area_latitude, longitude_ones, area_of}
use Rattle.call_grammar.proofs.AreaParts.{area_alike, area_second_good, area_third_good, area_fourth_good, area_last_good}
use Rattle.call_grammar.proofs.messages.area.Goals as goal

pub returns-in_err-a : goal.returns-in_err-a
returns-in_err-a c = fail c.from_residual.ensures.1 (alike area_alike
    (stop (letter_good (UpTo 39)) (λ a _ _. area_second_good a) c.in_err-a.ensures.reads))

pub returns-in_err-b : goal.returns-in_err-b
returns-in_err-b c =
    let b = rw c.area_latitude.ensures at c.in_err-b.ensures.reads in
    fail c.from_residual-in_err-b.ensures.1 (alike area_alike
    (next (letter_good (UpTo 39)) c.in_ok-a.ensures.reads
    (stop (letter_good (area_latitude c.in_ok-a.a)) (λ x _ _. area_third_good c.in_ok-a.a x) b)))

pub returns-in_err-c : goal.returns-in_err-c
returns-in_err-c c =
    let b = rw c.area_latitude.ensures at c.in_ok-b.ensures.reads in
    let d = rw c.longitude_ones.ensures at c.in_err-c.ensures.reads in
    fail c.from_residual-in_err-c.ensures.1 (alike area_alike
    (next (letter_good (UpTo 39)) c.in_ok-a.ensures.reads
    (next (letter_good (area_latitude c.in_ok-a.a)) b
    (stop (letter_good (longitude_ones c.in_ok-b.b)) (λ x _ _. area_fourth_good c.in_ok-a.a c.in_ok-b.b x) d))))

pub returns-in_err-d : goal.returns-in_err-d
returns-in_err-d c =
    let b = rw c.area_latitude.ensures at c.in_ok-b.ensures.reads in
    let d = rw c.longitude_ones.ensures at c.in_ok-c.ensures.reads in
    fail c.from_residual-in_err-d.ensures.1 (alike area_alike
    (next (letter_good (UpTo 39)) c.in_ok-a.ensures.reads
    (next (letter_good (area_latitude c.in_ok-a.a)) b
    (next (letter_good (longitude_ones c.in_ok-b.b)) d
    (stop (letter_good (UpTo 99)) (λ x _ _. area_last_good c.in_ok-a.a c.in_ok-b.b c.in_ok-c.c x) c.in_err-d.ensures.reads)))))

pub returns-in_err-e : goal.returns-in_err-e
returns-in_err-e c =
    let b = rw c.area_latitude.ensures at c.in_ok-b.ensures.reads in
    let d = rw c.longitude_ones.ensures at c.in_ok-c.ensures.reads in
    fail c.from_residual-in_err-e.ensures.1 (alike area_alike
    (next (letter_good (UpTo 39)) c.in_ok-a.ensures.reads
    (next (letter_good (area_latitude c.in_ok-a.a)) b
    (next (letter_good (longitude_ones c.in_ok-b.b)) d
    (next (letter_good (UpTo 99)) c.in_ok-d.ensures.reads
    (stop (letter_good (UpTo 99)) (λ x _ _. only_good (area_of c.in_ok-a.a c.in_ok-b.b c.in_ok-c.c c.in_ok-d.d x)) c.in_err-e.ensures.reads))))))

pub returns : goal.returns
returns c =
    let b = rw c.area_latitude.ensures at c.in_ok-b.ensures.reads in
    let d = rw c.longitude_ones.ensures at c.in_ok-c.ensures.reads in
    let value : c.unwrap.result ≡ area_of c.in_ok-a.a c.in_ok-b.b c.in_ok-c.c c.in_ok-d.d c.in_ok-e.e = grind (arith, common_steps) in
    alike area_alike
    (next (letter_good (UpTo 39)) c.in_ok-a.ensures.reads
    (next (letter_good (area_latitude c.in_ok-a.a)) b
    (next (letter_good (longitude_ones c.in_ok-b.b)) d
    (next (letter_good (UpTo 99)) c.in_ok-d.ensures.reads
    (next (letter_good (UpTo 99)) c.in_ok-e.ensures.reads
    (rw value (only_read _ _)))))))
