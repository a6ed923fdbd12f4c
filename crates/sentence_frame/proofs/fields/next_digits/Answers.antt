use Rattle.std.proofs.Common.{◌≡◌, true, nat_eq, length, take, sym, ◌∙◌, ap}
use Rattle.std.specs.List.{list_all}
use Rattle.std.proofs.lemmas.Bool.{and_from, eq-eqb}
use Rattle.std.proofs.lemmas.List.{take_rest, length-take-le}
use Rattle.line_grammar.specs.Tokens.{is_digit}
use Rattle.sentence_frame.specs.Shapes as shape
use Rattle.sentence_frame.specs.Shapes.{digits_of}
use Rattle.sentence_frame.specs.inside.Fields.{ends_at}
use Rattle.sentence_frame.proofs.Reading.{ends_within, digits_taken}
use Rattle.sentence_frame.proofs.fields.next_digits.Goals as goal

pub returns : goal.returns
returns g c =
    let width = g.row.N in
    let behind = c.in_ok-behind.behind.now in
    let text = take width behind in
    let ends : ends_at width behind = c.may_end.ensures c.if-not-may_end.false in
    let all : list_all is_digit text ≡ true = sym c.all_digits.ensures ∙ c.if-not-all_digits.false in
    let taken = digits_taken width c.in_ok-behind.field-0-0.now c.args.fields.now behind (sym c.rest.ensures ∙ c.in_ok-behind.ensures.cases.0) ends all in
    let long : length text ≡ width = length-take-le width behind (ends_within width behind ends) in (
      ap (shape.are_digits width) taken.0 ∙ and_from (nat_eq (length text) width) (list_all is_digit text) (eq-eqb (length text) width long) all,
      c.digit_values.ensures ∙ ap digits_of (sym taken.0),
      c.go_on.ensures ∙ take_rest behind width ∙ sym taken.1,
    )
