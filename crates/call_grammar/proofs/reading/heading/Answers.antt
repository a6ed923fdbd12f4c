use Rattle.std.proofs.Common.{true, false, ◌≡◌, sym}
use Rattle.call_grammar.proofs.Readings.{empty_short, first_outside, one_short, second_outside}
use Rattle.call_grammar.proofs.reading.heading.Goals as goal

pub returns-in-empty : goal.returns-in-empty
returns-in-empty c = empty_short c.args.list.now c.in-empty.len_below

pub returns-in-len1-up : goal.returns-in-len1-up
returns-in-len1-up c = first_outside c.args.list.now c.in-len1-up.len_at_least
    (λ h. let yes : true ≡ c.is_format.result = sym (c.is_format.ensures.1 h) in let no : c.is_format.result ≡ false = c.if-not-is_format.true in cc)

pub returns-in-len1 : goal.returns-in-len1
returns-in-len1 c = one_short c.args.list.now c.in-len1.len_at_least c.in-len1.len_below (c.is_format.ensures.0 c.if-not-is_format.false)

pub returns-in-len2-up : goal.returns-in-len2-up
returns-in-len2-up c =
    second_outside c.args.list.now c.in-len2-up.len_at_least (c.is_format.ensures.0 c.if-not-is_format.false) c.if-first-second.true
