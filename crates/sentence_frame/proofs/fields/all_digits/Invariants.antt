use Rattle.std.proofs.Common.{◌≡◌, take}
use Rattle.std.specs.List.{list_all}
use Rattle.line_grammar.specs.Tokens.{is_digit}
use Rattle.sentence_frame.proofs.fields.all_digits.Given as goal

abbrev pub invariant-loop-byte : goal.invariant-loop-byte
invariant-loop-byte l = l.all ≡ list_all is_digit (take l.byte-index l.text)
