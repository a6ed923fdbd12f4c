use Rattle.std.proofs.Common.{◌≡◌, ◌^◌, ◌<◌, drop}
use Rattle.line_grammar.specs.Tokens.{value_after}
use Rattle.sentence_frame.proofs.fields.number_of.Given as goal

abbrev pub invariant-loop-byte : goal.invariant-loop-byte
invariant-loop-byte l = (value_after l.number (drop l.byte-index l.text) ≡ value_after 0 l.text) × (l.number < 10 ^ l.byte-index)
