use Rattle.std.proofs.Common.{◌≡◌, drop}
use Rattle.line_grammar.specs.inside.Reading.{after}
use Rattle.line_grammar.proofs.reading.word.Given as goal

abbrev pub invariant-loop-c : goal.invariant-loop-c
invariant-loop-c l = after l.text l.fn.bytes ≡ after (drop l.c-index l.text) l.rest
