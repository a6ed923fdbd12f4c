use Rattle.std.proofs.Common.{◌≡◌, codes, take}
use Rattle.std.specs.List.{list_all}
use Rattle.line_grammar.specs.Tokens.{is_one_of}
use Rattle.input_lines.proofs.receptions.are_signs.Given as goal

abbrev pub invariant-loop-b : goal.invariant-loop-b
invariant-loop-b l = l.are ≡ list_all (is_one_of (codes "YB-")) (take l.b-index l.bytes)
