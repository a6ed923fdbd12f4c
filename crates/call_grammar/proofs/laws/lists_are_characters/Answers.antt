use Rattle.std.proofs.Common.{◌<◌}
use Rattle.std.proofs.lemmas.List.Elements.{All-from_recursion}
use Rattle.call_grammar.specs.Spelling.{spell}
use Rattle.call_grammar.proofs.Characters.{of_call}
use Rattle.call_grammar.proofs.laws.lists_are_characters.Goals as goal

pub returns : goal.returns
returns c = λ call lawful. All-from_recursion (λ symbol. symbol < 128) (spell call) (of_call call lawful)
