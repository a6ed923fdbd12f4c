use Rattle.std.proofs.Common.{◌<◌}
use Rattle.std.proofs.lemmas.List.Elements.{All-from_recursion}
use Rattle.expansion.specs.Spelling.{spell}
use Rattle.expansion.proofs.Lengths.{of_spell}
use Rattle.expansion.proofs.laws.lists_are_characters.Goals as goal

pub returns : goal.returns
returns c = λ x e lawful. All-from_recursion (λ symbol. symbol < 128) (spell x e) (of_spell x e lawful)
