use Rattle.std.proofs.Common.{ap, ◌∙◌}
use Rattle.ten_unit.specs.Word.{elements_eq, is_word}
use Rattle.ten_unit.proofs.character.is_word.Goals as goal

pub returns : goal.returns
unfolding is_word
returns c = c.is_same.ensures ∙ ap (elements_eq c.args.w.now) c.word.ensures
