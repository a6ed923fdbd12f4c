use Rattle.std.proofs.Common.{◌≡◌, true, ap, sym, subst, ◌∙◌}
use Rattle.ten_unit.specs.Word.{word_of, is_word, elements_eq}
use Rattle.ten_unit.specs.inside.Carried.{value_of}
use Rattle.ten_unit.proofs.Reading.{elements_same, elements_own, value_back}
use Rattle.ten_unit.proofs.character.words_tell_symbols_apart.Goals as goal

pub returns-clause-equal : goal.returns-clause-equal
unfolding is_word
returns-clause-equal c = λ w v. (λ e. elements_same w (word_of v) e, λ e. subst (λ l. elements_eq l (word_of v) ≡ true) (sym e) (elements_own (word_of v)))

pub returns-clause-apart : goal.returns-clause-apart
returns-clause-apart c = λ u v a b e. sym (value_back u a) ∙ ap value_of e ∙ value_back v b
