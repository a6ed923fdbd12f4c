use Rattle.std.proofs.Common.{subst}
use Rattle.ten_unit.specs.Errors.{IsOneWay}
use Rattle.ten_unit.specs.Word.{word_of, is_word}
use Rattle.ten_unit.proofs.Reading.{elements_same}
use Rattle.ten_unit.proofs.Turned.{one_way_same}
use Rattle.ten_unit.proofs.character.one_way_errors_are_seen.Goals as goal

pub returns-clause-words : goal.returns-clause-words
returns-clause-words c = one_way_same

pub returns-clause-elements : goal.returns-clause-elements
unfolding is_word
returns-clause-elements c = λ received u v u_low v_low way is.
    one_way_same u v u_low v_low (subst (IsOneWay (word_of v)) (elements_same received (word_of u) is) way)
