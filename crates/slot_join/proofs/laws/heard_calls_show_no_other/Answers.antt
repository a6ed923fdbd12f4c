use Rattle.slot_join.proofs.OneWay.{Laws, heard_call, heard_list}
use Rattle.slot_join.proofs.Tails.{past_end}
use Rattle.slot_join.proofs.HeardEnds.{within_told}
use Rattle.slot_join.proofs.laws.heard_calls_show_no_other.Goals as goal

laws_of : goal.After-lists_are_characters → Laws
laws_of c = record {
  equal = c.words_tell_symbols_apart.ensures.equal;
  one_way = c.one_way_errors_are_seen.ensures.elements;
  slots = c.both_slots_show_the_character.ensures;
  characters = c.lists_are_characters.ensures;
}

pub returns-clause-call : goal.returns-clause-call
returns-clause-call c = λ call tail reception lawful heard. heard_call (laws_of c) call tail reception lawful heard

pub returns-clause-list : goal.returns-clause-list
returns-clause-list c = λ list reception p v characters heard below has. heard_list (laws_of c) list reception p v characters heard below has

pub returns-clause-within : goal.returns-clause-within
returns-clause-within c = λ list reception p v heard within below small has. within_told (laws_of c) list reception p v heard within below small has

pub returns-clause-past : goal.returns-clause-past
returns-clause-past c = λ list reception p v within beyond. past_end c.words_tell_symbols_apart.ensures.equal reception list p v within beyond
