use Rattle.slot_join.proofs.IntactCalls.{Laws, reported_alone, reported_expanded}
use Rattle.slot_join.proofs.laws.intact_call_is_reported.Goals as goal

laws_of : goal.After-words_tell_symbols_apart → Laws
laws_of c = record {
  equal = c.words_tell_symbols_apart.ensures.equal;
  apart = c.words_tell_symbols_apart.ensures.apart;
  slots = c.both_slots_show_the_character.ensures;
  one = c.one_seen.ensures;
  differ = c.fronts_differ.ensures;
  formats = c.formats_begin_calls.ensures;
  calls = c.lists_are_short.ensures;
  characters = c.lists_are_characters.ensures;
  expansions = c.fronts_differ-2.ensures;
  short = c.lists_are_short-2.ensures;
  symbols = c.lists_are_characters-2.ensures;
}

pub returns-clause-alone : goal.returns-clause-alone
returns-clause-alone c = reported_alone (laws_of c)

pub returns-clause-expanded : goal.returns-clause-expanded
returns-clause-expanded c = reported_expanded (laws_of c)
