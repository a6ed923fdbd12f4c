use Rattle.long_capture.specs.Starts.{facts_from}
use Rattle.long_capture.proofs.OneWay.{Laws, start_shows}
use Rattle.long_capture.proofs.Near as near
use Rattle.long_capture.proofs.laws.start_reports_the_call.Goals as goal

pub returns : goal.returns
returns c = λ e lead call tail answer lawful heard answers.
    let near_laws : near.Laws = record { slot = c.elements_decide.ensures.slot; lead = c.elements_decide.ensures.lead; past = c.none_past_the_end.ensures } in
    let laws : Laws =
    record {
      near = near_laws;
      heard = record {
        equal = c.words_tell_symbols_apart.ensures.equal;
        one_way = c.one_way_errors_are_seen.ensures.elements;
        slots = c.both_slots_show_the_character.ensures;
        characters = c.lists_are_characters.ensures;
      };
    } in
    c.call_or_missing_place.ensures (facts_from e lead) call answer lawful (start_shows laws call tail e lead lawful heard) answers
