use Rattle.std.proofs.Common.{◌++◌}
use Rattle.call_grammar.specs.Spelling.{spell}
use Rattle.slot_evidence.specs.Facts.{facts_of_all}
use Rattle.slot_join.specs.OneCall.{IsCallOrMissing}
use Rattle.slot_join.proofs.Copies.{Lists, all_told, sent_or_lost}
use Rattle.slot_join.proofs.HeardEnds.{late_lost}
use Rattle.slot_join.proofs.Tails as tails
use Rattle.slot_join.proofs.Tails.{all_of_tail, all_characters, tells}
use Rattle.slot_join.proofs.hearing.sent_call_is_answered.Goals as goal

pub returns : goal.returns
returns c = λ receptions call tail answer lawful heard is.
    let law = c.heard_calls_show_no_other.ensures in
    let lists : Lists = record { short = c.lists_are_short.ensures; characters = c.lists_are_characters.ensures } in
    let laws : tails.Laws = record {
      differ = c.fronts_differ.ensures;
      calls = c.lists_are_short.ensures;
      short = c.lists_are_short-2.ensures;
      characters = c.lists_are_characters-2.ensures;
    } in
    let missing : IsCallOrMissing (facts_of_all receptions) call answer =
    c.call_or_missing_place.ensures (facts_of_all receptions) call answer lawful (all_told law.call receptions call tail lawful heard) is in
    sent_or_lost lists receptions call tail answer lawful
    (tells laws receptions call lawful tail
    (λ x sent p v below has. all_of_tail law.list receptions (spell call ++ tail) p v (all_characters laws lists.characters call tail x lawful sent) heard below has)
    (λ e p v within beyond. law.past (spell call) e p v within beyond))
    (late_lost law.within lists receptions call tail lawful heard)
    missing
