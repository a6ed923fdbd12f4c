use Rattle.std.proofs.Common.{◌<◌}
use Rattle.std.proofs.lemmas.List.Elements.{All-append}
use Rattle.call_grammar.specs.Spelling.{spell}
use Rattle.slot_join.proofs.OneCalls.{no_other, heard_may}
use Rattle.slot_join.proofs.laws.looks_report_the_call.Goals as goal

pub returns-clause-looked : goal.returns-clause-looked
returns-clause-looked c =
    λ facts call tail sheet answer lawful one only is.
    c.call_or_missing_place.ensures _ call answer lawful (no_other facts call tail sheet one only) is

pub returns-clause-admitted : goal.returns-clause-admitted
returns-clause-admitted c =
    λ facts call tail reception sheet lawful small one heard ends.
    heard_may facts call tail reception sheet one
    (λ p v below shown. c.heard_calls_show_no_other.ensures.list _ reception p v (All-append (λ symbol. symbol < 128) (spell call) tail (c.lists_are_characters.ensures call lawful) small) heard below shown)
    ends
