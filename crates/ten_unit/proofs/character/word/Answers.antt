use Rattle.ten_unit.proofs.Reading.{word_parts}
use Rattle.ten_unit.proofs.character.word.Goals as goal

pub returns : goal.returns
returns c =
    word_parts c.args.symbol c.count_b-count.result _ _ _ _ _ _ _ _ _ _ c.last_digit-a.ensures c.last_digit-b.ensures c.last_digit-c.ensures c.last_digit-d.ensures c.last_digit-e.ensures c.last_digit-f.ensures c.last_digit-g.ensures c.count_b-count.ensures.count c.last_digit-h.ensures c.last_digit-i.ensures c.last_digit-j.ensures
