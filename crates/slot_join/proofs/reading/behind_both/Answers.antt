use Rattle.std.proofs.Common.{◌≡◌, IsTrue, false, inr, arith}
use Rattle.slot_join.proofs.Heads.{blank_there, format_shown}
use Rattle.slot_join.proofs.reading.behind_both.Goals as goal

pub returns : goal.returns
returns c = λ F ends one.
    inr (inr (inr (
      record {
        is_one = c.requires.is_format;
        first = λ _ none. (let yes : IsTrue c.is_blank.result = c.is_blank.ensures.1 (blank_there F c.args.sheet.now 0 ends none) in
            let no : c.is_blank.result ≡ false = c.if-is_blank.false in grind arith);
        second = λ _ none. (let yes : IsTrue c.is_blank-2.result = c.is_blank-2.ensures.1 (blank_there F c.args.sheet.now 1 ends none) in
            let no : c.is_blank-2.result ≡ false = c.if-is_blank-2.false in grind arith);
      },
      c.follow.ensures F ends (format_shown F c.args.format c.args.walk c.requires.taken one),
    )))
