use Rattle.std.proofs.Common.{◌≡◌, true, false, [], ◌∷◌, ap, subst, inr, sym, ◌∙◌}
use Rattle.slot_join.specs.Answer as answers
use Rattle.slot_join.proofs.Heads.{format_shown}
use Rattle.slot_join.proofs.ShownLists.{open_viable}
use Rattle.call_grammar.specs.Walk.{after, IsViable}
use Rattle.slot_join.proofs.reading.behind_format.Goals as goal

pub returns-else-needs_both : goal.returns-else-needs_both
returns-else-needs_both c = λ F ends one.
    let walk : c.take.new.self ≡ c.args.format ∷ c.args.format ∷ [] =
    c.in-More.ensures.step.taken ∙ ap (λ a. after a c.args.format) c.start-walk.ensures in
    let no : answers.needs_both c.args.format ≡ false = sym c.needs_both.ensures ∙ c.if-needs_both.false in
    inr (inr (inr (
      record {
        is_one = (c.formats_begin_calls.ensures c.args.format).1 (subst IsViable walk (open_viable c.take.new.self c.in-More.ensures.step.begins));
        first = λ yes _. (let both : answers.needs_both c.args.format ≡ true = yes in cc);
        second = λ yes _. (let both : answers.needs_both c.args.format ≡ true = yes in cc);
      },
      c.follow.ensures F ends (format_shown F c.args.format _ walk one),
    )))
