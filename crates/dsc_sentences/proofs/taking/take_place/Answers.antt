use Rattle.std.proofs.Common.{ℕ, List, ◌++◌, ◌∙◌, ap}
use Rattle.sentence_frame.specs.inside.Fields.{first_of}
use Rattle.dsc_sentences.proofs.Taken.{taken_place}
use Rattle.dsc_sentences.proofs.taking.take_place.Goals as goal

pub returns-in-Some-clause-value : goal.returns-in-Some-clause-value
returns-in-Some-clause-value c =
    let h = c.in-Some.ensures in
    taken_place c.args.k (first_of c.args.fields.now) c.append.new.out h.0
    (c.append.ensures.items ∙ ap (λ (l : List ℕ). l ++ c.in-Some.values) c.new-place.ensures ∙ h.1)
