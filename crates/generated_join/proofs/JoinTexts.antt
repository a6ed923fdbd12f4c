-- What `join` writes of lines whose answers were counted.
use Rattle.std.proofs.Common.{◌≡◌, ℕ, Bool, ◌&&◌, cond, List, [], ◌∷◌, map, flat_map, refl, ap, subst}
use Rattle.std.specs.List.{list_all, AllByRecursion}
use Rattle.slot_join.specs.Answer.{IsAnswer, is_reported}
use Rattle.input_lines.specs.ReceiverLine.{ReceiverLine}
use Rattle.join_groups.specs.Groups.{group_facts, AreGroups}
use Rattle.join_groups.specs.Output.{GroupLine, TellsAnswer, IsJoinText}
use Rattle.call_texts.specs.Texts.{answer_line}
use Rattle.generated_join.specs.declared.summary.Summary.{Summary}
use Rattle.generated_join.specs.Summary.{Answered, IsSummary}

-- what is told of a group by its answer
abbrev told_of : Answered → GroupLine
told_of one = record { group = one.group; line = answer_line one.group one.answer; is_well = is_reported one.answer }

groups_told : (all : List Answered) → map (λ (one : Answered). one.group) all ≡ map (λ (told : GroupLine). told.group) (map told_of all)
groups_told [] = refl
groups_told (one ∷ all) = ap (λ (l : List ℕ). one.group ∷ l) (groups_told all)

each_told : (said : List ReceiverLine) (all : List Answered) → AllByRecursion (λ one. IsAnswer (group_facts said one.group) one.answer) all
    → AllByRecursion (λ told. TellsAnswer (group_facts said told.group) told) (map told_of all)
each_told said [] each = tt
each_told said (one ∷ all) each = (record { answer = one.answer; is_answer = each.0; line_is = refl; well_is = refl }, each_told said all each.1)

well_told : (all : List Answered) → list_all (λ (one : Answered). is_reported one.answer) all ≡ list_all (λ (told : GroupLine). told.is_well) (map told_of all)
well_told [] = refl
well_told (one ∷ all) = ap (λ (b : Bool). is_reported one.answer && b) (well_told all)

pub joined_so : (said : List ReceiverLine) (summary : Summary) (is : IsSummary said summary)
    → (text : List ℕ) × IsJoinText said text (cond (list_all (λ (one : Answered). is_reported one.answer) is.all) 0 1)
joined_so said summary is = (
  flat_map (λ (told : GroupLine). told.line) (map told_of is.all),
  record {
    all = map told_of is.all;
    groups = subst (λ (l : List ℕ). AreGroups said l) (groups_told is.all) is.are_groups;
    each = each_told said is.all is.each;
    text_is = refl;
    status_is = ap (λ (b : Bool). cond b 0 1) (well_told is.all);
  },
)
