-- no number of groups lacks its summary
use Rattle.std.proofs.Common.{◌≡◌, ℕ, if◌then◌else◌, List, [], ◌∷◌, length, map, count_by, refl, sym, ap, subst}
use Rattle.std.specs.List.{list_all, AllByRecursion}
use Rattle.slot_join.specs.Answer.{IsAnswer, is_reported}
use Rattle.line_engine.specs.Lines.{Lines}
use Rattle.input_lines.specs.ReceiverLine.{ReceiverLine}
use Rattle.join_groups.specs.Groups.{AreLines, group_facts, AreGroups}
use Rattle.join_groups.proofs.PublicLaws.{groups_of, AreSome, some_lines, group_small, AnswerLaw}
use Rattle.generated_join.specs.declared.summary.Summary.{Summary}
use Rattle.generated_join.specs.Generator.{generated}
use Rattle.generated_join.specs.Summary.{is_reception, is_missing, Answered, IsSummary, summary_text, IsMade}

-- it can't be that there is none
abbrev IsThere : Type 0 → Type 0
IsThere A = (A → ⊥) → ⊥

module _ (law : AnswerLaw) (said : List ReceiverLine) (are : AreSome said) where
  record AnsweredOf (groups : List ℕ) : Type 0 where
    all : List Answered
    groups_are : map (λ one. one.group) all ≡ groups
    each : AllByRecursion (λ one. IsAnswer (group_facts said one.group) one.answer) all

  answered_there : (groups : List ℕ) → IsThere (AnsweredOf groups)
  answered_there [] k = k (record { all = []; groups_are = refl; each = tt })
  answered_there (group ∷ groups) k =
      law (group_facts said group) (λ p v. group_small said group p v are) (λ answer is.
      answered_there groups (λ rest. k (record {
        all = record { group = group; answer = answer } ∷ rest.all;
        groups_are = ap (λ (l : List ℕ). group ∷ l) rest.groups_are;
        each = (is, rest.each);
      })))

  summary_of : List Answered → Summary
  summary_of all = record {
    groups = length all;
    receptions = count_by is_reception said;
    reported = count_by (λ (one : Answered). is_reported one.answer) all;
    missing = count_by (λ (one : Answered). is_missing one.answer) all;
  }

  summary_there : IsThere ((summary : Summary) × IsSummary said summary)
  unfolding summary_of
  summary_there k =
      let g = groups_of said in
      answered_there g.0 (λ a. k (
        summary_of a.all,
        record {
          all = a.all;
          are_groups = subst (AreGroups said) (sym a.groups_are) g.1;
          each = a.each;
          groups = refl;
          receptions = refl;
          reported = refl;
          missing = refl;
        },
      ))

pub made_there : AnswerLaw → (n : ℕ) (lines : Lines) → AreLines (generated n) lines → ((text : List ℕ) (status : ℕ) → IsMade n text status → ⊥) → ⊥
made_there law n lines are k =
    summary_there law (generated n) (some_lines (generated n) lines are) (λ s.
    k (summary_text s.0) (if list_all (λ (one : Answered). is_reported one.answer) s.1.all then 0 else 1)
    (record { summary = s.0; is_summary = s.1; text_is = refl; status_is = refl }))
