-- lines have one summary
use Rattle.std.proofs.Common.{◌≡◌, ℕ, if◌then◌else◌, List, [], ◌∷◌, length, map, count_by, refl, sym, ap, subst, ◌∙◌}
use Rattle.std.specs.List.{list_all, AllByRecursion}
use mathlib.Core.List.{nil≢cons, cons-eq-cons}
use Rattle.slot_evidence.specs.Facts.{Facts}
use Rattle.slot_join.specs.declared.joined.Joined.{Joined}
use Rattle.slot_join.specs.Answer.{IsAnswer, is_reported}
use Rattle.input_lines.specs.ReceiverLine.{ReceiverLine}
use Rattle.join_groups.specs.Groups.{group_facts}
use Rattle.join_groups.proofs.PublicLaws.{same_rising}
use Rattle.generated_join.specs.declared.summary.Summary.{Summary}
use Rattle.generated_join.specs.Summary.{Answered, IsSummary, is_missing, summary_text, IsMade}
use Rattle.generated_join.specs.Generator.{generated}

-- facts have one answer
abbrev pub OneAnswer : Type 0
OneAnswer = (F : Facts) (a b : Joined) → IsAnswer F a → IsAnswer F b → a ≡ b

answered : ℕ → Joined → Answered
answered group answer = record { group = group; answer = answer }

same_parts : (a b : Answered) → a.group ≡ b.group → a.answer ≡ b.answer → a ≡ b
unfolding answered
same_parts a b group answer = ap (λ (k : ℕ). answered k a.answer) group ∙ ap (λ (j : Joined). answered b.group j) answer

same_all : OneAnswer → (said : List ReceiverLine) (a b : List Answered) → map (λ (one : Answered). one.group) a ≡ map (λ (one : Answered). one.group) b
    → AllByRecursion (λ one. IsAnswer (group_facts said one.group) one.answer) a → AllByRecursion (λ one. IsAnswer (group_facts said one.group) one.answer) b → a ≡ b
same_all once said [] [] groups x y = refl
same_all once said [] (t ∷ b) groups x y = absurd (nil≢cons groups)
same_all once said (s ∷ a) [] groups x y = absurd (nil≢cons (sym groups))
same_all once said (s ∷ a) (t ∷ b) groups x y =
    let heads = cons-eq-cons.0 groups in
    let there : IsAnswer (group_facts said s.group) t.answer = subst (λ (k : ℕ). IsAnswer (group_facts said k) t.answer) (sym heads.0) y.0 in
    let same : s ≡ t = same_parts s t heads.0 (once (group_facts said s.group) s.answer t.answer x.0 there) in
    ap (λ (u : Answered). u ∷ a) same ∙ ap (λ (l : List Answered). t ∷ l) (same_all once said a b heads.1 x.1 y.1)

pub same_answers : OneAnswer → (said : List ReceiverLine) (s t : Summary) (x : IsSummary said s) (y : IsSummary said t) → x.all ≡ y.all
same_answers once said s t x y =
    same_all once said x.all y.all
    (same_rising (map (λ (one : Answered). one.group) x.all) (map (λ (one : Answered). one.group) y.all) x.are_groups.rising y.are_groups.rising
    (λ k. x.are_groups.named k ∙ sym (y.are_groups.named k))) x.each y.each

summary_with : ℕ → ℕ → ℕ → ℕ → Summary
summary_with groups receptions reported missing = record { groups = groups; receptions = receptions; reported = reported; missing = missing }

same_numbers : (s t : Summary) → s.groups ≡ t.groups → s.receptions ≡ t.receptions → s.reported ≡ t.reported → s.missing ≡ t.missing → s ≡ t
unfolding summary_with
same_numbers s t groups receptions reported missing =
    ap (λ (n : ℕ). summary_with n s.receptions s.reported s.missing) groups
    ∙ ap (λ (n : ℕ). summary_with t.groups n s.reported s.missing) receptions
    ∙ ap (λ (n : ℕ). summary_with t.groups t.receptions n s.missing) reported
    ∙ ap (λ (n : ℕ). summary_with t.groups t.receptions t.reported n) missing

same_summary : OneAnswer → (said : List ReceiverLine) (s t : Summary) → IsSummary said s → IsSummary said t → s ≡ t
same_summary once said s t x y =
    let all = same_answers once said s t x y in
    same_numbers s t
    (x.groups ∙ ap length all ∙ sym y.groups)
    (x.receptions ∙ sym y.receptions)
    (x.reported ∙ ap (count_by (λ (one : Answered). is_reported one.answer)) all ∙ sym y.reported)
    (x.missing ∙ ap (count_by (λ (one : Answered). is_missing one.answer)) all ∙ sym y.missing)

pub same_made : OneAnswer → (n : ℕ) (a b : List ℕ) (s t : ℕ) → IsMade n a s → IsMade n b t → (a ≡ b) × (s ≡ t)
same_made once n a b s t x y =
    let summary = same_summary once (generated n) x.summary y.summary x.is_summary y.is_summary in
    let all = same_answers once (generated n) x.summary y.summary x.is_summary y.is_summary in (
      x.text_is ∙ ap summary_text summary ∙ sym y.text_is,
      x.status_is ∙ ap (λ (l : List Answered). if list_all (λ (one : Answered). is_reported one.answer) l then 0 else 1) all ∙ sym y.status_is,
    )
