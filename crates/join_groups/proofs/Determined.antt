-- lines of receptions and evidence determine what is told of their groups
use Rattle.std.proofs.Common.{◌≡◌, ℕ, Bool, if◌then◌else◌, List, [], ◌∷◌, ◌++◌, flat_map, map, refl, sym, ap, subst, ◌∙◌}
use Rattle.std.specs.List.{list_all, AllByRecursion}
use mathlib.Core.List.{nil≢cons, cons-eq-cons}
use Rattle.slot_evidence.specs.declared.places.Seen.{Seen}
use Rattle.slot_evidence.specs.Facts.{Facts}
use Rattle.slot_evidence.specs.Sheet.{IsEnds}
use Rattle.slot_join.specs.declared.joined.Joined.{Joined}
use Rattle.slot_join.specs.Answer.{IsAnswer, is_reported}
use Rattle.input_lines.specs.Evidence.{evidence_text}
use Rattle.line_engine.specs.Lines.{Lines}
use Rattle.line_engine.specs.Determined.{IsDetermined}
use Rattle.input_lines.specs.ReceiverLine.{ReceiverLine, IsLine}
use Rattle.input_lines.proofs.PublicLaws.{one_column}
use Rattle.line_engine.proofs.PublicLaws.{begins_empty}
use Rattle.join_groups.specs.Groups.{group_facts}
use Rattle.join_groups.specs.Output.{GroupLine, Telling, TellsAnswer, TellsEvidence, IsGroupsText}
use Rattle.call_texts.specs.Texts.{answer_line}
use Rattle.join_groups.specs.Meanings.{EndsTelling, groups_meaning}
use Rattle.join_groups.proofs.Rising.{same_rising}
use Rattle.join_groups.proofs.LinesTaken.{OneLine, same_said}

-- one thing is told of a group with these facts
abbrev pub TellsOnce : Telling → Type 0
TellsOnce tells = (F : Facts) (a b : GroupLine) → a.group ≡ b.group → tells F a → tells F b → (a.line ≡ b.line) × (a.is_well ≡ b.is_well)

pub answers_once : ((F : Facts) (a b : Joined) → IsAnswer F a → IsAnswer F b → a ≡ b) → TellsOnce TellsAnswer
answers_once one F a b same x y =
    let answer = one F x.answer y.answer x.is_answer y.is_answer in (
      x.line_is ∙ ap (λ (k : ℕ). answer_line k x.answer) same ∙ ap (answer_line b.group) answer ∙ sym y.line_is,
      x.well_is ∙ ap is_reported answer ∙ sym y.well_is,
    )

pub evidence_once : ((F : Facts) (s t : List Seen) → IsEnds F s → IsEnds F t → s ≡ t) → TellsOnce TellsEvidence
evidence_once one F a b same x y =
    let sheet = one F x.sheet y.sheet x.are_ends y.are_ends in (
      x.line_is
          ∙ ap (λ (k : ℕ). evidence_text k x.sheet ++ 10 ∷ []) same
          ∙ ap (λ (s : List Seen). evidence_text b.group s ++ 10 ∷ []) sheet
          ∙ sym y.line_is,
      x.well_is ∙ sym y.well_is,
    )

told_of : ℕ → List ℕ → Bool → GroupLine
told_of k l w = record { group = k; line = l; is_well = w }

-- what is told of the same group in the same line is the same
same_parts : (a b : GroupLine) → a.group ≡ b.group → (a.line ≡ b.line) × (a.is_well ≡ b.is_well) → a ≡ b
unfolding told_of
same_parts a b group parts =
    ap (λ (k : ℕ). told_of k a.line a.is_well) group
    ∙ ap (λ (l : List ℕ). told_of b.group l a.is_well) parts.0
    ∙ ap (λ (w : Bool). told_of b.group b.line w) parts.1

same_all : (tells : Telling) → TellsOnce tells → (said : List ReceiverLine) (a b : List GroupLine) → map (λ (told : GroupLine). told.group) a ≡ map (λ (told : GroupLine). told.group) b
    → AllByRecursion (λ told. tells (group_facts said told.group) told) a → AllByRecursion (λ told. tells (group_facts said told.group) told) b → a ≡ b
same_all tells once said [] [] groups x y = refl
same_all tells once said [] (t ∷ b) groups x y = absurd (nil≢cons groups)
same_all tells once said (s ∷ a) [] groups x y = absurd (nil≢cons (sym groups))
same_all tells once said (s ∷ a) (t ∷ b) groups x y =
    let heads = cons-eq-cons.0 groups in
    let there : tells (group_facts said s.group) t = subst (λ (k : ℕ). tells (group_facts said k) t) (sym heads.0) y.0 in
    let same : s ≡ t = same_parts s t heads.0 (once (group_facts said s.group) s t heads.0 x.0 there) in
    ap (λ (u : GroupLine). u ∷ a) same ∙ ap (λ (l : List GroupLine). t ∷ l) (same_all tells once said a b heads.1 x.1 y.1)

pub same_text : (tells : Telling) → TellsOnce tells → (said : List ReceiverLine) (a b : List ℕ) (s t : ℕ) → IsGroupsText tells said a s → IsGroupsText tells said b t → (a ≡ b) × (s ≡ t)
same_text tells once said a b s t x y =
    let groups =
    same_rising (map (λ (told : GroupLine). told.group) x.all) (map (λ (told : GroupLine). told.group) y.all) x.groups.rising y.groups.rising (λ k. x.groups.named k ∙ sym (y.groups.named k)) in
    let all : x.all ≡ y.all = same_all tells once said x.all y.all groups x.each y.each in (
      x.text_is ∙ ap (flat_map (λ (told : GroupLine). told.line)) all ∙ sym y.text_is,
      x.status_is ∙ ap (λ (l : List GroupLine). if list_all (λ (told : GroupLine). told.is_well) l then 0 else 1) all ∙ sym y.status_is,
    )

same_end : OneLine → (tells : Telling) → TellsOnce tells → (lines : Lines) (a b : List ℕ) (s t : ℕ) → EndsTelling tells lines a s → EndsTelling tells lines b t → (a ≡ b) × (s ≡ t)
same_end one tells once lines a b s t x y =
    let said : y.said ≡ x.said = same_said one y.said x.said lines y.are_lines x.are_lines in
    same_text tells once x.said a b s t x.is_text (subst (λ (w : List ReceiverLine). IsGroupsText tells w b t) said y.is_text)

pub groups_determined : OneLine → (tells : Telling) → TellsOnce tells → IsDetermined (groups_meaning tells)
groups_determined one tells once = record {
  one_column = λ earlier line m n h k. one_column IsLine line m n h k;
  one_text = λ lines a b none g h. g ∙ sym h;
  grows = λ first later text whole none g h. begins_empty text whole g;
  one_end = λ lines a b s t none g h. same_end one tells once lines a b s t g h;
  ends = λ first later text whole status none g h. begins_empty text whole g;
}
