-- Where all receptions of a group are of one call, the text reports this call, or names a lost place of it.
use Rattle.std.proofs.Common.{◌≡◌, ℕ, true, ◌==◌, suc, List, [], ◌∷◌, ◌++◌, All, refl, ap, subst, ◌∙◌, inl, inr, arith}
use Rattle.std.specs.Prelude.{map, Contains}
use Rattle.std.specs.List.{AllByRecursion}
use Rattle.std.proofs.lemmas.Bool.{or_cases, eqb-true}
use Rattle.ten_unit.specs.declared.character.Element.{Element}
use Rattle.call_values.specs.declared.calls.Call.{Call}
use Rattle.call_values.specs.Calls.{IsCall}
use Rattle.call_grammar.specs.Spelling.{spell}
use Rattle.slot_evidence.specs.Facts.{Facts, facts_of_all}
use Rattle.slot_evidence.specs.Alike.{AreAlike}
use Rattle.slot_join.specs.declared.joined.Joined.{Joined}
use Rattle.slot_join.specs.Answer.{IsAnswer}
use Rattle.slot_join.specs.Heard.{IsHeard}
use Rattle.slot_join.specs.Intact.{IsSent, IsSentOrLostPlace, ArrivesInParts}
use Rattle.input_lines.specs.ReceiverLine.{ReceiverLine}
use Rattle.join_groups.specs.Groups.{is_among, group_facts}
use Rattle.join_groups.specs.Output.{GroupLine, TellsAnswer, IsJoinText}
use Rattle.call_texts.specs.Texts.{answer_line}
use Rattle.dsc_cmd.specs.Heard.{IsOfCall}
use Rattle.dsc_cmd.specs.Sent.{TellsSent}
use Rattle.dsc_cmd.proofs.Behind as behind

abbrev pub AlikeLaw : Type 0
AlikeLaw = (F G : Facts) (answer : Joined) → ((p : ℕ) → AreAlike (F p) (G p)) → IsAnswer F answer → IsAnswer G answer

abbrev pub SentLaw : Type 0
SentLaw = (receptions : List (List Element)) (call : Call) (tail : List ℕ) (answer : Joined) → IsCall call → All (λ reception. IsHeard reception (spell call ++ tail)) receptions
    → IsAnswer (facts_of_all receptions) answer → IsSentOrLostPlace receptions call tail answer

abbrev pub WholeLaw : Type 0
WholeLaw = (receptions : List (List Element)) (call : Call) (tail : List ℕ) (answer : Joined) → IsCall call → All (λ reception. IsHeard reception (spell call ++ tail)) receptions
    → ArrivesInParts receptions call tail → IsAnswer (facts_of_all receptions) answer → IsSent receptions call tail answer

pub record Laws : Type 0 where
  pub sets : behind.Laws
  pub alike : AlikeLaw
  pub sent : SentLaw
  pub whole : WholeLaw

-- the line of a group that is named
pub record Found (P : GroupLine → Type 0) (all : List GroupLine) (k : ℕ) : Type 0 where
  pub told : GroupLine
  pub is_one : Contains all told
  pub group : told.group ≡ k
  pub holds : P told

later : (P : GroupLine → Type 0) (t : GroupLine) (all : List GroupLine) (k : ℕ) → Found P all k → Found P (t ∷ all) k
later P t all k f = record {
  told = f.told;
  is_one = (suc f.is_one.0, omega (arith, f.is_one.1), f.is_one.2);
  group = f.group;
  holds = f.holds;
}

pub found : (P : GroupLine → Type 0) (all : List GroupLine) (k : ℕ) → AllByRecursion P all → is_among (map (λ told. told.group) all) k ≡ true → Found P all k
found P [] k each among = absurd (cc)
found P (t ∷ all) k each among = elim (or_cases (t.group == k) (is_among (map (λ told. told.group) all) k) among) [
  | inl here ↦ record { told = t; is_one = (0, omega arith, refl); group = eqb-true t.group k here; holds = each.0 }
  | inr more ↦ later P t all k (found P all k each.1 more)
]

-- the line of a group whose receptions heard one call
pub tells_sent : Laws → (said : List ReceiverLine) (text : List ℕ) (status : ℕ) (is_text : IsJoinText said text status) (k : ℕ) (call : Call) (tail : List ℕ) (receptions : List (List Element))
    → IsOfCall said k call tail receptions → TellsSent is_text.all k call tail receptions
tells_sent laws said text status is_text k call tail receptions of =
    let one = found (λ told. TellsAnswer (group_facts said told.group) told) is_text.all k is_text.each (is_text.groups.named k ∙ of.named) in
    let tells = one.holds in
    let here : IsAnswer (group_facts said k) tells.answer = subst (λ (n : ℕ). IsAnswer (group_facts said n) tells.answer) one.group tells.is_answer in
    let answers : IsAnswer (facts_of_all receptions) tells.answer =
    laws.alike (group_facts said k) (facts_of_all receptions) tells.answer (behind.behind_alike laws.sets k said receptions of.behind) here in
    record {
      told = one.told;
      is_one = one.is_one;
      answer = tells.answer;
      tells = record { group = one.group; line_is = tells.line_is ∙ ap (λ (n : ℕ). answer_line n tells.answer) one.group; well_is = tells.well_is };
      sent = laws.sent receptions call tail tells.answer of.lawful of.heard answers;
      whole = λ arrives. laws.whole receptions call tail tells.answer of.lawful of.heard arrives answers;
    }
