-- `join` gives back what `encode` wrote.
use Rattle.std.proofs.Common.{◌≡◌, ℕ, ◌<◌, ◌^◌, ◌==◌, Bool, true, false, Option, Some, None, IfSome, ◌||◌, List, [], ◌∷◌, ◌++◌, refl, sym, ap, subst, ◌∙◌, inl, inr, append-nil}
use Rattle.std.specs.List.{list_any, AllByRecursion}
use Rattle.std.proofs.lemmas.Bool.{or_cases, and_parts, and_from, or_right, eq-eqb}
use Rattle.call_values.specs.declared.calls.Call.{Call}
use Rattle.call_values.specs.declared.calls.Call.TheVariants as form
use Rattle.call_values.specs.declared.choices.End.TheVariants as end
use Rattle.call_values.specs.declared.parts.Kind.TheVariants as kind
use Rattle.call_values.specs.Calls.{IsCall}
use Rattle.call_grammar.specs.Spelling.{spell, end_of, end_symbol, end_named}
use Rattle.ten_unit.specs.declared.character.Element.{Element}
use Rattle.time_diversity.specs.OnAir.{on_air}
use Rattle.phasing.specs.Sent.{sent}
use Rattle.slot_evidence.specs.Facts.{facts_of}
use Rattle.slot_evidence.specs.Alike.{AreAlike}
use Rattle.slot_join.specs.declared.joined.Joined.{Joined}
use Rattle.slot_join.specs.declared.joined.Joined.TheVariants.{Reported}
use Rattle.slot_join.specs.declared.joined.Extra.TheVariants.{Absent, Whole}
use Rattle.slot_join.specs.Answer.{IsAnswer, is_reported}
use Rattle.slot_join.specs.Intact.{IsExpandedBy}
use Rattle.expansion.specs.declared.values.Sets.{Sets}
use Rattle.expansion.specs.Expansions.{IsExpansion}
use Rattle.slot_evidence.proofs.PublicLaws.{itself}
use Rattle.call_texts.specs.Texts.{extra_of}
use Rattle.input_lines.specs.ReceiverLine.{ReceiverLine, nothing, reception, evidence, text_of_reception}
use Rattle.input_lines.specs.Lines.{facts_of_pairs}
use Rattle.join_groups.specs.Groups.{names, is_named, facts_of_line, group_facts}
use Rattle.join_groups.specs.Output.{TellsAnswer, IsJoinText}
use Rattle.call_texts.specs.Texts.{answer_line}
use Rattle.encode_calls.specs.Transmissions.{tail_of, transmitted}
use Rattle.encode_calls.specs.Encoding.{encoded_line}
use Rattle.dsc_cmd.specs.Encoded.{IsHeardWhole, IsOfEncoded, TellsCall}
use Rattle.dsc_cmd.proofs.SentGroups.{AlikeLaw, found}

-- ---- the line

-- it is what the row of receptions writes of the group and of the transmission
pub heard_whole : (long : Bool) (k : ℕ) (call : Call) (expansion : Option Sets) → k < 2 ^ 32 → IsHeardWhole long k call expansion
unfolding encoded_line
heard_whole long k call expansion small = record {
  line = text_of_reception true k (transmitted long call expansion);
  line_is = refl;
  says = (true, (small, refl));
}

-- ---- the facts

module _ (k : ℕ) (e : List Element) where
  abbrev IsThis : ReceiverLine → Type 0
  IsThis line = names k line ≡ true → line ≡ reception k e

  -- a line that gives facts of the group names it
  named_by_facts : (line : ReceiverLine) (p v : ℕ) → facts_of_line k line p v ≡ true → names k line ≡ true
  named_by_facts nothing p v h = absurd (cc)
  named_by_facts (reception group d) p v h = (and_parts (group == k) (facts_of d p v) h).0
  named_by_facts (evidence group pairs) p v h = (and_parts (group == k) (facts_of_pairs pairs p v) h).0

  line_facts : (line : ReceiverLine) (p v : ℕ) → IsThis line → facts_of_line k line p v ≡ true → facts_of e p v ≡ true
  line_facts line p v this h =
      (and_parts (k == k) (facts_of e p v) (subst (λ (l : ReceiverLine). facts_of_line k l p v ≡ true) (this (named_by_facts line p v h)) h)).1

  no_more : (said : List ReceiverLine) (p v : ℕ) → AllByRecursion IsThis said → list_any (λ line. facts_of_line k line p v) said ≡ true → facts_of e p v ≡ true
  no_more [] p v each h = absurd (cc)
  no_more (line ∷ said) p v each h = elim (or_cases (facts_of_line k line p v) (list_any (λ line. facts_of_line k line p v) said) h) [
    | inl here ↦ line_facts line p v each.0 here
    | inr more ↦ no_more said p v each.1 more
  ]

  no_less : (said : List ReceiverLine) (p v : ℕ) → AllByRecursion IsThis said → list_any (names k) said ≡ true → facts_of e p v ≡ true → list_any (λ line. facts_of_line k line p v) said ≡ true
  no_less [] p v each named h = absurd (cc)
  no_less (line ∷ said) p v each named h = elim (or_cases (names k line) (list_any (names k) said) named) [
    | inl here ↦
        let own : facts_of_line k (reception k e) p v ≡ true = and_from (k == k) (facts_of e p v) (eq-eqb k k refl) h in
        let fact : facts_of_line k line p v ≡ true = subst (λ (l : ReceiverLine). facts_of_line k l p v ≡ true) (sym (each.0 here)) own in
        ap (λ (b : Bool). b || list_any (λ line. facts_of_line k line p v) said) fact
    | inr more ↦ or_right (facts_of_line k line p v) (list_any (λ line. facts_of_line k line p v) said) (no_less said p v each.1 more h)
  ]

-- the facts of the group are those of the one reception
same_facts : (said : List ReceiverLine) (k : ℕ) (e : List Element) → AllByRecursion (λ line. names k line ≡ true → line ≡ reception k e) said → is_named said k ≡ true
    → (p : ℕ) → AreAlike (group_facts said k p) (facts_of e p)
unfolding group_facts is_named
same_facts said k e each named p = record {
  forth = λ v h. itself (facts_of e p) v (no_more k e said p v each h);
  back = λ v h. itself (group_facts said k p) v (no_less k e said p v each named h);
}

-- ---- the answer

own_end : (call : Call) → end_symbol (end_named (end_of call)) ≡ end_of call
own_end (form.Alert casualty) = refl
own_end (form.Ack from casualty) = refl
own_end (form.Relay to from casualty true) = refl
own_end (form.Relay to from casualty false) = refl
own_end (form.RelayAck to from casualty) = refl
own_end (form.AllShips category from first second f1 f2) = refl
own_end (form.AreaCall area category from first second f1 f2) = refl
own_end (form.GroupCall group category from first second f1 f2) = refl
own_end (form.Individual to category from first second message end.Ask) = refl
own_end (form.Individual to category from first second message end.Reply) = refl
own_end (form.Individual to category from first second message end.Plain) = refl
own_end (form.Service to category from (kind.Test true)) = refl
own_end (form.Service to category from (kind.Test false)) = refl
own_end (form.Service to category from kind.AskPosition) = refl
own_end (form.Service to category from (kind.Position position time)) = refl

pub record Laws : Type 0 where
  pub alike : AlikeLaw
  pub alone : (call : Call) (long : Bool) (answer : Joined) → IsCall call → IsAnswer (facts_of (sent (on_air (spell call)) long)) answer → answer ≡ Reported call Absent
  pub expanded : (call : Call) (tail : List ℕ) (x : Sets) (long : Bool) (answer : Joined) → IsCall call → IsExpandedBy call tail x
      → IsAnswer (facts_of (sent (on_air (spell call ++ tail)) long)) answer → answer ≡ Reported call (Whole x)

-- what is sent of a call has one answer
one_answer : Laws → (long : Bool) (call : Call) (expansion : Option Sets) (answer : Joined) → IsCall call → IfSome expansion IsExpansion
    → IsAnswer (facts_of (transmitted long call expansion)) answer → answer ≡ Reported call (extra_of expansion)
unfolding transmitted
one_answer laws long call None answer is whole h =
    laws.alone call long answer is (subst (λ (l : List ℕ). IsAnswer (facts_of (sent (on_air l) long)) answer) (append-nil (spell call)) h)
one_answer laws long call (Some x) answer is whole h =
    laws.expanded call (tail_of call (Some x)) x long answer is (record { last = end_named (end_of call); own = own_end call; lawful = whole; list = refl }) h

pub tells_call : Laws → (said : List ReceiverLine) (k : ℕ) (long : Bool) (call : Call) (expansion : Option Sets) → IsCall call → IfSome expansion IsExpansion → IsOfEncoded said k long call expansion
    → (text : List ℕ) (status : ℕ) (joined : IsJoinText said text status) → TellsCall joined.all k call expansion
tells_call laws said k long call expansion is whole of text status joined =
    let one = found (λ told. TellsAnswer (group_facts said told.group) told) joined.all k joined.each (joined.groups.named k ∙ of.named) in
    let tells = one.holds in
    let here : IsAnswer (group_facts said k) tells.answer = subst (λ (n : ℕ). IsAnswer (group_facts said n) tells.answer) one.group tells.is_answer in
    let alike = laws.alike (group_facts said k) (facts_of (transmitted long call expansion)) tells.answer (same_facts said k (transmitted long call expansion) of.each of.named) here in
    let answer : tells.answer ≡ Reported call (extra_of expansion) = one_answer laws long call expansion tells.answer is whole alike in
    record {
      told = one.told;
      is_one = one.is_one;
      tells = record {
        group = one.group;
        line_is = tells.line_is ∙ ap (λ (n : ℕ). answer_line n tells.answer) one.group ∙ ap (answer_line k) answer;
        well_is = tells.well_is ∙ ap is_reported answer;
      };
    }
