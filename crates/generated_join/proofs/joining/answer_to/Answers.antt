use Rattle.std.proofs.Common.{◌≡◌, ℕ, None, List, map, ap, subst, ◌∙◌, append-nil, arith}
use Rattle.call_values.specs.declared.calls.Call.{Call}
use Rattle.call_grammar.specs.Spelling.{spell}
use Rattle.time_diversity.specs.OnAir.{on_air}
use Rattle.ten_unit.specs.declared.character.Element.{Element}
use Rattle.slot_evidence.specs.Facts.{Facts, facts_of, facts_of_all}
use Rattle.slot_evidence.specs.Sheet.{IsEnds}
use Rattle.join_groups.specs.Groups.{group_facts}
use Rattle.encode_calls.specs.Transmissions.{list_on_air}
use Rattle.generated_join.specs.Generator.{alert_of, heard, heard_of, lines_of_group}
use Rattle.input_lines.specs.ReceiverLine.{sign_of}
use Rattle.generated_join.proofs.Overwritten.{packed, packed_elements}
use Rattle.generated_join.proofs.Groups.{first_heard, none_heard, one_more_heard, all_shown}
use Rattle.generated_join.proofs.joining.answer_to.Goals as goal

pub loop-receiver-init : goal.loop-receiver-init
loop-receiver-init c = subst (λ (F : Facts). IsEnds F c.empty-sheet.result) (none_heard c.args.group) c.empty-sheet.ensures.ends

pub unwrap-reception-requires : goal.unwrap-reception-requires
unwrap-reception-requires c =
    packed _ _ c.in_ok-of_signs.field-0 (c.deref-in-loop-receiver-3.ensures.value ∙ c.in_ok-signs.ensures.items) c.in_ok-of_signs.ensures.none

pub loop-receiver-preserved : goal.loop-receiver-preserved
loop-receiver-preserved c =
    let k = c.args.group in
    let n = c.loop-receiver.receiver in
    let symbols = c.deref-in-loop-receiver.ensures.0 ∙ c.slots_of-slots.ensures.slots ∙ ap (λ (call : Call). on_air (list_on_air call None)) c.alert.ensures
    ∙ ap (λ (l : List ℕ). on_air l) (append-nil (spell (alert_of k))) in
    let signs = c.deref-in-loop-receiver-3.ensures.value ∙ c.in_ok-signs.ensures.items ∙ ap (λ (l : List ℕ). map sign_of (heard_of k n l)) symbols in
    let same : c.unwrap-reception.result ≡ heard k n = packed_elements _ _ _ c.in_ok-of_signs.field-0 signs c.unwrap-reception.ensures c.in_ok-of_signs.ensures.some in
    let shown = subst (λ (e : List Element). IsEnds (facts_of e) c.shown_by.result) same c.shown_by.ensures in
    subst (λ (F : Facts). IsEnds F c.meet.new.self) (one_more_heard k n) (c.meet.ensures (facts_of_all (first_heard k n)) (facts_of (heard k n)) c.loop-receiver.invariant shown)

pub returns : goal.returns
returns c =
    let k = c.args.group in
    let all : c.loop-receiver.receiver ≡ 4 = omega arith in
    let facts : facts_of_all (first_heard k c.loop-receiver.receiver) ≡ group_facts (lines_of_group k) k = ap (λ (n : ℕ). facts_of_all (first_heard k n)) all ∙ all_shown k in
    c.report.ensures (group_facts (lines_of_group k) k) (subst (λ (F : Facts). IsEnds F c.loop-receiver.sheet) facts c.loop-receiver.invariant)
