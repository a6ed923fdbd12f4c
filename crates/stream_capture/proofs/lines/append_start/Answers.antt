use Rattle.std.proofs.Common.{◌++◌, List, ℕ, w64, ap, ◌∙◌}
use Rattle.std.proofs.lemmas.Int.{to_z-of_z}
use Rattle.std.specs.Prelude.{codes}
use Rattle.std.specs.Fmt.{signed_decimal}
use Rattle.call_texts.specs.Texts.{answer_line}
use Rattle.stream_capture.proofs.Texts.{line_appended}
use Rattle.stream_capture.proofs.lines.append_start.Goals as goal

pub returns : goal.returns
returns c =
    let out = c.args.out.now.items in
    let origin = c.args.origin in
    let number = c.in_ok-extend_from_slice-2.ensures.items ∙ ap (λ (l : List ℕ). l ++ c.as_bytes.result.now) c.in_ok-extend_from_slice.ensures.items
    ∙ ap (λ (l : List ℕ). (out ++ codes "at ") ++ l) (c.as_bytes.ensures.value ∙ c.format.ensures.text ∙ ap signed_decimal (to_z-of_z w64 origin c.ranges.origin)) in
    let blank = c.in_ok-extend_from_slice-3.ensures.items ∙ ap (λ (l : List ℕ). l ++ codes " ") number in
    let told = c.append_answer_line.ensures ∙ ap (λ (l : List ℕ). l ++ answer_line c.args.number c.report-answer.result) c.new-line.ensures in
    let line = c.in_ok-extend_from_slice-4.ensures.items ∙ ap (λ (l : List ℕ). l ++ c.deref.result.now) blank
    ∙ ap (λ (l : List ℕ). (((out ++ codes "at ") ++ signed_decimal origin) ++ codes " ") ++ l) (c.deref.ensures.0 ∙ told) in
    (c.report-answer.result, (c.report-answer.ensures, (line ∙ line_appended out c.args.number origin c.report-answer.result, c.is_reported.ensures)))
