use Rattle.std.proofs.Common.{◌≡◌, ◌∙◌, ap, sym, arith, true≢false}
use Rattle.std.specs.Fmt.{decimal}
use Rattle.std.specs.Result.{result_ok}
use Rattle.std.proofs.lemmas.Fmt.{parse-decimal}
use Rattle.std.proofs.lemmas.Slice.Eq.{bytes_eq-Decides}
use Rattle.std.proofs.lemmas.Option.{same_Some, none-some}
use Rattle.command_line.proofs.numbers.number.Goals as goal
use Rattle.command_line.proofs.numbers.number.Goals.{else-is_plain-via-then-is_plain+then-number-ge1+else-number-most, else-is_plain-via-then-is_plain+else-number-ge1, else-is_plain-via-else-is_plain}

pub returns-in_err-number-clause-none : goal.returns-in_err-number-clause-none
returns-in_err-number-clause-none c none n is =
    let read = parse-decimal 16 n c.args.text.now c.parse.result (omega arith) (omega arith) is.0 c.parse.ensures.value.0 in
    none-some _ (c.in_err-number.ensures.value ∙ ap result_ok read)

pub returns-else-is_plain-clause-none : goal.returns-else-is_plain-clause-none
returns-else-is_plain-clause-none c none n is =
    let read = parse-decimal 16 n c.args.text.now c.parse.result (omega arith) (omega arith) is.0 c.parse.ensures.value.0 in
    let same : c.in_ok-number.number ≡ n = same_Some c.in_ok-number.number n (c.in_ok-number.ensures.value ∙ ap result_ok read) in
    elim c.else-is_plain.branch [
      | else-is_plain-via-then-is_plain+then-number-ge1+else-number-most w ↦ absurd (omega arith)
      | else-is_plain-via-then-is_plain+else-number-ge1 w ↦ absurd (omega arith)
      | else-is_plain-via-else-is_plain w ↦
          let spelled : c.format.result.now ≡ c.args.text.now = c.format.ensures.text ∙ ap decimal same ∙ sym is.0 in
          let plain = (bytes_eq-Decides c.format.result.now c.args.text.now).1 spelled in
          true≢false (sym plain ∙ sym c.eq-is_plain.ensures ∙ w.if-is_plain.false)
    ]
