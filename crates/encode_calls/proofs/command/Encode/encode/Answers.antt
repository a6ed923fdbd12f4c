use Rattle.std.proofs.Common.{◌++◌, [], ◌∷◌, Option, List, ℕ, sym, ap, ◌∙◌, append-nil}
use Rattle.call_values.specs.declared.calls.Call.{Call}
use Rattle.expansion.specs.declared.values.Sets.{Sets}
use Rattle.input_lines.specs.declared.calls.CallLine.{CallLine}
use Rattle.encode_calls.specs.Encoding.{calls_of, encoded_line, encoded}
use Rattle.encode_calls.proofs.command.Encode.encode.Goals as goal

pub returns-in-Nothing-clause-text : goal.returns-in-Nothing-clause-text
unfolding encoded
returns-in-Nothing-clause-text g c =
    let old = c.args.out.now.items in
    sym (ap (λ (says : CallLine). old ++ encoded g.D.Dots.long c.args.self.now.count (calls_of (says ∷ []))) c.in-Nothing.is ∙ append-nil old)

pub returns-in_ok-append_line-in-Call-clause-text : goal.returns-in_ok-append_line-in-Call-clause-text
unfolding encoded
returns-in_ok-append_line-in-Call-clause-text g c =
    let old = c.args.out.now.items in
    let count = c.args.self.now.count in
    let whole : Call × Option Sets = (c.in-Call.call, c.in-Call.expansion) in
    c.in_ok-append_line-in-Call.ensures
    ∙ ap (λ b. old ++ encoded_line b count whole) c.is_long.ensures
    ∙ ap (λ (l : List ℕ). old ++ l) (sym (append-nil (encoded_line g.D.Dots.long count whole)))
    ∙ sym (ap (λ (says : CallLine). old ++ encoded g.D.Dots.long count (calls_of (says ∷ []))) c.in-Call.is)
