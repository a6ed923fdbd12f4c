use Rattle.std.proofs.Common.{arith, sym, ap, subst, ◌++◌, ◌∷◌, [], ◌∙◌, append_assoc}
use Rattle.encode_calls.specs.Encoding.{calls_of, encoded}
use Rattle.encode_calls.specs.inside.Progress.{HasEncoded}
use Rattle.encode_calls.proofs.Encoded.{few_encoded, more_encoded}
use Rattle.encode_calls.proofs.command.EncodeCommand.take.Goals as goal

pub encode-requires : goal.encode-requires
encode-requires g c =
    let ready = c.requires.ready in
    omega (arith, few_encoded _ _ _ _ ready.stands, ready.few)

pub returns-in_ok-encode-in-Ok-clause-stands : goal.returns-in_ok-encode-in-Ok-clause-stands
returns-in_ok-encode-in-Ok-clause-stands g c = λ lines written h.
    let long = g.D.Dots.long in
    let count = c.args.self.now.count in
    let old = c.args.out.now.items in
    let said = c.in-Ok.says ∷ [] in
    let given = encoded long count (calls_of said) in
    let told = ap (λ t. written ++ t) c.in_ok-encode-in-Ok.ensures.text ∙ sym (append_assoc written old given) in
    subst (λ t. HasEncoded long c.encode.new.self.count (lines ++ c.args.line.now ∷ []) t) (sym told)
    (subst (λ n. HasEncoded long n (lines ++ c.args.line.now ∷ []) ((written ++ old) ++ given)) (sym c.in_ok-encode-in-Ok.ensures.count)
    (more_encoded long count lines (written ++ old) c.args.line.now c.in-Ok.says h c.in-Ok.ensures))
