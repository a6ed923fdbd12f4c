use Rattle.std.proofs.Common.{◌++◌, ◌∷◌, [], List, ℕ, ap, ◌∙◌, append_assoc}
use Rattle.dsc_sentences.specs.declared.verdicts.Verdict.{Verdict}
use Rattle.dsc_sentences.specs.Verdicts.{verdict_of, verdict_text}
use Rattle.sentence_files.proofs.command.Sentences.judge.Goals as goal

pub returns-clause-text : goal.returns-clause-text
returns-clause-text c =
    let out = c.args.out.now.items in
    let told = c.deref.ensures.0 ∙ c.put_verdict.ensures ∙ ap (λ (v : Verdict). verdict_text v) c.verdict_on-verdict.ensures in
    c.in_ok-push.ensures.items
    ∙ ap (λ (l : List ℕ). l ++ 10 ∷ []) (c.in_ok-extend_from_slice.ensures.items ∙ ap (λ (l : List ℕ). out ++ l) told)
    ∙ append_assoc out (verdict_text (verdict_of c.args.sentence.now)) (10 ∷ [])
