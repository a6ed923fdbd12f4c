use Rattle.std.proofs.Common.{List, ℕ, ◌++◌, ap, ◌∙◌, append_assoc, codes}
use Rattle.dsc_sentences.proofs.verdicts.append_checksums.Goals as goal

pub returns : goal.returns
returns c =
    let old = c.args.out.now.items in
    c.append-2.ensures.items ∙ ap (λ (l : List ℕ). l ++ c.checksums.result) c.append.ensures.items
    ∙ append_assoc old (codes "checksum ") c.checksums.result
    ∙ ap (λ (l : List ℕ). old ++ (codes "checksum " ++ l)) c.checksums.ensures
