use Rattle.std.proofs.Common.{◌≡◌, ◌<◌, ℕ, List, length, Err, refl}
use Rattle.line_grammar.specs.Repeats.{repeated}
use Rattle.line_grammar.specs.inside.Reading.{read}
use Rattle.line_grammar.proofs.Chains.{passed}
use Rattle.input_lines.specs.ReceiverLine.{evidence, grouped, pair}
use Rattle.input_lines.proofs.Pairs.{no_group, no_pairs}
use Rattle.input_lines.proofs.WholeLines.{evidence_of}
use Rattle.input_lines.proofs.evidence.evidence.Goals as goal

abbrev IsMissed : List ℕ → ℕ → Type 0
IsMissed bytes left = (n : ℕ) → length bytes < n → read (grouped (repeated pair n)) bytes ≡ Err left

pub returns-in_err-group-clause-left : goal.returns-in_err-group-clause-left
returns-in_err-group-clause-left c =
    passed (IsMissed c.args.bytes.now) c.from_residual.result _ c.from_residual.ensures.1 (no_group _ _ c.in_err-group.ensures.left)

pub returns-in_err-sheet-clause-left : goal.returns-in_err-sheet-clause-left
returns-in_err-sheet-clause-left c =
    passed (IsMissed c.args.bytes.now) c.from_residual-in_err-sheet.result _ c.from_residual-in_err-sheet.ensures.1
    (no_pairs _ _ _ _ c.in_ok-group.ensures.named c.in_ok-group.ensures.goes_on c.in_err-sheet.ensures.left)

pub returns-clause-line : goal.returns-clause-line
returns-clause-line c =
    let all = c.in_ok-sheet.ensures.pairs in
    (evidence _ all.0, (evidence_of _ all.0 _ _ c.in_ok-group.ensures.named all.1.0 all.1.1.0, (_, (refl, all.1.1.1))))
