use Rattle.std.proofs.Common.{◌≡◌, ◌<◌, ℕ, List, length, Err, sym}
use Rattle.std.proofs.lemmas.Bool.{eqb-false}
use Rattle.line_grammar.specs.Repeats.{repeated}
use Rattle.line_grammar.specs.inside.Reading.{read}
use Rattle.line_grammar.proofs.Chains.{passed}
use Rattle.input_lines.specs.ReceiverLine.{pair}
use Rattle.input_lines.proofs.Pairs.{taken_more, taken_fault}
use Rattle.input_lines.proofs.evidence.pairs.Goals as goal

abbrev IsMissed : List ℕ → ℕ → Type 0
IsMissed bytes left = (n : ℕ) → length bytes < n → read (repeated pair n) bytes ≡ Err left

pub returns-in_err-place-clause-left : goal.returns-in_err-place-clause-left
returns-in_err-place-clause-left c =
    passed (IsMissed c.args.bytes.now) c.from_residual.result _ c.from_residual.ensures.1
    (taken_fault _ _ _ _ c.loop-rest.invariant (eqb-false _ 0 (sym c.loop-rest-test.ensures)) c.in_err-place.ensures.left)

pub loop-rest-preserved : goal.loop-rest-preserved
loop-rest-preserved c =
    let x = c.in_ok-place.ensures in
    taken_more _ _ _ _ _ _ c.loop-rest.invariant x.pair.0 x.pair.1 x.goes_on c.add.ensures.union
