use Rattle.call_values.specs.Calls.{IsCall}
use Rattle.call_texts.specs.Texts.{IsWholeOrAbsent, extra_of, reported_text}
use Rattle.line_grammar.proofs.Forms.{answered}
use Rattle.call_texts.proofs.laws.call_texts_are_read.Goals as goal

pub returns : goal.returns
returns c call expansion answer h k told =
    answered (λ w. IsCall w.0 × IsWholeOrAbsent (extra_of w.1)) (λ w. reported_text w.0 (extra_of w.1)) (call, expansion) answer (h, k) told
