use Rattle.std.proofs.Common.{◌≡◌, ℕ, ◌+◌, List, [], ◌∷◌, ◌++◌, sym, ◌∙◌, ap, append_assoc}
use Rattle.std.proofs.lemmas.List.{length_push}
use Rattle.line_engine.specs.Lines.{Lines}
use Rattle.line_engine.specs.Said.{said}
use Rattle.line_engine.specs.Saying.{said_push}
use Rattle.command_tests.proofs.tests.engine.EchoCommand.take.Goals as goal

-- one line more is said again
more : (lines : Lines) (line written old new : List ℕ) → written ++ old ≡ said (λ _ l. l ++ 10 ∷ []) lines → new ≡ old ++ line ++ 10 ∷ [] → written ++ new ≡ said (λ _ l. l ++ 10 ∷ []) (lines ++ line ∷ [])
more lines line written old new stands e =
    ap (λ (t : List ℕ). written ++ t) (e ∙ append_assoc old line (10 ∷ [])) ∙ sym (append_assoc written old (line ++ 10 ∷ [])) ∙ ap (λ (t : List ℕ). t ++ (line ++ 10 ∷ [])) stands ∙ sym (said_push (λ _ l. l ++ 10 ∷ []) lines line)

pub returns-clause-stands : goal.returns-clause-stands
returns-clause-stands c = λ lines written stands. (
  more lines c.args.line.now written c.args.out.now.items c.push.new.self.items stands.0 (c.in_ok-push.ensures.items ∙ ap (λ (t : List ℕ). t ++ 10 ∷ []) c.in_ok-extend_from_slice.ensures.items),
  ap (λ (n : ℕ). n + 1) stands.1 ∙ sym (length_push lines c.args.line.now),
)
