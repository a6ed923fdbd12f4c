use Rattle.std.proofs.Common.{sym, ◌∙◌}
use Rattle.line_grammar.specs.Grammar.{finish, either}
use Rattle.call_texts.specs.CallGrammar as grammar
use Rattle.call_texts.specs.inside.Expansions as inside
use Rattle.call_texts.proofs.ExpansionSteps.{settled}
use Rattle.line_grammar.proofs.SectionSteps.{first_form, further_form}
use Rattle.call_texts.proofs.expansions.expansion_or_end.Goals as goal

pub returns-then-is_ok : goal.returns-then-is_ok
returns-then-is_ok c =
    settled (either finish (grammar.expansion finish)) inside.expansion_or_end _ _
    (first_form finish (grammar.expansion finish) (λ p. p) inside.expansion_or_end _ _ (sym c.is_ok.ensures.value ∙ c.if-is_ok.true) c.no_expansion-ended.ensures)

pub returns : goal.returns
returns c =
    settled (either finish (grammar.expansion finish)) inside.expansion_or_end _ _
    (further_form finish (grammar.expansion finish) (λ p. p) inside.expansion_or_end _ _ _ _ c.further.ensures c.no_expansion-ended.ensures c.expansion.ensures)
