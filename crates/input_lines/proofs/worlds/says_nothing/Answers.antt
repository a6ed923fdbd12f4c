use Rattle.std.proofs.Common.{rules, refl, eq-eqb}
use Rattle.std.proofs.lemmas.Bool.{eqb-true}
use Rattle.std.proofs.lemmas.List.{nil_from_length}
use Rattle.input_lines.proofs.Choices.{empty_says_nothing, hash_says_nothing, nothing_has_hash}
use Rattle.input_lines.proofs.worlds.says_nothing.Goals as goal

pub returns-in_default : goal.returns-in_default
returns-in_default c = (λ is. empty_says_nothing c.args.line.now (nil_from_length c.args.line.now c.in_default.ensures.cases), λ none. refl)

pub returns : goal.returns
returns c = (
  λ is. hash_says_nothing c.args.line.now c.in-Some.field-0-1.now c.in-Some.first.now (search rules) (eqb-true c.in-Some.first.now 35 is),
  λ none. eq-eqb c.in-Some.first.now 35 (nothing_has_hash c.args.line.now c.in-Some.field-0-1.now c.in-Some.first.now (search rules) none),
)
