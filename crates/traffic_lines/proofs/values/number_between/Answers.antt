use Rattle.std.proofs.Common.{◌∙◌, List, ℕ, Ok, ap, arith}
use Rattle.line_grammar.proofs.Decimals.{number_read}
use Rattle.traffic_lines.proofs.values.number_between.Goals as goal

pub returns-clause-range : goal.returns-clause-range
returns-clause-range c =
    let n = c.in_ok-number.ensures.number in
    let k = number_read c.args.least c.args.most _ _ n.0 _ c.requires.least (omega (arith, c.requires.most)) n.1 n.2 in
    (k.1, k.2)

pub returns-clause-value : goal.returns-clause-value
returns-clause-value c =
    let n = c.in_ok-number.ensures.number in
    let k = number_read c.args.least c.args.most _ _ n.0 _ c.requires.least (omega (arith, c.requires.most)) n.1 n.2 in
    n.1 ∙ ap (λ (l : List ℕ). Ok (l, c.in_ok-number.rest.now)) k.3
