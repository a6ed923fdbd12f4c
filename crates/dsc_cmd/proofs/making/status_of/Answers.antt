use Rattle.std.proofs.Common.{ℕ, Bool, cond, ap, ◌∙◌}
use Rattle.dsc_cmd.proofs.making.status_of.Goals as goal

pub returns-clause-whole : goal.returns-clause-whole
returns-clause-whole c = λ said is. c.of.ensures ∙ ap (λ (b : Bool). cond {A = ℕ} b 0 1) (c.is_whole.ensures said is)
