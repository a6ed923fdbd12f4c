use Rattle.std.proofs.Common.{refl}
use Rattle.line_engine.specs.Said.{said_behind}
use Rattle.line_engine.specs.Saying.{said_push}
use Rattle.line_engine.proofs.laws.said_lines.Goals as goal

pub returns-clause-none : goal.returns-clause-none
unfolding said_behind
returns-clause-none c = λ says. refl

pub returns-clause-push : goal.returns-clause-push
returns-clause-push c = said_push
