use Rattle.std.proofs.Common.{ap}
use Rattle.std.specs.Prelude.{pos, ◌-ℤ◌, option_map}
use Rattle.phasing.proofs.LateStarts.{found}
use Rattle.phasing.proofs.laws.late_starts_are_found.Goals as goal

pub returns-clause-lead : goal.returns-clause-lead
returns-clause-lead c = λ e slots long lead format f h k. found e slots long lead format f h k

pub returns-clause-origin : goal.returns-clause-origin
returns-clause-origin c = λ e slots long lead format f h k. ap (option_map (λ q. pos q -ℤ pos 150)) (found e slots long lead format f h k)
