use Rattle.std.proofs.Common.{◌+◌, length, arith}
use Rattle.plain_laws.proofs.Searches.{find_least}
use Rattle.phasing.specs.Origin.{is_phased}
use Rattle.phasing.proofs.Leads.{none_anywhere}
use Rattle.phasing.proofs.laws.origin_is_least.Goals as goal

pub returns-clause-phased : goal.returns-clause-phased
returns-clause-phased c = λ e q h. (find_least (is_phased e) 0 (length e + 150) q h).passes

pub returns-clause-least : goal.returns-clause-least
returns-clause-least c = λ e q k h below. (find_least (is_phased e) 0 (length e + 150) q h).least k (omega arith) below

pub returns-clause-none : goal.returns-clause-none
returns-clause-none c = λ e k h. none_anywhere e h k
