use Rattle.symbol_reader.proofs.Steps.{next, stop, fail}
use Rattle.call_values.specs.declared.parts.To.TheVariants as to
use Rattle.call_grammar.proofs.IdentityParts.{identity_good}
use Rattle.call_grammar.proofs.AreaParts.{area_good}
use Rattle.call_grammar.proofs.FormParts.{addressed_closes, addressed_one_closes}
use Rattle.call_grammar.proofs.forms.after_format.Goals as goal

pub returns-in_err-area-in-Area : goal.returns-in_err-area-in-Area
returns-in_err-area-in-Area c = rw c.in-Area.is (fail c.from_residual.ensures.1 (stop area_good (λ x _ _. (addressed_closes (to.Area x)).good) c.in_err-area-in-Area.ensures))

pub returns-in_ok-area-in-Area : goal.returns-in_ok-area-in-Area
returns-in_ok-area-in-Area c = rw c.in-Area.is (next area_good c.in_ok-area-in-Area.ensures c.addressed-in-Area.ensures)

pub returns-in_err-group-in-Group : goal.returns-in_err-group-in-Group
returns-in_err-group-in-Group c = rw c.in-Group.is (fail c.from_residual-in_err-group-in-Group.ensures.1 (stop identity_good (λ x _ _. (addressed_closes (to.Group x)).good) c.in_err-group-in-Group.ensures))

pub returns-in_ok-group-in-Group : goal.returns-in_ok-group-in-Group
returns-in_ok-group-in-Group c = rw c.in-Group.is (next identity_good c.in_ok-group-in-Group.ensures c.addressed-in-Group.ensures)

pub returns-in_err-station-in-One : goal.returns-in_err-station-in-One
returns-in_err-station-in-One c = rw c.in-One.is (fail c.from_residual-in_err-station-in-One.ensures.1 (stop identity_good (λ x _ _. (addressed_one_closes x).good) c.in_err-station-in-One.ensures))

pub returns-in_ok-station-in-One : goal.returns-in_ok-station-in-One
returns-in_ok-station-in-One c = rw c.in-One.is (next identity_good c.in_ok-station-in-One.ensures c.addressed_to_one.ensures)
