use Rattle.std.proofs.Common.{subst}
use Rattle.call_values.specs.Parts.{IsTo}
use Rattle.call_values.specs.Views.{IsBody}
use Rattle.call_values.proofs.Views.{is_call}
use Rattle.call_values.proofs.calls.Call.lawful.Goals as goal

pub returns : goal.returns
returns c = is_call _ (subst IsTo c.address.ensures c.lawful.ensures) (subst IsBody c.body.ensures c.lawful-2.ensures)
