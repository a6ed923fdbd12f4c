use Rattle.exchange.proofs.Going.{world_goes_on}
use Rattle.exchange.proofs.laws.exchanges_go_on_legally.Goals as goal

pub returns : goal.returns
returns c = world_goes_on
