use Rattle.time_diversity.proofs.Shows.{shows_character}
use Rattle.time_diversity.proofs.laws.both_slots_show_the_character.Goals as goal

pub returns : goal.returns
returns c = shows_character
