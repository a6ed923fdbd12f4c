use Rattle.dsc_sentences.proofs.Places.{place_digits}
use Rattle.dsc_sentences.proofs.calls.place_of.Goals as goal

pub returns-clause-digits : goal.returns-clause-digits
returns-clause-digits c = rw c.append_place.ensures (place_digits c.args.body.now)
