use Rattle.dsc_sentences.proofs.Places.{are_decimals}
use Rattle.dsc_sentences.proofs.decimals.ten_digits.Goals as goal

pub returns-clause-digits : goal.returns-clause-digits
returns-clause-digits c = rw c.digits_array.ensures (are_decimals 10 c.args.number)
