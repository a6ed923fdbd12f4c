use Rattle.std.proofs.Common.{append_assoc, append-nil}
use Rattle.station_lines.proofs.texts.append_refusal.Goals as goal

pub returns-in-NoSuchCall : goal.returns-in-NoSuchCall
returns-in-NoSuchCall g c = rw (c.in-NoSuchCall.is, c.append_labelled.ensures.items, c.from.ensures) (simp append-nil)

pub returns-in-NoCasualty : goal.returns-in-NoCasualty
returns-in-NoCasualty g c =
    rw (c.in-NoCasualty.is, c.append_digits.ensures.items, c.append-in-NoCasualty.ensures.items, c.from-in-NoCasualty.ensures, c.number.ensures.value)
    (simp (append_assoc, append-nil))
