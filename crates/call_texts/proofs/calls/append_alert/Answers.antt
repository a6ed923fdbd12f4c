use Rattle.std.proofs.Common.{append_assoc}
use Rattle.call_texts.specs.CallParts.{call_text}
use Rattle.call_texts.proofs.calls.append_alert.Goals as goal

pub returns-clause-items : goal.returns-clause-items
unfolding call_text
returns-clause-items g c =
    rw (c.append_casualty.ensures.items, c.append_from.ensures.items, c.append.ensures.items) (simp append_assoc)
