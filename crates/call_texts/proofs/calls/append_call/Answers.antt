use Rattle.std.proofs.Common.{append_assoc}
use Rattle.call_texts.specs.CallParts.{call_text}
use Rattle.call_texts.proofs.calls.append_call.Goals as goal

pub returns-in-RelayAck-clause-items : goal.returns-in-RelayAck-clause-items
unfolding call_text
returns-in-RelayAck-clause-items g c =
    rw (c.in-RelayAck.is, c.append_distress-in-RelayAck.ensures.items, c.append_address-in-RelayAck.ensures.items, c.append-in-RelayAck.ensures.items)
    (simp append_assoc)
