use Rattle.std.proofs.Common.{refl}
use Rattle.traffic_rules.specs.Sending.{is_sendable}
use Rattle.traffic_rules.specs.Sendings.{sends}
use Rattle.traffic_rules.specs.TrafficActs.{is_of_traffic}
use Rattle.traffic_rules.proofs.Unmet.{none_such}
use Rattle.traffic_rules.proofs.Plain.{plain_send, plain_answer, plain_repeats, plain_heard, may_be_sent, sendable_of_traffic, reply_of_traffic, wider_such}
use Rattle.traffic_rules.proofs.laws.traffic_is_sendable_or_a_reply.Goals as goal

pub returns-clause-sent : goal.returns-clause-sent
returns-clause-sent c own places call none =
    plain_send (is_of_traffic own) places call (sendable_of_traffic own call (may_be_sent own places call none))

pub returns-clause-answered : goal.returns-clause-answered
returns-clause-answered c own number places accepts = plain_answer (is_of_traffic own) own (reply_of_traffic own) places number accepts

pub returns-clause-heard : goal.returns-clause-heard
returns-clause-heard c own place places call = plain_heard (is_of_traffic own) own (reply_of_traffic own) place places call

pub returns-clause-repeated : goal.returns-clause-repeated
returns-clause-repeated c own at places are =
    plain_repeats (is_of_traffic own) at 1 places (wider_such (is_sendable own) (is_of_traffic own) (sendable_of_traffic own) places are)

pub returns-clause-others : goal.returns-clause-others
returns-clause-others c own acts is_such are none =
    none_such (is_of_traffic own) (sends is_such)
    (record { sent = none; shown = refl; held = λ n. refl; answered = λ n. refl; gave_up = λ n. refl; distress = λ x. refl }) acts are
