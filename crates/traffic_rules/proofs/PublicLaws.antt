-- Laws that proofs of other crates may cite. The other files here are this crate's own.

-- an event that isn't before the last one is refused for its own reasons alone
pub use Rattle.traffic_rules.proofs.Steps.{in_time, refused_on_time}
-- a refused event has a refusal and leaves the history; an accepted one has its acts and is the newest entry
pub use Rattle.traffic_rules.proofs.Steps.{refusal_of, acts_of, entry_at, answer_accepted, continued_refused, continued_accepted}
-- an entry of a legal history isn't refused by the station's rules
pub use Rattle.traffic_rules.proofs.Steps.{follows_rules}
-- what a legal history is continued by, and what was before it, is legal
pub use Rattle.traffic_rules.proofs.Steps.{legal_continued, legal_before}
-- a step of a station, whatever its rules and whatever it keeps of its histories
pub use Rattle.traffic_rules.proofs.Frame.{not_before, answer_on_time, goes_on}
-- before its first event a station holds nothing, and it never holds more than sixteen calls
pub use Rattle.traffic_rules.proofs.HeldLists.{nothing_held, sixteen_held}
-- acts that mention no number, and what is held after an event of each kind
pub use Rattle.traffic_rules.proofs.HeldRules.{AreQuiet, repeats_begin}
pub use Rattle.traffic_rules.proofs.HeldRules.{after_nothing, after_hearing_nothing, after_send, after_answer, after_ticking, after_heard}
-- a test that acts of traffic don't meet is met by no act of sending, answering, repeating and hearing: one that no act
-- that sends a call meets, or one that none meets which sends a call that is such
pub use Rattle.traffic_rules.proofs.Unmet.{Misses, none_sent, none_replied, none_repeated, none_heard, MissesSuch, none_such}
-- what an event of each kind does with sent calls that wait, and with those that it sends
pub use Rattle.traffic_rules.proofs.Handled.{Handles, handles_nothing, handles_tick, handles_heard, handles_answer, handles_send}
-- calls that ask for an acknowledgement are sent at most twice for each time that they are held; what is held as sent
-- may be sent
pub use Rattle.traffic_rules.proofs.Handled.{sent_at_most_twice, held_sendable}
-- acts of sending, answering, repeating and hearing send such calls alone, and each once
pub use Rattle.traffic_rules.proofs.Plain.{plain_send, plain_answer, plain_repeats, plain_heard}
-- which calls are of traffic
pub use Rattle.traffic_rules.proofs.Plain.{may_be_sent, sendable_of_traffic, reply_of_traffic, wider_such, repeated_as_traffic}
