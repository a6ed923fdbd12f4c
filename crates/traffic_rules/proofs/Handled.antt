-- what an event does with sent calls that wait, and with those that it sends
use native.Mathlib.Omega.{arith}
use Rattle.std.proofs.Common.{◌≡◌, ℕ, zero, suc, ◌+◌, ◌≤◌, ◌&&◌, ◌||◌, Bool, true, false, Option, Some, None, is_none, List, [], ◌∷◌, ◌++◌, if◌then◌else◌, refl, sym, ◌∙◌, ap, subst}
use Rattle.std.proofs.lemmas.Bool.{false≢true}
use Rattle.std.proofs.lemmas.List.Folds.{list_any-append}
use Rattle.std.specs.List.{list_any}
use Rattle.std.specs.Prelude.{replicate}
use Rattle.call_values.specs.declared.calls.Call.{Call}
use Rattle.call_values.specs.declared.calls.Call.TheVariants.{Alert, Ack, Relay, Service}
use Rattle.call_values.specs.declared.choices.Category.{Category}
use Rattle.call_values.specs.declared.parts.Kind.TheVariants.{Test, AskPosition}
use Rattle.traffic_rules.specs.declared.acts.Act.{Act}
use Rattle.traffic_rules.specs.declared.acts.Act.TheVariants.{Send}
use Rattle.traffic_rules.specs.declared.held.TheConstants.{MOST_HELD}
use Rattle.traffic_rules.specs.declared.held.Holding.{Holding}
use Rattle.traffic_rules.specs.declared.held.Side.TheVariants.{Sent, Got}
use Rattle.traffic_rules.specs.declared.refusals.StationRefusal.TheVariants.{Full}
use Rattle.traffic_rules.specs.Histories.{Entry, History}
use Rattle.traffic_rules.specs.Holding.{Places, place_of, first_free, newly_held}
use Rattle.traffic_rules.specs.Rules.{Rules, Follows, Legal}
use Rattle.traffic_rules.specs.Occurrences.{Occurrence, is_tick}
use Rattle.traffic_rules.specs.HeldTold.{all_held}
use Rattle.traffic_rules.specs.Sending.{asks, acknowledges, is_sendable, held_under_least, send_refusal, send_due}
use Rattle.traffic_rules.specs.Answering.{reply_due_to, answer_due}
use Rattle.traffic_rules.specs.Repeating.{repeated, repeats}
use Rattle.traffic_rules.specs.Hearing.{Whereabouts, is_question, is_got, question_due, answered_number, answered_or_shown, position_told, due_at_once, heard_due}
use Rattle.traffic_rules.specs.Sendings.{asking, sends, is_holding, times_in, waiting, sends_and_holds, times_held, times_sent, times_sent_again, AreSentAtMostTwice}
use Rattle.traffic_rules.specs.TrafficActs.{AreSentSuch}
use Rattle.traffic_rules.specs.After.{held_at, freed_at, after_sending, after_answering, after_tick, after_question, after_hearing}
use Rattle.traffic_rules.proofs.Counts.{times_append, all_sent_again, placed, none_in, placed_such, ticked_such}
use Rattle.traffic_rules.proofs.Plain.{may_be_sent, sendable}
use Rattle.traffic_rules.proofs.HeldLists.{nothing_held}

-- one call in the acts is sent and held
abbrev pub one_held : (sends_one holds_one : Bool) → ℕ
one_held sends_one holds_one = if sends_one && holds_one then 1 else 0

-- what is sent at an event is held as it is sent, or it was sent before, at a tick; and what is held as sent may be
-- sent by an operator
pub record Handles (own : ℕ) (p : Call → Bool) (tick : Bool) (acts : List Act) (before after : Places) : Type 0 where
  pub first : times_in p acts ≡ one_held (list_any (sends p) acts) (list_any is_holding acts) + (if tick then times_in p acts else 0)
  pub again : (if tick then times_in p acts else 0) + waiting p after ≤ waiting p before + one_held (list_any (sends p) acts) (list_any is_holding acts)
  pub may_still : AreSentSuch (is_sendable own) before → AreSentSuch (is_sendable own) after

module _ (own : ℕ) (p : Call → Bool) where
  silent_first : (t : ℕ) (s holds : Bool) → t ≡ 0 → s ≡ false → t ≡ one_held s holds + 0
  silent_first t s holds zeroth none = grind arith

  silent_again : (before after : ℕ) (s holds : Bool) → s ≡ false → after ≤ before → 0 + after ≤ before + one_held s holds
  silent_again before after true holds none less = absurd (false≢true (sym none))
  silent_again before after false holds none less = omega arith

  -- acts that send no such call
  pub handles_silent : (acts : List Act) (before after : Places) → list_any (sends p) acts ≡ false → waiting p after ≤ waiting p before → (AreSentSuch (is_sendable own) before → AreSentSuch (is_sendable own) after)
      → Handles own p false acts before after
  handles_silent acts before after none less still = record {
    first = silent_first (times_in p acts) (list_any (sends p) acts) (list_any is_holding acts) (none_in p acts none) none;
    again = silent_again (waiting p before) (waiting p after) (list_any (sends p) acts) (list_any is_holding acts) none less;
    may_still = still;
  }

  -- and leave what is held
  pub handles_nothing : (acts : List Act) (places : Places) → list_any (sends p) acts ≡ false → Handles own p false acts places places
  handles_nothing acts places none = handles_silent acts places places none (omega arith) (λ are. are)

  got_at : (o : Option ℕ) (places : Places) (call : Call) (at : ℕ) → (waiting p (held_at o places call Got at) ≤ waiting p places) × (AreSentSuch (is_sendable own) places → AreSentSuch (is_sendable own) (held_at o places call Got at))
  got_at None places call at = (omega arith, λ are. are)
  got_at (Some n) places call at =
      let set = placed p places n (Some (newly_held call Got at)) in
      (omega arith, λ are. placed_such (is_sendable own) places n (Some (newly_held call Got at)) (λ sent. absurd (false≢true sent)) are)

  freed : (o : Option ℕ) (places : Places) → (waiting p (freed_at o places) ≤ waiting p places) × (AreSentSuch (is_sendable own) places → AreSentSuch (is_sendable own) (freed_at o places))
  freed None places = (omega arith, λ are. are)
  freed (Some n) places = let set = placed p places n None in (omega arith, λ are. placed_such (is_sendable own) places n None tt are)

  tick_first : (t : ℕ) (s holds : Bool) → holds ≡ false → t ≡ one_held s holds + t
  tick_first t s holds none = grind arith

  tick_again : (t front rest before after : ℕ) (s holds : Bool) → holds ≡ false → t ≡ front + rest → front ≡ 0 → rest + after ≤ before → t + after ≤ before + one_held s holds
  tick_again t front rest before after s holds none sum zeroth less = grind arith

one_holds : (at n : ℕ) (o : Option Holding) → list_any is_holding (repeated at n o) ≡ false
one_holds at n o = grind arith

repeats_hold : (at n : ℕ) (places : Places) → list_any is_holding (repeats at n places) ≡ false
repeats_hold at n [] = refl
repeats_hold at n (o ∷ places) =
    list_any-append is_holding (repeated at n o) (repeats at (suc n) places)
    ∙ ap (λ (b : Bool). b || list_any is_holding (repeats at (suc n) places)) (one_holds at n o) ∙ repeats_hold at (suc n) places

-- a tick, with acts in front that send no such call
pub handles_tick : (own : ℕ) (p : Call → Bool) (front : List Act) (at : ℕ) (places : Places) → list_any (sends p) front ≡ false → list_any is_holding front ≡ false
    → Handles own p true (front ++ repeats at 1 places) places (after_tick places at)
handles_tick own p front at places none none_held =
    let acts = front ++ repeats at 1 places in
    let holds = list_any-append is_holding front (repeats at 1 places)
    ∙ ap (λ (b : Bool). b || list_any is_holding (repeats at 1 places)) none_held ∙ repeats_hold at 1 places in
    record {
      first = tick_first own p (times_in p acts) (list_any (sends p) acts) (list_any is_holding acts) holds;
      again = tick_again own p (times_in p acts) (times_in p front) (times_in p (repeats at 1 places)) (waiting p places) (waiting p (after_tick places at))
          (list_any (sends p) acts) (list_any is_holding acts) holds (times_append p front (repeats at 1 places)) (none_in p front none) (all_sent_again p at 1 places);
      may_still = ticked_such (is_sendable own) at places;
    }

module _ (is_such : Call → Bool) where
  abbrev counted : Call → Bool
  counted = asking is_such

  question_none : (places : Places) (call : Call) → list_any (sends counted) (question_due places call) ≡ false
  question_none places call = grind arith

  question_by : (own : ℕ) (got : Bool) (places : Places) (call : Call) (at : ℕ)
      → (waiting counted (if got then places else held_at (first_free places) places call Got at) ≤ waiting counted places)
      × (AreSentSuch (is_sendable own) places → AreSentSuch (is_sendable own) (if got then places else held_at (first_free places) places call Got at))
  question_by own true places call at = (omega arith, λ are. are)
  question_by own false places call at = got_at own counted (first_free places) places call at

  shown_none : (o : Option ℕ) → list_any (sends counted) (answered_or_shown o) ≡ false
  shown_none o = grind arith

  position_none : (own : ℕ) (place : Option Whereabouts) (to : ℕ) (category : Category) → list_any (sends counted) (position_told own place to category) ≡ false
  position_none own place to category = grind arith

  at_once_none : (own : ℕ) (place : Option Whereabouts) (call : Call) → list_any (sends counted) (due_at_once own place call) ≡ false
  at_once_none own place (Alert casualty) = refl
  at_once_none own place (Ack from casualty) = refl
  at_once_none own place (Relay to from casualty ask) = refl
  at_once_none own place (Service to category from (Test reply)) = refl
  at_once_none own place (Service to category from AskPosition) = position_none own place from category
  at_once_none own place _ = refl

  heard_by : (own : ℕ) (place : Option Whereabouts) (places : Places) (call : Call) (at : ℕ) (asked acked : Bool)
      → Handles own counted false (if asked then question_due places call else (if acked then answered_or_shown (answered_number places call) else due_at_once own place call)) places
      (if asked then after_question places call at else (if acked then freed_at (answered_number places call) places else places))
  heard_by own place places call at true acked =
      let less = question_by own (is_got places call) places call at in
      handles_silent own counted (question_due places call) places (after_question places call at) (question_none places call) less.0 less.1
  heard_by own place places call at false true =
      let less = freed own counted (answered_number places call) places in
      handles_silent own counted _ places _ (shown_none (answered_number places call)) less.0 less.1
  heard_by own place places call at false false = handles_nothing own counted _ places (at_once_none own place call)

  -- a call is heard
  pub handles_heard : (own : ℕ) (place : Option Whereabouts) (places : Places) (call : Call) (at : ℕ)
      → Handles own counted false (heard_due own place places call) places (after_hearing places call at)
  handles_heard own place places call at = heard_by own place places call at (is_question call) (acknowledges call)

  replied_none : (own : ℕ) (accepts : Bool) (o : Option Holding) → list_any (sends counted) (reply_due_to own accepts o) ≡ false
  replied_none own accepts o = grind arith

  -- a call is answered or declined
  pub handles_answer : (own : ℕ) (places : Places) (number : ℕ) (accepts : Bool) → Handles own counted false (answer_due own places number accepts) places (after_answering places number)
  handles_answer own places number accepts =
      let set = placed counted places number None in
      handles_silent own counted _ places _ (replied_none own accepts (place_of places number)) (omega arith) (λ are. placed_such (is_sendable own) places number None tt are)

  held_first : (c : Bool) → (if c then 1 else 0) + (0 + 0) ≡ one_held (c || (false || false)) true + 0
  held_first c = grind arith

  held_again : (before after : ℕ) (c : Bool) → after ≤ before + (if c then 1 else 0) → 0 + after ≤ before + one_held (c || (false || false)) true
  held_again before after c less = grind arith

  send_by : (own : ℕ) (places : Places) (call : Call) (at : ℕ) (a : Bool) (o : Option ℕ) → asks call ≡ a → is_sendable own call ≡ true → (a && is_none o) ≡ false
      → Handles own counted false (Send call 1 ∷ (if a then held_under_least o else [])) places (if a then held_at o places call Sent at else places)
  send_by own places call at false o is may room = handles_nothing own counted (Send call 1 ∷ []) places (ap (λ (b : Bool). (b && is_such call) || false) is)
  send_by own places call at true None is may room = absurd (false≢true (sym room))
  send_by own places call at true (Some n) is may room =
      let new = newly_held call Sent at in
      let set = placed counted places n (Some new) in
      record {
        first = held_first (counted call);
        again = held_again (waiting counted places) _ (counted call) set;
        may_still = λ are. placed_such (is_sendable own) places n (Some new) (λ _. may) are;
      }

  room_of : (must : Bool) (o : Option ℕ) → (if must && is_none o then Some Full else None) ≡ None → (must && is_none o) ≡ false
  room_of must o none = grind arith

  -- an operator's call is sent
  pub handles_send : (own : ℕ) (places : Places) (call : Call) (at : ℕ) → send_refusal own places call ≡ None
      → Handles own counted false (send_due places call) places (after_sending places call at)
  handles_send own places call at none =
      send_by own places call at (asks call) (first_free places) refl (may_be_sent own places call none) (room_of (asks call) (first_free places) (sendable (is_sendable own call) _ none))

none_such : (q : Call → Bool) (n : ℕ) → AreSentSuch q (replicate n None)
none_such q zero = tt
none_such q (suc n) = (tt, none_such q n)

if_more : (b : Bool) (n : ℕ) → (if b then suc n else n) ≡ (if b then 1 else 0) + n
if_more b n = grind arith

sum_first : (t one tick sent held again : ℕ) → t ≡ one + tick → sent ≡ held + again → t + sent ≡ (one + held) + (tick + again)
sum_first t one tick sent held again here rest = omega arith

sum_again : (tick after before one again held : ℕ) → tick + after ≤ before + one → again + before ≤ held → (tick + again) + after ≤ one + held
sum_again tick after before one again held here rest = omega arith

sum_window : (tick after before one again begin held : ℕ) → tick + after ≤ before + one → again + before ≤ begin + held → (tick + again) + after ≤ begin + (one + held)
sum_window tick after before one again begin held here rest = omega arith

module _ {What : Type 0} (occurs : What → Occurrence) (rules : Rules What) (own : ℕ) (is_such : Call → Bool)
    (each : (e : Entry What) (h : History What) → Follows rules e h → Handles own (asking is_such) (is_tick (occurs e.what)) e.acts (all_held occurs h) (all_held occurs (e ∷ h))) where
  -- what was sent again and what waits was held as it was sent
  pub sent_again_or_waits : (h : History What) → Legal rules h → times_sent_again occurs (asking is_such) h + waiting (asking is_such) (all_held occurs h) ≤ times_held (asking is_such) h
  sent_again_or_waits [] legal = subst (λ (places : Places). 0 + waiting (asking is_such) places ≤ 0) (sym (nothing_held occurs)) (omega arith)
  sent_again_or_waits (e ∷ h) legal =
      subst (λ (n : ℕ). times_sent_again occurs (asking is_such) (e ∷ h) + waiting (asking is_such) (all_held occurs (e ∷ h)) ≤ n)
      (sym (if_more (sends_and_holds (asking is_such) e) (times_held (asking is_such) h)))
      (sum_again _ _ _ _ _ (times_held (asking is_such) h) (each e h legal.0).again (sent_again_or_waits h legal.1))

  -- what was sent again in a part of a history, and what waits after it, waited before it or was held in it
  pub again_in_part : (later earlier : History What) → Legal rules (later ++ earlier)
      → times_sent_again occurs (asking is_such) later + waiting (asking is_such) (all_held occurs (later ++ earlier))
      ≤ waiting (asking is_such) (all_held occurs earlier) + times_held (asking is_such) later
  again_in_part [] earlier legal = omega arith
  again_in_part (e ∷ later) earlier legal =
      subst (λ (n : ℕ). times_sent_again occurs (asking is_such) (e ∷ later) + waiting (asking is_such) (all_held occurs (e ∷ (later ++ earlier)))
      ≤ waiting (asking is_such) (all_held occurs earlier) + n)
      (sym (if_more (sends_and_holds (asking is_such) e) (times_held (asking is_such) later)))
      (sum_window _ _ _ _ _ (waiting (asking is_such) (all_held occurs earlier)) (times_held (asking is_such) later) (each e (later ++ earlier) legal.0).again
      (again_in_part later earlier legal.1))

  -- each sending is the first of a call that is held, or at a tick
  pub sent_or_again : (h : History What) → Legal rules h
      → times_sent (asking is_such) h ≡ times_held (asking is_such) h + times_sent_again occurs (asking is_such) h
  sent_or_again [] legal = refl
  sent_or_again (e ∷ h) legal =
      subst (λ (n : ℕ). times_sent (asking is_such) (e ∷ h) ≡ n + times_sent_again occurs (asking is_such) (e ∷ h))
      (sym (if_more (sends_and_holds (asking is_such) e) (times_held (asking is_such) h)))
      (sum_first (times_in (asking is_such) e.acts) _ _ (times_sent (asking is_such) h) _ _ (each e h legal.0).first (sent_or_again h legal.1))

  less_of : (again waits held : ℕ) → again + waits ≤ held → again ≤ held
  less_of again waits held less = omega arith

  pub again_at_most : (h : History What) → Legal rules h → times_sent_again occurs (asking is_such) h ≤ times_held (asking is_such) h
  again_at_most h legal = less_of _ (waiting (asking is_such) (all_held occurs h)) _ (sent_again_or_waits h legal)

  -- what is held as sent may be sent by an operator
  pub held_sendable : (h : History What) → Legal rules h → AreSentSuch (is_sendable own) (all_held occurs h)
  held_sendable [] legal = subst (λ (places : Places). AreSentSuch (is_sendable own) places) (sym (nothing_held occurs)) (none_such (is_sendable own) MOST_HELD)
  held_sendable (e ∷ h) legal = (each e h legal.0).may_still (held_sendable h legal.1)

-- where each entry does so, calls are sent at most twice for each time that they are held
pub sent_at_most_twice : {What : Type 0} (occurs : What → Occurrence) (rules : Rules What) (own : ℕ)
    → ((is_such : Call → Bool) (e : Entry What) (h : History What) → Follows rules e h → Handles own (asking is_such) (is_tick (occurs e.what)) e.acts (all_held occurs h) (all_held occurs (e ∷ h)))
    → AreSentAtMostTwice occurs rules
sent_at_most_twice occurs rules own each = record {
  first = λ h is_such legal. sent_or_again occurs rules own is_such (each is_such) h legal;
  again = λ h is_such legal. again_at_most occurs rules own is_such (each is_such) h legal;
  parts = λ later earlier is_such legal. again_in_part occurs rules own is_such (each is_such) later earlier legal;
}
