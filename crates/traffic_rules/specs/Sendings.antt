-- How often calls are sent and held: this project's profile.
use Rattle.std.specs.Prelude.{◌≡◌, ℕ, ◌+◌, ◌≤◌, ◌==◌, ◌&&◌, Bool, true, false, Option, Some, None, List, [], ◌∷◌, ◌++◌, if◌then◌else◌}
use Rattle.call_values.specs.declared.calls.Call.{Call}
use Rattle.call_values.specs.declared.calls.Call.TheVariants.{Alert}
use Rattle.traffic_rules.specs.declared.acts.Act.{Act}
use Rattle.traffic_rules.specs.declared.acts.Act.TheVariants.{Send, Held}
use Rattle.traffic_rules.specs.declared.held.Holding.{Holding}
use Rattle.traffic_rules.specs.Histories.{Entry, History, does, how_many}
use Rattle.traffic_rules.specs.HeldTold.{is_sent, all_held}
use Rattle.traffic_rules.specs.Holding.{Places}
use Rattle.traffic_rules.specs.Rules.{Rules, Legal}
use Rattle.traffic_rules.specs.Occurrences.{Occurrence, is_tick}
use Rattle.traffic_rules.specs.Sending.{asks}

-- those calls among some that ask for an acknowledgement
abbrev pub asking : (Call → Bool) → Call → Bool
asking is_such call = asks call && is_such call

-- a call is a distress alert
abbrev pub is_alert : Call → Bool
is_alert (Alert casualty) = true
is_alert _ = false

-- an act sends such a call
abbrev pub sends : (Call → Bool) → Act → Bool
sends is_such (Send call times) = is_such call
sends is_such _ = false

-- an act begins to hold a call
abbrev pub is_holding : Act → Bool
is_holding (Held number) = true
is_holding _ = false

-- how often an act sends such a call
abbrev pub times_by : (Call → Bool) → Act → ℕ
times_by is_such (Send call times) = if is_such call then times else 0
times_by is_such _ = 0

-- how often acts send such calls
abbrev pub times_in : (Call → Bool) → List Act → ℕ
times_in is_such [] = 0
times_in is_such (act ∷ acts) = times_by is_such act + times_in is_such acts

-- such a call is held as sent, and was sent once
abbrev pub waits_once : (Call → Bool) → Option Holding → ℕ
waits_once is_such None = 0
waits_once is_such (Some x) = if (x.times == 1) && (is_sent x.side && is_such x.call) then 1 else 0

-- how many such calls wait to be sent again: they are held as sent, and were sent once
abbrev pub waiting : (Call → Bool) → Places → ℕ
waiting is_such [] = 0
waiting is_such (held ∷ places) = waits_once is_such held + waiting is_such places

module _ {What : Type 0} where
  -- an entry sends such a call and begins to hold it
  abbrev pub sends_and_holds : (Call → Bool) → Entry What → Bool
  sends_and_holds is_such e = does (sends is_such) e && does is_holding e

  -- how often such calls began to be held as they were sent
  abbrev pub times_held : (Call → Bool) → History What → ℕ
  times_held is_such h = how_many (sends_and_holds is_such) h

  -- how often such calls were sent
  abbrev pub times_sent : (Call → Bool) → History What → ℕ
  times_sent is_such [] = 0
  times_sent is_such (e ∷ h) = times_in is_such e.acts + times_sent is_such h

module _ {What : Type 0} (occurs : What → Occurrence) where
  -- how often such calls were sent at ticks
  abbrev pub times_sent_again : (Call → Bool) → History What → ℕ
  times_sent_again is_such [] = 0
  times_sent_again is_such (e ∷ h) = (if is_tick (occurs e.what) then times_in is_such e.acts else 0) + times_sent_again is_such h

  -- in each legal history by these rules, of whichever calls that ask for an acknowledgement one picks: each sending is
  -- the first one of a holding, or at a tick; there are no more of those at ticks than holdings; and what a part of the
  -- history sends again, and leaves waiting, waited before that part or was held in it
  pub record AreSentAtMostTwice (rules : Rules What) : Type 0 where
    pub first : (h : History What) (is_such : Call → Bool) → Legal rules h
        → times_sent (asking is_such) h ≡ times_held (asking is_such) h + times_sent_again (asking is_such) h
    pub again : (h : History What) (is_such : Call → Bool) → Legal rules h
        → times_sent_again (asking is_such) h ≤ times_held (asking is_such) h
    pub parts : (later earlier : History What) (is_such : Call → Bool) → Legal rules (later ++ earlier)
        → times_sent_again (asking is_such) later + waiting (asking is_such) (all_held occurs (later ++ earlier))
        ≤ waiting (asking is_such) (all_held occurs earlier) + times_held (asking is_such) later
