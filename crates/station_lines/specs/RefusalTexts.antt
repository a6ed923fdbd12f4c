-- The lines of a station's refusals, one row for each: this project's profile.
use Rattle.std.specs.Prelude.{ℕ, List, ◌++◌, codes, decimal}
use Rattle.traffic_rules.specs.declared.refusals.StationRefusal.{StationRefusal}
use Rattle.traffic_rules.specs.declared.refusals.StationRefusal.TheVariants.{AlertActive, NoAlert, NoSuchCall, Full, NeedsDelay, NotSendable, NoCasualty, TimeBack}
use Rattle.line_grammar.specs.Shapes.{digits}
use Rattle.line_grammar.specs.Sections.{labelled}
use Rattle.line_grammar.specs.Grammar.{Grammar, finish, word, none, part, written}
use Rattle.call_texts.specs.CallGrammar.{identity}
use Rattle.station_lines.specs.Moments.{number, at_moment}

-- the station's distress alert is on already
abbrev pub alert_active : Grammar
alert_active = word (codes "alertactive") finish

-- its distress alert isn't on
abbrev pub no_alert : Grammar
no_alert = word (codes "noalert") finish

-- no call that it got is held under this number
abbrev pub no_such_call : Grammar
no_such_call = labelled (codes "nosuchcall ") number finish

-- there is no room for what it would have to keep
abbrev pub full : Grammar
full = word (codes "full") finish

-- a delay must be given first
abbrev pub needs_delay : Grammar
needs_delay = word (codes "needsdelay") finish

-- its operator may not send the call
abbrev pub not_sendable : Grammar
not_sendable = word (codes "notsendable") finish

-- no distress alert of this ship is kept
abbrev pub no_casualty : Grammar
no_casualty = labelled (codes "nocasualty ") identity finish

-- the last accepted moment, and the given one before it
abbrev pub time_back : Grammar
time_back = labelled (codes "timeback ") number (labelled (codes " ") number finish)

-- why an event is refused
abbrev pub told_refusal : StationRefusal → List ℕ
told_refusal AlertActive = written alert_active none
told_refusal NoAlert = written no_alert none
told_refusal (NoSuchCall k) = written no_such_call (part (decimal k) none)
told_refusal Full = written full none
told_refusal NeedsDelay = written needs_delay none
told_refusal NotSendable = written not_sendable none
told_refusal (NoCasualty ship) = written no_casualty (part (digits 9 ship) none)
told_refusal (TimeBack last given) = written time_back (part (decimal last) (part (decimal given) none))

-- a refusal's line at a moment, without its end
abbrev pub refusal_text : ℕ → StationRefusal → List ℕ
refusal_text at refusal = at_moment at (codes "refused " ++ told_refusal refusal)
