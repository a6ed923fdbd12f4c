-- What a station does at a heard call that is for it and is neither a distress alert nor its acknowledgement: this
-- project's profile.
use Rattle.std.specs.Prelude.{ℕ, suc, nat_eq, ◌&&◌, not, Bool, true, false, Option, Some, None, List, [], ◌∷◌, ◌++◌, position, if◌then◌else◌}
use Rattle.std.specs.Option.{option_map}
use Rattle.std.specs.Cmp.Lexicographic.{pointwise}
use Rattle.std.specs.List.{list_any}
use Rattle.call_values.specs.declared.positions.Fix.{Fix}
use Rattle.call_values.specs.declared.calls.Call.{Call}
use Rattle.call_values.specs.declared.calls.Call.TheVariants.{Alert, Ack, Relay, Individual, Service}
use Rattle.call_values.specs.declared.choices.Category.{Category}
use Rattle.call_values.specs.declared.choices.End.TheVariants.{Ask}
use Rattle.call_values.specs.declared.parts.Kind.TheVariants.{Test, AskPosition, Position}
use Rattle.call_grammar.specs.Spelling.{spell}
use Rattle.traffic_rules.specs.declared.acts.Act.{Act}
use Rattle.traffic_rules.specs.declared.acts.Act.TheVariants.{Send, Shown, Answered, Distress}
use Rattle.traffic_rules.specs.declared.held.Holding.{Holding}
use Rattle.traffic_rules.specs.declared.refusals.StationRefusal.{StationRefusal}
use Rattle.traffic_rules.specs.Replies.{answers}
use Rattle.traffic_rules.specs.Holding.{Places, first_free}
use Rattle.traffic_rules.specs.HeldTold.{is_sent}
use Rattle.traffic_rules.specs.Sending.{acknowledges, refused_full, held_under_least}

-- a position and a time, each where it is known
abbrev pub Whereabouts : Type 0
Whereabouts = Option Fix × Option (ℕ × ℕ)

-- two calls are equal: their lists are, which no two calls share
abbrev pub are_equal : Call → Call → Bool
are_equal a b = pointwise nat_eq (spell a) (spell b)

-- what is held is an equal call that was got
abbrev pub is_equal_got : Call → Option Holding → Bool
is_equal_got call None = false
is_equal_got call (Some x) = not (is_sent x.side) && are_equal x.call call

-- a test: whether an equal call was got and is held
abbrev pub is_got : Places → Call → Bool
is_got places call = list_any (is_equal_got call) places

-- an operator is asked: by a relay or an individual call that asks for an acknowledgement
abbrev pub is_question : Call → Bool
is_question (Relay to from casualty ask) = ask
is_question (Individual to category from first second message Ask) = true
is_question _ = false

-- a relay informs the operator of distress
abbrev pub distress_told : Call → List Act
distress_told (Relay to from casualty ask) = Distress casualty ∷ []
distress_told _ = []

-- a question is held under the least free number, unless an equal one is held as got
abbrev pub must_be_held : Places → Call → Bool
must_be_held places call = is_question call && not (is_got places call)

-- the acts at a heard question: a relay informs the operator of distress, and the question is held unless an equal one
-- is
abbrev pub question_due : Places → Call → List Act
question_due places call = distress_told call ++ (if is_got places call then [] else held_under_least (first_free places))

-- what is held is a sent call that a heard one answers
abbrev pub is_answered_by : Call → Option Holding → Bool
is_answered_by call None = false
is_answered_by call (Some x) = is_sent x.side && answers x.call call

-- the least number of a sent call that a heard one answers
abbrev pub answered_number : Places → Call → Option ℕ
answered_number places call = option_map (λ (index : ℕ). suc index) (position (is_answered_by call) places)

-- an acknowledgement answers this call, and is shown where it answers none
abbrev pub answered_or_shown : Option ℕ → List Act
answered_or_shown (Some number) = Answered number ∷ []
answered_or_shown None = Shown ∷ []

-- a position request is answered with the position and the time that the station keeps; a station that keeps none shows
-- it
abbrev pub position_told : (own : ℕ) → Option Whereabouts → (to : ℕ) → Category → List Act
position_told own None to category = Shown ∷ []
position_told own (Some place) to category = Send (Service to category own (Position place.0 place.1)) 1 ∷ []

-- what is due at once at other calls: a relay informs the operator of distress; a test and a position request are
-- answered; all else is shown
abbrev pub due_at_once : (own : ℕ) → Option Whereabouts → Call → List Act
due_at_once own place (Alert casualty) = []
due_at_once own place (Ack from casualty) = []
due_at_once own place (Relay to from casualty ask) = Distress casualty ∷ []
due_at_once own place (Service to category from (Test reply)) = Send (Service from category own (Test true)) 1 ∷ []
due_at_once own place (Service to category from AskPosition) = position_told own place from category
due_at_once own place _ = Shown ∷ []

-- what is due at a heard call: it is a question, or an acknowledgement, or another call
abbrev pub heard_due : (own : ℕ) → Option Whereabouts → Places → Call → List Act
heard_due own place places call =
    if is_question call then question_due places call
    else (if acknowledges call then answered_or_shown (answered_number places call) else due_at_once own place call)

-- a call that must be held is refused where no number is free
abbrev pub heard_refusal : Places → Call → Option StationRefusal
heard_refusal places call = refused_full (must_be_held places call) places
