-- Rules of a station, and the histories that follow them: this project's profile.
use Rattle.std.specs.Prelude.{◌≡◌, ℕ, Option, Some, None, Result, Ok, Err, List, [], ◌∷◌}
use Rattle.arrayvec.specs.ArrayVec.{ArrayVec}
use Rattle.traffic_rules.specs.declared.acts.Act.{Act}
use Rattle.traffic_rules.specs.declared.refusals.StationRefusal.{StationRefusal}
use Rattle.traffic_rules.specs.Moments.{time_back}
use Rattle.traffic_rules.specs.Histories.{Entry, History, last_moment}

-- the rules of a kind of station, for events that may come at it
pub record Rules (What : Type 0) : Type 1 where
  -- the parts of an event are in their ranges
  pub IsEvent : What → Type 0
  -- why an event is refused after a history, whatever its moment
  pub refusal : History What → What → Option StationRefusal
  -- what is due at an event after a history
  pub due : History What → (at : ℕ) → What → List Act

-- the first refusal of two
abbrev pub first_refusal : Option StationRefusal → Option StationRefusal → Option StationRefusal
first_refusal (Some refusal) other = Some refusal
first_refusal None other = other

-- a refusal, or else these acts
abbrev pub refusal_or : {A : Type 0} → Option StationRefusal → A → Result A StationRefusal
refusal_or (Some refusal) acts = Err refusal
refusal_or None acts = Ok acts

-- a history with an entry more, unless its event is refused
abbrev pub unless_refused : {What : Type 0} → Option StationRefusal → Entry What → History What → History What
unless_refused (Some refusal) e h = h
unless_refused None e h = e ∷ h

-- an answer, with its acts as a list
abbrev pub listed : Result (ArrayVec Act) StationRefusal → Result (List Act) StationRefusal
listed (Ok acts) = Ok acts.items
listed (Err refusal) = Err refusal

module _ {What : Type 0} (rules : Rules What) where
  -- why an event is refused after a history: its moment is before the last one, or else by the station's rules
  abbrev pub refused : History What → (at : ℕ) → What → Option StationRefusal
  refused h at what = first_refusal (time_back (last_moment h) at) (rules.refusal h what)

  -- what a station answers to an event after a history: the refusal, or else the acts that are due
  abbrev pub answer_to : History What → (at : ℕ) → What → Result (List Act) StationRefusal
  answer_to h at what = refusal_or (refused h at what) (rules.due h at what)

  -- the history with this event and its acts put last, unless it is refused
  abbrev pub continued : History What → (at : ℕ) → What → History What
  continued h at what = unless_refused (refused h at what) (record { at = at; what = what; acts = rules.due h at what }) h

  -- an entry may follow a history: its event isn't refused there, and its acts are those that are due
  pub record Follows (e : Entry What) (h : History What) : Type 0 where
    pub event : rules.IsEvent e.what
    pub accepted : refused h e.at e.what ≡ None
    pub acts : e.acts ≡ rules.due h e.at e.what

  -- each entry may follow those before it
  abbrev pub Legal : History What → Type 0
  Legal [] = Unit {0}
  Legal (e ∷ h) = Follows e h × Legal h
