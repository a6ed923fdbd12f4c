-- What a history says of held calls: this project's profile.
use Rattle.std.specs.Prelude.{ℕ, zero, suc, ◌==◌, ◌&&◌, ◌||◌, Bool, true, false, Option, Some, None, is_some, List, [], ◌∷◌, if◌then◌else◌}
use Rattle.std.specs.Option.{option_map}
use Rattle.std.specs.List.{list_any}
use Rattle.call_values.specs.declared.calls.Call.{Call}
use Rattle.traffic_rules.specs.declared.acts.Act.{Act}
use Rattle.traffic_rules.specs.declared.acts.Act.TheVariants.{Send, Held, Answered, GaveUp}
use Rattle.traffic_rules.specs.declared.held.TheConstants.{MOST_HELD}
use Rattle.traffic_rules.specs.declared.held.Holding.{Holding}
use Rattle.traffic_rules.specs.declared.held.Side.{Side}
use Rattle.traffic_rules.specs.declared.held.Side.TheVariants.{Sent, Got}
use Rattle.traffic_rules.specs.Histories.{Entry, History, since}
use Rattle.traffic_rules.specs.Holding.{Places, newly_held, sent_at}
use Rattle.traffic_rules.specs.Moments.{has_passed}
use Rattle.traffic_rules.specs.declared.waits.TheConstants.{ANSWER_WAIT}
use Rattle.traffic_rules.specs.Occurrences.{Occurrence, hears, is_tick, is_answer}

-- how long a sent call waits for its answer, in milliseconds, before it is sent again, and before it is given up after
-- that
abbrev pub answer_wait : ℕ
answer_wait = ANSWER_WAIT

-- an act begins to hold a call under a number
abbrev pub holds : (number : ℕ) → Act → Bool
holds number (Held k) = k == number
holds number _ = false

-- an act frees a number: its call is answered or given up
abbrev pub frees : (number : ℕ) → Act → Bool
frees number (Answered k) = k == number
frees number (GaveUp k) = k == number
frees number _ = false

-- the call that is sent first
abbrev pub first_sent : List Act → Option Call
first_sent [] = None
first_sent (Send call times ∷ acts) = Some call
first_sent (_ ∷ acts) = first_sent acts

-- the call that begins to be held: at a heard call this one, and else the one that is sent
abbrev pub begun_by : Occurrence → (at : ℕ) → List Act → Option Holding
begun_by (hears call) at acts = Some (newly_held call Got at)
begun_by _ at acts = option_map (λ (call : Call). newly_held call Sent at) (first_sent acts)

-- after the first tick at the end of its wait a sent call was sent again
abbrev pub sent_again_at : Option ℕ → Holding → Option Holding
sent_again_at (Some at) x = sent_at at (Some x)
sent_again_at None x = Some x

-- a held call was sent
abbrev pub is_sent : Side → Bool
is_sent Sent = true
is_sent Got = false

-- places under the numbers from one on, so many
abbrev pub places_from : (ℕ → Option Holding) → (number count : ℕ) → Places
places_from held number zero = []
places_from held number (suc count) = held number ∷ places_from held (suc number) count

module _ {What : Type 0} (occurs : What → Occurrence) where
  -- an entry begins to hold a call under a number
  abbrev pub begins : (number : ℕ) → Entry What → Bool
  begins number e = list_any (holds number) e.acts

  -- an entry frees a number: by an act, or since the operator answered or declined its call
  abbrev pub ends : (number : ℕ) → Entry What → Bool
  ends number e = is_answer number (occurs e.what) || list_any (frees number) e.acts

  -- the last entry that mentions a number, where it begins to hold a call under it
  abbrev pub opened : (number : ℕ) → History What → Option (Entry What)
  opened number [] = None
  opened number (e ∷ h) = if ends number e then None else (if begins number e then Some e else opened number h)

  -- the moment of a tick at the end of a wait from a moment on
  abbrev pub passed_at : (at : ℕ) → Entry What → Option ℕ
  passed_at at e = if is_tick (occurs e.what) && has_passed answer_wait at e.at then Some e.at else None

  -- the moment of the first tick among these entries at the end of a wait from a moment on
  abbrev pub first_passed : (at : ℕ) → History What → Option ℕ
  first_passed at [] = None
  first_passed at (e ∷ h) = if is_some (first_passed at h) then first_passed at h else passed_at at e

  -- a held call, by what began it and the entries after that
  abbrev pub held_since : Option Holding → History What → Option Holding
  held_since None later = None
  held_since (Some x) later = if is_sent x.side then sent_again_at (first_passed x.at later) x else Some x

  -- what an entry begins to hold
  abbrev pub begun : Option (Entry What) → Option Holding
  begun None = None
  begun (Some e) = begun_by (occurs e.what) e.at e.acts

  -- the call that is held under a number
  abbrev pub held_told : History What → (number : ℕ) → Option Holding
  held_told h number = held_since (begun (opened number h)) (since (begins number) h)

  -- the calls that are held under the numbers 1 to 16
  unfoldable pub all_held : History What → Places
  all_held h = places_from (held_told h) 1 MOST_HELD
