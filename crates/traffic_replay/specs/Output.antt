-- What a replay writes, over the rules of a station: this project's profile.
use Rattle.std.specs.Prelude.{ℕ, Bool, true, false, ◌&&◌, is_ok, Result, Ok, Err, List, [], ◌∷◌, ◌++◌}
use Rattle.line_grammar.specs.Bytes.{line_feed}
use Rattle.traffic_rules.specs.Histories.{History}
use Rattle.traffic_rules.specs.Rules.{Rules, answer_to, continued}
use Rattle.station_lines.specs.Moments.{at_moment}
use Rattle.station_lines.specs.Answers.{answer_lines}
use Rattle.call_texts.specs.Texts.{answer_text}
use Rattle.traffic_replay.specs.declared.outcomes.Unreported.{Unreported}
use Rattle.traffic_replay.specs.Happenings.{Happening}

-- the line of a group that isn't reported: the moment comes before its answer
unfoldable pub unreported_line : (at : ℕ) → Unreported → List ℕ
unreported_line at unreported = at_moment at (answer_text unreported.group unreported.answer ++ line_feed ∷ [])

module _ {What : Type 0} (rules : Rules What) where
  -- the history after what happens: an event is put last unless it is refused, and a group that isn't reported is no
  -- event
  abbrev pub history_behind : History What → (at : ℕ) → Result What Unreported → History What
  history_behind h at (Ok what) = continued rules h at what
  history_behind h at (Err unreported) = h

  -- what is written of what happens after a history
  abbrev pub written_behind : History What → (at : ℕ) → Result What Unreported → List ℕ
  written_behind h at (Ok what) = answer_lines at (answer_to rules h at what)
  written_behind h at (Err unreported) = unreported_line at unreported

  -- the station accepts what happens after a history
  abbrev pub is_accepted_behind : History What → (at : ℕ) → Result What Unreported → Bool
  is_accepted_behind h at (Ok what) = is_ok (answer_to rules h at what)
  is_accepted_behind h at (Err unreported) = false

  -- the history of all that happened
  abbrev pub history_of : List (Happening What) → History What
  history_of [] = []
  history_of (h ∷ earlier) = history_behind (history_of earlier) h.at h.outcome

  -- the text of all that happened: what is written of each happening after the history so far
  abbrev pub text_of : List (Happening What) → List ℕ
  text_of [] = []
  text_of (h ∷ earlier) = text_of earlier ++ written_behind (history_of earlier) h.at h.outcome

  -- whether no event was refused and each heard group was reported
  abbrev pub all_accepted : List (Happening What) → Bool
  all_accepted [] = true
  all_accepted (h ∷ earlier) = all_accepted earlier && is_accepted_behind (history_of earlier) h.at h.outcome
