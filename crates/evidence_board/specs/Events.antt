-- The core of a board: events at its places, and the words that they leave. This project's profile.
use Rattle.std.specs.Prelude.{◌≡◌, ℕ, suc, ◌≤◌, ◌⊎◌, ◌↔◌, ◌==◌, min, max, if◌then◌else◌, List, [], ◌∷◌, Contains}
use Rattle.evidence_board.specs.Views.{Reach, no_reach}

-- a place saw a symbol, as a least one or as a greatest one
pub data Event : Type 0 where
  as_least : ℕ → ℕ → Event
  as_greatest : ℕ → ℕ → Event

-- what an event makes of the two words of place p
abbrev pub word_after : ℕ → Event → Reach → Reach
word_after p (as_least place v) words = if p == place then record words { least = min words.least v } else words
word_after p (as_greatest place v) words = if p == place then record words { past = max words.past (suc v) } else words

-- the two words of place p after events, one after another
abbrev pub words_behind : ℕ → List Event → Reach → Reach
words_behind p [] words = words
words_behind p (event ∷ events) words = words_behind p events (word_after p event words)

-- the two words of place p after events, from an empty board on
abbrev pub words_after : List Event → ℕ → Reach
words_after events p = words_behind p events no_reach

-- the least of 128 and of the symbols that the place saw as least ones
pub record IsLeast (events : List Event) (p least : ℕ) : Type 0 where
  pub bound : least ≤ 128
  pub below : (v : ℕ) → Contains events (as_least p v) → least ≤ v
  pub is_one : (least ≡ 128) ⊎ Contains events (as_least p least)

-- the number after the greatest of the symbols that the place saw as greatest ones, 0 where it saw none
pub record IsPastGreatest (events : List Event) (p past : ℕ) : Type 0 where
  pub above : (v : ℕ) → Contains events (as_greatest p v) → suc v ≤ past
  pub is_one : (past ≡ 0) ⊎ ((v : ℕ) × (past ≡ suc v) × Contains events (as_greatest p v))

-- two lists have the same events, in whatever order and however often
abbrev pub HaveSame : List Event → List Event → Type 0
HaveSame events others = (event : Event) → Contains events event ↔ Contains others event
