-- What a seat knows of a board, place by place: this project's profile.
use Rattle.std.specs.Prelude.{ℕ, min, max, List, map, replicate, slice_index_or}
use Rattle.slot_evidence.specs.declared.places.Seen.{Seen}
use Rattle.slot_evidence.specs.TwoNumbers.{least_of, past_of, seen_between}

-- how far symbols reach at a place: the least one, 128 for none, and the number after the greatest, 0 for none
pub record Reach : Type 0 where
  pub least : ℕ
  pub past : ℕ

-- no symbol
abbrev pub no_reach : Reach
no_reach = record { least = 128; past = 0 }

-- how far the symbols of both reach
abbrev pub united : Reach → Reach → Reach
united a b = record { least = min a.least b.least; past = max a.past b.past }

-- how far the symbols reach that a sheet keeps of a place
abbrev pub reach_of : Seen → Reach
reach_of seen = record { least = least_of seen; past = past_of seen }

-- what a sheet keeps of symbols that reach so far
abbrev pub kept_of : Reach → Seen
kept_of reach = seen_between reach.least reach.past

-- what a seat knows of a place: what it posted, what it posted or loaded, and how often it loaded the greatest word and
-- the least word
pub record Place : Type 0 where
  pub given : Reach
  pub seen : Reach
  pub loads : ℕ
  pub lows : ℕ

-- nothing was posted or loaded
abbrev pub blank : Place
blank = record { given = no_reach; seen = no_reach; loads = 0; lows = 0 }

-- what a seat knows: its share of the board, and each of 64 places
pub record View : Type 0 where
  pub share : ℕ
  pub places : List Place

-- what it knows of a place
abbrev pub place_at : View → ℕ → Place
place_at view p = slice_index_or view.places p blank

-- 64 blank places
unfoldable pub blanks : List Place
blanks = replicate 64 blank

-- a share, and nothing posted or loaded
abbrev pub fresh : ℕ → View
fresh share = record { share = share; places = blanks }

-- the view of a seat that was joined into another
abbrev pub spent : View
spent = fresh 0

-- the sheet of what a seat posted
abbrev pub given_sheet : View → List Seen
given_sheet view = map (λ place. kept_of place.given) view.places

-- the sheet of what it posted or loaded
abbrev pub seen_sheet : View → List Seen
seen_sheet view = map (λ place. kept_of place.seen) view.places
