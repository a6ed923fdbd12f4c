-- What each kind of step changes in the view of the seat that makes it: this project's profile.
use Rattle.std.specs.Prelude.{ℕ, ◌+◌, ◌-◌, ◌/◌, min, max, List, [], ◌∷◌, map}
use Rattle.slot_evidence.specs.declared.places.Seen.{Seen}
use Rattle.evidence_board.specs.Views.{united, reach_of, Place, View}

-- a symbol was posted as a least one
abbrev pub posted_least : ℕ → Place → Place
posted_least v place = record place {
  given = record place.given { least = min place.given.least v };
  seen = record place.seen { least = min place.seen.least v };
}

-- a number was posted that comes after a greatest symbol
abbrev pub posted_past : ℕ → Place → Place
posted_past n place = record place {
  given = record place.given { past = max place.given.past n };
  seen = record place.seen { past = max place.seen.past n };
}

-- the least word was loaded
abbrev pub loaded_least : ℕ → Place → Place
loaded_least word place = record place {
  seen = record place.seen { least = word };
  lows = place.lows + 1;
}

-- the greatest word was loaded
abbrev pub loaded_past : ℕ → Place → Place
loaded_past word place = record place {
  seen = record place.seen { past = word };
  loads = place.loads + 1;
}

-- all that a sheet keeps of the place was posted
abbrev pub admitted : Seen → Place → Place
admitted seen place = record place { given = united place.given (reach_of seen); seen = united place.seen (reach_of seen) }

-- the same knowledge, and no count of loads
abbrev pub uncounted : Place → Place
uncounted place = record place { loads = 0; lows = 0 }

-- what two seats know of a place
abbrev pub joined : Place → Place → Place
joined a b = record {
  given = united a.given b.given;
  seen = united a.seen b.seen;
  loads = a.loads + b.loads;
  lows = a.lows + b.lows;
}

-- and of all places
abbrev pub joined_places : List Place → List Place → List Place
joined_places (a ∷ rest) (b ∷ others) = joined a b ∷ joined_places rest others
joined_places _ _ = []

-- a seat is split: it keeps its knowledge and the greater half of its share
abbrev pub kept_half : View → View
kept_half view = record { share = view.share - view.share / 2; places = view.places }

-- and a new seat has the same knowledge, the other half, and loaded nothing
abbrev pub new_half : View → View
new_half view = record { share = view.share / 2; places = map uncounted view.places }

-- a seat is joined into another
abbrev pub both : View → View → View
both a b = record { share = a.share + b.share; places = joined_places a.places b.places }
