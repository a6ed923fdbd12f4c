-- All facts: this project's profile.
use Rattle.std.specs.Prelude.{ℕ, List, map}
use Rattle.std.specs.List.{flat_map, range_with_len}

-- every place below 64 with every symbol below 128
unfoldable pub all_facts : List (ℕ × ℕ)
all_facts = flat_map (λ p. map (λ v. (p, v)) (range_with_len 0 128)) (range_with_len 0 64)
