-- Sources and sinks in memory that never fail: this project's profile.
use Rattle.std.specs.Prelude.{ℕ, ◌+◌, List, ◌++◌, length, take, Bool, ◌&&◌, nat_le, Option, Some, None, if◌then◌else◌}

-- how often they have failed
abbrev pub no_faults : ℕ
no_faults = 0

-- the bytes that are left of a source, and how many of them a read gives at most
pub record Supply : Type 0 where
  pub left : List ℕ
  pub piece : ℕ

-- the bytes that a sink has kept, how many it keeps at most, whether it has kept all that was written,
-- how many it takes at once, and how many are flushed
pub record Store : Type 0 where
  pub kept : List ℕ
  pub room : ℕ
  pub whole : Bool
  pub piece : ℕ
  pub flushed : ℕ

-- contracts see a sink's bytes while it has kept all
abbrev pub told : Store → Option (List ℕ)
told s = if s.whole then Some s.kept else None

-- the sink after it took these bytes: it keeps what fits into its room
abbrev pub stored : Store → List ℕ → Store
stored s bytes = record s {
  kept = take s.room (s.kept ++ bytes);
  whole = s.whole && nat_le (length s.kept + length bytes) s.room;
}
