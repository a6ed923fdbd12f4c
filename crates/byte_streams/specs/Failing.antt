-- Sources and sinks in memory of which some calls fail: this project's profile.
use Rattle.std.specs.Prelude.{ℕ, List}

-- the bytes that are left of a source, how many a read gives at most, the numbers of the reads that
-- fail, how many reads there were, and how many of them failed
pub record FailingSupply : Type 0 where
  pub left : List ℕ
  pub piece : ℕ
  pub fail : List ℕ
  pub calls : ℕ
  pub faults : ℕ

-- the bytes that a sink has kept, how many it has room for, how many it takes at once, how many are
-- flushed, the numbers of the calls that fail, how many calls there were, and how many of them failed
pub record FailingStore : Type 0 where
  pub kept : List ℕ
  pub room : ℕ
  pub piece : ℕ
  pub flushed : ℕ
  pub fail : List ℕ
  pub calls : ℕ
  pub faults : ℕ
