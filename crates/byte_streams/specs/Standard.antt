-- Readers and writers of the system as sources and sinks: this project's profile.
use Rattle.std.specs.Prelude.{ℕ, List, Option, None}

-- a stream of the system, and how often it has failed
pub record Port (S : Type 0) : Type 0 where
  pub stream : S
  pub faults : ℕ

-- what contracts see of the bytes of these sources and sinks: nothing
abbrev pub untold : Option (List ℕ)
untold = None
