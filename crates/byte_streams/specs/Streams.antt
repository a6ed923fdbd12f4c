-- What a source loses and a sink gains: this project's profile.
use Rattle.std.specs.Prelude.{◌≡◌, ℕ, ◌+◌, ◌-◌, ◌^◌, ◌<◌, min, List, [], ◌++◌, length, Option, Some, None, Result, MatchResult, take, ◌⊎◌}

-- the source lost these bytes from the front of what was left, where contracts see its bytes; bytes that they don't see
-- stay unseen
abbrev pub Loses : Option (List ℕ) → Option (List ℕ) → List ℕ → Type 0
Loses (Some all) (Some rest) bytes = all ≡ bytes ++ rest
Loses None (Some _) _ = ⊥
Loses _ None _ = Unit {0}

-- the sink gained these bytes after what was written, where contracts see its bytes; bytes that they don't see stay
-- unseen
abbrev pub Gains : Option (List ℕ) → Option (List ℕ) → List ℕ → Type 0
Gains (Some old) (Some new) bytes = new ≡ old ++ bytes
Gains None (Some _) _ = ⊥
Gains _ None _ = Unit {0}

-- a read took the n bytes that it gave at `Ok(n)`, and none at `Err`
abbrev pub ReadLoses : {E : Type 0} → Option (List ℕ) → Option (List ℕ) → Result ℕ E → List ℕ → Type 0
ReadLoses old new result bytes = MatchResult result (λ n. Loses old new (take n bytes)) (λ _. Loses old new [])

-- a write put the n bytes that it took at `Ok(n)`, and none at `Err`
abbrev pub WriteGains : {E : Type 0} → Option (List ℕ) → Option (List ℕ) → Result ℕ E → List ℕ → Type 0
WriteGains old new result piece = MatchResult result (λ n. Gains old new (take n piece)) (λ _. Gains old new [])

-- no byte is left, where contracts see them
abbrev pub IsEnded : Option (List ℕ) → Type 0
IsEnded left = (rest : List ℕ) → left ≡ Some rest → rest ≡ []

-- every byte that was written is flushed, where contracts see them
abbrev pub IsFlushed : Option (List ℕ) → ℕ → Type 0
IsFlushed written flushed = (bytes : List ℕ) → written ≡ Some bytes → flushed ≡ length bytes

-- contracts see a stream's bytes now only where they saw them before
abbrev pub SeenBefore : Option (List ℕ) → Option (List ℕ) → Type 0
SeenBefore old new = (bytes : List ℕ) → new ≡ Some bytes → (before : List ℕ) × (old ≡ Some before)

-- a count of faults has risen; one that is at its last value stays there
abbrev pub Rises : ℕ → ℕ → Type 0
Rises old new = (old < new) ⊎ ((old ≡ 2 ^ 64 - 1) × (new ≡ 2 ^ 64 - 1))

-- a count of faults stays at `Ok`, and has risen at `Err`
abbrev pub RisesOnErr : {T E : Type 0} → ℕ → ℕ → Result T E → Type 0
RisesOnErr old new result = MatchResult result (λ _. new ≡ old) (λ _. Rises old new)

-- the next value of a count of 64 bits, which stays at its last
abbrev pub next : ℕ → ℕ
next count = min (count + 1) (2 ^ 64 - 1)
