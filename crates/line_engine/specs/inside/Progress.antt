-- A run in its midst: this project's profile.
use Rattle.std.specs.Prelude.{◌≡◌, ◌≢◌, ℕ, ◌+◌, ◌<◌, ◌≤◌, List, [], ◌∷◌, ◌++◌, length, Option}
use Rattle.byte_streams.specs.Streams.{Loses, Gains, Rises, IsEnded}
use Rattle.line_engine.specs.declared.bounds.TheConstants.{MOST_LINES, LONGEST_LINE, MOST_TAKEN}
use Rattle.line_engine.specs.declared.faults.Fault.{Fault}
use Rattle.line_engine.specs.declared.faults.Fault.TheVariants.{TooManyLines, TooLong, Column, TooManyGroups}
use Rattle.line_engine.specs.declared.faults.FirstFault.{FirstFault}
use Rattle.line_engine.specs.declared.halts.Halt.{Halt}
use Rattle.line_engine.specs.declared.halts.Halt.TheVariants as halt
use Rattle.line_engine.specs.Lines.{Lines, lines_of, IsCutInto}
use Rattle.line_engine.specs.Meaning.{Meaning}
use Rattle.line_engine.specs.Faults.{IsFault, IsFaultless}
use Rattle.line_engine.specs.Endings.{IsRest, WritesFront}

-- this text was appended to a sink without a fault; a sink to which nothing was appended wasn't touched
pub record HasWritten {Sink : Type 0} (written : Sink → Option (List ℕ)) (faults : Sink → ℕ) (start sink : Sink) (text : List ℕ) : Type 0 where
  pub gained : Gains (written start) (written sink) text
  pub sound : faults sink ≡ faults start
  pub idle : text ≡ [] → sink ≡ start

-- the sink failed while it took this text
pub record Fails {Sink : Type 0} (written : Sink → Option (List ℕ)) (faults : Sink → ℕ) (start sink : Sink) (text : List ℕ) : Type 0 where
  pub writes : WritesFront (written start) (written sink) text
  pub rises : Rises (faults start) (faults sink)

-- the lines of the bytes that were taken, but for those that are left, were given to the command, none has a fault, and
-- the sink has their text but for what is pending
pub record IsOn {Command Sink : Type 0} (meaning : Meaning) (stands_for : Command → Lines → List ℕ → Type 0) (written : Sink → Option (List ℕ)) (faults : Sink → ℕ)
    (start : Sink) (taken left : List ℕ) (count : ℕ) (command : Command) (pending : List ℕ) (sink : Sink) : Type 0 where
  pub lines : Lines
  pub text : List ℕ
  pub goes_on : (more : List ℕ) → lines_of (taken ++ more) ≡ lines ++ lines_of (left ++ more)
  pub count_is : count ≡ length lines
  pub faultless : IsFaultless meaning lines
  pub stands : stands_for command lines (text ++ pending)
  pub wrote : HasWritten written faults start sink text

-- the last line was given to the command too
pub record IsThrough {Command Sink : Type 0} (meaning : Meaning) (stands_for : Command → Lines → List ℕ → Type 0) (written : Sink → Option (List ℕ)) (faults : Sink → ℕ)
    (start : Sink) (taken : List ℕ) (command : Command) (pending : List ℕ) (sink : Sink) : Type 0 where
  pub text : List ℕ
  pub few : length (lines_of taken) ≤ MOST_LINES
  pub faultless : IsFaultless meaning (lines_of taken)
  pub stands : stands_for command (lines_of taken) (text ++ pending)
  pub wrote : HasWritten written faults start sink text

-- the line after these has this fault
pub record IsNextFault (meaning : Meaning) (all lines : Lines) (fault : Fault) : Type 0 where
  pub line : List ℕ
  pub later : Lines
  pub list : all ≡ lines ++ line ∷ later
  pub is_fault : IsFault meaning lines line fault

-- the line at which a run stopped has this fault, whatever is left of the input
pub record StopsAtFault {Sink : Type 0} (meaning : Meaning) (written : Sink → Option (List ℕ)) (faults : Sink → ℕ) (start : Sink) (left : Option (List ℕ))
    (taken pending : List ℕ) (sink : Sink) (first : FirstFault) : Type 0 where
  pub lines : Lines
  pub text : List ℕ
  pub line_is : first.line ≡ length lines + 1
  pub faultless : IsFaultless meaning lines
  pub gives : meaning.Gives lines (text ++ pending)
  pub wrote : HasWritten written faults start sink text
  pub next : (rest : List ℕ) → IsRest left rest → IsNextFault meaning (lines_of (taken ++ rest)) lines first.fault

-- these are first lines of the input, whatever is left of it
abbrev pub AreFirst : Option (List ℕ) → List ℕ → Lines → Type 0
AreFirst left taken lines = (rest : List ℕ) → IsRest left rest → (later : Lines) × (lines_of (taken ++ rest) ≡ lines ++ later)

-- the sink failed while it took what lines so far gave
pub record StopsInWrite {Sink : Type 0} (meaning : Meaning) (written : Sink → Option (List ℕ)) (faults : Sink → ℕ) (start : Sink) (left : Option (List ℕ))
    (taken : List ℕ) (sink : Sink) : Type 0 where
  pub lines : Lines
  pub text : List ℕ
  pub some : text ≢ []
  pub first : AreFirst left taken lines
  pub faultless : IsFaultless meaning lines
  pub gives : meaning.Gives lines text
  pub fails : Fails written faults start sink text

-- there was no memory when a front of what lines so far gave had been written
pub record StopsInMemory {Sink : Type 0} (meaning : Meaning) (written : Sink → Option (List ℕ)) (faults : Sink → ℕ) (start : Sink) (left : Option (List ℕ))
    (taken : List ℕ) (sink : Sink) : Type 0 where
  pub lines : Lines
  pub text : List ℕ
  pub back : List ℕ
  pub first : AreFirst left taken lines
  pub faultless : IsFaultless meaning lines
  pub gives : meaning.Gives lines (text ++ back)
  pub wrote : HasWritten written faults start sink text

-- the source failed when exactly what the lines so far gave had been written
pub record StopsInRead {Sink : Type 0} (meaning : Meaning) (written : Sink → Option (List ℕ)) (faults : Sink → ℕ) (start : Sink) (taken : List ℕ) (sink : Sink) : Type 0 where
  pub lines : Lines
  pub text : List ℕ
  pub end : List ℕ
  pub cut : IsCutInto taken lines end
  pub faultless : IsFaultless meaning lines
  pub gives : meaning.Gives lines text
  pub wrote : HasWritten written faults start sink text

-- why a run stopped between two reads, and what it leaves
abbrev pub Stops : {Sink : Type 0} (meaning : Meaning) (written : Sink → Option (List ℕ)) (faults : Sink → ℕ) (start : Sink) (left : Option (List ℕ))
    (taken pending : List ℕ) (sink : Sink) → Halt → Type 0
Stops meaning written faults start left taken pending sink (halt.Fault first) = StopsAtFault meaning written faults start left taken pending sink first
Stops meaning written faults start left taken pending sink halt.Read = ⊥
Stops meaning written faults start left taken pending sink halt.Write = StopsInWrite meaning written faults start left taken sink
Stops meaning written faults start left taken pending sink halt.Memory = StopsInMemory meaning written faults start left taken sink

-- why a run stopped, and what it leaves
abbrev pub StopsOrFails : {Sink : Type 0} (meaning : Meaning) (written : Sink → Option (List ℕ)) (faults : Sink → ℕ) (start : Sink) (left : Option (List ℕ))
    (taken pending : List ℕ) (sink : Sink) → Halt → Type 0
StopsOrFails meaning written faults start left taken pending sink (halt.Fault first) = StopsAtFault meaning written faults start left taken pending sink first
StopsOrFails meaning written faults start left taken pending sink halt.Read = StopsInRead meaning written faults start taken sink
StopsOrFails meaning written faults start left taken pending sink halt.Write = StopsInWrite meaning written faults start left taken sink
StopsOrFails meaning written faults start left taken pending sink halt.Memory = StopsInMemory meaning written faults start left taken sink

-- a line after so many lines, which has so many bytes, passes a limit
abbrev pub IsLimitPassed : (count len : ℕ) → Fault → Type 0
IsLimitPassed count len TooManyLines = MOST_LINES ≤ count
IsLimitPassed count len TooLong = (count < MOST_LINES) × (LONGEST_LINE < len)
IsLimitPassed count len (Column n) = ⊥
IsLimitPassed count len TooManyGroups = ⊥

-- such a line stopped the run
abbrev pub PassesLimit : (count len : ℕ) → Halt → Type 0
PassesLimit count len (halt.Fault first) = (first.line ≡ count + 1) × IsLimitPassed count len first.fault
PassesLimit count len halt.Read = ⊥
PassesLimit count len halt.Write = ⊥
PassesLimit count len halt.Memory = ⊥

-- one line stopped the run: by its fault, or for want of memory
abbrev pub StopsAtLine : (meaning : Meaning) (lines : Lines) (line before after : List ℕ) → Halt → Type 0
StopsAtLine meaning lines line before after (halt.Fault first) = (first.line ≡ length lines + 1) × IsFault meaning lines line first.fault × (after ≡ before)
StopsAtLine meaning lines line before after halt.Read = ⊥
StopsAtLine meaning lines line before after halt.Write = ⊥
StopsAtLine meaning lines line before after halt.Memory = Unit {0}

-- a command stands for so many lines, and what is pending is the end of their text
pub record IsCounted {Command : Type 0} (stands_for : Command → Lines → List ℕ → Type 0) (command : Command) (pending : List ℕ) (count : ℕ) : Type 0 where
  pub lines : Lines
  pub written : List ℕ
  pub stands : stands_for command lines (written ++ pending)
  pub count_is : count ≡ length lines

-- a command was given some lines more, none of which has a fault
pub record TakesLines {Command : Type 0} (meaning : Meaning) (stands_for : Command → Lines → List ℕ → Type 0) (lines more : Lines) (command : Command) (text : List ℕ) : Type 0 where
  pub few : length (lines ++ more) ≤ MOST_LINES
  pub faultless : IsFaultless meaning lines → IsFaultless meaning (lines ++ more)
  pub stands : stands_for command (lines ++ more) text

-- the sink failed while it took what was pending
abbrev pub PendingFails : {Sink : Type 0} (written : Sink → Option (List ℕ)) (faults : Sink → ℕ) (old new : Sink) (pending : List ℕ) → Halt → Type 0
PendingFails written faults old new pending (halt.Fault first) = ⊥
PendingFails written faults old new pending halt.Read = ⊥
PendingFails {Sink} written faults old new pending halt.Write = (pending ≢ []) × ((start : Sink) (text : List ℕ) → HasWritten written faults start old text → Fails written faults start new (text ++ pending))
PendingFails written faults old new pending halt.Memory = ⊥

-- a source was read to its end, and all its lines were given to the command
pub record RunsThrough {Command Sink : Type 0} (meaning : Meaning) (stands_for : Command → Lines → List ℕ → Type 0) (written : Sink → Option (List ℕ)) (faults : Sink → ℕ)
    (left_before left_after : Option (List ℕ)) (start : Sink) (command : Command) (pending : List ℕ) (sink : Sink) : Type 0 where
  pub taken : List ℕ
  pub lost : Loses left_before left_after taken
  pub within : length taken ≤ MOST_TAKEN
  pub ended : IsEnded left_after
  pub through : IsThrough meaning stands_for written faults start taken command pending sink

-- a run stopped before the end of its source
pub record RunsInto {Sink : Type 0} (meaning : Meaning) (written : Sink → Option (List ℕ)) (faults : Sink → ℕ)
    (left_before left_after : Option (List ℕ)) (start : Sink) (pending : List ℕ) (sink : Sink) (halt : Halt) : Type 0 where
  pub taken : List ℕ
  pub lost : Loses left_before left_after taken
  pub within : length taken ≤ MOST_TAKEN
  pub stops : StopsOrFails meaning written faults start left_after taken pending sink halt
