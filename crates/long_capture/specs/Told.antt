-- What is told of the starts of a stream: this project's profile.
use Rattle.std.specs.Prelude.{◌≡◌, ℕ, ◌+◌, ◌<◌, ◌≤◌, true, false, List, [], ◌∷◌, Option, Some, None, pos, ◌-ℤ◌}
use Rattle.ten_unit.specs.declared.character.Element.{Element}
use Rattle.phasing.specs.declared.reception.TheConstants.{LEAD_OF_FIRST}
use Rattle.phasing.specs.Origin.{is_phased}
use Rattle.slot_evidence.specs.Sheet.{IsEnds}
use Rattle.long_capture.specs.declared.starts.Start.{Start}
use Rattle.long_capture.specs.Starts.{facts_from}

-- this is the start at a lead: the lead is phased, the origin is 150 below it, and the sheet keeps the ends of the
-- facts there
pub record IsStart (e : List Element) (lead : ℕ) (start : Start) : Type 0 where
  pub phased : is_phased e lead ≡ true
  pub origin : start.at ≡ pos lead -ℤ pos LEAD_OF_FIRST
  pub ends : IsEnds (facts_from e lead) start.sheet

-- these are the starts at these leads, one for one and in their order
abbrev pub AreStarts : List Element → List ℕ → List Start → Type 0
AreStarts e [] [] = Unit {0}
AreStarts e (lead ∷ leads) (start ∷ list) = IsStart e lead start × AreStarts e leads list
AreStarts e _ _ = ⊥

-- no lead from one up to another is phased
pub record AreQuiet (e : List Element) (low high : ℕ) : Type 0 where
  pub rising : low ≤ high
  pub none : (lead : ℕ) → low ≤ lead → lead < high → is_phased e lead ≡ false

-- the lead below the second of two leads is a start, and from the first one on there is none before it
pub record IsNextStart (e : List Element) (low high : ℕ) (start : Start) : Type 0 where
  pub lead : ℕ
  pub last : high ≡ lead + 1
  pub quiet : AreQuiet e low lead
  pub is : IsStart e lead start

-- what an answer says of the leads from one up to another: that none is a start, or that the last of them alone is this
-- one
abbrev pub Tells : List Element → ℕ → ℕ → Option Start → Type 0
Tells e low high None = AreQuiet e low high
Tells e low high (Some start) = IsNextStart e low high start
