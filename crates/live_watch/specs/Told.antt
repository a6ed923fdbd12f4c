-- A call that is told before all facts of a group are known: this project's profile, over the places of ITU-R M.493.
use Rattle.std.specs.Prelude.{◌≡◌, ℕ, ◌<◌, ◌≤◌, true, ◌⊎◌, List, Option, Some, None, length, slice_index}
use Rattle.call_values.specs.declared.calls.Call.{Call}
use Rattle.call_values.specs.Calls.{IsCall}
use Rattle.call_grammar.specs.Spelling.{format_of, through_check, end_of}
use Rattle.slot_evidence.specs.declared.places.Seen.{Seen}
use Rattle.slot_evidence.specs.Facts.{Facts}
use Rattle.slot_evidence.specs.Sheet.{IsEnds}
use Rattle.slot_join.specs.declared.joined.Joined.TheVariants.{Reported}
use Rattle.slot_join.specs.declared.joined.Extra.{Extra}
use Rattle.slot_join.specs.Shown.{head_of, late_of}
use Rattle.slot_join.specs.Answer.{IsAnswer}
use Rattle.slot_join.specs.OneCall.{IsEndPlace}

-- the place showed the call's symbol, perhaps beside others; or it is that of the first end of sequence, and those of
-- the second and the third showed it
abbrev pub IsShownAt : Facts → Call → ℕ → Type 0
IsShownAt F call p = (F p (slice_index (through_check call) p) ≡ true) ⊎ (IsEndPlace call p × (late_of F p (end_of call) ≡ true))

-- each place of a call, up to its error check character, showed its symbol; one of the two places of the format
-- specifier is enough
pub record IsTold (F : Facts) (call : Call) : Type 0 where
  pub lawful : IsCall call
  pub head : head_of F (format_of call) ≡ true
  pub places : (p : ℕ) → 2 ≤ p → p < length (through_check call) → IsShownAt F call p

-- what a watcher told of these facts once all of them were posted: a call whose symbols they show; or none, and then
-- they report none
abbrev pub IsWatched : Facts → Option Call → Type 0
IsWatched F None = (call : Call) (extra : Extra) → IsAnswer F (Reported call extra) → ⊥
IsWatched F (Some call) = IsTold F call

-- the call that facts report, or none where they report none
abbrev pub IsReport : Facts → Option Call → Type 0
IsReport F None = (call : Call) (extra : Extra) → IsAnswer F (Reported call extra) → ⊥
IsReport F (Some call) = (extra : Extra) × IsAnswer F (Reported call extra)

-- the same of any facts whose ends a sheet keeps
abbrev pub IsReportOf : List Seen → Option Call → Type 0
IsReportOf sheet call = (F : Facts) → IsEnds F sheet → IsReport F call

-- what is to be told of facts where this call was seen, or none: that call where they show it, and else the one that
-- they report, if any
abbrev pub IsToTell : Facts → Option Call → Option Call → Type 0
IsToTell F None told = IsReport F told
IsToTell F (Some call) told = (IsTold F call × (told ≡ Some call)) ⊎ ((IsTold F call → ⊥) × IsReport F told)
