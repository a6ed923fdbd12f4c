-- The answer to a set of facts: this project's profile, over the calls of ITU-R M.493.
use Rattle.std.specs.Prelude.{◌≡◌, ℕ, Bool, true, false, ◌||◌, ◌==◌, ◌⊎◌, ◌-◌, List, length, drop}
use Rattle.dsc_symbols.specs.declared.formats.TheConstants.{DISTRESS, ALL_SHIPS}
use Rattle.call_values.specs.declared.calls.Call.{Call}
use Rattle.call_values.specs.Calls.{IsCall}
use Rattle.call_grammar.specs.Spelling.{through_check, check_of}
use Rattle.call_grammar.specs.Walk.{IsAtCheck}
use Rattle.dsc_symbols.specs.Formats.{IsFormat}
use Rattle.slot_evidence.specs.declared.places.Seen.{Seen}
use Rattle.slot_evidence.specs.declared.places.Seen.TheVariants as seen
use Rattle.slot_evidence.specs.Facts.{Facts}
use Rattle.slot_evidence.specs.Seen.{IsSeen, ShowsNone}
use Rattle.slot_join.specs.declared.joined.Joined.{Joined}
use Rattle.slot_join.specs.declared.joined.Joined.TheVariants.{Reported, Missing, Differ, Outside, Check}
use Rattle.slot_join.specs.declared.joined.Extra.{Extra}
use Rattle.slot_join.specs.Shown.{head_of, IsShown, IsShownLate, IsLongest}
use Rattle.slot_join.specs.Extra.{Follows}

-- a call is shown up to its error check character, and the answer has what follows it
pub record IsReported (F : Facts) (answer : Joined) : Type 0 where
  pub call : Call
  pub extra : Extra
  pub lawful : IsCall call
  pub shown : IsShown F (through_check call)
  pub follows : Follows F call extra
  pub answer_is : answer ≡ Reported call extra

-- the answer where no call goes on with the one symbol that the place after the longest list showed: if the list ends
-- with a late end of sequence, that may be noise, and its place is missing
abbrev pub StopsAt : Facts → List ℕ → ℕ → Joined → Type 0
StopsAt F list v answer =
    (IsShownLate F list × (answer ≡ Missing (length list - 1)))
    ⊎ ((IsShownLate F list → ⊥) × IsAtCheck list × (answer ≡ Check (length list) (check_of (drop 1 list)) v))
    ⊎ ((IsShownLate F list → ⊥) × (IsAtCheck list → ⊥) × (answer ≡ Outside (length list) v))

-- the answer by what the place after the longest list showed: nothing, several symbols, or one
abbrev pub StopsWith : Facts → List ℕ → Seen → Joined → Type 0
StopsWith F list seen.None answer = answer ≡ Missing (length list)
StopsWith F list (seen.Differ least greatest) answer = answer ≡ Differ (length list) least greatest
StopsWith F list (seen.One v) answer = StopsAt F list v answer

-- no call is shown up to its error check character, and so the answer names the place after the longest list, or that
-- of the late end of sequence with which this list ends
pub record IsStopped (F : Facts) (answer : Joined) : Type 0 where
  pub list : List ℕ
  pub unreported : (call : Call) → IsCall call → IsShown F (through_check call) → ⊥
  pub longest : IsLongest F list
  pub here : Seen
  pub seen : IsSeen (F (length list)) here
  pub stops : StopsWith F list here answer

-- distress alerts and calls to all ships count only where both places of the format specifier showed it
abbrev pub needs_both : ℕ → Bool
needs_both format = format == DISTRESS || format == ALL_SHIPS

-- a format specifier that its places showed often enough
pub record HasFormat (F : Facts) (format : ℕ) : Type 0 where
  pub is_one : IsFormat format
  pub first : needs_both format ≡ true → ShowsNone (F 0) → ⊥
  pub second : needs_both format ≡ true → ShowsNone (F 1) → ⊥

-- the answer where the two places of the format specifier showed one symbol: the first line that fits
abbrev pub BehindFormat : Facts → ℕ → Joined → Type 0
BehindFormat F format answer =
    ((IsFormat format → ⊥) × (answer ≡ Outside 0 format))
    ⊎ (IsFormat format × (needs_both format ≡ true) × ShowsNone (F 0) × (answer ≡ Missing 0))
    ⊎ (IsFormat format × (needs_both format ≡ true) × (ShowsNone (F 0) → ⊥) × ShowsNone (F 1) × (answer ≡ Missing 1))
    ⊎ (HasFormat F format × (IsReported F answer ⊎ IsStopped F answer))

-- the answer by what the two places of the format specifier showed
abbrev pub BehindHead : Facts → Seen → Joined → Type 0
BehindHead F seen.None answer = answer ≡ Missing 0
BehindHead F (seen.Differ least greatest) answer = answer ≡ Differ 0 least greatest
BehindHead F (seen.One format) answer = BehindFormat F format answer

-- the answer to a set of facts
pub record IsAnswer (F : Facts) (answer : Joined) : Type 0 where
  pub head : Seen
  pub seen : IsSeen (head_of F) head
  pub answers : BehindHead F head answer

-- a call was reported
abbrev pub is_reported : Joined → Bool
is_reported (Reported call extra) = true
is_reported (Missing n) = false
is_reported (Differ n least greatest) = false
is_reported (Outside n symbol) = false
is_reported (Check n want got) = false
