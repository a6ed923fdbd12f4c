-- Facts of one call: this project's profile, over the places of ITU-R M.493.
use Rattle.std.specs.Prelude.{◌≡◌, ℕ, ◌+◌, ◌<◌, true, ◌⊎◌, ◌↔◌, List, ◌++◌, length, slice_index}
use Rattle.call_values.specs.declared.calls.Call.{Call}
use Rattle.call_grammar.specs.Spelling.{up_to_end, through_check, spell, end_of}
use Rattle.slot_evidence.specs.Facts.{Facts}
use Rattle.slot_evidence.specs.Seen.{ShowsNone}
use Rattle.slot_evidence.specs.Allowed.{IsAllowed}
use Rattle.slot_join.specs.declared.joined.Joined.{Joined}
use Rattle.slot_join.specs.declared.joined.Joined.TheVariants.{Reported, Missing}
use Rattle.slot_join.specs.declared.joined.Extra.{Extra}
use Rattle.slot_join.specs.Shown.{late_of}
use Rattle.slot_join.specs.Extra.{Follows}

-- a place of the list that showed a symbol showed that of the list and no other
abbrev pub ShowsNoOther : Facts → List ℕ → Type 0
ShowsNoOther F list = (p v : ℕ) → p < length list → F p v ≡ true → v ≡ slice_index list p

-- the first end of sequence of the call is at this place
abbrev pub IsEndPlace : Call → ℕ → Type 0
IsEndPlace call place = place + 1 ≡ length (up_to_end call)

-- the places of the second and the third end of sequence, where the first is at this place, showed no other symbol than
-- the call's
abbrev pub ShowsNoOtherEnd : Facts → Call → ℕ → Type 0
ShowsNoOtherEnd F call place = (v : ℕ) → late_of F place v ≡ true → v ≡ end_of call

-- the answer names as missing a place of the call, up to its error check character, that showed nothing; where it is
-- that of the first end of sequence, those of the second and the third showed nothing either, or another symbol than
-- the call's
pub record IsMissing (F : Facts) (call : Call) (answer : Joined) : Type 0 where
  pub place : ℕ
  pub inside : place < length (through_check call)
  pub blank : ShowsNone (F place)
  pub late : IsEndPlace call place → ShowsNoOtherEnd F call place → ShowsNone (late_of F place)
  pub answer_is : answer ≡ Missing place

-- the answer reports the call, and what follows it
pub record IsCallReported (F : Facts) (call : Call) (answer : Joined) : Type 0 where
  pub extra : Extra
  pub follows : Follows F call extra
  pub answer_is : answer ≡ Reported call extra

-- the call, or a place of it up to its error check character that showed nothing
abbrev pub IsCallOrMissing : Facts → Call → Joined → Type 0
IsCallOrMissing F call answer = IsCallReported F call answer ⊎ IsMissing F call answer

-- a list's transmission, with errors in one sense alone, may show this symbol at this place: the list's own at the
-- places of which both copies are sent, and any symbol at its last two places and past it
pub record MayShow (list : List ℕ) (p v : ℕ) : Type 0 where
  pub place : p < 64
  pub symbol : v < 128
  pub own : p + 2 < length list → v ≡ slice_index list p

-- the facts that may be posted are exactly those that a call with this tail may show
abbrev pub AreOneCalls : List (ℕ × ℕ) → Call → List ℕ → Type 0
AreOneCalls facts call tail = (p v : ℕ) → IsAllowed facts p v ↔ MayShow (spell call ++ tail) p v
