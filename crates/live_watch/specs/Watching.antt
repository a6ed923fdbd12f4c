-- A watcher and its news: this project's profile.
use Rattle.std.specs.Prelude.{◌≡◌, ℕ, ◌<◌, List, Option, Some, None, length}
use Rattle.call_values.specs.declared.calls.Call.{Call}
use Rattle.call_grammar.specs.Spelling.{through_check}
use Rattle.slot_evidence.specs.declared.places.Seen.{Seen}
use Rattle.slot_evidence.specs.Sheet.{facts_in}
use Rattle.slot_join.specs.declared.joined.Joined.TheVariants.{Reported}
use Rattle.slot_join.specs.declared.joined.Extra.{Extra}
use Rattle.slot_join.specs.Answer.{IsAnswer}
use Rattle.slot_join.specs.OneCall.{IsMissing}
use Rattle.evidence_board.specs.Seats.{Held}
use Rattle.evidence_board.specs.Views.{View, place_at}
use Rattle.live_watch.specs.declared.watchers.News.{News}
use Rattle.live_watch.specs.declared.watchers.News.TheVariants as news

-- a watcher: its seat, and the call that it told, if any
pub record Watched : Type 0 where
  pub seat : Held
  pub told : Option Call

-- the sheet reports this call
pub record Reports (sheet : List Seen) (call : Call) : Type 0 where
  pub extra : Extra
  pub answer : IsAnswer (facts_in sheet) (Reported call extra)

-- the news of a look with this sheet: the call that was told before; or the first that a sheet reports, which is told
-- from then on; or, where none is told, the answer of the sheet, which reports none
abbrev pub IsNews : List Seen → (before after : Option Call) → News → Type 0
IsNews sheet before after (news.Same call) = (before ≡ Some call) × (after ≡ Some call)
IsNews sheet before after (news.New call) = (before ≡ None) × (after ≡ Some call) × Reports sheet call
IsNews sheet before after (news.Not joined) =
    (before ≡ None) × (after ≡ None) × IsAnswer (facts_in sheet) joined × ((call : Call) → Reports sheet call → ⊥)

-- the news carry this call, or name as missing a place of it that the sheet says nothing of
abbrev pub IsNewsOf : Call → List Seen → News → Type 0
IsNewsOf call sheet (news.Same told) = told ≡ call
IsNewsOf call sheet (news.New told) = told ≡ call
IsNewsOf call sheet (news.Not joined) = IsMissing (facts_in sheet) call joined

-- the news carry this call
abbrev pub CarriesCall : Call → News → Type 0
CarriesCall call (news.Same told) = told ≡ call
CarriesCall call (news.New told) = told ≡ call
CarriesCall call (news.Not joined) = ⊥

-- the seat posted or saw a symbol at each place of the call up to its error check character
abbrev pub SawCall : View → Call → Type 0
SawCall view call = (p : ℕ) → p < length (through_check call) → 0 < (place_at view p).seen.past
