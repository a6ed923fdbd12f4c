-- What a told call rests on, and the call that news carry. This project's own form.
use Rattle.std.specs.Prelude.{◌≡◌, ℕ, List, Option, Some, None}
use Rattle.call_values.specs.declared.calls.Call.{Call}
use Rattle.slot_evidence.specs.declared.places.Seen.{Seen}
use Rattle.slot_evidence.specs.Facts.{Facts}
use Rattle.slot_evidence.specs.Allowed.{OnlyAllowed}
use Rattle.slot_join.specs.Answer.{IsAnswer}
use Rattle.slot_join.specs.declared.joined.Joined.{Joined}
use Rattle.slot_join.specs.declared.joined.Joined.TheVariants.{Reported}
use Rattle.slot_join.specs.declared.joined.Extra.{Extra}
use Rattle.live_watch.specs.declared.watchers.News.{News}
use Rattle.live_watch.specs.declared.watchers.News.TheVariants as news
use Rattle.live_watch.specs.Watching.{Reports}

-- a sheet of symbols that may be posted reports the call
pub record IsReportedOn (facts : List (ℕ × ℕ)) (call : Call) : Type 0 where
  pub sheet : List Seen
  pub allowed : OnlyAllowed facts sheet
  pub reports : Reports sheet call

-- a call that was told is reported by such a sheet
abbrev pub IsToldOn : List (ℕ × ℕ) → Option Call → Type 0
IsToldOn facts None = Unit {0}
IsToldOn facts (Some call) = IsReportedOn facts call

-- the call that news carry
abbrev pub call_in : News → Option Call
call_in (news.Same call) = Some call
call_in (news.New call) = Some call
call_in (news.Not joined) = None

-- the news of this answer, where no call was told before
abbrev pub IsFirst : Joined → News → Type 0
IsFirst joined (news.Same call) = ⊥
IsFirst joined (news.New call) = (extra : Extra) × (joined ≡ Reported call extra)
IsFirst joined (news.Not other) = (other ≡ joined) × ((call : Call) (extra : Extra) → joined ≡ Reported call extra → ⊥)

-- where no call is told, these facts report none
abbrev pub IsUnreported : Facts → Option Call → Type 0
IsUnreported F None = (call : Call) (extra : Extra) → IsAnswer F (Reported call extra) → ⊥
IsUnreported F (Some call) = Unit {0}
