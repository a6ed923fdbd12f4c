-- A call that is shown up to its check is reported.
use Rattle.std.proofs.Common.{◌≡◌, ◌⊎◌, ap, subst, ◌∙◌, inl, inr}
use Rattle.call_values.specs.declared.calls.Call.{Call}
use Rattle.call_values.specs.Calls.{IsCall}
use Rattle.call_grammar.specs.Spelling.{through_check, format_of}
use Rattle.slot_evidence.specs.declared.places.Seen.{Seen}
use Rattle.slot_evidence.specs.declared.places.Seen.TheVariants as seen
use Rattle.slot_evidence.specs.Facts.{Facts}
use Rattle.slot_evidence.specs.Seen.{ShowsOne}
use Rattle.slot_join.specs.declared.joined.Joined.{Joined}
use Rattle.slot_join.specs.declared.joined.Joined.TheVariants.{Reported}
use Rattle.slot_join.specs.Shown.{head_of, IsShown}
use Rattle.slot_join.specs.Extra.{Follows}
use Rattle.slot_join.specs.Answer.{HasFormat, IsAnswer, IsReported, IsStopped, BehindFormat, BehindHead}
use Rattle.slot_join.specs.OneCall.{IsCallReported}
use Rattle.slot_join.proofs.OneAnswer.{OneSeen, same_call}
use Rattle.slot_join.proofs.Stops.{FrontsDiffer}

-- the call that is reported is the one that is shown
module _ (differ : FrontsDiffer) (F : Facts) (c : Call) (answer : Joined) (lawful : IsCall c) (shown : IsShown F (through_check c)) (has : HasFormat F (format_of c)) where
  by_report : IsReported F answer → IsCallReported F c answer
  by_report r =
      let same : r.call ≡ c = same_call differ F r.call c r.lawful lawful r.shown shown in
      record {
        extra = r.extra;
        follows = subst (λ (d : Call). Follows F d r.extra) same r.follows;
        answer_is = r.answer_is ∙ ap (λ (d : Call). Reported d r.extra) same;
      }

  by_end : IsReported F answer ⊎ IsStopped F answer → IsCallReported F c answer
  by_end (inl r) = by_report r
  by_end (inr s) = absurd (s.unreported c lawful shown)

  by_format : BehindFormat F (format_of c) answer → IsCallReported F c answer
  by_format (inl x) = absurd (x.0 has.is_one)
  by_format (inr (inl x)) = absurd (has.first x.1 x.2)
  by_format (inr (inr (inl x))) = absurd (has.second x.1 x.3)
  by_format (inr (inr (inr x))) = by_end x.1

  pub shown_is_reported : OneSeen → ShowsOne (head_of F) (format_of c) → IsAnswer F answer → IsCallReported F c answer
  shown_is_reported one head a =
      let same : a.head ≡ seen.One (format_of c) = one (head_of F) a.head (seen.One (format_of c)) a.seen head in
      by_format (subst (λ (h : Seen). BehindHead F h answer) same a.answers)
