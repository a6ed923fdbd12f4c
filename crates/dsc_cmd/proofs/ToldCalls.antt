-- Where all receptions of a group are of one call, no other call is told.
use Rattle.std.proofs.Common.{◌≡◌, ℕ, suc, ◌<◌, ◌≤◌, true, List, [], ◌∷◌, ◌++◌, length, get_or, All, subst, inl, inr, arith}
use Rattle.std.specs.List.{list_any}
use Rattle.std.proofs.lemmas.Bool.{or_cases}
use Rattle.ten_unit.specs.declared.character.Element.{Element}
use Rattle.call_values.specs.declared.calls.Call.{Call}
use Rattle.call_values.specs.Calls.{IsCall}
use Rattle.call_grammar.specs.Spelling.{spell, through_check}
use Rattle.slot_evidence.specs.Facts.{Facts, facts_of, facts_of_all}
use Rattle.slot_evidence.specs.Alike.{AreAlike}
use Rattle.slot_join.specs.Heard.{IsHeard}
use Rattle.slot_join.specs.OneCall.{ShowsNoOther}
use Rattle.live_watch.specs.Told.{IsTold}
use Rattle.input_lines.specs.ReceiverLine.{ReceiverLine}
use Rattle.join_groups.specs.Groups.{group_facts}
use Rattle.watch_groups.specs.declared.telling.ToldCall.{ToldCall}
use Rattle.watch_groups.specs.Telling.{AreTold}
use Rattle.dsc_cmd.specs.Heard.{IsOfCall}
use Rattle.dsc_cmd.specs.ToldSent.{TellsNoOther}
use Rattle.dsc_cmd.proofs.Behind as behind

-- a reception of a call shows no other symbols than the call's
abbrev pub HeardLaw : Type 0
HeardLaw = (call : Call) (tail : List ℕ) (reception : List Element) → IsCall call → IsHeard reception (spell call ++ tail) → ShowsNoOther (facts_of reception) (through_check call)

-- where no other symbols than a call's are shown, no other call may be told
abbrev pub ToldLaw : Type 0
ToldLaw = (F : Facts) (call told : Call) → IsCall call → ShowsNoOther F (through_check call) → IsTold F told → told ≡ call

pub record Laws : Type 0 where
  pub sets : behind.Laws
  pub heard : HeardLaw
  pub told : ToldLaw

-- nothing else is between a symbol and itself
between_itself : (low v high only : ℕ) → low ≡ only → high ≡ only → low ≤ v → v ≤ high → v ≡ only
between_itself low v high only a b c d = omega arith

no_other_alike : (F G : Facts) (list : List ℕ) → ((p : ℕ) → AreAlike (F p) (G p)) → ShowsNoOther G list → ShowsNoOther F list
no_other_alike F G list alike only p v below has =
    let between = (alike p).forth v has in
    between_itself between.low v between.high (get_or list p 0) (only p between.low below between.has_low) (only p between.high below between.has_high) between.above between.below

module _ (laws : Laws) (call : Call) (tail : List ℕ) (lawful : IsCall call) where
  any_no_other : (receptions : List (List Element)) (p v : ℕ) → All (λ reception. IsHeard reception (spell call ++ tail)) receptions → p < length (through_check call)
      → list_any (λ e. facts_of e p v) receptions ≡ true → v ≡ get_or (through_check call) p 0
  any_no_other [] p v heard below has = absurd (cc)
  any_no_other (e ∷ receptions) p v heard below has = elim (or_cases (facts_of e p v) (list_any (λ x. facts_of x p v) receptions) has) [
    | inl here ↦ laws.heard call tail e lawful (heard 0 e (omega arith)) p v below here
    | inr there ↦ any_no_other receptions p v (λ k d inside. heard (suc k) d (omega (arith, inside))) below there
  ]

  -- receptions of the call show no other symbols together
  all_no_other : (receptions : List (List Element)) → All (λ reception. IsHeard reception (spell call ++ tail)) receptions → ShowsNoOther (facts_of_all receptions) (through_check call)
  unfolding facts_of_all
  all_no_other receptions heard p v below has = any_no_other receptions p v heard below has

-- the facts of a group whose receptions are of one call show no other symbols
group_no_other : Laws → (said : List ReceiverLine) (k : ℕ) (call : Call) (tail : List ℕ) (receptions : List (List Element)) → IsOfCall said k call tail receptions
    → ShowsNoOther (group_facts said k) (through_check call)
group_no_other laws said k call tail receptions of =
    no_other_alike (group_facts said k) (facts_of_all receptions) (through_check call) (behind.behind_alike laws.sets k said receptions of.behind)
    (all_no_other laws call tail of.lawful receptions of.heard)

-- so no other call may be told of it
pub tells_no_other : Laws → (said : List ReceiverLine) (told : List ToldCall) → AreTold said told → TellsNoOther said told
tells_no_other laws said [] are k call tail receptions of = tt
tells_no_other laws said (one ∷ told) are k call tail receptions of = (
  λ same.
      laws.told (group_facts said k) call one.call of.lawful (group_no_other laws said k call tail receptions of)
      (subst (λ (n : ℕ). IsTold (group_facts said n) one.call) same are.0.call),
  tells_no_other laws said told are.2 k call tail receptions of,
)
