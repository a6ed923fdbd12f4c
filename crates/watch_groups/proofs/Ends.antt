-- A watch stands for one line more, and ends.
use Rattle.std.proofs.Common.{◌≡◌, ◌⊎◌, ℕ, Bool, cond, List, [], ◌∷◌, ◌++◌, refl, sym, ap, subst, ◌∙◌, append_assoc, arith, true, inl, inr}
use Rattle.line_engine.specs.Lines.{Lines}
use Rattle.line_engine.specs.declared.command.Refusal.{Refusal}
use Rattle.line_engine.specs.declared.command.Refusal.TheVariants.{Memory, TooManyGroups}
use Rattle.line_engine.specs.Commands.{IsTakenBehind, IsRefusedBehind}
use Rattle.input_lines.specs.ReceiverLine.{ReceiverLine, IsLine}
use Rattle.join_groups.specs.declared.groups.NamedGroups.{NamedGroups}
use Rattle.join_groups.specs.Output.{TellsAnswer, IsGroupsText}
use Rattle.join_groups.specs.Meanings.{BringsTooMany}
use Rattle.join_groups.proofs.PublicLaws.{lines_push, same_said}
use Rattle.watch_groups.specs.declared.telling.ToldCall.{ToldCall}
use Rattle.watch_groups.specs.Telling.{told_text}
use Rattle.watch_groups.specs.Meaning.{EndsWatch, watch_meaning}
use Rattle.watch_groups.specs.inside.Kept.{Watches, StandsFor, LooksThrough}
use Rattle.live_watch.specs.Told.{IsTold}
use Rattle.call_values.specs.declared.calls.Call.{Call}
use Rattle.slot_evidence.specs.Facts.{Facts}
use Rattle.slot_join.specs.declared.joined.Joined.TheVariants.{Reported}
use Rattle.slot_join.specs.declared.joined.Extra.{Extra}
use Rattle.slot_join.specs.Answer.{IsAnswer}
use Rattle.join_groups.specs.Groups.{is_among, group_facts}
use Rattle.join_groups.specs.inside.Kept.{Keeps}
use Rattle.watch_groups.proofs.Calls.{none_shown, nothing_reported}
use Rattle.watch_groups.proofs.Batches.{no_end_at_first}
use Rattle.watch_groups.proofs.Kept.{all_done, after_pause}

-- a line says one thing
abbrev pub OneLine : Type 0
OneLine = (a b : ReceiverLine) (text : List ℕ) → IsLine a text → IsLine b text → a ≡ b

module _ {groups : NamedGroups} {named : List ℕ} {told : List ToldCall} {heard : ℕ} {lines : Lines} {text : List ℕ} (stands : StandsFor groups named told heard lines text) where
  pub stands_after : (line : ReceiverLine) (bytes : List ℕ) (new : NamedGroups) (more : List ℕ) (now : List ToldCall) (count : ℕ) (after : List ℕ) → IsLine line bytes → Watches new more now count (stands.said ++ line ∷ []) → after ≡ told_text now
      → StandsFor new more now count (lines ++ bytes ∷ []) after
  stands_after line bytes new more now count after is watches text_is = record {
    said = stands.said ++ line ∷ [];
    are_lines = lines_push stands.said lines line bytes stands.are_lines is;
    watches = watches;
    text_is = text_is;
  }

  pub taken_behind : OneLine → (line : ReceiverLine) (bytes : List ℕ) → IsLine line bytes → (BringsTooMany stands.said line → ⊥) → IsTakenBehind watch_meaning lines bytes
  taken_behind one line bytes is never = record {
    well_formed = λ n column. column.is_none line is;
    not_overfull = λ o.
        let said : o.said ≡ stands.said = same_said one o.said stands.said lines o.are_lines stands.are_lines in
        let same : o.line ≡ line = one o.line line bytes o.is_line is in
        never (subst (λ (l : ReceiverLine). BringsTooMany stands.said l) same (subst (λ (s : List ReceiverLine). BringsTooMany s o.line) said o.brings));
  }

  pub refused_behind : (line : ReceiverLine) (bytes : List ℕ) (refusal : Refusal) → IsLine line bytes → (refusal ≡ Memory) ⊎ ((refusal ≡ TooManyGroups) × BringsTooMany stands.said line) → IsRefusedBehind watch_meaning lines bytes refusal
  refused_behind line bytes refusal is (inl memory) = subst (λ (r : Refusal). IsRefusedBehind watch_meaning lines bytes r) (sym memory) tt
  refused_behind line bytes refusal is (inr full) = subst (λ (r : Refusal). IsRefusedBehind watch_meaning lines bytes r) (sym full.0)
      (λ n column. column.is_none line is, record { said = stands.said; are_lines = stands.are_lines; line = line; is_line = is; brings = full.1 })

module _ {groups : NamedGroups} {named : List ℕ} {told : List ToldCall} {heard : ℕ} {lines : Lines} (written out : List ℕ) (stands : StandsFor groups named told heard lines (written ++ out)) where
  pub ends_watch : (now : List ToldCall) (mid after answers : List ℕ) (is_well : Bool) (status : ℕ) → LooksThrough stands.said named [] told out now mid → after ≡ mid ++ answers
      → IsGroupsText TellsAnswer stands.said answers (cond is_well 0 1) → status ≡ cond is_well 0 1 → EndsWatch lines (written ++ after) status
  ends_watch now mid after answers is_well status looks is join same = record {
    said = stands.said;
    are_lines = stands.are_lines;
    told = now;
    are_told = looks.tells.are_told stands.watches.are_told;
    each_batch = λ n le ends k call extra answer. looks.tells.stays k (stands.watches.each_batch n le ends k call extra answer);
    at_end = all_done stands.said named told out now mid stands.watches.done looks;
    answers = answers;
    is_join = subst (IsGroupsText TellsAnswer stands.said answers) (sym same) join;
    text_is = ap (λ (l : List ℕ). written ++ l) is ∙ sym (append_assoc written mid answers) ∙ ap (λ (l : List ℕ). l ++ answers) (looks.tells.text written stands.text_is);
  }

-- a watch paused: it stands for the same lines
pub stands_paused : {groups : NamedGroups} {named : List ℕ} {told : List ToldCall} {heard : ℕ} {lines : Lines} (written out : List ℕ) (stands : StandsFor groups named told heard lines (written ++ out))
    → (new : NamedGroups) (more : List ℕ) (now : List ToldCall) (count : ℕ) (after : List ℕ) → more ≡ [] → count ≡ heard → Keeps new stands.said → LooksThrough stands.said named [] told out now after
    → StandsFor new more now count lines (written ++ after)
stands_paused {groups} {named} {told} {heard} {lines} written out stands new more now count after none same keeps looks = record {
  said = stands.said;
  are_lines = stands.are_lines;
  watches = subst (λ (n : List ℕ). Watches new n now count stands.said) (sym none)
      (subst (λ (h : ℕ). Watches new [] now h stands.said) (sym same) (after_pause groups new named told now heard stands.said out after stands.watches keeps looks));
  text_is = looks.tells.text written stands.text_is;
}

-- before the first line
never_named : {P : Type 0} (k : ℕ) → is_among [] k ≡ true → P
never_named k is = absurd cc

stands_empty : ((F : Facts) (call : Call) (extra : Extra) → IsAnswer F (Reported call extra) → IsTold F call) → (groups : NamedGroups) → Keeps groups [] → StandsFor groups [] [] 0 [] []
stands_empty answered groups keeps = record {
  said = [];
  are_lines = tt;
  watches = record {
    keeps = keeps;
    open_batch = record { batches = 0; count = omega arith; few = omega arith };
    are_told = tt;
    each_batch = λ n le ends. absurd (no_end_at_first n le ends);
    done = record {
      named_by = λ k is. never_named k is;
      others = λ k is call extra answer. nothing_reported (group_facts [] k) call (none_shown k) (answered (group_facts [] k) call extra answer);
    };
  };
  text_is = refl;
}

pub stands_first : ((F : Facts) (call : Call) (extra : Extra) → IsAnswer F (Reported call extra) → IsTold F call) → (groups : NamedGroups) (named : List ℕ) (told : List ToldCall) → named ≡ [] → told ≡ [] → Keeps groups []
    → StandsFor groups named told 0 [] []
stands_first answered groups named told no_names no_calls keeps =
    subst (λ (t : List ToldCall). StandsFor groups named t 0 [] []) (sym no_calls) (subst (λ (n : List ℕ). StandsFor groups n [] 0 [] []) (sym no_names) (stands_empty answered groups keeps))
