-- Calls told one after another.
use Rattle.std.proofs.Common.{◌≡◌, ℕ, Bool, true, false, ◌||◌, ◌==◌, List, [], ◌∷◌, ◌++◌, refl, sym, ap, ◌∙◌, append_assoc, append-nil}
use Rattle.std.proofs.lemmas.Bool.{or_left, or_right, or_from, or_parts, eq-eqb}
use Rattle.std.proofs.lemmas.Grind.{flat_map-append}
use Rattle.std.proofs.lemmas.List.Folds.{list_any-append}
use Rattle.std.proofs.Math.Bool.{or-false}
use Rattle.plain_laws.proofs.Tests.{apart_turned}
use Rattle.call_values.specs.declared.calls.Call.{Call}
use Rattle.call_grammar.specs.Spelling.{format_of}
use Rattle.slot_evidence.specs.Facts.{Facts}
use Rattle.slot_join.specs.declared.joined.Joined.{Joined}
use Rattle.slot_join.specs.Answer.{IsAnswer}
use Rattle.live_watch.specs.Told.{IsTold}
use Rattle.input_lines.specs.ReceiverLine.{ReceiverLine}
use Rattle.join_groups.specs.Groups.{group_facts}
use Rattle.join_groups.proofs.PublicLaws.{named_push, facts_push}
use Rattle.watch_groups.specs.declared.telling.ToldCall.{ToldCall}
use Rattle.watch_groups.specs.Telling.{told_line, told_text, is_told, IsToldOf, AreTold}
use Rattle.watch_groups.specs.inside.Kept.{TellsMore}

text_push : (told : List ToldCall) (one : ToldCall) → told_text (told ++ one ∷ []) ≡ told_text told ++ told_line one
text_push told one = flat_map-append told_line told (one ∷ []) ∙ ap (λ (l : List ℕ). told_text told ++ l) (append-nil (told_line one))

told_push : (told : List ToldCall) (one : ToldCall) (k : ℕ) → is_told (told ++ one ∷ []) k ≡ (is_told told k || one.group == k)
told_push told one k = list_any-append (λ (t : ToldCall). t.group == k) told (one ∷ []) ∙ ap (λ (b : Bool). is_told told k || b) (or-false (one.group == k))

are_push : (said : List ReceiverLine) (told : List ToldCall) (one : ToldCall) → IsToldOf said one → is_told told one.group ≡ false → AreTold said told → AreTold said (told ++ one ∷ [])
are_push said [] one of new are = (of, refl, tt)
are_push said (first ∷ told) one of new are =
    let parts = or_parts (first.group == one.group) (is_told told one.group) new in (
      are.0,
      told_push told one first.group ∙ or_from (is_told told first.group) (one.group == first.group) are.1 (apart_turned first.group one.group parts.0),
      are_push said told one of parts.1 are.2,
    )

-- what was told stays told of more lines
abbrev pub More : Type 0
More = (F G : Facts) (call : Call) → ((p v : ℕ) → F p v ≡ true → G p v ≡ true) → IsTold F call → IsTold G call

of_more : More → (said : List ReceiverLine) (line : ReceiverLine) (one : ToldCall) → IsToldOf said one → IsToldOf (said ++ line ∷ []) one
of_more law said line one of = record {
  named = named_push said line one.group ∙ or_left _ _ of.named;
  call = law (group_facts said one.group) (group_facts (said ++ line ∷ []) one.group) one.call
      (λ p v is. ap (λ (F : Facts). F p v) (facts_push said line one.group) ∙ or_left _ _ is) of.call;
}

pub are_more : More → (said : List ReceiverLine) (line : ReceiverLine) (told : List ToldCall) → AreTold said told → AreTold (said ++ line ∷ []) told
are_more law said line [] are = tt
are_more law said line (one ∷ told) are = (of_more law said line one are.0, are.1, are_more law said line told are.2)

-- nothing more was told
pub tells_none : (said : List ReceiverLine) (told : List ToldCall) (out : List ℕ) → TellsMore said told out told out
tells_none said told out = record { stays = λ k is. is; are_told = λ are. are; text = λ written is. is }

pub tells_then : (said : List ReceiverLine) (a b c : List ToldCall) (x y z : List ℕ) → TellsMore said a x b y → TellsMore said b y c z → TellsMore said a x c z
tells_then said a b c x y z first last = record {
  stays = λ k is. last.stays k (first.stays k is);
  are_told = λ are. last.are_told (first.are_told are);
  text = λ written is. last.text written (first.text written is);
}

-- one call more was told
pub tells_one : (said : List ReceiverLine) (told : List ToldCall) (one : ToldCall) (out after : List ℕ) → IsToldOf said one → is_told told one.group ≡ false → after ≡ out ++ told_line one → TellsMore said told out (told ++ one ∷ []) after
tells_one said told one out after of new written = record {
  stays = λ k is. told_push told one k ∙ or_left _ _ is;
  are_told = are_push said told one of new;
  text = λ front is.
      ap (λ (l : List ℕ). front ++ l) written ∙ sym (append_assoc front out (told_line one)) ∙ ap (λ (l : List ℕ). l ++ told_line one) is ∙ sym (text_push told one);
}

pub one_is_told : (told : List ToldCall) (one : ToldCall) → is_told (told ++ one ∷ []) one.group ≡ true
one_is_told told one = told_push told one one.group ∙ or_right (is_told told one.group) _ (eq-eqb one.group one.group refl)

-- the answer to a group's facts reports no call
abbrev pub OneAnswer : Type 0
OneAnswer = (F : Facts) (a b : Joined) → IsAnswer F a → IsAnswer F b → a ≡ b

-- where nothing was shown no call may be told
pub nothing_reported : {P : Type 0} (F : Facts) (call : Call) → ((p v : ℕ) → F p v ≡ false) → IsTold F call → P
nothing_reported F call none told =
    let neither : (F 0 (format_of call) || F 1 (format_of call)) ≡ false = or_from _ _ (none 0 (format_of call)) (none 1 (format_of call)) in
    let some_there = told.head in
    absurd (cc)

-- no line shows anything
pub none_shown : (k p v : ℕ) → group_facts [] k p v ≡ false
unfolding group_facts
none_shown k p v = refl
