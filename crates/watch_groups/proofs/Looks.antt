-- A look at one group after another.
use Rattle.std.proofs.Common.{◌≡◌, ℕ, Bool, false, ◌||◌, ◌==◌, List, [], ◌∷◌, ◌++◌, ap, subst, ◌∙◌, inl, inr}
use Rattle.std.proofs.lemmas.Bool.{or_right, cases_eq, ne_eqb, or_from}
use Rattle.std.proofs.lemmas.List.Folds.{list_any-append}
use Rattle.std.proofs.Math.Bool.{or-false}
use Rattle.input_lines.specs.ReceiverLine.{ReceiverLine}
use Rattle.join_groups.specs.Groups.{is_among}
use Rattle.watch_groups.specs.declared.telling.ToldCall.{ToldCall}
use Rattle.watch_groups.specs.inside.Kept.{IsDone, LooksAt, LooksThrough}
use Rattle.watch_groups.proofs.Calls.{tells_none, tells_then}

pub among_push : (rest : List ℕ) (group k : ℕ) → is_among (rest ++ group ∷ []) k ≡ (is_among rest k || group == k)
among_push rest group k = list_any-append (λ n. n == k) rest (group ∷ []) ∙ ap (λ (b : Bool). is_among rest k || b) (or-false (group == k))

-- before the first look
pub looks_none : (said : List ReceiverLine) (all : List ℕ) (told : List ToldCall) (out : List ℕ) → LooksThrough said all all told out told out
looks_none said all told out = record {
  tells = tells_none said told out;
  among = λ k among. among;
  done = λ k among not. absurd (cc (among, not));
}

pub looks_more : (said : List ReceiverLine) (all left rest : List ℕ) (group : ℕ) (a b c : List ToldCall) (x y z : List ℕ) → left ≡ group ∷ rest → LooksThrough said all left a x b y → LooksAt said group b y c z
    → LooksThrough said all rest a x c z
looks_more said all left rest group a b c x y z is was here = record {
  tells = tells_then said a b c x y z was.tells here.tells;
  among = λ k among. was.among k (ap (λ (l : List ℕ). is_among l k) is ∙ or_right (group == k) _ among);
  done = λ k among not. elim (cases_eq group k) [
    | inl same ↦ subst (λ (j : ℕ). IsDone said c j) same here.done
    | inr apart ↦
        let gone : is_among left k ≡ false = ap (λ (l : List ℕ). is_among l k) is ∙ or_from (group == k) (is_among rest k) (ne_eqb group k apart) not in
        λ call extra answer. here.tells.stays k (was.done k among gone call extra answer)
  ];
}
