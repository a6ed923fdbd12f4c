-- The end of sequence that its later copies show.
use Rattle.std.proofs.Common.{◌≡◌, ℕ, ◌≤◌, List, [], ◌∷◌, ◌++◌, length, drop, refl, sym, ap, subst, ◌∙◌, inl, inr, append_assoc, arith}
use Rattle.std.proofs.lemmas.Bool.{cases_lt}
use Rattle.std.proofs.lemmas.List.{append_cancel_left}
use Rattle.plain_laws.proofs.Lists.{divide}
use Rattle.call_values.specs.declared.calls.Call.{Call}
use Rattle.call_values.specs.Calls.{IsCall}
use Rattle.call_grammar.specs.Spelling.{up_to_end, through_check, covered, check_of, end_of}
use Rattle.call_grammar.specs.Walk.{IsViable, IsOpen, IsAtEnd, IsAtCheck, IsStep, after}
use Rattle.call_grammar.specs.declared.walking.Step.{Step}
use Rattle.call_grammar.specs.declared.walking.Step.TheVariants.{More, Done, Outside, Check}
use Rattle.slot_evidence.specs.declared.places.Seen.{Seen}
use Rattle.slot_evidence.specs.declared.places.Seen.TheVariants as seen
use Rattle.slot_evidence.specs.Facts.{Symbols, Facts}
use Rattle.slot_evidence.specs.Seen.{IsSeen, ShowsOne}
use Rattle.slot_join.specs.Shown.{late_of, IsLate, IsShown, IsShownLate}
use Rattle.slot_join.proofs.ShownLists.{three, push_shown, late_push, after_shown}

-- up to its first end of sequence no call's list begins another's
abbrev pub OneCheckPlace : Type 0
OneCheckPlace = (c d : Call) (rest : List ℕ) → IsCall c → IsCall d → up_to_end d ≡ up_to_end c ++ rest → (c ≡ d) × (rest ≡ [])

-- where an end of sequence is next, a check follows each symbol with which a call goes on
abbrev pub OneEndPlace : Type 0
OneEndPlace = (l : List ℕ) (x : ℕ) → IsAtEnd l → IsViable (l ++ x ∷ []) → IsAtCheck (l ++ x ∷ [])

-- a list begins with one call's up to its end of sequence
pub one_front : OneCheckPlace → (c d : Call) (r s : List ℕ) → IsCall c → IsCall d → up_to_end c ++ r ≡ up_to_end d ++ s → (c ≡ d) × (r ≡ s)
one_front law c d r s lc ld e =
    let same : c ≡ d = elim (cases_lt (length (up_to_end c)) (length (up_to_end d))) [
      | inl lt ↦ (law c d (drop (length (up_to_end c)) (up_to_end d)) lc ld (divide (up_to_end c) (up_to_end d) r s e (omega arith))).0
      | inr le ↦ sym (law d c (drop (length (up_to_end d)) (up_to_end c)) ld lc (divide (up_to_end d) (up_to_end c) s r (sym e) le)).0
    ] in
    (same, append_cancel_left (up_to_end d) r s (ap (λ (x : Call). up_to_end x ++ r) (sym same) ∙ e))

-- where a check is next, no end of sequence is
pub no_second : OneCheckPlace → (l : List ℕ) → IsAtCheck l → IsAtEnd l → ⊥
no_second law l check end =
    let whole : up_to_end end.call ≡ up_to_end check.call ++ (end_of end.call ∷ []) = end.list ∙ ap (λ (x : List ℕ). x ++ (end_of end.call ∷ [])) check.list in
    let none : (end_of end.call ∷ []) ≡ [] = (law check.call end.call (end_of end.call ∷ []) check.lawful end.lawful whole).1 in
    absurd (omega (arith, ap length none))

-- the list of a call up to its check goes on to no check
done_no_check : OneCheckPlace → (c : Call) → IsCall c → IsAtCheck (through_check c) → ⊥
done_no_check law c lawful check =
    let none : (check_of (covered c) ∷ []) ≡ [] = (law c check.call (check_of (covered c) ∷ []) lawful check.lawful (sym check.list)).1 in
    absurd (omega (arith, ap length none))

pub after_push : (l : List ℕ) (v : ℕ) → 1 ≤ length l → after l v ≡ l ++ v ∷ []
after_push [] v some = absurd (omega arith)
after_push (f ∷ l) v some = refl

pub after_end : (l : List ℕ) (v : ℕ) → IsAtEnd l → after l v ≡ l ++ v ∷ []
after_end l v end = after_push l v (omega (arith, three l end))

pub long_check : (l : List ℕ) → IsAtCheck l → 1 ≤ length l
long_check l check = omega (arith, ap length check.list)

-- after a late end of sequence that was taken, a check is next
pub check_next : OneEndPlace → (l new : List ℕ) (v : ℕ) → IsAtEnd l → new ≡ after l v → IsViable new → IsAtCheck new
check_next law l new v end taken viable =
    let is : new ≡ l ++ v ∷ [] = taken ∙ after_end l v end in
    subst IsAtCheck (sym is) (law l v end (subst IsViable is viable))

-- a symbol that was not taken in place of an end of sequence begins no call
pub not_taken : OneCheckPlace → OneEndPlace → (l : List ℕ) (v : ℕ) (step : Step) (new : List ℕ) → IsAtEnd l → IsStep l v step new → (step ≡ More → ⊥) → IsViable (after l v) → ⊥
not_taken one law l v More new end is not viable = not refl
not_taken one law l v (Done call) new end is not viable =
    done_no_check one call is.lawful (subst IsAtCheck is.list (check_next law l new v end is.taken (subst IsViable (sym is.taken) viable)))
not_taken one law l v Outside new end is not viable = is.never viable
not_taken one law l v (Check want got) new end is not viable = is.never viable

-- after the place of a check no list is open
check_ends : OneCheckPlace → (l new : List ℕ) (v : ℕ) → IsAtCheck l → new ≡ l ++ v ∷ [] → IsOpen new → ⊥
check_ends law l new v check taken open_ =
    let c : Call = check.call in
    let d : Call = open_.call in
    let more : List ℕ = v ∷ (open_.next ∷ open_.rest) in
    let whole : up_to_end d ++ (check_of (covered d) ∷ []) ≡ up_to_end c ++ more =
    open_.list ∙ ap (λ (x : List ℕ). x ++ (open_.next ∷ open_.rest)) taken ∙ append_assoc l (v ∷ []) (open_.next ∷ open_.rest) ∙ ap (λ (x : List ℕ). x ++ more) check.list in
    let same : (check_of (covered d) ∷ []) ≡ more = (one_front law d c (check_of (covered d) ∷ []) more open_.lawful check.lawful whole).1 in
    absurd (omega (arith, ap length same))

-- a symbol at the place of a check that ends no call is a wrong one
pub wrong_check : OneCheckPlace → (l : List ℕ) (v : ℕ) (step : Step) (new : List ℕ) → 1 ≤ length l → IsAtCheck l → IsStep l v step new
    → ((call : Call) → step ≡ Done call → ⊥) → IsViable (after l v) → ⊥
wrong_check law l v More new some check is not viable = check_ends law l new v check (is.taken ∙ after_push l v some) is.begins
wrong_check law l v (Done call) new some check is not viable = not call refl
wrong_check law l v Outside new some check is not viable = is.never viable
wrong_check law l v (Check want got) new some check is not viable = is.never viable

-- where the later places showed nothing or several symbols, there is no late end of sequence
pub no_end : (S : Symbols) (x : Seen) (v : ℕ) → IsSeen S x → ((w : ℕ) → x ≡ seen.One w → ⊥) → ShowsOne S v → ⊥
no_end S seen.None v none not one = absurd (cc (none v, one.0))
no_end S (seen.One w) v is not one = not w refl
no_end S (seen.Differ a b) v several not one = absurd (omega (arith, one.1 a several.has_least, one.1 b several.has_greatest, several.apart))

-- a late end of sequence is the one that the later places show
pub same_late : (F : Facts) (l : List ℕ) (n u v : ℕ) → ShowsOne (late_of F n) u → IsLate F l n v → v ≡ u
same_late F l n u v one late = one.1 v late.copies.0

-- at a check's place nothing is late
pub prompt_check : OneCheckPlace → (F : Facts) (l : List ℕ) (n v : ℕ) → IsAtCheck l → IsLate F l n v → IsViable (after l v) → ⊥
prompt_check law F l n v check late viable = no_second law l check late.at_end

-- a list with the late end of sequence after it
pub late_shown : (F : Facts) (l : List ℕ) (n v : ℕ) → length l ≡ n → IsShown F l → IsLate F l n v → IsShown F (after l v) × IsShownLate F (after l v)
late_shown F l n v len shown late =
    let here : IsLate F l (length l) v = subst (λ (k : ℕ). IsLate F l k v) (sym len) late in
    let same : l ++ v ∷ [] ≡ after l v = sym (after_shown F l v shown) in (
      subst (λ (x : List ℕ). IsShown F x) same (push_shown F l v shown (inr here)),
      subst (λ (x : List ℕ). IsShownLate F x) same (late_push F l v here),
    )
