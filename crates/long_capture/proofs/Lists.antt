-- the starts of a stream, told one after another
use Rattle.std.proofs.Common.{◌≡◌, ℕ, zero, suc, ◌+◌, ◌-◌, ◌<◌, ◌≤◌, Bool, false, cond, List, [], ◌∷◌, ◌++◌, Option, Some, None, add-zero, arith, ap, sym, subst, ◌∙◌, refl}
use Rattle.std.specs.Prelude.{ℤ, option_to_list}
use Rattle.std.specs.List.{filter, range_with_len}
use Rattle.std.proofs.lemmas.List.Elements.{filter-append}
use Rattle.std.proofs.lemmas.List.{append-nil}
use Rattle.ten_unit.specs.declared.character.Element.{Element}
use Rattle.phasing.specs.Origin.{is_phased}
use Rattle.slot_evidence.specs.declared.places.Seen.{Seen}
use Rattle.slot_evidence.specs.Facts.{Facts}
use Rattle.slot_evidence.specs.Sheet.{IsEnds}
use Rattle.long_capture.specs.declared.starts.Start.{Start}
use Rattle.long_capture.specs.Starts.{starts_below, facts_from}
use Rattle.long_capture.specs.Told.{IsStart, AreStarts, AreQuiet, IsNextStart, Tells}

-- below the first lead there is no start
pub none_below : (e : List Element) → starts_below e 0 ≡ []
unfolding starts_below
none_below e = refl

-- numbers in a row, and the next one
range_more : (a n : ℕ) → range_with_len a (suc n) ≡ range_with_len a n ++ (a + n) ∷ []
range_more a zero = ap (λ (k : ℕ). k ∷ []) (sym (add-zero a))
range_more a (suc n) =
    let last : a + 1 + n ≡ a + suc n = omega arith in
    ap (λ (l : List ℕ). a ∷ l) (range_more (a + 1) n) ∙ ap (λ (k : ℕ). a ∷ (range_with_len (a + 1) n ++ k ∷ [])) last

-- the next lead is a start or none
pub below_more : (e : List Element) (n : ℕ) → starts_below e (suc n) ≡ starts_below e n ++ cond (is_phased e n) (n ∷ []) []
unfolding starts_below
below_more e n =
    ap (filter (is_phased e)) (range_more 0 n) ∙ filter-append (is_phased e) (range_with_len 0 n) ((0 + n) ∷ [])
    ∙ ap (λ (k : ℕ). filter (is_phased e) (range_with_len 0 n) ++ cond (is_phased e k) (k ∷ []) []) (let same : 0 + n ≡ n = omega arith in same)

below_quiet : (e : List Element) (low n : ℕ) → ((lead : ℕ) → low ≤ lead → lead < low + n → is_phased e lead ≡ false) → starts_below e (low + n) ≡ starts_below e low
below_quiet e low zero none = ap (starts_below e) (add-zero low)
below_quiet e low (suc n) none =
    let next : low + suc n ≡ suc (low + n) = omega arith in
    ap (starts_below e) next ∙ below_more e (low + n)
    ∙ ap (λ (b : Bool). starts_below e (low + n) ++ cond b ((low + n) ∷ []) []) (none (low + n) (omega arith) (omega arith))
    ∙ append-nil (starts_below e (low + n))
    ∙ below_quiet e low n (λ lead from below. none lead from (omega arith))

pub quiet_starts : (e : List Element) (low high : ℕ) → AreQuiet e low high → starts_below e high ≡ starts_below e low
quiet_starts e low high quiet =
    let rising : low ≤ high = quiet.rising in
    let sum : high ≡ low + (high - low) = omega arith in
    ap (starts_below e) sum ∙ below_quiet e low (high - low) (λ lead from below. quiet.none lead from (omega arith))

pub next_starts : (e : List Element) (low high : ℕ) (start : Start) (is : IsNextStart e low high start) → starts_below e high ≡ starts_below e low ++ is.lead ∷ []
next_starts e low high start is =
    let next : high ≡ suc is.lead = omega (arith, is.last) in
    ap (starts_below e) next ∙ below_more e is.lead
    ∙ ap (λ (b : Bool). starts_below e is.lead ++ cond b (is.lead ∷ []) []) is.is.phased
    ∙ ap (λ (l : List ℕ). l ++ is.lead ∷ []) (quiet_starts e low is.lead is.quiet)

starts_joined : (e : List Element) (leads : List ℕ) (list : List Start) (lead : ℕ) (start : Start) → AreStarts e leads list → IsStart e lead start → AreStarts e (leads ++ lead ∷ []) (list ++ start ∷ [])
starts_joined e [] [] lead start are is = (is, tt)
starts_joined e [] (other ∷ list) lead start are is = absurd are
starts_joined e (other ∷ leads) [] lead start are is = absurd are
starts_joined e (one ∷ leads) (other ∷ list) lead start are is = (are.0, starts_joined e leads list lead start are.1 is)

pub tells_joined : (e : List Element) (low high : ℕ) (list : List Start) (answer : Option Start) → AreStarts e (starts_below e low) list → Tells e low high answer → AreStarts e (starts_below e high) (list ++ option_to_list answer)
tells_joined e low high list None are quiet =
    subst (λ (l : List Start). AreStarts e (starts_below e high) l) (sym (append-nil list))
    (subst (λ (leads : List ℕ). AreStarts e leads list) (sym (quiet_starts e low high quiet)) are)
tells_joined e low high list (Some start) are next =
    subst (λ (leads : List ℕ). AreStarts e leads (list ++ start ∷ [])) (sym (next_starts e low high start next))
    (starts_joined e (starts_below e low) list next.lead start are next.is)

start_same : (s t : Start) → s.at ≡ t.at → s.sheet ≡ t.sheet → s ≡ t
start_same s t at sheet =
    ap (λ (a : ℤ). let other : Start = record { at = a; sheet = s.sheet } in other) at
    ∙ ap (λ (l : List Seen). let other : Start = record { at = t.at; sheet = l } in other) sheet

-- the starts at leads are told in one way, since facts have one sheet
pub one_list : ((F : Facts) (s t : List Seen) → IsEnds F s → IsEnds F t → s ≡ t) → (e : List Element) (leads : List ℕ) (a b : List Start) → AreStarts e leads a → AreStarts e leads b → a ≡ b
one_list one e [] [] [] first second = refl
one_list one e [] [] (t ∷ b) first second = absurd second
one_list one e [] (s ∷ a) b first second = absurd first
one_list one e (lead ∷ leads) [] b first second = absurd first
one_list one e (lead ∷ leads) (s ∷ a) [] first second = absurd second
one_list one e (lead ∷ leads) (s ∷ a) (t ∷ b) first second =
    let same = start_same s t (first.0.origin ∙ sym second.0.origin) (one (facts_from e lead) s.sheet t.sheet first.0.ends second.0.ends) in
    ap (λ (x : Start). x ∷ a) same ∙ ap (λ (l : List Start). t ∷ l) (one_list one e leads a b first.1 second.1)
