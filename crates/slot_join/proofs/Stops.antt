-- What a walk that is still open says of the answer.
use Rattle.std.proofs.Common.{◌≡◌, ℕ, ◌+◌, ◌-◌, ◌≤◌, ◌<◌, List, [], ◌∷◌, ◌++◌, length, drop, refl, sym, ap, subst, ◌∙◌, inl, inr, append_assoc, arith, length-append}
use Rattle.call_values.specs.declared.calls.Call.{Call}
use Rattle.call_values.specs.Calls.{IsCall}
use Rattle.call_grammar.specs.Spelling.{through_check, spell, end_of, check_of}
use Rattle.call_grammar.specs.Walk.{IsViable, IsOpen, IsAtCheck, after}
use Rattle.slot_evidence.specs.declared.places.Seen.{Seen}
use Rattle.slot_evidence.specs.declared.places.Seen.TheVariants as seen
use Rattle.slot_evidence.specs.Facts.{Facts}
use Rattle.slot_evidence.specs.Seen.{IsSeen, ShowsNone, ShowsOne, ShowsSeveral}
use Rattle.slot_evidence.specs.Sheet.{IsEnds, seen_at}
use Rattle.slot_join.specs.declared.joined.Joined.{Joined}
use Rattle.slot_join.specs.declared.joined.Joined.TheVariants.{Reported, Missing, Differ, Outside, Check}
use Rattle.slot_join.specs.declared.joined.Extra.{Extra}
use Rattle.slot_join.specs.Extra.{Follows}
use Rattle.slot_join.specs.Shown.{IsLate, Gives, IsShown, IsShownLate, IsLongest}
use Rattle.slot_join.specs.Answer.{IsReported, IsStopped, StopsWith}
use Rattle.slot_join.proofs.ShownLists.{agree, push_shown, after_shown, open_viable, front_viable, longest_from, only_one}

-- no call's list up to its check begins another's
abbrev pub FrontsDiffer : Type 0
FrontsDiffer = (c d : Call) (rest : List ℕ) → IsCall c → IsCall d → through_check d ≡ through_check c ++ rest → (c ≡ d) × (rest ≡ [])

-- what is open shows no call, if nothing longer is shown
pub unreported : FrontsDiffer → (F : Facts) (l : List ℕ) → IsOpen l → IsLongest F l → (c : Call) → IsCall c → IsShown F (through_check c) → ⊥
unreported differ F l o longest c lawful shown =
    let le : length (through_check c) ≤ length l = longest.longest (through_check c) shown (front_viable c lawful) in
    let t : List ℕ = drop (length (through_check c)) l in
    let split : l ≡ through_check c ++ t = agree F (through_check c) l shown longest.shown le in
    let whole : through_check o.call ≡ through_check c ++ (t ++ o.next ∷ o.rest) = o.list ∙ ap (λ (x : List ℕ). x ++ o.next ∷ o.rest) split ∙ append_assoc (through_check c) t (o.next ∷ o.rest) in
    let none : (t ++ o.next ∷ o.rest) ≡ [] = (differ c o.call (t ++ o.next ∷ o.rest) lawful o.lawful whole).1 in
    let len : length (t ++ o.next ∷ o.rest) ≡ 0 = ap length none in
    absurd (omega (arith, length-append t (o.next ∷ o.rest)))

-- an open list after which nothing goes on gives the answer
pub stopped : FrontsDiffer → (F : Facts) (l : List ℕ) (here : Seen) (answer : Joined) → IsOpen l → IsShown F l → IsSeen (F (length l)) here
    → ((v : ℕ) → Gives F l (length l) v → IsViable (l ++ v ∷ []) → ⊥) → StopsWith F l here answer → IsStopped F answer
stopped differ F l here answer o shown seen stops with =
    let longest : IsLongest F l = longest_from F l shown (open_viable l o) stops in
    record { list = l; unreported = unreported differ F l o longest; longest = longest; here = here; seen = seen; stops = with }

blank_stops : (F : Facts) (l : List ℕ) → IsShown F l → ShowsNone (F (length l)) → ((v : ℕ) → IsLate F l (length l) v → IsViable (after l v) → ⊥)
    → (v : ℕ) → Gives F l (length l) v → IsViable (l ++ v ∷ []) → ⊥
blank_stops F l shown here never v (inl one) viable = absurd (cc (here v, one.0))
blank_stops F l shown here never v (inr late) viable = never v late (subst IsViable (sym (after_shown F l v shown)) viable)

-- a list stops at a place that shows nothing
pub stops_missing : FrontsDiffer → (F : Facts) (l : List ℕ) (n : ℕ) → length l ≡ n → IsOpen l → IsShown F l → ShowsNone (F n)
    → ((v : ℕ) → IsLate F l n v → IsViable (after l v) → ⊥) → IsStopped F (Missing n)
stops_missing differ F l n len o shown none never =
    let here : ShowsNone (F (length l)) = subst (λ (k : ℕ). ShowsNone (F k)) (sym len) none in
    let stays : (v : ℕ) → IsLate F l (length l) v → IsViable (after l v) → ⊥ = λ v late. never v (subst (λ (k : ℕ). IsLate F l k v) len late) in
    stopped differ F l seen.None (Missing n) o shown here (blank_stops F l shown here stays) (ap Missing (sym len))

several_stops : (F : Facts) (l : List ℕ) (a b : ℕ) → ShowsSeveral (F (length l)) a b → (v : ℕ) → Gives F l (length l) v → IsViable (l ++ v ∷ []) → ⊥
several_stops F l a b here v (inl one) viable = absurd (omega (arith, one.1 a here.has_least, one.1 b here.has_greatest, here.apart))
several_stops F l a b here v (inr late) viable = absurd (cc (late.none a, here.has_least))

-- a list stops at a place that shows several symbols
pub stops_differ : FrontsDiffer → (F : Facts) (l : List ℕ) (n a b : ℕ) → length l ≡ n → IsOpen l → IsShown F l → ShowsSeveral (F n) a b → IsStopped F (Differ n a b)
stops_differ differ F l n a b len o shown several =
    let here : ShowsSeveral (F (length l)) a b = subst (λ (k : ℕ). ShowsSeveral (F k) a b) (sym len) several in
    stopped differ F l (seen.Differ a b) (Differ n a b) o shown here (several_stops F l a b here) (ap (λ (k : ℕ). Differ k a b) (sym len))

one_stops : (F : Facts) (l : List ℕ) (v : ℕ) → IsShown F l → ShowsOne (F (length l)) v → (IsViable (after l v) → ⊥) → (u : ℕ) → Gives F l (length l) u → IsViable (l ++ u ∷ []) → ⊥
one_stops F l v shown here not u (inr late) viable = absurd (cc (late.none v, here.0))
one_stops F l v shown here not u (inl one) viable =
    let same : u ≡ v = only_one (F (length l)) u v one here in
    not (subst IsViable (ap (λ (x : ℕ). l ++ x ∷ []) same ∙ sym (after_shown F l v shown)) viable)

pub stops_outside : FrontsDiffer → (F : Facts) (l : List ℕ) (n v : ℕ) → length l ≡ n → IsOpen l → IsShown F l → (IsShownLate F l → ⊥) → ShowsOne (F n) v
    → (IsViable (after l v) → ⊥) → (IsAtCheck l → ⊥) → IsStopped F (Outside n v)
stops_outside differ F l n v len o shown prompt one not no_check =
    let here : ShowsOne (F (length l)) v = subst (λ (k : ℕ). ShowsOne (F k) v) (sym len) one in
    stopped differ F l (seen.One v) (Outside n v) o shown here (one_stops F l v shown here not) (inr (inr (prompt, no_check, ap (λ (k : ℕ). Outside k v) (sym len))))

pub stops_check : FrontsDiffer → (F : Facts) (l : List ℕ) (n v want got : ℕ) → length l ≡ n → IsOpen l → IsShown F l → (IsShownLate F l → ⊥) → ShowsOne (F n) v
    → (IsViable (after l v) → ⊥) → IsAtCheck l → want ≡ check_of (drop 1 l) → got ≡ v → IsStopped F (Check n want got)
stops_check differ F l n v want got len o shown prompt one not at want_is got_is =
    let here : ShowsOne (F (length l)) v = subst (λ (k : ℕ). ShowsOne (F k) v) (sym len) one in
    let answer : Check n want got ≡ Check (length l) (check_of (drop 1 l)) v = cc (sym len, want_is, got_is) in
    stopped differ F l (seen.One v) (Check n want got) o shown here (one_stops F l v shown here not) (inr (inl (prompt, at, answer)))

-- a symbol with which no call goes on, after a late end of sequence
pub stops_late : FrontsDiffer → (F : Facts) (l : List ℕ) (n v : ℕ) → length l ≡ n → IsOpen l → IsShown F l → IsShownLate F l → ShowsOne (F n) v
    → (IsViable (after l v) → ⊥) → IsStopped F (Missing (n - 1))
stops_late differ F l n v len o shown late one not =
    let here : ShowsOne (F (length l)) v = subst (λ (k : ℕ). ShowsOne (F k) v) (sym len) one in
    stopped differ F l (seen.One v) (Missing (n - 1)) o shown here (one_stops F l v shown here not) (inl (late, ap (λ (k : ℕ). Missing (k - 1)) (sym len)))

-- a shown list and the one symbol after it that end a call report it
pub reports : (F : Facts) (l : List ℕ) (n v : ℕ) (c : Call) (extra : Extra) → length l ≡ n → IsShown F l → ShowsOne (F n) v → IsCall c → after l v ≡ through_check c
    → Follows F c extra → IsReported F (Reported c extra)
reports F l n v c extra len shown one lawful ends follows =
    let here : ShowsOne (F (length l)) v = subst (λ (k : ℕ). ShowsOne (F k) v) (sym len) one in
    let all : IsShown F (through_check c) = subst (λ (x : List ℕ). IsShown F x) (sym (after_shown F l v shown) ∙ ends) (push_shown F l v shown (inl here)) in
    record { call = c; extra = extra; lawful = lawful; shown = all; follows = follows; answer_is = refl }

-- a shown list and one more symbol
pub goes_on : (F : Facts) (l : List ℕ) (n v : ℕ) → length l ≡ n → IsShown F l → ShowsOne (F n) v → IsShown F (after l v)
goes_on F l n v len shown one =
    let here : ShowsOne (F (length l)) v = subst (λ (k : ℕ). ShowsOne (F k) v) (sym len) one in
    subst (λ (x : List ℕ). IsShown F x) (sym (after_shown F l v shown)) (push_shown F l v shown (inl here))

-- what the sheet has at a place was seen there
pub seen_there : (F : Facts) (sheet : List Seen) (n : ℕ) (seen : Seen) → IsEnds F sheet → seen ≡ seen_at sheet n → IsSeen (F n) seen
seen_there F sheet n seen ends is = subst (λ (s : Seen). IsSeen (F n) s) (sym is) (ends.each n)

-- a list that has begun grows by one
pub after_long : (l : List ℕ) (v : ℕ) → 1 ≤ length l → length (after l v) ≡ length l + 1
after_long [] v some = absurd (omega arith)
after_long (f ∷ l) v some = omega (arith, length-append l (v ∷ []))

-- calls are short, and so is what begins one
pub open_short : ((c : Call) → IsCall c → (4 ≤ length (spell c)) × (length (spell c) ≤ 32)) → (l : List ℕ) → IsOpen l → length l < 32
open_short short l o =
    let whole : length (spell o.call) ≡ length (through_check o.call) + 2 = length-append (through_check o.call) (end_of o.call ∷ end_of o.call ∷ []) in
    let part : length (through_check o.call) ≡ length l + length (o.next ∷ o.rest) = ap length o.list ∙ length-append l (o.next ∷ o.rest) in
    let most : length (spell o.call) ≤ 32 = (short o.call o.lawful).1 in
    omega arith

-- the list of a call whose check is at place n
pub whole_length : (l : List ℕ) (v n : ℕ) (c : Call) → length l ≡ n → 1 ≤ length l → after l v ≡ through_check c → length (spell c) ≡ n + 3
whole_length l v n c len some ends =
    let whole : length (spell c) ≡ length (through_check c) + 2 = length-append (through_check c) (end_of c ∷ end_of c ∷ []) in
    let counts : length (after l v) ≡ length (through_check c) = ap length ends in
    omega (arith, after_long l v some)
