-- What is told of what was sent after a call.
use Rattle.std.proofs.Common.{◌≡◌, ℕ, suc, ◌+◌, ◌*◌, ◌<◌, ◌≤◌, true, false, ltb, nat_le, List, [], ◌∷◌, ◌++◌, length, get_or, drop, Option, Some, None, refl, sym, ap, subst, ◌∙◌, inl, inr, append_assoc, length-append, arith, All}
use Rattle.std.specs.Prelude.{◌↔◌}
use Rattle.std.specs.List.{list_any}
use Rattle.std.proofs.lemmas.Bool.{cases_lt, or_cases, cond-false, lt-leb, or_from, and_right, false_from_ne_true}
use Rattle.std.proofs.lemmas.List.{get_or_append_left, get_or-append-add, get_or_default, drop_more}
use Rattle.std.proofs.lemmas.List.Elements.{All-get_or, All-append}
use Rattle.ten_unit.specs.declared.character.Element.{Element}
use Rattle.ten_unit.specs.Word.{word_of, is_word}
use Rattle.ten_unit.proofs.PublicLaws.{length-word}
use Rattle.time_diversity.specs.Slots.{dx_slot, rx_slot}
use Rattle.time_diversity.specs.OnAir.{on_air}
use Rattle.time_diversity.proofs.PublicLaws.{length-on_air}
use Rattle.phasing.specs.Slot.{slot, shows}
use Rattle.phasing.specs.Origin.{lead_of}
use Rattle.call_values.specs.declared.choices.End.{End}
use Rattle.call_values.specs.declared.calls.Call.{Call}
use Rattle.call_values.specs.Calls.{IsCall}
use Rattle.call_grammar.specs.Spelling.{spell, end_symbol, check_of}
use Rattle.expansion.specs.declared.values.Sets.{Sets}
use Rattle.expansion.specs.Expansions.{IsExpansion}
use Rattle.expansion.specs.Spelling.{covered, through_check, spell as expanded}
use Rattle.expansion.specs.Reading.{IsViable}
use Rattle.slot_evidence.specs.Facts.{Facts, facts_of, facts_at, facts_of_all}
use Rattle.slot_evidence.specs.Seen.{ShowsNone, ShowsOne}
use Rattle.slot_join.specs.declared.joined.Extra.{Extra}
use Rattle.slot_join.specs.declared.joined.Extra.TheVariants.{Absent, Whole, Broken}
use Rattle.slot_join.specs.Extra.{IsBlankFrom, IsShownFrom, IsBroken, IsExtra, Follows}
use Rattle.slot_join.specs.Heard.{IsHeard}
use Rattle.slot_join.specs.Intact.{CameNowhere, IsExpandedBy, EndsWithin, IsLostAt, TellsTail}
use Rattle.slot_join.proofs.Copies.{any_shows, copy_shows}
use Rattle.slot_join.proofs.Followers.{ExpansionsDiffer, ExpansionsAreShort, CallsAreShort, pointwise, push_from, shown_some, some_check, extra_with}

-- symbols of lists are characters
abbrev pub ExpansionsAreCharacters : Type 0
ExpansionsAreCharacters = (x : Sets) (e : End) → IsExpansion x → All (λ symbol. symbol < 128) (expanded x e)

-- past the end of the transmission a reception that ends with it shows nothing
abbrev pub WordsEqual : Type 0
WordsEqual = (w : List Element) (v : ℕ) → (is_word w v ≡ true) ↔ (w ≡ word_of v)

module _ (equal : WordsEqual) (e : List Element) where
  pub shows_nothing : (lead s v : ℕ) → length e + 150 < lead + 10 * s + 10 → shows e lead s v ≡ false
  unfolding shows
  shows_nothing lead s v past =
      let none : slot e lead s ≡ [] =
      cond-false _ _ _ (and_right (nat_le 150 (lead + 10 * s)) (nat_le (lead + 10 * s + 10) (length e + 150)) (lt-leb (lead + 10 * s + 10) (length e + 150) past)) in
      false_from_ne_true (is_word (slot e lead s) v) (λ said.
      (let is : slot e lead s ≡ word_of v = (equal (slot e lead s) v).0 said in
      absurd (omega (arith, ap length (sym none ∙ is) ∙ length-word v))))

  past_at : (o : Option ℕ) (list : List ℕ) (p v : ℕ) → ((lead : ℕ) → o ≡ Some lead → length e + 150 ≤ lead + 10 * length (on_air list)) → length list ≤ p → facts_at e o p v ≡ false
  past_at None list p v within beyond = refl
  past_at (Some lead) list p v within beyond =
      let ends : length e + 150 ≤ lead + 10 * length (on_air list) = within lead refl in
      let air : length (on_air list) ≡ 2 * length list + 12 = length-on_air list in
      let dx : shows e lead (dx_slot p) v ≡ false = shows_nothing lead (dx_slot p) v (omega arith) in
      let rx : shows e lead (rx_slot p) v ≡ false = shows_nothing lead (rx_slot p) v (omega arith) in
      and_right (ltb p 64) _ (and_right (ltb v 128) _ (or_from (shows e lead (dx_slot p) v) (shows e lead (rx_slot p) v) dx rx))

  pub past_end : (list : List ℕ) (p v : ℕ) → EndsWithin e list → length list ≤ p → facts_of e p v ≡ false
  unfolding facts_of
  past_end list p v within beyond = past_at (lead_of e) list p v within beyond

-- what holds of the symbols of each reception holds of those of all
pub any_of : (P : List Element → Type 0) (p v x : ℕ) → ((e : List Element) → P e → facts_of e p v ≡ true → v ≡ x) → (receptions : List (List Element)) → All P receptions
    → list_any (λ e. facts_of e p v) receptions ≡ true → v ≡ x
any_of P p v x tell [] each has = absurd (cc)
any_of P p v x tell (e ∷ receptions) each has =
    elim (or_cases (facts_of e p v) (list_any (λ d. facts_of d p v) receptions) has) [
      | inl here ↦ tell e (each 0 e (omega arith)) here
      | inr there ↦ any_of P p v x tell receptions (λ k d inside. each (suc k) d (omega (arith, inside))) there
    ]

none_of : (P : List Element → Type 0) (p v : ℕ) → ((e : List Element) → P e → facts_of e p v ≡ false) → (receptions : List (List Element)) → All P receptions
    → list_any (λ e. facts_of e p v) receptions ≡ false
none_of P p v tell [] each = refl
none_of P p v tell (e ∷ receptions) each =
    or_from (facts_of e p v) (list_any (λ d. facts_of d p v) receptions) (tell e (each 0 e (omega arith)))
    (none_of P p v tell receptions (λ k d inside. each (suc k) d (omega (arith, inside))))

-- a place that no reception showed came intact nowhere
pub blank_list : (receptions : List (List Element)) (list : List ℕ) (p : ℕ) → p < 64 → get_or list p 0 < 128 → ShowsNone (facts_of_all receptions p) → CameNowhere receptions list p
unfolding facts_of_all
blank_list receptions list p inside small none k d within = λ lead intact.
    let e : List Element = get_or receptions k d in
    let same : get_or receptions k e ≡ e = sym (get_or_default receptions k d e within) in
    let shown : facts_of e p (get_or list p 0) ≡ true = copy_shows e list lead p inside small intact in
    let yes : list_any (λ r. facts_of r p (get_or list p 0)) receptions ≡ true = any_shows (λ r. facts_of r p (get_or list p 0)) receptions k e within same shown in
    let no : list_any (λ r. facts_of r p (get_or list p 0)) receptions ≡ false = none (get_or list p 0) in
    cc

-- a call and the expansion that was sent after it
module _ (differ : ExpansionsDiffer) (calls : CallsAreShort) (short : ExpansionsAreShort) (characters : ExpansionsAreCharacters) (F : Facts) (c : Call) (lawful : IsCall c)
    (tail : List ℕ) (x : Sets) (sent : IsExpandedBy c tail x) where
  checked : List ℕ
  checked = through_check x sent.last

  ends : List ℕ
  ends = end_symbol sent.last ∷ end_symbol sent.last ∷ []

  tail_is : tail ≡ checked ++ ends
  unfolding checked ends
  tail_is = sent.list ∙ sym (append_assoc (covered x sent.last) (check_of (covered x sent.last) ∷ []) ends)

  pub tail_long : length tail ≡ length (through_check x sent.last) + 2
  unfolding checked ends
  tail_long = ap length tail_is ∙ length-append checked ends

  pub tail_short : length tail ≤ 15
  tail_short = omega (arith, ap length sent.list, (short x sent.last sent.lawful).1)

  list_long : length (spell c ++ tail) ≡ length (spell c) + length tail
  list_long = length-append (spell c) tail

  pub symbol_of : (k : ℕ) → k < length (through_check x sent.last) → get_or (spell c ++ tail) (length (spell c) + k) 0 ≡ get_or (through_check x sent.last) k 0
  unfolding checked ends
  symbol_of k below =
      get_or-append-add (spell c) tail k 0 ∙ ap (λ (l : List ℕ). get_or l k 0) tail_is ∙ get_or_append_left checked ends 0 k below

  pub character_of : (k : ℕ) → k < length (through_check x sent.last) → get_or (spell c ++ tail) (length (spell c) + k) 0 < 128
  character_of k below =
      let inside : k < length tail = omega (arith, tail_long) in
      let small : get_or (expanded x sent.last) k 0 < 128 = All-get_or (λ v. v < 128) (expanded x sent.last) k 0 (omega (arith, ap length sent.list)) (characters x sent.last sent.lawful) in
      omega (arith, get_or-append-add (spell c) tail k 0, ap (λ (l : List ℕ). get_or l k 0) sent.list, small)

  module _ (only : (p v : ℕ) → p + 2 < length (spell c ++ tail) → F p v ≡ true → v ≡ get_or (spell c ++ tail) p 0) where
    only_at : (k v : ℕ) → k < length (through_check x sent.last) → F (length (spell c) + k) v ≡ true → v ≡ get_or (through_check x sent.last) k 0
    only_at k v below has = only (length (spell c) + k) v (omega (arith, tail_long, list_long)) has ∙ symbol_of k below

    -- what is shown has the expansion's symbols as far as both go
    same_at : (l : List ℕ) → IsShownFrom F (length (spell c)) l → (k : ℕ) → k < length l → k < length (through_check x sent.last) → get_or l k 0 ≡ get_or (through_check x sent.last) k 0
    same_at l shown k inside below = only_at k (get_or l k 0) below (shown k inside).0

    whole_is : (y : Sets) → IsExtra F (length (spell c)) sent.last (Whole y) → y ≡ x
    whole_is y is =
        let a : List ℕ = through_check x sent.last in let b : List ℕ = through_check y sent.last in
        elim (cases_lt (length b) (length a)) [
          | inl lt ↦ (differ y x sent.last (drop (length b) a) is.0 sent.lawful (pointwise b a (λ k below. same_at b is.1 k below (omega arith)) (omega arith))).0
          | inr le ↦ sym (differ x y sent.last (drop (length a) b) sent.lawful is.0 (pointwise a b (λ k below. sym (same_at b is.1 k (omega arith) below)) le)).0
        ]

    -- the longest shown list is shorter than the expansion's up to its check
    broken_short : (n : ℕ) (b : IsBroken F (length (spell c)) sent.last n) → length b.list < length (through_check x sent.last)
    broken_short n b = elim (cases_lt (length b.list) (length (through_check x sent.last))) [
      | inl lt ↦ lt
      | inr le ↦ absurd (b.unfinished x sent.lawful (λ k below.
          subst (λ (v : ℕ). ShowsOne (F (length (spell c) + k)) v) (same_at b.list b.longest.shown k (omega arith) below) (b.longest.shown k (omega arith))))
    ]

    -- and the place after it is blank
    broken_blank : (n : ℕ) (b : IsBroken F (length (spell c)) sent.last n) (v : ℕ) → F n v ≡ true → ⊥
    broken_blank n b v has =
        let from : ℕ = length (spell c) in
        let l : List ℕ = b.list in
        let m : ℕ = length l in
        let a : List ℕ = through_check x sent.last in
        let lt : m < length a = broken_short n b in
        let here : F (from + m) v ≡ true = subst (λ (q : ℕ). F q v ≡ true) b.place has in
        let v_is : v ≡ get_or a m 0 = only_at m v lt here in
        let one : ShowsOne (F (from + m)) v = (here, λ w w_has. only_at m w lt w_has ∙ sym v_is) in
        let shown : IsShownFrom F from (l ++ v ∷ []) = push_from F from v l b.longest.shown one in
        let begins : a ≡ l ++ drop m a = pointwise l a (λ k below. same_at l b.longest.shown k below (omega arith)) (omega arith) in
        let rest : List ℕ = drop (m + 1) a in
        let step : drop m a ≡ v ∷ rest = drop_more a m 0 lt ∙ ap (λ (u : ℕ). u ∷ rest) (sym v_is) in
        let whole : a ≡ (l ++ v ∷ []) ++ rest = begins ∙ ap (λ (t : List ℕ). l ++ t) step ∙ sym (append_assoc l (v ∷ []) rest) in
        let spelled : expanded x sent.last ≡ (l ++ v ∷ []) ++ (rest ++ (end_symbol sent.last ∷ end_symbol sent.last ∷ [])) =
        sym (append_assoc (covered x sent.last) (check_of (covered x sent.last) ∷ []) (end_symbol sent.last ∷ end_symbol sent.last ∷ []))
        ∙ ap (λ (t : List ℕ). t ++ (end_symbol sent.last ∷ end_symbol sent.last ∷ [])) whole
        ∙ append_assoc (l ++ v ∷ []) rest (end_symbol sent.last ∷ end_symbol sent.last ∷ []) in
        let viable : IsViable sent.last (l ++ v ∷ []) = record {
          expansion = x;
          rest = rest ++ (end_symbol sent.last ∷ end_symbol sent.last ∷ []);
          lawful = sent.lawful;
          list = spelled;
        } in
        absurd (omega (arith, b.longest.longest (l ++ v ∷ []) shown viable, length-append l (v ∷ [])))

    broken_place : (n : ℕ) → IsBroken F (length (spell c)) sent.last n → (k : ℕ) × ((k < length (through_check x sent.last)) × (n ≡ length (spell c) + k))
    broken_place n b = (length b.list, (broken_short n b, b.place))

    pub broken_lost : (receptions : List (List Element)) → F ≡ facts_of_all receptions → (n : ℕ) → IsExtra F (length (spell c)) sent.last (Broken n) → IsLostAt receptions (spell c ++ tail) n
    broken_lost receptions all n b =
        let place = broken_place n b in
        let k : ℕ = place.0 in
        let none : ShowsNone (F n) = λ v. false_from_ne_true (F n v) (broken_blank n b v) in
        let small : get_or (spell c ++ tail) n 0 < 128 = subst (λ (q : ℕ). get_or (spell c ++ tail) q 0 < 128) (sym place.1.1) (character_of k place.1.0) in
        record {
          inside = omega (arith, place.1.1, place.1.0, tail_long, list_long);
          nowhere = blank_list receptions (spell c ++ tail) n (omega (arith, place.1.1, place.1.0, tail_long, tail_short, (calls c lawful).1)) small
              (subst (λ (G : Facts). ShowsNone (G n)) all none);
        }

-- where nothing was sent after the call, nothing follows
pub absent_is : (F : Facts) (from : ℕ) (e : End) (extra : Extra) → from < 64 → IsBlankFrom F from → IsExtra F from e extra → extra ≡ Absent
absent_is F from e Absent inside blank is = refl
absent_is F from e (Whole y) inside blank is = absurd (shown_some F from (through_check y e) (some_check y e) inside is.1 blank)
absent_is F from e (Broken n) inside blank is = absurd (is.some blank)

-- what all heard receptions together show of a list
pub all_of_tail : ((list : List ℕ) (e : List Element) (p v : ℕ) → All (λ symbol. symbol < 128) list → IsHeard e list → p + 2 < length list → facts_of e p v ≡ true → v ≡ get_or list p 0)
    → (receptions : List (List Element)) (list : List ℕ) (p v : ℕ) → All (λ symbol. symbol < 128) list → All (λ e. IsHeard e list) receptions → p + 2 < length list
    → facts_of_all receptions p v ≡ true → v ≡ get_or list p 0
unfolding facts_of_all
all_of_tail law receptions list p v characters heard below has =
    any_of (λ e. IsHeard e list) p v (get_or list p 0) (λ e is shows. law list e p v characters is below shows) receptions heard has

-- the laws of lists
pub record Laws : Type 0 where
  pub differ : ExpansionsDiffer
  pub calls : CallsAreShort
  pub short : ExpansionsAreShort
  pub characters : ExpansionsAreCharacters

-- what the facts of heard receptions say of the tail
module _ (laws : Laws) (receptions : List (List Element)) (c : Call) (lawful : IsCall c) (tail : List ℕ) where
  pub tells : ((x : Sets) → IsExpandedBy c tail x → (p v : ℕ) → p + 2 < length (spell c ++ tail) → facts_of_all receptions p v ≡ true → v ≡ get_or (spell c ++ tail) p 0)
      → ((e : List Element) (p v : ℕ) → EndsWithin e (spell c) → length (spell c) ≤ p → facts_of e p v ≡ false)
      → (extra : Extra) → Follows (facts_of_all receptions) c extra → TellsTail receptions c tail extra
  unfolding facts_of_all
  tells only past extra follows = record {
    whole = λ x y sent is.
        whole_is laws.differ laws.calls laws.short laws.characters (facts_of_all receptions) c lawful tail x sent (only x sent) y
        (extra_with (facts_of_all receptions) c (Whole y) sent.last sent.own (subst (λ (a : Extra). Follows (facts_of_all receptions) c a) is follows));
    broken = λ x n sent is.
        broken_lost laws.differ laws.calls laws.short laws.characters (facts_of_all receptions) c lawful tail x sent (only x sent) receptions refl n
        (extra_with (facts_of_all receptions) c (Broken n) sent.last sent.own (subst (λ (a : Extra). Follows (facts_of_all receptions) c a) is follows));
    absent = λ none within.
        absent_is (facts_of_all receptions) (length (spell c)) follows.last extra (omega (arith, (laws.calls c lawful).1))
        (λ p least below v. none_of (λ e. EndsWithin e (spell c)) p v (λ e inside. past e p v inside least) receptions within) follows.is;
  }

-- the characters of a call and of the expansion after it
pub all_characters : Laws → ((c : Call) → IsCall c → All (λ symbol. symbol < 128) (spell c)) → (c : Call) (tail : List ℕ) (x : Sets) → IsCall c → IsExpandedBy c tail x
    → All (λ symbol. symbol < 128) (spell c ++ tail)
all_characters laws characters c tail x lawful sent =
    All-append (λ symbol. symbol < 128) (spell c) tail (characters c lawful) (subst (λ (l : List ℕ). All (λ symbol. symbol < 128) l) (sym sent.list) (laws.characters x sent.last sent.lawful))
