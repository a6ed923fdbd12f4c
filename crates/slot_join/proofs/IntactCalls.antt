-- A call whose slots arrive intact is shown, character by character.
use Rattle.std.proofs.Common.{◌≡◌, ℕ, ◌+◌, ◌*◌, ◌<◌, ◌≤◌, true, ◌&&◌, ◌||◌, ltb, List, [], ◌∷◌, ◌++◌, ◌-◌, length, get_or, drop, Some, refl, sym, ap, subst, ◌∙◌, inl, inr, arith, length-append, All}
use Rattle.std.specs.Prelude.{◌↔◌}
use Rattle.std.proofs.lemmas.Bool.{lt-ltb, ltb-true, cases_lt, or_left, and_parts, or_cases}
use Rattle.std.proofs.lemmas.List.{get_or_append_left, get_or-append-add}
use Rattle.std.proofs.lemmas.List.Elements.{All-get_or}
use Rattle.ten_unit.specs.declared.character.Element.{Element}
use Rattle.ten_unit.specs.Word.{word_of, is_word}
use Rattle.time_diversity.specs.Slots.{dx_slot, rx_slot, IsSlotOf}
use Rattle.time_diversity.specs.OnAir.{sent_symbol}
use Rattle.phasing.specs.Slot.{slot, shows}
use Rattle.call_values.specs.declared.calls.Call.{Call}
use Rattle.call_values.specs.Calls.{IsCall}
use Rattle.call_grammar.specs.Spelling.{spell, through_check, format_of, fields_of, end_of, covered, check_of}
use Rattle.call_grammar.specs.Walk.{IsViable}
use Rattle.expansion.specs.declared.values.Sets.{Sets}
use Rattle.expansion.specs.Spelling.{through_check as expanded_check, spell as expanded}
use Rattle.dsc_symbols.specs.Formats.{IsFormat}
use Rattle.time_diversity.proofs.PublicLaws.{length-on_air, sent_at}
use Rattle.slot_evidence.specs.Facts.{Facts, facts_of, facts_at}
use Rattle.slot_evidence.specs.Seen.{ShowsOne}
use Rattle.slot_evidence.specs.declared.places.Seen.TheVariants as seen
use Rattle.slot_join.specs.declared.joined.Joined.{Joined}
use Rattle.slot_join.specs.declared.joined.Joined.TheVariants.{Reported}
use Rattle.slot_join.specs.declared.joined.Extra.{Extra}
use Rattle.slot_join.specs.declared.joined.Extra.TheVariants.{Absent, Whole}
use Rattle.slot_join.specs.Shown.{head_of, IsShown}
use Rattle.slot_join.specs.Extra.{IsBlankFrom, IsShownFrom, IsExtra, Follows}
use Rattle.slot_join.specs.Answer.{HasFormat, IsAnswer}
use Rattle.slot_join.specs.OneCall.{IsCallReported}
use Rattle.slot_join.specs.Intact.{ArrivesIntact, EndsWithin, IsExpandedBy}
use Rattle.slot_join.proofs.ShownLists.{viable_front, front_viable}
use Rattle.slot_join.proofs.Stops.{FrontsDiffer}
use Rattle.slot_join.proofs.OneAnswer.{OneSeen}
use Rattle.slot_join.proofs.ShownCalls.{shown_is_reported}
use Rattle.slot_join.proofs.Followers.{ExpansionsDiffer, ExpansionsAreShort, CallsAreShort, same_extra, extra_with}
use Rattle.slot_join.proofs.Tails.{ExpansionsAreCharacters, past_end, absent_is, tail_long, symbol_of}

abbrev pub WordsEqual : Type 0
WordsEqual = (w : List Element) (v : ℕ) → (is_word w v ≡ true) ↔ (w ≡ word_of v)

abbrev pub WordsApart : Type 0
WordsApart = (u v : ℕ) → u < 128 → v < 128 → word_of u ≡ word_of v → u ≡ v

abbrev pub BothSlots : Type 0
BothSlots = (list : List ℕ) (slot p : ℕ) → IsSlotOf slot p → sent_symbol list slot ≡ get_or list p 0

-- one symbol's word is in a slot
module _ (equal : WordsEqual) (apart : WordsApart) (e : List Element) (lead : ℕ) where
  one_symbol : (s u v : ℕ) → u < 128 → v < 128 → shows e lead s u ≡ true → shows e lead s v ≡ true → u ≡ v
  unfolding shows
  one_symbol s u v bu bv a b = apart u v bu bv (sym ((equal (slot e lead s) u).0 a) ∙ (equal (slot e lead s) v).0 b)

  -- where both slots of a place show one symbol, the place showed it and no other
  place_one : (p v : ℕ) → p < 64 → v < 128 → shows e lead (dx_slot p) v ≡ true → shows e lead (rx_slot p) v ≡ true → ShowsOne (facts_at e (Some lead) p) v
  place_one p v bp bv dx rx =
      let place : ltb p 64 ≡ true = lt-ltb p 64 bp in
      let symbol : ltb v 128 ≡ true = lt-ltb v 128 bv in
      let either : (shows e lead (dx_slot p) v || shows e lead (rx_slot p) v) ≡ true = or_left (shows e lead (dx_slot p) v) (shows e lead (rx_slot p) v) dx in (
        rw (place, symbol) either,
        λ w has.
            let a = and_parts (ltb p 64) (ltb w 128 && (shows e lead (dx_slot p) w || shows e lead (rx_slot p) w)) has in
            let b = and_parts (ltb w 128) (shows e lead (dx_slot p) w || shows e lead (rx_slot p) w) a.1 in
            let bw : w < 128 = ltb-true w 128 b.0 in
            elim (or_cases (shows e lead (dx_slot p) w) (shows e lead (rx_slot p) w) b.1) [
              | inl here ↦ one_symbol (dx_slot p) w v bw bv here dx
              | inr here ↦ one_symbol (rx_slot p) w v bw bv here rx
            ],
      )

-- every place of an intact list but for the last two shows the list's character
module _ (equal : WordsEqual) (apart : WordsApart) (slots : BothSlots) (e : List Element) (list : List ℕ) (arrives : ArrivesIntact e list) (characters : (p : ℕ) → p < length list → get_or list p 0 < 128) (short : length list ≤ 64) where
  facts_are : facts_of e ≡ facts_at e (Some arrives.lead)
  unfolding facts_of
  facts_are = ap (facts_at e) arrives.origin

  slot_shows : (s p : ℕ) → s < 2 * length list + 12 → IsSlotOf s p → shows e arrives.lead s (get_or list p 0) ≡ true
  slot_shows s p below is =
      subst (λ (v : ℕ). shows e arrives.lead s v ≡ true) (sent_at list s below ∙ slots list s p is) (arrives.slots s (omega (arith, length-on_air list)))

  pub place_shows : (p : ℕ) → p + 2 < length list → ShowsOne (facts_of e p) (get_or list p 0)
  place_shows p below =
      let v : ℕ = get_or list p 0 in
      let here : ShowsOne (facts_at e (Some arrives.lead) p) v =
      place_one equal apart e arrives.lead p v (omega (arith, short)) (characters p (omega arith)) (slot_shows (dx_slot p) p (omega arith) (inl refl)) (slot_shows (rx_slot p) p (omega arith) (inr refl)) in
      subst (λ (F : Facts). ShowsOne (F p) v) (sym facts_are) here

one_or_other : (F : Facts) (f : ℕ) → ShowsOne (F 0) f → ShowsOne (F 1) f → ShowsOne (head_of F) f
one_or_other F f a b = (or_left (F 0 f) (F 1 f) a.0, λ w has. elim (or_cases (F 0 w) (F 1 w) has) [ inl here ↦ a.1 w here | inr here ↦ b.1 w here ])

some_front : (c : Call) → 2 < length (through_check c)
some_front c = omega (arith, length-append (covered c) (check_of (covered c) ∷ []), length-append (fields_of c) (end_of c ∷ []))

shown_by : (F : Facts) (c : Call) → ((p : ℕ) → p + 2 < length (spell c) → ShowsOne (F p) (get_or (spell c) p 0)) → IsShown F (through_check c)
shown_by F c places =
    let whole : length (spell c) ≡ length (through_check c) + 2 = length-append (through_check c) (end_of c ∷ end_of c ∷ []) in
    let some : 2 < length (through_check c) = some_front c in
    record {
      format = format_of c;
      rest = drop 2 (through_check c);
      begins = refl;
      head = one_or_other F (format_of c) (places 0 (omega arith)) (places 1 (omega arith));
      places = λ p least below. inl (subst (λ (x : ℕ). ShowsOne (F p) x) (get_or_append_left (through_check c) (end_of c ∷ end_of c ∷ []) 0 p below) (places p (omega arith)));
    }

has_format : ((f : ℕ) → IsFormat f ↔ IsViable (f ∷ f ∷ [])) → (F : Facts) (c : Call) → IsCall c → ShowsOne (F 0) (format_of c) → ShowsOne (F 1) (format_of c) → HasFormat F (format_of c)
has_format formats F c lawful first second =
    let f : ℕ = format_of c in
    let whole : IsViable (f ∷ f ∷ []) = viable_front (f ∷ f ∷ []) (drop 2 (through_check c)) (front_viable c lawful) in
    record {
      is_one = (formats f).1 whole;
      first = λ _ none. absurd (cc (none f, first.0));
      second = λ _ none. absurd (cc (none f, second.0));
    }

-- facts that show a call's list but for its last two have the call as their answer
pub whole_answer : ((f : ℕ) → IsFormat f ↔ IsViable (f ∷ f ∷ [])) → (F : Facts) (c : Call) (extra : Extra) → IsCall c → 4 ≤ length (spell c)
    → ((p : ℕ) → p + 2 < length (spell c) → ShowsOne (F p) (get_or (spell c) p 0)) → Follows F c extra → IsAnswer F (Reported c extra)
whole_answer formats F c extra lawful least places follows =
    let f : ℕ = format_of c in
    let first : ShowsOne (F 0) f = places 0 (omega (arith, least)) in
    let second : ShowsOne (F 1) f = places 1 (omega (arith, least)) in
    record {
      head = seen.One f;
      seen = one_or_other F f first second;
      answers = inr (inr (inr (
        has_format formats F c lawful first second,
        inl (record { call = c; extra = extra; lawful = lawful; shown = shown_by F c places; follows = follows; answer_is = refl }),
      )));
    }

-- the laws of the crates below that this one rests on
pub record Laws : Type 0 where
  pub equal : WordsEqual
  pub apart : WordsApart
  pub slots : BothSlots
  pub one : OneSeen
  pub differ : FrontsDiffer
  pub formats : (f : ℕ) → IsFormat f ↔ IsViable (f ∷ f ∷ [])
  pub calls : CallsAreShort
  pub characters : (c : Call) → IsCall c → All (λ v. v < 128) (spell c)
  pub expansions : ExpansionsDiffer
  pub short : ExpansionsAreShort
  pub symbols : ExpansionsAreCharacters

-- a call at the front of an intact list is reported
module _ (laws : Laws) (F : Facts) (c : Call) (lawful : IsCall c) (answer : Joined) (is : IsAnswer F answer)
    (places : (p : ℕ) → p + 2 < length (spell c) → ShowsOne (F p) (get_or (spell c) p 0)) where
  least : 4 ≤ length (spell c)
  least = (laws.calls c lawful).0

  has : HasFormat F (format_of c)
  has = has_format laws.formats F c lawful (places 0 (omega (arith, least))) (places 1 (omega (arith, least)))

  pub front_reported : IsCallReported F c answer
  front_reported =
      let f : ℕ = format_of c in
      let head : ShowsOne (head_of F) f = one_or_other F f (places 0 (omega (arith, least))) (places 1 (omega (arith, least))) in
      shown_is_reported laws.differ F c answer lawful (shown_by F c places) has laws.one head is

-- the call alone
pub reported_alone : Laws → (c : Call) (e : List Element) (answer : Joined) → IsCall c → ArrivesIntact e (spell c) → EndsWithin e (spell c) → IsAnswer (facts_of e) answer
    → answer ≡ Reported c Absent
reported_alone laws c e answer lawful arrives within is =
    let F : Facts = facts_of e in
    let characters : (p : ℕ) → p < length (spell c) → get_or (spell c) p 0 < 128 = λ p below. All-get_or (λ v. v < 128) (spell c) p 0 below (laws.characters c lawful) in
    let places : (p : ℕ) → p + 2 < length (spell c) → ShowsOne (F p) (get_or (spell c) p 0) =
    place_shows laws.equal laws.apart laws.slots e (spell c) arrives characters (omega (arith, (laws.calls c lawful).1)) in
    let r : IsCallReported F c answer = front_reported laws F c lawful answer is places in
    let blank : IsBlankFrom F (length (spell c)) = λ p least below v. past_end laws.equal e (spell c) p v within least in
    let none : r.extra ≡ Absent = absent_is F (length (spell c)) r.follows.last r.extra (omega (arith, (laws.calls c lawful).1)) blank r.follows.is in
    r.answer_is ∙ ap (λ (a : Extra). Reported c a) none

-- the call and its expansion
pub reported_expanded : Laws → (c : Call) (tail : List ℕ) (x : Sets) (e : List Element) (answer : Joined) → IsCall c → IsExpandedBy c tail x → ArrivesIntact e (spell c ++ tail)
    → IsAnswer (facts_of e) answer → answer ≡ Reported c (Whole x)
reported_expanded laws c tail x e answer lawful sent arrives is =
    let F : Facts = facts_of e in
    let from : ℕ = length (spell c) in
    let list : List ℕ = spell c ++ tail in
    let long : length list ≡ from + length tail = length-append (spell c) tail in
    let tail_few : length tail ≤ 15 = omega (arith, ap length sent.list, (laws.short x sent.last sent.lawful).1) in
    let tail_is_long : length tail ≡ length (expanded_check x sent.last) + 2 = tail_long laws.expansions laws.calls laws.short laws.symbols F c lawful tail x sent in
    let front : (p : ℕ) → p < from → get_or list p 0 ≡ get_or (spell c) p 0 = λ p below. get_or_append_left (spell c) tail 0 p below in
    let characters : (p : ℕ) → p < length list → get_or list p 0 < 128 = λ p below. list_character laws c tail x lawful sent p (omega (arith, below, long)) in
    let shows : (p : ℕ) → p + 2 < length list → ShowsOne (F p) (get_or list p 0) =
    place_shows laws.equal laws.apart laws.slots e list arrives characters (omega (arith, (laws.calls c lawful).1)) in
    let places : (p : ℕ) → p + 2 < from → ShowsOne (F p) (get_or (spell c) p 0) =
    λ p below. subst (λ (v : ℕ). ShowsOne (F p) v) (front p (omega arith)) (shows p (omega (arith, long))) in
    let r : IsCallReported F c answer = front_reported laws F c lawful answer is places in
    let shown : IsShownFrom F from (expanded_check x sent.last) = λ k below.
    subst (λ (v : ℕ). ShowsOne (F (from + k)) v) (symbol_of laws.expansions laws.calls laws.short laws.symbols F c lawful tail x sent k below) (shows (from + k) (omega (arith, long, tail_is_long))) in
    let whole : IsExtra F from sent.last (Whole x) = (sent.lawful, shown) in
    let same : r.extra ≡ Whole x =
    same_extra laws.expansions F from sent.last r.extra (Whole x) (omega (arith, (laws.calls c lawful).1)) (extra_with F c r.extra sent.last sent.own r.follows) whole in
    r.answer_is ∙ ap (λ (a : Extra). Reported c a) same
  where
    list_character : Laws → (c : Call) (tail : List ℕ) (x : Sets) → IsCall c → IsExpandedBy c tail x → (p : ℕ) → p < length (spell c) + length tail → get_or (spell c ++ tail) p 0 < 128
    list_character laws c tail x lawful sent p below = elim (cases_lt p (length (spell c))) [
      | inl lt ↦ omega (arith, get_or_append_left (spell c) tail 0 p lt, All-get_or (λ v. v < 128) (spell c) p 0 lt (laws.characters c lawful))
      | inr le ↦
          let k : ℕ = p - length (spell c) in
          let at : p ≡ length (spell c) + k = omega arith in
          let small : get_or (expanded x sent.last) k 0 < 128 =
          All-get_or (λ v. v < 128) (expanded x sent.last) k 0 (omega (arith, ap length sent.list)) (laws.symbols x sent.last sent.lawful) in
          omega (arith, ap (λ (q : ℕ). get_or (spell c ++ tail) q 0) at, get_or-append-add (spell c) tail k 0, ap (λ (l : List ℕ). get_or l k 0) sent.list, small)
    ]
