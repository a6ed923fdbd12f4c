-- What is held after each step.
use Rattle.std.proofs.Common.{◌≡◌, ℕ, ◌+◌, ◌<◌, ◌≤◌, Bool, true, false, not, cond, ◌&&◌, ◌||◌, ◌==◌, nat_lt, List, [], ◌∷◌, ◌++◌, length, slice_index_or, Option, Some, None, refl, sym, ap, subst, ◌∙◌, inl, inr, arith, All}
use Rattle.std.specs.Prelude.{◌↔◌, is_some}
use Rattle.std.specs.List.{list_any}
use Rattle.std.specs.Map.{keys_of}
use Rattle.std.specs.Ordering.{nat_cmp, is_eq}
use Rattle.std.specs.List.Sorted.{IsStrictlySortedBy}
use Rattle.std.proofs.lemmas.Bool.{cases_eq, eq-eqb, ne_eqb, lt-ltb, or_from, and_left, or_left, or_right, and_right}
use Rattle.std.proofs.lemmas.List.{length-append, get_or_push, get_or_append_left}
use Rattle.std.proofs.lemmas.List.Elements.{All-head, All-tail, All-push, All-weaker, All-nil}
use Rattle.std.proofs.lemmas.List.Folds.{list_any-append}
use Rattle.std.proofs.Math.Bool.{or-false, or_assoc}
use Rattle.std.proofs.lemmas.Option.{same_Some}
use Rattle.std.proofs.lemmas.Map.Entries.{length-keys_of}
use Rattle.ten_unit.specs.declared.character.Element.{Element}
use Rattle.slot_evidence.specs.declared.places.Seen.{Seen}
use Rattle.slot_evidence.specs.Facts.{Facts, facts_of, no_facts, union}
use Rattle.slot_evidence.specs.Sheet.{IsEnds}
use Rattle.receiver_pool.specs.declared.group_entries.GroupReception.{GroupReception}
use Rattle.receiver_pool.specs.Groups.{facts_of_group, AreSheets, Belongs}
use Rattle.join_groups.specs.Groups.{is_among}
use Rattle.join_groups.specs.Holds.{named_with, facts_with, facts_without, IsFull, IsHeld, HoldsIn}
use Rattle.join_groups.proofs.Naming.{same_facts}
use Rattle.join_groups.proofs.Rising.{at_test, found, among_keys, rising_keys, same_rising}

-- the sheet's facts and the batch's, with some more of either
more_closed : (c b g : Bool) → (c || b || g) ≡ (c || g || b)
more_closed true b g = refl
more_closed false true true = refl
more_closed false true false = refl
more_closed false false g = sym (or-false g)

less_of : (t c : Bool) → (not t && (c || false)) ≡ ((not t && c) || false)
less_of true c = refl
less_of false c = refl

-- batches
batch_push : (batch : List GroupReception) (h : GroupReception) (n p v : ℕ) → facts_of_group (batch ++ h ∷ []) n p v ≡ (facts_of_group batch n p v || (h.group == n && facts_of h.reception p v))
unfolding facts_of_group
batch_push batch h n p v =
    list_any-append (λ heard. heard.group == n && facts_of heard.reception p v) batch (h ∷ [])
    ∙ ap (λ (b : Bool). list_any (λ heard. heard.group == n && facts_of heard.reception p v) batch || b) (or-false (h.group == n && facts_of h.reception p v))

none_of_next : (batch : List GroupReception) (n p v : ℕ) → All (Belongs n) batch → facts_of_group batch n p v ≡ false
unfolding facts_of_group
none_of_next [] n p v all = refl
none_of_next (h ∷ batch) n p v all =
    or_from _ _ (and_left (h.group == n) _ (ne_eqb h.group n (λ e. absurd (omega (arith, (All-head (Belongs n) h batch all).group, e)))))
    (none_of_next batch n p v (All-tail (Belongs n) h batch all))

pub none_waits : (n p v : ℕ) → facts_of_group [] n p v ≡ false
unfolding facts_of_group
none_waits n p v = refl

-- the same groups and facts
same_held : (named other : Bool) (F G : Facts) (closed : ℕ → Facts) (sheets : ℕ) (batch : List GroupReception) (o : Option ℕ) → named ≡ other → ((p v : ℕ) → F p v ≡ G p v)
    → IsHeld named F closed sheets batch o → IsHeld other G closed sheets batch o
same_held named other F G closed sheets batch None n f h = (sym n ∙ h.0, λ p v. sym (f p v) ∙ h.1 p v)
same_held named other F G closed sheets batch (Some m) n f h = (sym n ∙ h.0, h.1, λ p v. sym (f p v) ∙ h.2 p v)

pub holds_same : (at : ℕ → Option ℕ) (sheets : List (List Seen)) (batch : List GroupReception) (named other : ℕ → Bool) (F G : ℕ → Facts) → ((k : ℕ) → named k ≡ other k) → ((k p v : ℕ) → F k p v ≡ G k p v)
    → HoldsIn at sheets batch named F → HoldsIn at sheets batch other G
holds_same at sheets batch named other F G n f h = record {
  closed = h.closed;
  are_sheets = h.are_sheets;
  belong = h.belong;
  group_with = h.group_with;
  numbered = h.numbered;
  held = λ k. same_held (named k) (other k) (F k) (G k) h.closed (length sheets) batch (at k) (n k) (f k) (h.held k);
}

-- one that has no number is another group
no_test : (at : ℕ → Option ℕ) (group n k : ℕ) → at group ≡ Some n → at k ≡ None → (group == k) ≡ false
no_test at group n k is none = ne_eqb group k (λ e. absurd (never (sym is ∙ ap at e ∙ none)))
  where
    never : Some n ≡ None → ⊥
    never e = absurd cc

-- groups, their sheets and the batch, and what is held of them
module _ (at : ℕ → Option ℕ) (sheets : List (List Seen)) (batch : List GroupReception) (named : ℕ → Bool) (F : ℕ → Facts) where
  -- what is held of a group that has a number, and of one that has none
  pub held_some : (k n : ℕ) → at k ≡ Some n → (h : HoldsIn at sheets batch named F) → IsHeld (named k) (F k) h.closed (length sheets) batch (Some n)
  held_some k n is h = subst (λ (o : Option ℕ). IsHeld (named k) (F k) h.closed (length sheets) batch o) is (h.held k)

  -- of a group without a number nothing is held
  pub held_none : (k : ℕ) → at k ≡ None → (h : HoldsIn at sheets batch named F) → IsHeld (named k) (F k) h.closed (length sheets) batch None
  held_none k is h = subst (λ (o : Option ℕ). IsHeld (named k) (F k) h.closed (length sheets) batch o) is (h.held k)

  -- a group that has a number is named once more
  pub holds_named : (group n : ℕ) → at group ≡ Some n → HoldsIn at sheets batch named F → HoldsIn at sheets batch (named_with group named) F
  holds_named group n is h =
      holds_same at sheets batch named (named_with group named) F F
      (λ k. elim (cases_eq group k) [
        | inl here ↦ (let yes : named k ≡ true = subst (λ (j : ℕ). named j ≡ true) here (held_some group n is h).0 in yes ∙ sym (or_left (named k) (group == k) yes))
        | inr apart ↦ sym (ap (λ (b : Bool). named k || b) (ne_eqb group k apart) ∙ or-false (named k))
      ])
      (λ k p v. refl) h

  -- the number of one group is no other's
  same_test : (group n k m : ℕ) → at group ≡ Some n → at k ≡ Some m → HoldsIn at sheets batch named F → (group == k) ≡ (n == m)
  same_test group n k m is found h =
      elim (cases_eq group k) [
        | inl same ↦ eq-eqb group k same ∙ sym (eq-eqb n m (same_Some n m (sym is ∙ ap at same ∙ found)))
        | inr apart ↦ ne_eqb group k apart ∙ sym (ne_eqb n m (λ e. apart (sym (h.numbered group n is) ∙ ap h.group_with e ∙ h.numbered k m found)))
      ]

  module _ (group n : ℕ) (is : at group ≡ Some n) (h : HoldsIn at sheets batch named F) where
    -- its sheet is met with some facts
    met_held : (G : Facts) (k : ℕ) (o : Option ℕ) → at k ≡ o → IsHeld (named k) (F k) h.closed (length sheets) batch o
        → IsHeld (named k) (facts_with group G F k) (λ m. union (h.closed m) (λ p v. n == m && G p v)) (length sheets) batch o
    met_held G k None found held = (held.0, λ p v. or_from (F k p v) _ (held.1 p v) (and_left (group == k) _ (no_test at group n k is found)))
    met_held G k (Some m) found held = (
      held.0,
      held.1,
      λ p v.
          ap (λ (b : Bool). b || (group == k && G p v)) (held.2 p v)
          ∙ ap (λ (b : Bool). h.closed m p v || facts_of_group batch m p v || (b && G p v)) (same_test group n k m is found h)
          ∙ more_closed (h.closed m p v) (facts_of_group batch m p v) (n == m && G p v),
    )

    pub holds_met : (G : Facts) (after : List (List Seen)) → ((C : ℕ → Facts) (m : ℕ) → AreSheets C sheets m → AreSheets (λ k. union (C k) (λ p v. n == k && G p v)) after m)
        → HoldsIn at after batch named (facts_with group G F)
    holds_met G after met =
        let are = met h.closed (length sheets) h.are_sheets in
        record {
          closed = λ m. union (h.closed m) (λ p v. n == m && G p v);
          are_sheets = subst (λ (c : ℕ). AreSheets (λ m. union (h.closed m) (λ p v. n == m && G p v)) after c) (sym are.count) are;
          belong = subst (λ (c : ℕ). All (Belongs c) batch) (sym are.count) h.belong;
          group_with = h.group_with;
          numbered = h.numbered;
          held = λ k. subst (λ (c : ℕ). IsHeld (named k) (facts_with group G F k) (λ m. union (h.closed m) (λ p v. n == m && G p v)) c batch (at k)) (sym are.count) (met_held G k (at k) refl (h.held k));
        }

    -- a reception of it waits
    heard_held : (e : List Element) (k : ℕ) (o : Option ℕ) → at k ≡ o → IsHeld (named k) (F k) h.closed (length sheets) batch o
        → IsHeld (named k) (facts_with group (facts_of e) F k) h.closed (length sheets) (batch ++ record { group = n; reception = e } ∷ []) o
    heard_held e k None found held = (held.0, λ p v. or_from (F k p v) _ (held.1 p v) (and_left (group == k) _ (no_test at group n k is found)))
    heard_held e k (Some m) found held = (
      held.0,
      held.1,
      λ p v.
          ap (λ (b : Bool). b || (group == k && facts_of e p v)) (held.2 p v)
          ∙ ap (λ (b : Bool). h.closed m p v || facts_of_group batch m p v || (b && facts_of e p v)) (same_test group n k m is found h)
          ∙ or_assoc (h.closed m p v) (facts_of_group batch m p v) (n == m && facts_of e p v)
          ∙ ap (λ (b : Bool). h.closed m p v || b) (sym (batch_push batch (record { group = n; reception = e }) m p v)),
    )

    pub holds_heard : (e : List Element) → length e ≤ 1000000 → HoldsIn at sheets (batch ++ record { group = n; reception = e } ∷ []) named (facts_with group (facts_of e) F)
    holds_heard e short = record {
      closed = h.closed;
      are_sheets = h.are_sheets;
      belong = All-push (Belongs (length sheets)) batch (record { group = n; reception = e }) h.belong (record { group = (held_some group n is h).1; short = short });
      group_with = h.group_with;
      numbered = h.numbered;
      held = λ k. heard_held e k (at k) refl (h.held k);
    }

  -- what a sheet shows of its group, where no reception waits
  pub shown_whole : (k n : ℕ) (sheet : List Seen) → batch ≡ [] → at k ≡ Some n → (h : HoldsIn at sheets batch named F)
      → IsEnds (h.closed n) sheet → IsEnds (F k) sheet
  shown_whole k n sheet ended is h ends =
      subst (λ (X : Facts). IsEnds X sheet)
      (same_facts (h.closed n) (F k) (λ p v.
      sym ((held_some k n is h).2 p v
      ∙ ap (λ (b : List GroupReception). h.closed n p v || facts_of_group b n p v) ended
      ∙ ap (λ (b : Bool). h.closed n p v || b) (none_waits n p v) ∙ or-false (h.closed n p v))))
      ends

  -- a group that has no number has no facts to lose
  pub holds_unknown : (group : ℕ) → at group ≡ None
      → HoldsIn at sheets batch named F → HoldsIn at sheets batch named (facts_without group F)
  holds_unknown group none h =
      holds_same at sheets batch named named F (facts_without group F) (λ k. refl)
      (λ k p v. elim (cases_eq group k) [
        | inl same ↦
            (let nothing : F k p v ≡ false = subst (λ (j : ℕ). F j p v ≡ false) same ((held_none group none h).1 p v) in
            nothing ∙ sym (ap (λ (b : Bool). not b && F k p v) (eq-eqb group k same)))
        | inr apart ↦ sym (ap (λ (b : Bool). not b && F k p v) (ne_eqb group k apart))
      ]) h

  pub known_is_not_full : (group n : ℕ) → at group ≡ Some n
      → HoldsIn at sheets batch named F → IsFull named group → ⊥
  known_is_not_full group n is h full =
      let known : named group ≡ true = (held_some group n is h).0 in
      let new : named group ≡ false = full.is_new in
      absurd (cc (new, known))

-- a group gets the next number
next_held : (named : Bool) (F : Facts) (closed : ℕ → Facts) (count : ℕ) (batch : List GroupReception) (o : Option ℕ) → IsHeld named F closed count batch o
    → IsHeld named F (λ m p v. nat_lt m count && closed m p v) (count + 1) batch o
next_held named F closed count batch None h = h
next_held named F closed count batch (Some m) h =
    (h.0, omega (arith, h.1), λ p v. h.2 p v ∙ ap (λ (b : Bool). (b && closed m p v) || facts_of_group batch m p v) (sym (lt-ltb m count h.1)))

below_next : (named : Bool) (F : Facts) (closed : ℕ → Facts) (count : ℕ) (batch : List GroupReception) (o : Option ℕ) (n : ℕ) → o ≡ Some n → IsHeld named F closed count batch o → n < count
below_next named F closed count batch o n is h = (subst (λ (x : Option ℕ). IsHeld named F closed count batch x) is h).1

pub holds_numbered : (at next : ℕ → Option ℕ) (sheets : List (List Seen)) (batch : List GroupReception) (named : ℕ → Bool) (F : ℕ → Facts) (group : ℕ) (blank : List Seen) → at group ≡ None
    → ((k : ℕ) → next k ≡ cond (is_eq (nat_cmp group k)) (Some (length sheets)) (at k)) → IsEnds no_facts blank
    → HoldsIn at sheets batch named F → HoldsIn next (sheets ++ blank ∷ []) batch (named_with group named) F
holds_numbered at next sheets batch named F group blank none is ends h =
    let count = length sheets in
    let more : length (sheets ++ blank ∷ []) ≡ count + 1 = length-append sheets (blank ∷ []) in
    let closed : ℕ → Facts = λ m p v. nat_lt m count && h.closed m p v in
    let here : group ≡ group → next group ≡ Some count = λ e. is group ∙ ap (λ (b : Bool). cond b (Some count) (at group)) (at_test group group ∙ eq-eqb group group refl) in
    let other : (k : ℕ) → (group ≡ k → ⊥) → next k ≡ at k = λ k apart. is k ∙ ap (λ (b : Bool). cond b (Some count) (at k)) (at_test group k ∙ ne_eqb group k apart) in
    record {
      closed = closed;
      are_sheets = record {
        count = refl;
        each = λ m below. elim (cases_eq m count) [
          | inl last ↦
              subst (λ (s : List Seen). IsEnds (closed m) s) (sym (get_or_push sheets blank [] m (sym last)))
              (subst (λ (X : Facts). IsEnds X blank) (sym (same_facts (closed m) no_facts (λ p v. and_left (nat_lt m count) _ (not_below m count last)))) ends)
          | inr apart ↦ (let under : m < count = omega (arith, below, more, apart) in
              subst (λ (s : List Seen). IsEnds (closed m) s) (sym (get_or_append_left sheets (blank ∷ []) [] m under))
              (subst (λ (X : Facts). IsEnds X (slice_index_or sheets m []))
              (same_facts (h.closed m) (closed m) (λ p v. ap (λ (b : Bool). b && h.closed m p v) (sym (lt-ltb m count under))))
              (h.are_sheets.each m under)))
        ];
      };
      belong = subst (λ (n : ℕ). All (Belongs n) batch) (sym more)
          (All-weaker (Belongs count) (Belongs (count + 1)) (λ x b. record { group = omega (arith, b.group); short = b.short }) batch h.belong);
      group_with = λ m. cond (m == count) group (h.group_with m);
      numbered = λ k n found. elim (cases_eq group k) [
        | inl same ↦
            (let number : Some count ≡ Some n = sym (here refl) ∙ ap next same ∙ found in
            ap (λ (b : Bool). cond b group (h.group_with n)) (eq-eqb n count (sym (same_Some count n number))) ∙ same)
        | inr apart ↦
            (let old : at k ≡ Some n = sym (other k apart) ∙ found in
            let under : n < count = below_next (named k) (F k) h.closed count batch (at k) n old (h.held k) in
            ap (λ (b : Bool). cond b group (h.group_with n)) (ne_eqb n count (λ e. absurd (omega (arith, under, e)))) ∙ h.numbered k n old)
      ];
      held = λ k. elim (cases_eq group k) [
        | inl same ↦
            (let nothing : (p v : ℕ) → F k p v ≡ false = λ p v. subst (λ (j : ℕ). F j p v ≡ false) same ((held_none at sheets batch named F group none h).1 p v) in
            subst (λ (o : Option ℕ). IsHeld (named_with group named k) (F k) closed (length (sheets ++ blank ∷ [])) batch o) (sym (here refl) ∙ ap next same) (
              or_right (named k) (group == k) (eq-eqb group k same),
              omega (arith, more),
              λ p v.
                  nothing p v ∙ sym (or_from _ _ (and_left (nat_lt count count) _ (not_below count count refl)) (none_of_next batch count p v h.belong)),
            ))
        | inr apart ↦
            subst (λ (n : ℕ). IsHeld (named_with group named k) (F k) closed n batch (next k)) (sym more)
            (subst (λ (o : Option ℕ). IsHeld (named_with group named k) (F k) closed (count + 1) batch o) (sym (other k apart))
            (next_held (named_with group named k) (F k) h.closed count batch (at k)
            (same_held (named k) (named_with group named k) (F k) (F k) h.closed count batch (at k) (sym (ap (λ (b : Bool). named k || b) (ne_eqb group k apart) ∙ or-false (named k))) (λ p v. refl) (h.held k))))
      ];
    }
  where
    not_below : (m count : ℕ) → m ≡ count → nat_lt m count ≡ false
    not_below m count e = grind arith

-- the batch is joined into the sheets
closed_held : (named : Bool) (F : Facts) (closed : ℕ → Facts) (sheets : ℕ) (batch : List GroupReception) (o : Option ℕ) → IsHeld named F closed sheets batch o
    → IsHeld named F (λ m. union (closed m) (facts_of_group batch m)) sheets [] o
closed_held named F closed sheets batch None held = held
closed_held named F closed sheets batch (Some m) held = (
  held.0,
  held.1,
  λ p v.
      held.2 p v ∙ sym (ap (λ (b : Bool). closed m p v || facts_of_group batch m p v || b) (none_waits m p v) ∙ or-false _),
)

-- a batch that is joined into the sheets leaves all that is held as it was
pub holds_closed : (at : ℕ → Option ℕ) (sheets after : List (List Seen)) (batch : List GroupReception) (named : ℕ → Bool) (F : ℕ → Facts)
    → ((C : ℕ → Facts) (m : ℕ) → AreSheets C sheets m → AreSheets (λ k. union (C k) (facts_of_group batch k)) after m) → HoldsIn at sheets batch named F → HoldsIn at after [] named F
holds_closed at sheets after batch named F joined h =
    let are = joined h.closed (length sheets) h.are_sheets in
    record {
      closed = λ m. union (h.closed m) (facts_of_group batch m);
      are_sheets = subst (λ (c : ℕ). AreSheets (λ m. union (h.closed m) (facts_of_group batch m)) after c) (sym are.count) are;
      belong = All-nil (Belongs (length after));
      group_with = h.group_with;
      numbered = h.numbered;
      held = λ k. subst (λ (c : ℕ). IsHeld (named k) (F k) (λ m. union (h.closed m) (facts_of_group batch m)) c [] (at k)) (sym are.count) (closed_held (named k) (F k) h.closed (length sheets) batch (at k) (h.held k));
    }

-- its facts begin anew
pub holds_anew : (at : ℕ → Option ℕ) (sheets after : List (List Seen)) (batch : List GroupReception) (named : ℕ → Bool) (F : ℕ → Facts) (group n : ℕ) → batch ≡ [] → at group ≡ Some n
    → ((C : ℕ → Facts) (m : ℕ) → AreSheets C sheets m → AreSheets (λ k p v. not (n == k) && C k p v) after m)
    → HoldsIn at sheets batch named F → HoldsIn at after batch named (facts_without group F)
holds_anew at sheets after batch named F group n ended is left h =
    let are = left h.closed (length sheets) h.are_sheets in
    record {
      closed = λ k p v. not (n == k) && h.closed k p v;
      are_sheets = subst (λ (c : ℕ). AreSheets (λ k p v. not (n == k) && h.closed k p v) after c) (sym are.count) are;
      belong = subst (λ (c : ℕ). All (Belongs c) batch) (sym are.count) h.belong;
      group_with = h.group_with;
      numbered = h.numbered;
      held = λ k. subst (λ (c : ℕ). IsHeld (named k) (facts_without group F k) (λ j p v. not (n == j) && h.closed j p v) c batch (at k)) (sym are.count) (anew_held k (at k) refl (h.held k));
    }
  where
    anew_held : (k : ℕ) (o : Option ℕ) → at k ≡ o → IsHeld (named k) (F k) h.closed (length sheets) batch o
        → IsHeld (named k) (facts_without group F k) (λ j p v. not (n == j) && h.closed j p v) (length sheets) batch o
    anew_held k None found held = (held.0, λ p v. and_right (not (group == k)) (F k p v) (held.1 p v))
    anew_held k (Some m) found held = (
      held.0,
      held.1,
      λ p v.
          (let waits : facts_of_group batch m p v ≡ false = ap (λ (b : List GroupReception). facts_of_group b m p v) ended ∙ none_waits m p v in
          ap (λ (b : Bool). not (group == k) && b) (held.2 p v ∙ ap (λ (b : Bool). h.closed m p v || b) waits)
          ∙ ap (λ (b : Bool). not b && (h.closed m p v || false)) (same_test at sheets batch named F group n k m is found h)
          ∙ less_of (n == m) (h.closed m p v)
          ∙ ap (λ (b : Bool). (not (n == m) && h.closed m p v) || b) (sym waits)),
    )

-- the groups that are held
is_held_some : (named : Bool) (F : Facts) (closed : ℕ → Facts) (sheets : ℕ) (batch : List GroupReception) (o : Option ℕ) → IsHeld named F closed sheets batch o → is_some o ≡ named
is_held_some named F closed sheets batch None h = sym h.0
is_held_some named F closed sheets batch (Some n) h = sym h.0

pub held_groups : (numbers : List (ℕ × ℕ)) (sheets : List (List Seen)) (batch : List GroupReception) (named : ℕ → Bool) (F : ℕ → Facts) → HoldsIn (found numbers) sheets batch named F
    → (k : ℕ) → is_among (keys_of numbers) k ≡ named k
held_groups numbers sheets batch named F h k = among_keys numbers k ∙ is_held_some (named k) (F k) h.closed (length sheets) batch (found numbers k) (h.held k)

-- as many as there may be, and one more
pub is_full : (numbers : List (ℕ × ℕ)) (sheets : List (List Seen)) (batch : List GroupReception) (named : ℕ → Bool) (F : ℕ → Facts) (group : ℕ) → IsStrictlySortedBy nat_cmp (keys_of numbers) → found numbers group ≡ None
    → 1024 ≤ length numbers → HoldsIn (found numbers) sheets batch named F → IsFull named group
is_full numbers sheets batch named F group ordered none many h = record {
  is_new = (held_none (found numbers) sheets batch named F group none h).0;
  groups = keys_of numbers;
  rising = rising_keys (keys_of numbers) ordered;
  are = held_groups numbers sheets batch named F h;
  many = omega (arith, many, length-keys_of numbers);
}

pub full_has_many : (numbers : List (ℕ × ℕ)) (sheets : List (List Seen)) (batch : List GroupReception) (named : ℕ → Bool) (F : ℕ → Facts) (group : ℕ) → IsStrictlySortedBy nat_cmp (keys_of numbers)
    → HoldsIn (found numbers) sheets batch named F → IsFull named group → 1024 ≤ length numbers
full_has_many numbers sheets batch named F group ordered h full =
    let same : full.groups ≡ keys_of numbers =
    same_rising full.groups (keys_of numbers) full.rising (rising_keys (keys_of numbers) ordered) (λ k. full.are k ∙ sym (held_groups numbers sheets batch named F h k)) in
    omega (arith, full.many, ap length same, length-keys_of numbers)

-- nothing is held of no groups
pub holds_nothing : (at : ℕ → Option ℕ) (sheets : List (List Seen)) (batch : List GroupReception) → ((k : ℕ) → at k ≡ None) → sheets ≡ [] → batch ≡ [] → HoldsIn at sheets batch (λ k. false) (λ k. no_facts)
holds_nothing at sheets batch none no_sheets no_batch = record {
  closed = λ m. no_facts;
  are_sheets = record { count = refl; each = λ k below. absurd (omega (arith, below, ap length no_sheets)) };
  belong = subst (λ (b : List GroupReception). All (Belongs (length sheets)) b) (sym no_batch) (All-nil (Belongs (length sheets)));
  group_with = λ m. 0;
  numbered = λ k n is. absurd (never k n is);
  held = λ k. subst (λ (o : Option ℕ). IsHeld false no_facts (λ m. no_facts) (length sheets) batch o) (sym (none k)) (refl, λ p v. refl);
}
  where
    never : (k n : ℕ) → at k ≡ Some n → ⊥
    never k n is = (let e : None ≡ Some n = sym (none k) ∙ is in absurd cc)

-- the number of a group that got one
pub number_given : (next at : ℕ → Option ℕ) (group n : ℕ) → ((k : ℕ) → next k ≡ cond (is_eq (nat_cmp group k)) (Some n) (at k)) → next group ≡ Some n
number_given next at group n is = is group ∙ ap (λ (b : Bool). cond b (Some n) (at group)) (at_test group group ∙ eq-eqb group group refl)

-- a group without a number is one that isn't named
pub number_none : (named : Bool) (F : Facts) (closed : ℕ → Facts) (n : ℕ) (batch : List GroupReception) (number : Option ℕ) → IsHeld named F closed n batch number → (number ≡ None ↔ named ≡ false)
number_none named F closed n batch None held = (λ none. held.0, λ unnamed. refl)
number_none named F closed n batch (Some k) held = (λ none. absurd (cc none), λ unnamed. absurd (cc (held.0, unnamed)))
