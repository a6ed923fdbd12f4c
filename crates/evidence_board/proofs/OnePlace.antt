-- The rule at one place, where one view changes or comes.
use Rattle.std.proofs.Common.{◌≡◌, ◌≢◌, ℕ, zero, suc, ◌<◌, ◌≤◌, min, max, List, [], ◌∷◌, ◌++◌, set, refl, arith, ap, sym, ◌∙◌, subst, inl, inr}
use Rattle.std.proofs.lemmas.Bool.{cases_lt}
use mathlib.Core.Option.{some, some-ne-none}
use lib.ListN.{get_elem?}
use Rattle.atomic_table.proofs.Lists.{set_else}
use Rattle.slot_evidence.specs.Allowed.{IsAllowed}
use Rattle.evidence_board.specs.Views.{Reach, no_reach, united, Place, blank, View, place_at}
use Rattle.evidence_board.specs.Rule.{IsMet, Fits, AreAllowed, IsPlaceKept}
use Rattle.evidence_board.specs.Steps.{posted_least, posted_past, loaded_least, loaded_past, joined, uncounted}
use Rattle.evidence_board.proofs.Folds.{each_set, each_push, lowest_small, lowest_below, lowest_set, lowest_same, lowest_push, lowest_spent, highest_above, highest_set, highest_same, highest_push, highest_spent, highest_met}

-- symbols of two that may be posted
pub allowed_both : (facts : List (ℕ × ℕ)) (p : ℕ) (a b : Reach) → AreAllowed facts p a → AreAllowed facts p b → AreAllowed facts p (united a b)
allowed_both facts p a b left right = record {
  least =
      λ below.
      elim (cases_lt a.least b.least) [
        | inl first ↦ let at : a.least ≡ min a.least b.least = omega arith in subst (IsAllowed facts p) at (left.least (omega arith))
        | inr last ↦ let at : b.least ≡ min a.least b.least = omega arith in subst (IsAllowed facts p) at (right.least (omega arith))
      ];
  greatest =
      λ v is.
      elim (cases_lt a.past b.past) [
        | inl first ↦ right.greatest v (omega arith)
        | inr last ↦ left.greatest v (omega arith)
      ];
}

pub allowed_none : (facts : List (ℕ × ℕ)) (p : ℕ) → AreAllowed facts p no_reach
allowed_none facts p = record { least = λ below. absurd (omega arith); greatest = λ v is. absurd (omega arith) }

-- where there is a greatest symbol of two, the least word is no greater
met_both : (words a b : Reach) → IsMet words a → IsMet words b → 0 < max a.past b.past → words.least < max a.past b.past
met_both words a b left right some_there = grind arith

-- a view that was set is there
pub set_here_at : (views : List View) (k : ℕ) (v w : View) → get_elem? views k ≡ some v → get_elem? (set views k w) k ≡ some w
set_here_at [] k v w at = absurd (some-ne-none v (sym at))
set_here_at (u ∷ views) zero v w at = refl
set_here_at (u ∷ views) (suc k) v w at = set_here_at views k v w at

module _ (facts : List (ℕ × ℕ)) (p : ℕ) (words : Reach) (views : List View) (k : ℕ) (v : View) (kept : IsPlaceKept facts p words views) (at : get_elem? views k ≡ some v) where
  -- a view that says the same of the place
  pub place_stays : (w : View) → place_at w p ≡ place_at v p → IsPlaceKept facts p words (set views k w)
  place_stays w same = record {
    least = kept.least ∙ sym (lowest_same p views k v w at (ap (λ (c : Place). c.given.least) same));
    greatest = kept.greatest ∙ sym (highest_same p views k v w at (ap (λ (c : Place). c.given.past) same));
    fits = each_set (λ view. Fits words (place_at view p)) views k w kept.fits (subst (Fits words) (sym same) (kept.fits k v at));
    allowed = kept.allowed;
    given_allowed = each_set (λ view. AreAllowed facts p (place_at view p).given) views k w kept.given_allowed (subst (λ (c : Place). AreAllowed facts p c.given) (sym same) (kept.given_allowed k v at));
    seen_allowed = each_set (λ view. AreAllowed facts p (place_at view p).seen) views k w kept.seen_allowed (subst (λ (c : Place). AreAllowed facts p c.seen) (sym same) (kept.seen_allowed k v at));
  }

  -- kind 1: a symbol is posted as a least one
  pub least_posted : (x : ℕ) (w : View) → IsAllowed facts p x → place_at w p ≡ posted_least x (place_at v p) → IsPlaceKept facts p (record words { least = min words.least x }) (set views k w)
  least_posted x w lawful is =
      let one : Reach = record { least = x; past = 0 } in
      let single : AreAllowed facts p one = record { least = λ below. lawful; greatest = λ u none. absurd (omega arith) } in
      let wider : (c : Place) → Fits words c → Fits (record words { least = min words.least x }) c =
      λ c f. record {
        given_within = f.given_within;
        seen_within = record { least = (let h = f.seen_within.least in omega arith); past = f.seen_within.past };
        given_met = λ some_there. let h = f.given_met some_there in omega arith;
        seen_met = λ some_there. let h = f.seen_met some_there in omega arith;
      }
      in
      let mine : Fits (record words { least = min words.least x }) (posted_least x (place_at v p)) =
      let f = kept.fits k v at in record {
        given_within = record { least = (let h = f.given_within.least in omega arith); past = f.given_within.past };
        seen_within = record { least = (let h = f.seen_within.least in omega arith); past = f.seen_within.past };
        given_met = λ some_there. let h = f.given_met some_there in omega arith;
        seen_met = λ some_there. let h = f.seen_met some_there in omega arith;
      }
      in
      let narrow : (r : Reach) → AreAllowed facts p r → AreAllowed facts p (record r { least = min r.least x }) =
      λ r a. record {
        least = (allowed_both facts p r one a single).least;
        greatest = a.greatest;
      }
      in record {
        least = ap (λ (n : ℕ). min n x) kept.least ∙ sym (lowest_set p views k x v w at (ap (λ (c : Place). c.given.least) is));
        greatest = kept.greatest ∙ sym (highest_same p views k v w at (ap (λ (c : Place). c.given.past) is));
        fits = each_set (λ view. Fits (record words { least = min words.least x }) (place_at view p)) views k w (λ j u there. wider (place_at u p) (kept.fits j u there)) (subst (Fits (record words { least = min words.least x })) (sym is) mine);
        allowed = narrow words kept.allowed;
        given_allowed = each_set (λ view. AreAllowed facts p (place_at view p).given) views k w kept.given_allowed (subst (λ (c : Place). AreAllowed facts p c.given) (sym is) (narrow _ (kept.given_allowed k v at)));
        seen_allowed = each_set (λ view. AreAllowed facts p (place_at view p).seen) views k w kept.seen_allowed (subst (λ (c : Place). AreAllowed facts p c.seen) (sym is) (narrow _ (kept.seen_allowed k v at)));
      }

  -- kind 2: a symbol is posted as a greatest one, after a least one
  pub past_posted : (x n : ℕ) (w : View) → IsAllowed facts p x → n ≡ suc x → (place_at v p).given.least ≤ x → place_at w p ≡ posted_past n (place_at v p) → IsPlaceKept facts p (record words { past = max words.past n }) (set views k w)
  past_posted x n w lawful next low is =
      let one : Reach = record { least = 128; past = n } in
      let single : AreAllowed facts p one = record {
        least = λ below. absurd (omega arith);
        greatest = λ u same. let here : x ≡ u = omega arith in subst (IsAllowed facts p) here lawful;
      }
      in
      let wider : (c : Place) → Fits words c → Fits (record words { past = max words.past n }) c =
      λ c f. record {
        given_within = f.given_within;
        seen_within = record { least = f.seen_within.least; past = (let h = f.seen_within.past in omega arith) };
        given_met = f.given_met;
        seen_met = f.seen_met;
      }
      in
      let mine : Fits (record words { past = max words.past n }) (posted_past n (place_at v p)) =
      let f = kept.fits k v at in
      let below = f.given_within.least in
      let under = f.seen_within.least in record {
        given_within = record { least = f.given_within.least; past = (let h = f.given_within.past in omega arith) };
        seen_within = record { least = f.seen_within.least; past = (let h = f.seen_within.past in omega arith) };
        given_met = λ some_there. omega arith;
        seen_met = λ some_there. omega arith;
      }
      in
      let widened : (r : Reach) → AreAllowed facts p r → AreAllowed facts p (record r { past = max r.past n }) =
      λ r a. record {
        least = a.least;
        greatest = (allowed_both facts p r one a single).greatest;
      }
      in record {
        least = kept.least ∙ sym (lowest_same p views k v w at (ap (λ (c : Place). c.given.least) is));
        greatest = ap (λ (m : ℕ). max m n) kept.greatest ∙ sym (highest_set p views k n v w at (ap (λ (c : Place). c.given.past) is));
        fits = each_set (λ view. Fits (record words { past = max words.past n }) (place_at view p)) views k w (λ j u there. wider (place_at u p) (kept.fits j u there)) (subst (Fits (record words { past = max words.past n })) (sym is) mine);
        allowed = widened words kept.allowed;
        given_allowed = each_set (λ view. AreAllowed facts p (place_at view p).given) views k w kept.given_allowed (subst (λ (c : Place). AreAllowed facts p c.given) (sym is) (widened _ (kept.given_allowed k v at)));
        seen_allowed = each_set (λ view. AreAllowed facts p (place_at view p).seen) views k w kept.seen_allowed (subst (λ (c : Place). AreAllowed facts p c.seen) (sym is) (widened _ (kept.seen_allowed k v at)));
      }

  -- kinds 3 and 4 change what the seat saw, and not what it gave
  saw : (c : Place) (w : View) → place_at w p ≡ c → c.given ≡ (place_at v p).given → Fits words c → AreAllowed facts p c.seen → IsPlaceKept facts p words (set views k w)
  saw c w is given fits lawful = record {
    least = kept.least ∙ sym (lowest_same p views k v w at (ap (λ (c : Place). c.given.least) is ∙ ap (λ (r : Reach). r.least) given));
    greatest = kept.greatest ∙ sym (highest_same p views k v w at (ap (λ (c : Place). c.given.past) is ∙ ap (λ (r : Reach). r.past) given));
    fits = each_set (λ view. Fits words (place_at view p)) views k w kept.fits (subst (Fits words) (sym is) fits);
    allowed = kept.allowed;
    given_allowed = each_set (λ view. AreAllowed facts p (place_at view p).given) views k w kept.given_allowed (subst (AreAllowed facts p) (sym (ap (λ (c : Place). c.given) is ∙ given)) (kept.given_allowed k v at));
    seen_allowed = each_set (λ view. AreAllowed facts p (place_at view p).seen) views k w kept.seen_allowed (subst (λ (c : Place). AreAllowed facts p c.seen) (sym is) lawful);
  }

  -- kind 3: the least word is loaded
  pub least_loaded : (w : View) → place_at w p ≡ loaded_least words.least (place_at v p) → IsPlaceKept facts p words (set views k w)
  least_loaded w is =
      let f = kept.fits k v at in
      let a = kept.seen_allowed k v at in
      saw (loaded_least words.least (place_at v p)) w is refl
      record {
        given_within = record { least = (let h = f.given_within.least in let i = f.seen_within.least in omega arith); past = f.given_within.past };
        seen_within = record { least = omega arith; past = f.seen_within.past };
        given_met = f.given_met;
        seen_met = f.seen_met;
      }
      record { least = kept.allowed.least; greatest = a.greatest }

  -- kind 4: the greatest word is loaded
  pub past_loaded : (w : View) → place_at w p ≡ loaded_past words.past (place_at v p) → IsPlaceKept facts p words (set views k w)
  past_loaded w is =
      let f = kept.fits k v at in
      let a = kept.seen_allowed k v at in
      let all = kept.greatest in
      saw (loaded_past words.past (place_at v p)) w is refl
      record {
        given_within = record { least = f.given_within.least; past = (let h = f.given_within.past in let i = f.seen_within.past in omega arith) };
        seen_within = record { least = f.seen_within.least; past = omega arith };
        given_met = f.given_met;
        seen_met = λ some_there. let met = highest_met p words.least views (λ j u there. (kept.fits j u there).given_met) (omega arith) in omega arith;
      }
      record { least = a.least; greatest = kept.allowed.greatest }

  -- kind 5: a new seat has what this one gave and saw
  pub half_comes : (w : View) → place_at w p ≡ uncounted (place_at v p) → IsPlaceKept facts p words (views ++ w ∷ [])
  half_comes w is =
      let f = kept.fits k v at in
      let low : (place_at w p).given.least ≡ (place_at v p).given.least = ap (λ (c : Place). c.given.least) is in
      let high : (place_at w p).given.past ≡ (place_at v p).given.past = ap (λ (c : Place). c.given.past) is in
      let below = lowest_below p views k v at in
      let above = highest_above p views k v at in
      let is_low = kept.least in
      let is_high = kept.greatest in
      let mine : Fits words (uncounted (place_at v p)) = record { given_within = f.given_within; seen_within = f.seen_within; given_met = f.given_met; seen_met = f.seen_met } in record {
        least = omega (arith, lowest_push p views w);
        greatest = omega (arith, highest_push p views w);
        fits = each_push (λ view. Fits words (place_at view p)) views w kept.fits (subst (Fits words) (sym is) mine);
        allowed = kept.allowed;
        given_allowed = each_push (λ view. AreAllowed facts p (place_at view p).given) views w kept.given_allowed (subst (λ (c : Place). AreAllowed facts p c.given) (sym is) (kept.given_allowed k v at));
        seen_allowed = each_push (λ view. AreAllowed facts p (place_at view p).seen) views w kept.seen_allowed (subst (λ (c : Place). AreAllowed facts p c.seen) (sym is) (kept.seen_allowed k v at));
      }

  -- kind 6: this seat takes in what another one gave and saw
  pub both_taken : (j : ℕ) (u w z : View) → j ≢ k → get_elem? views j ≡ some u → place_at w p ≡ joined (place_at v p) (place_at u p) → place_at z p ≡ blank → IsPlaceKept facts p words (set (set views k w) j z)
  both_taken j u w z apart there is empty =
      let f = kept.fits k v at in
      let g = kept.fits j u there in
      let mid : List View = set views k w in
      let at_mid : get_elem? mid k ≡ some w = set_here_at views k v w at in
      let there_mid : get_elem? mid j ≡ some u = set_else views k j w apart ∙ there in
      let low : (place_at w p).given.least ≡ min (place_at v p).given.least (place_at u p).given.least = ap (λ (c : Place). c.given.least) is in
      let high : (place_at w p).given.past ≡ max (place_at v p).given.past (place_at u p).given.past = ap (λ (c : Place). c.given.past) is in
      let is_low = kept.least in
      let is_high = kept.greatest in
      let none_low : (place_at z p).given.least ≡ 128 = ap (λ (c : Place). c.given.least) empty in
      let none_high : (place_at z p).given.past ≡ 0 = ap (λ (c : Place). c.given.past) empty in
      let small = lowest_small p views in
      let a = f.given_within in let b = g.given_within in let c = f.seen_within in let d = g.seen_within in
      let mine : Fits words (joined (place_at v p) (place_at u p)) = record {
        given_within = record { least = omega arith; past = omega arith };
        seen_within = record { least = omega arith; past = omega arith };
        given_met = λ some_there. met_both words (place_at v p).given (place_at u p).given f.given_met g.given_met some_there;
        seen_met = λ some_there. met_both words (place_at v p).seen (place_at u p).seen f.seen_met g.seen_met some_there;
      }
      in
      let nothing : Fits words blank = record {
        given_within = record { least = omega arith; past = omega arith };
        seen_within = record { least = omega arith; past = omega arith };
        given_met = λ some_there. absurd (omega arith);
        seen_met = λ some_there. absurd (omega arith);
      }
      in record {
        least = omega (arith, lowest_spent p mid j k w u z apart at_mid there_mid (omega arith) none_low, lowest_set p views k (place_at u p).given.least v w at low, lowest_below p views j u there);
        greatest = omega (arith, highest_spent p mid j k w u z apart at_mid there_mid (omega arith) none_high, highest_set p views k (place_at u p).given.past v w at high, highest_above p views j u there);
        fits = each_set (λ view. Fits words (place_at view p)) mid j z (each_set (λ view. Fits words (place_at view p)) views k w kept.fits (subst (Fits words) (sym is) mine)) (subst (Fits words) (sym empty) nothing);
        allowed = kept.allowed;
        given_allowed = each_set (λ view. AreAllowed facts p (place_at view p).given) mid j z (each_set (λ view. AreAllowed facts p (place_at view p).given) views k w kept.given_allowed (subst (λ (c : Place). AreAllowed facts p c.given) (sym is) (allowed_both facts p _ _ (kept.given_allowed k v at) (kept.given_allowed j u there)))) (subst (λ (c : Place). AreAllowed facts p c.given) (sym empty) (allowed_none facts p));
        seen_allowed = each_set (λ view. AreAllowed facts p (place_at view p).seen) mid j z (each_set (λ view. AreAllowed facts p (place_at view p).seen) views k w kept.seen_allowed (subst (λ (c : Place). AreAllowed facts p c.seen) (sym is) (allowed_both facts p _ _ (kept.seen_allowed k v at) (kept.seen_allowed j u there)))) (subst (λ (c : Place). AreAllowed facts p c.seen) (sym empty) (allowed_none facts p));
      }
