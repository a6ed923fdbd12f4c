-- what follows changes nothing of leads that are decided
use Rattle.std.proofs.Common.{◌≡◌, ℕ, zero, suc, ◌+◌, ◌-◌, ◌<◌, ◌≤◌, Bool, cond, List, [], ◌∷◌, ◌++◌, length, map, find, get_or, Option, Some, None, inl, inr, refl, arith, ap, sym, ◌∙◌}
use Rattle.std.specs.List.{range_with_len}
use Rattle.std.proofs.lemmas.Bool.{cases_lt}
use Rattle.std.proofs.lemmas.List.{get_or_append_left}
use Rattle.std.proofs.lemmas.List.FromFn.{length-map-range_with_len, get_or-map-range_with_len}
use Rattle.plain_laws.proofs.Searches.{find_least, find_none}
use Rattle.ten_unit.specs.declared.character.Element.{Element}
use Rattle.ten_unit.specs.declared.character.Element.TheVariants.{Lost}
use Rattle.phasing.specs.Origin.{is_phased}
use Rattle.phasing.specs.inside.Places.{element_at}
use Rattle.phasing.proofs.PublicLaws.{element_at-inside, element_at-before}
use Rattle.long_capture.specs.Starts.{starts_below, facts_from}
use Rattle.long_capture.specs.inside.Reads.{IsNextIndex, IsWindow}
use Rattle.long_capture.proofs.Cuts.{facts_cut}
use Rattle.long_capture.proofs.Lists.{none_below, below_more}
use Rattle.long_capture.proofs.Near.{Laws}

-- an element of a stream that goes on
at_more : (e more : List Element) (place : ℕ) → place < length e + 150 → element_at (e ++ more) place ≡ element_at e place
at_more e more place inside =
    elim (cases_lt place 150) [
      | inl early ↦ element_at-before (e ++ more) place early ∙ sym (element_at-before e place early)
      | inr late ↦
          element_at-inside (e ++ more) place late ∙ get_or_append_left e more Lost (place - 150) (omega arith) ∙ sym (element_at-inside e place late)
    ]

pub phased_stays : Laws → (e more : List Element) (lead : ℕ) → lead + 1450 ≤ length e → is_phased (e ++ more) lead ≡ is_phased e lead
phased_stays laws e more lead inside = laws.lead (e ++ more) e lead lead (λ i below. at_more e more (lead + i) (omega arith))

-- the window at a lead
abbrev window_of : List Element → ℕ → List Element
window_of e lead = map (element_at e) (range_with_len lead 1600)

at_window : (e : List Element) (lead k : ℕ) → k < 1600 → get_or (window_of e lead) k Lost ≡ element_at e (lead + k)
at_window e lead k below = get_or-map-range_with_len (element_at e) lead 1600 k (lead + k) Lost below refl

own_window : (e : List Element) (lead : ℕ) → IsWindow (window_of e lead) e lead
own_window e lead = record {
  long = length-map-range_with_len (element_at e) lead 1600;
  same = λ k below. at_window e lead k below;
}

more_window : (e more : List Element) (lead : ℕ) → lead + 1450 ≤ length e → IsWindow (window_of e lead) (e ++ more) lead
more_window e more lead inside = record {
  long = length-map-range_with_len (element_at e) lead 1600;
  same = λ k below. at_window e lead k below ∙ sym (at_more e more (lead + k) (omega arith));
}

-- a window has a first phased index after its first one, or none
abbrev is_start_at : List Element → ℕ → Bool
is_start_at w k = is_phased w (k + 150)

next_of : (w : List Element) (found : Option ℕ) → find (is_start_at w) (range_with_len 1 1439) ≡ found → (next : ℕ) × IsNextIndex w next
next_of w None is = (
  1440,
  record {
    from = omega arith;
    within = omega arith;
    phased = λ few. absurd (omega arith);
    none = λ k low below few. find_none (is_start_at w) 1 1439 is k low (omega arith);
  },
)
next_of w (Some next) is =
    let least = find_least (is_start_at w) 1 1439 next is in (
      next,
      record {
        from = least.from;
        within = omega (arith, least.within);
        phased = λ few. least.passes;
        none = λ k low below few. least.least k low below;
      },
    )

pub facts_stay : Laws → (e more : List Element) (lead p v : ℕ) → lead + 1450 ≤ length e → facts_from (e ++ more) lead p v ≡ facts_from e lead p v
facts_stay laws e more lead p v inside =
    let next = next_of (window_of e lead) (find (is_start_at (window_of e lead)) (range_with_len 1 1439)) refl in
    sym (facts_cut laws (window_of e lead) (e ++ more) lead next.0 (more_window e more lead inside) next.1 p v)
    ∙ facts_cut laws (window_of e lead) e lead next.0 (own_window e lead) next.1 p v

pub starts_stay : Laws → (e more : List Element) (bound : ℕ) → bound ≤ length e - 1449 → starts_below (e ++ more) bound ≡ starts_below e bound
starts_stay laws e more zero inside = none_below (e ++ more) ∙ sym (none_below e)
starts_stay laws e more (suc bound) inside =
    below_more (e ++ more) bound
    ∙ ap (λ (l : List ℕ). l ++ cond (is_phased (e ++ more) bound) (bound ∷ []) []) (starts_stay laws e more bound (omega arith))
    ∙ ap (λ (b : Bool). starts_below e bound ++ cond b (bound ∷ []) []) (phased_stays laws e more bound (omega arith))
    ∙ sym (below_more e bound)
