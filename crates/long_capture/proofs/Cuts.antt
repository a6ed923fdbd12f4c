-- a window that begins at a start and is cut at the next one shows the start's facts
use Rattle.std.proofs.Common.{◌≡◌, ℕ, ◌+◌, ◌-◌, ◌<◌, ◌≤◌, true, false, List, length, take, drop, get_or, Option, Some, None, inl, inr, refl, arith, ap, sym, ◌∙◌}
use Rattle.std.proofs.lemmas.Bool.{cases_lt, both_ways}
use Rattle.std.proofs.lemmas.List.{get_or_past, get_or-take, get_or-drop, length-take}
use Rattle.plain_laws.proofs.Searches.{find_least, find_none}
use Rattle.ten_unit.specs.declared.character.Element.{Element}
use Rattle.ten_unit.specs.declared.character.Element.TheVariants.{Lost}
use Rattle.phasing.specs.Origin.{is_phased}
use Rattle.phasing.specs.inside.Places.{element_at}
use Rattle.phasing.proofs.PublicLaws.{element_at-inside, element_at-before}
use Rattle.slot_evidence.specs.Facts.{facts_at}
use Rattle.long_capture.specs.Starts.{next_start, before, facts_from}
use Rattle.long_capture.specs.inside.Reads.{IsNextIndex, IsWindow}
use Rattle.long_capture.proofs.Near.{Laws, at_index, facts_alike}

-- the leads of a window up to index 1,440 are phased as those of the stream
pub window_phased : Laws → (w e : List Element) (q k : ℕ) → IsWindow w e q → k ≤ 1440 → is_phased w (k + 150) ≡ is_phased e (q + k)
window_phased laws w e q k window few =
    laws.lead w e (k + 150) (q + k)
    (λ i below.
    let here : k + 150 + i ≡ 150 + (k + i) = omega arith in
    let there : q + (k + i) ≡ q + k + i = omega arith in
    ap (element_at w) here ∙ at_index w (k + i) ∙ window.same (k + i) (omega arith) ∙ ap (element_at e) there)

-- a cut of the stream that agrees with the window's on 1,440 elements
cut_at : (w e : List Element) (q end next j : ℕ) → IsWindow w e q → j < 1440 → (j < end → q + j < next) → (q + j < next → j < end) → element_at (take end w) (150 + j) ≡ element_at (take (next - 150) e) (q + j)
cut_at w e q end next j window few inside back =
    at_index (take end w) j
    ∙ elim (cases_lt j end) as (λ _. get_or (take end w) j Lost ≡ element_at (take (next - 150) e) (q + j)) [
      | inl below ↦
          let near : q + j < next = inside below in
          get_or-take end w j Lost below ∙ window.same j (omega arith)
          ∙ elim (cases_lt (q + j) 150) as (λ _. element_at e (q + j) ≡ element_at (take (next - 150) e) (q + j)) [
            | inl early ↦ element_at-before e (q + j) early ∙ sym (element_at-before (take (next - 150) e) (q + j) early)
            | inr late ↦
                element_at-inside e (q + j) late ∙ sym (get_or-take (next - 150) e (q + j - 150) Lost (omega arith))
                ∙ sym (element_at-inside (take (next - 150) e) (q + j) late)
          ]
      | inr past ↦
          get_or_past (take end w) j Lost (omega (arith, length-take end w))
          ∙ elim (cases_lt (q + j) 150) as (λ _. Lost ≡ element_at (take (next - 150) e) (q + j)) [
            | inl early ↦ sym (element_at-before (take (next - 150) e) (q + j) early)
            | inr late ↦
                let beyond : next ≤ q + j =
                elim (cases_lt (q + j) next) [ inl near ↦ absurd (omega (arith, back near)) | inr far ↦ far ] in
                sym (element_at-inside (take (next - 150) e) (q + j) late ∙ get_or_past (take (next - 150) e) (q + j - 150) Lost (omega (arith, length-take (next - 150) e)))
          ]
    ]

whole_at : (w e : List Element) (q end j : ℕ) → IsWindow w e q → j < 1440 → j < end → element_at (take end w) (150 + j) ≡ element_at e (q + j)
whole_at w e q end j window few below = at_index (take end w) j ∙ get_or-take end w j Lost below ∙ window.same j (omega arith)

-- where the leads of the stream after a start aren't phased, the window has none among the first 1,440
far_next : Laws → (w e : List Element) (q next : ℕ) → IsWindow w e q → IsNextIndex w next → ((k : ℕ) → 1 ≤ k → k < 1440 → is_phased e (q + k) ≡ false) → 1440 ≤ next
far_next laws w e q next window is none =
    elim (cases_lt next 1440) [
      | inl few ↦ absurd (both_ways (is_phased e (q + next)) (none next is.from few) (sym (window_phased laws w e q next window (omega arith)) ∙ is.phased few))
      | inr far ↦ far
    ]

-- where the next start is among them, it is the window's
near_next : Laws → (w e : List Element) (q next k : ℕ) → IsWindow w e q → IsNextIndex w next → 1 ≤ k → k < 1440 → is_phased e (q + k) ≡ true → ((j : ℕ) → 1 ≤ j → j < k → is_phased e (q + j) ≡ false) → next ≡ k
near_next laws w e q next k window is from few phased none =
    let not_before : next ≤ k =
    elim (cases_lt k next) [
      | inl early ↦ absurd (both_ways (is_phased w (k + 150)) (is.none k from early few) (window_phased laws w e q k window (omega arith) ∙ phased))
      | inr late ↦ late
    ] in
    let not_after : k ≤ next =
    elim (cases_lt next k) [
      | inl early ↦ absurd (both_ways (is_phased e (q + next)) (none next is.from early) (sym (window_phased laws w e q next window (omega arith)) ∙ is.phased (omega arith)))
      | inr late ↦ late
    ] in
    omega arith

-- the elements up to the cut
cut_alike : Laws → (w e : List Element) (q index : ℕ) (next : Option ℕ) → next_start e q ≡ next → IsWindow w e q → IsNextIndex w index → (j : ℕ) → j < 1440 → element_at (take index w) (150 + j) ≡ element_at (before e next) (q + j)
cut_alike laws w e q index None found window is j few =
    let far = far_next laws w e q index window is
    (λ k from below.
    elim (cases_lt (q + k) (q + 1 + (length e + 150))) [
      | inl inside ↦ find_none (is_phased e) (q + 1) (length e + 150) found (q + k) (omega arith) inside
      | inr past ↦ laws.past e (q + k) (omega arith)
    ]) in
    whole_at w e q index j window few (omega arith)
cut_alike laws w e q index (Some next) found window is j few =
    let least = find_least (is_phased e) (q + 1) (length e + 150) next found in
    let from : q + 1 ≤ next = least.from in
    elim (cases_lt next (q + 1440)) [
      | inl near ↦
          let there : q + (next - q) ≡ next = omega arith in
          let same = near_next laws w e q index (next - q) window is (omega arith) (omega arith) (ap (is_phased e) there ∙ least.passes) (λ k low below. least.least (q + k) (omega arith) (omega arith)) in
          cut_at w e q index next j window few (λ inside. omega arith) (λ inside. omega arith)
      | inr past ↦
          let far = far_next laws w e q index window is (λ k low below. least.least (q + k) (omega arith) (omega arith)) in
          cut_at w e q index next j window few (λ inside. omega arith) (λ inside. omega arith)
    ]

-- the facts of the cut window
pub facts_cut : Laws → (w e : List Element) (q next : ℕ) → IsWindow w e q → IsNextIndex w next → (p v : ℕ) → facts_at (take next w) (Some 150) p v ≡ facts_from e q p v
unfolding facts_from
facts_cut laws w e q next window is =
    facts_alike laws (take next w) (before e (next_start e q)) 150 q (cut_alike laws w e q next (next_start e q) refl window is)

-- ---- the window from an index on

-- a lead that is phased there is phased in the window
pub later_phased : Laws → (w : List Element) (n k : ℕ) → n + k + 160 ≤ length w → is_phased (take (length w - n) (drop n w)) (k + 150) ≡ is_phased w (n + k + 150)
later_phased laws w n k inside =
    let rest = take (length w - n) (drop n w) in
    laws.lead rest w (k + 150) (n + k + 150)
    (λ i below.
    let here : k + 150 + i ≡ 150 + (k + i) = omega arith in
    let there : 150 + (n + (k + i)) ≡ n + k + 150 + i = omega arith in
    ap (element_at rest) here ∙ at_index rest (k + i)
    ∙ get_or-take (length w - n) (drop n w) (k + i) Lost (omega arith) ∙ get_or-drop n w (k + i) Lost
    ∙ sym (at_index w (n + (k + i)))
    ∙ ap (element_at w) there)
