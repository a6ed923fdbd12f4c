use Rattle.std.proofs.Common.{◌≡◌, ℕ, ◌+◌, ◌<◌, ◌≤◌, List, Option, IfSome, IsNone, false, inl, inr, refl, arith, ap, sym, subst, ◌∙◌}
use Rattle.std.specs.Int.{trailing_zeros, w64}
use Rattle.std.proofs.lemmas.Bool.{cases_lt}
use Rattle.ten_unit.specs.declared.character.Element.{Element}
use Rattle.ten_unit.specs.inside.Marks.{IsMarks}
use Rattle.phasing.specs.Origin.{is_phased}
use Rattle.phasing.specs.inside.Marked.{IsFirstPhased}
use Rattle.phasing.proofs.Blocks.{none_in_block, first_in_block}
use Rattle.phasing.proofs.phase.first_phased.Goals as goal

-- no index is before index 0
none_before : (e : List Element) (k : ℕ) → 150 ≤ k → k < 150 → is_phased e k ≡ false
none_before e k low high = absurd (omega arith)

near_first : (e : List Element) (w : ℕ) → IsMarks w 150 (is_phased e) → 0 < w → IsFirstPhased e 150 (150 + trailing_zeros w64 w)
near_first e w marks some = first_in_block e w 150 150 marks some (omega arith) (none_before e)

pub returns-then-found-ne0-clause-within : goal.returns-then-found-ne0-clause-within
returns-then-found-ne0-clause-within g c =
    let first = near_first (g.E.Elements.list c.args.e) c.search_from_first-found.result.near c.search_from_first-found.ensures.near (omega (arith, c.if-found-ne0.true)) in
    omega (arith, first.within)

pub returns-then-found-ne0-clause-phased : goal.returns-then-found-ne0-clause-phased
returns-then-found-ne0-clause-phased g c = λ _.
    let e = g.E.Elements.list c.args.e in
    let near = c.search_from_first-found.result.near in
    let first = near_first e near c.search_from_first-found.ensures.near (omega (arith, c.if-found-ne0.true)) in
    let place : trailing_zeros w64 near + 150 ≡ 150 + trailing_zeros w64 near = omega arith in
    ap (is_phased e) place ∙ first.phased

pub returns-then-found-ne0-clause-none : goal.returns-then-found-ne0-clause-none
returns-then-found-ne0-clause-none g c = λ k below.
    let first = near_first (g.E.Elements.list c.args.e) c.search_from_first-found.result.near c.search_from_first-found.ensures.near (omega (arith, c.if-found-ne0.true)) in
    first.none (k + 150) (omega arith) (omega (arith, below))

pub returns-in-Some-clause-none : goal.returns-in-Some-clause-none
returns-in-Some-clause-none g c = λ k below.
    let e = g.E.Elements.list c.args.e in
    let found = c.search_from_first-found in
    elim (cases_lt k 64) [
      | inl near ↦ none_in_block e found.result.near 150 150 found.ensures.near (omega (arith, c.if-found-ne0.false)) (none_before e) (k + 150) (omega arith) (omega arith)
      | inr far ↦ (subst (λ lead. IfSome lead (IsFirstPhased e 214)) c.in-Some.is found.ensures.far).none (k + 150) (omega arith) (omega arith)
    ]

pub returns-in-None-clause-none : goal.returns-in-None-clause-none
returns-in-None-clause-none g c = λ k below.
    let e = g.E.Elements.list c.args.e in
    let found = c.search_from_first-found in
    elim (cases_lt k 64) [
      | inl near ↦ none_in_block e found.result.near 150 150 found.ensures.near (omega (arith, c.if-found-ne0.false)) (none_before e) (k + 150) (omega arith) (omega arith)
      | inr far ↦ found.ensures.none (subst (λ (lead : Option ℕ). IsNone lead) (sym c.in-None.is) refl) (omega (arith, c.if-found-ne0.false)) (k + 150) (omega arith) (omega arith)
    ]
