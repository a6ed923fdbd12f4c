use Rattle.std.proofs.Common.{ℕ, ◌+◌, ◌/◌, Option, IfSome, IsNone, inl, inr, refl, arith, sym, subst}
use Rattle.std.specs.Int.{trailing_zeros, w64}
use Rattle.std.proofs.lemmas.Bool.{cases_lt}
use Rattle.phasing.specs.Origin.{is_phased}
use Rattle.phasing.specs.inside.Marked.{IsFirstPhased}
use Rattle.phasing.proofs.BitTests.{first_bit}
use Rattle.phasing.proofs.Blocks.{none_in_front, next_in_front}
use Rattle.phasing.proofs.phase.search_front.Goals as goal

pub returns-then-later-ne0-clause-begins : goal.returns-then-later-ne0-clause-begins
returns-then-later-ne0-clause-begins g c = first_bit c.search_from_first-found.result.near 150 (is_phased (g.E.Elements.list c.args.e)) c.search_from_first-found.ensures.near

pub returns-in-Some-clause-begins : goal.returns-in-Some-clause-begins
returns-in-Some-clause-begins g c = first_bit c.search_from_first-found.result.near 150 (is_phased (g.E.Elements.list c.args.e)) c.search_from_first-found.ensures.near

pub returns-in-None-clause-begins : goal.returns-in-None-clause-begins
returns-in-None-clause-begins g c = first_bit c.search_from_first-found.result.near 150 (is_phased (g.E.Elements.list c.args.e)) c.search_from_first-found.ensures.near

pub returns-then-later-ne0-clause-phased : goal.returns-then-later-ne0-clause-phased
returns-then-later-ne0-clause-phased g c = λ _.
    let found = c.search_from_first-found in
    let next = next_in_front (g.E.Elements.list c.args.e) found.result.near (1 + trailing_zeros w64 (found.result.near / 2)) found.ensures.near (omega (arith, c.if-later-ne0.true)) refl in
    next.phased

pub returns-then-later-ne0-clause-none : goal.returns-then-later-ne0-clause-none
returns-then-later-ne0-clause-none g c =
    let found = c.search_from_first-found in
    let next = next_in_front (g.E.Elements.list c.args.e) found.result.near (1 + trailing_zeros w64 (found.result.near / 2)) found.ensures.near (omega (arith, c.if-later-ne0.true)) refl in
    next.none

pub returns-in-Some-clause-none : goal.returns-in-Some-clause-none
returns-in-Some-clause-none g c = λ k from below.
    let found = c.search_from_first-found in
    elim (cases_lt k 64) [
      | inl near ↦ none_in_front (g.E.Elements.list c.args.e) found.result.near found.ensures.near (omega (arith, c.if-later-ne0.false)) k from near
      | inr far ↦ (subst (λ far. IfSome far (IsFirstPhased (g.E.Elements.list c.args.e) 214)) c.in-Some.is found.ensures.far).none (k + 150) (omega arith) (omega arith)
    ]

pub returns-in-None-clause-none : goal.returns-in-None-clause-none
returns-in-None-clause-none g c = λ k from below.
    let found = c.search_from_first-found in
    elim (cases_lt k 64) [
      | inl near ↦ none_in_front (g.E.Elements.list c.args.e) found.result.near found.ensures.near (omega (arith, c.if-later-ne0.false)) k from near
      | inr far ↦ found.ensures.none (subst (λ (lead : Option ℕ). IsNone lead) (sym c.in-None.is) refl) (omega (arith, c.if-later-ne0.false)) (k + 150) (omega arith) (omega arith)
    ]
