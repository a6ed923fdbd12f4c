use Rattle.std.proofs.Common.{◌≡◌, ℕ, ◌+◌, ◌≤◌, ◌<◌, true, false, List, length, Option, Some, None, IfSome, IsNone, inl, inr, refl, lit≤, arith, sym}
use Rattle.std.proofs.lemmas.Bool.{cases_lt}
use Rattle.plain_laws.proofs.Searches.{find_least}
use Rattle.ten_unit.specs.declared.character.Element.{Element}
use Rattle.phasing.specs.Origin.{is_phased, lead_of}
use Rattle.phasing.specs.inside.Marked.{IsFirstPhased}
use Rattle.phasing.specs.inside.Places.{element_at}
use Rattle.phasing.proofs.Blocks.{phased_late, phased_within, none_in_block, first_in_block}
use Rattle.phasing.proofs.Leads.{least_found, none_found, is_phased-early}
use Rattle.phasing.proofs.TooShort.{none_short}
use Rattle.phasing.proofs.phase.lead.Goals as goal

pub returns-then-count-lt-SHORTEST-clause-least : goal.returns-then-count-lt-SHORTEST-clause-least
returns-then-count-lt-SHORTEST-clause-least g c = sym (none_short (g.E.Elements.list c.args.e) (omega (arith, c.if-count-lt-SHORTEST.true)))

-- a lead of an intact start is the origin's
phased_of : (e : List Element) (lead : ℕ) → lead_of e ≡ Some lead → is_phased e lead ≡ true
phased_of e lead h = (find_least (is_phased e) 0 (length e + 150) lead h).passes

within_intact : (e : List Element) (found : Option ℕ) → IfSome found (λ lead. lead_of e ≡ Some lead) → IfSome found (λ lead. lead < length e + 150)
within_intact e (Some lead) found = phased_within e lead (phased_of e lead found)
within_intact e None found = tt

from_intact : (e : List Element) (found : Option ℕ) → IfSome found (λ lead. lead_of e ≡ Some lead) → IfSome found (λ lead. 40 ≤ lead)
from_intact e (Some lead) found = phased_late e lead (phased_of e lead found)
from_intact e None found = tt

pub returns-then-is_some-clause-within : goal.returns-then-is_some-clause-within
returns-then-is_some-clause-within g c = within_intact (g.E.Elements.list c.args.e) c.intact_lead-intact.result c.intact_lead-intact.ensures

pub returns-then-is_some-clause-from : goal.returns-then-is_some-clause-from
returns-then-is_some-clause-from g c = from_intact (g.E.Elements.list c.args.e) c.intact_lead-intact.result c.intact_lead-intact.ensures

-- no lead of the first block is looked at before
none_before : (e : List Element) (k : ℕ) → 22 ≤ k → k < 22 → is_phased e k ≡ false
none_before e k low high = absurd (omega arith)

pub search_block-fourth-requires-clause-first : goal.search_block-fourth-requires-clause-first
search_block-fourth-requires-clause-first g c = c.before-none.ensures.likely 22 (g.E.Elements.list c.args.e) (lit≤ tt)

pub search_block-fourth-requires-clause-second : goal.search_block-fourth-requires-clause-second
search_block-fourth-requires-clause-second g c = c.before-none.ensures.likely 86 (g.E.Elements.list c.args.e) (lit≤ tt)

pub search_block-fourth-requires-clause-third : goal.search_block-fourth-requires-clause-third
search_block-fourth-requires-clause-third g c = c.likely_marked-third.ensures 150 (element_at (g.E.Elements.list c.args.e)) (lit≤ tt) c.planes_from.ensures c.planes_from-next.ensures

-- the first phased lead from 22 on is the least of all, since none is below 40
least_first : (e : List Element) (lead : ℕ) → IsFirstPhased e 22 lead → Some lead ≡ lead_of e
least_first e lead first =
    sym (least_found e lead (lead_of e) refl first.phased
    (λ k below.
    elim (cases_lt k 22) [
      | inl early ↦ is_phased-early e k (omega arith)
      | inr late ↦ first.none k late below
    ]))

-- the same of the leads from 86 on, where none is in the first block
least_of : (e : List Element) (found : Option ℕ) → ((k : ℕ) → 22 ≤ k → k < 86 → is_phased e k ≡ false) → IfSome found (IsFirstPhased e 86) → (IsNone found → (lead : ℕ) → 86 ≤ lead → is_phased e lead ≡ false) → found ≡ lead_of e
least_of e (Some lead) block first none =
    sym (least_found e lead (lead_of e) refl first.phased
    (λ k below.
    elim (cases_lt k 22) [
      | inl early ↦ is_phased-early e k (omega arith)
      | inr late ↦ elim (cases_lt k 86) [
        | inl inside ↦ block k late inside
        | inr past ↦ first.none k past below
      ]
    ]))
least_of e None block first none =
    sym (none_found e (lead_of e) refl
    (λ k below.
    elim (cases_lt k 22) [
      | inl early ↦ is_phased-early e k (omega arith)
      | inr late ↦ elim (cases_lt k 86) [
        | inl inside ↦ block k late inside
        | inr past ↦ none refl k past
      ]
    ]))

late_of : (e : List Element) (found : Option ℕ) → IfSome found (IsFirstPhased e 86) → IfSome found (λ lead. 40 ≤ lead)
late_of e (Some lead) first = phased_late e lead first.phased
late_of e None first = tt

pub returns-then-fourth-ne0-clause-least : goal.returns-then-fourth-ne0-clause-least
returns-then-fourth-ne0-clause-least g c =
    let e = g.E.Elements.list c.args.e in
    least_first e _ (first_in_block e c.search_block-fourth.result.phased 22 22 c.search_block-fourth.ensures.phased (omega arith) (omega arith) (none_before e))

pub returns-then-fourth-ne0-clause-from : goal.returns-then-fourth-ne0-clause-from
returns-then-fourth-ne0-clause-from g c =
    let e = g.E.Elements.list c.args.e in
    phased_late e _ (first_in_block e c.search_block-fourth.result.phased 22 22 c.search_block-fourth.ensures.phased (omega arith) (omega arith) (none_before e)).phased

pub returns-clause-least : goal.returns-clause-least
returns-clause-least g c =
    let e = g.E.Elements.list c.args.e in
    least_of e c.first_from.result (none_in_block e c.search_block-fourth.result.phased 22 22 c.search_block-fourth.ensures.phased (omega arith) (none_before e))
    c.first_from.ensures.first c.first_from.ensures.none

pub returns-clause-from : goal.returns-clause-from
returns-clause-from g c = late_of (g.E.Elements.list c.args.e) c.first_from.result c.first_from.ensures.first

pub first_from-requires-clause-first : goal.first_from-requires-clause-first
first_from-requires-clause-first g c = c.before-none.ensures.likely 86 (g.E.Elements.list c.args.e) (lit≤ tt)

pub first_from-requires-clause-second : goal.first_from-requires-clause-second
first_from-requires-clause-second g c = c.likely_marked-third.ensures 150 (element_at (g.E.Elements.list c.args.e)) (lit≤ tt) c.planes_from.ensures c.planes_from-next.ensures
