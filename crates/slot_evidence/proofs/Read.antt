-- The sheet of a reception, from the symbols of its slots.
use Rattle.std.proofs.Common.{◌≡◌, ℕ, ◌+◌, ◌*◌, ◌<◌, min, max, nat_lt, Bool, ◌&&◌, List, length, slice_index, Option, Some, ap, sym, ◌∙◌, arith, subst}
use Rattle.std.proofs.lemmas.Bool.{lt-ltb, le-ltb, and_left}
use Rattle.ten_unit.specs.declared.character.Element.{Element}
use Rattle.ten_unit.specs.Word.{is_word}
use Rattle.ten_unit.specs.inside.Symbol.{IsSymbol}
use Rattle.time_diversity.specs.Slots.{dx_slot, rx_slot}
use Rattle.phasing.specs.Slot.{slot, shows}
use Rattle.phasing.specs.Origin.{lead_of}
use Rattle.slot_evidence.specs.declared.places.Seen.{Seen}
use Rattle.slot_evidence.specs.Facts.{Symbols, facts_at, facts_of}
use Rattle.slot_evidence.specs.Sheet.{IsEnds}
use Rattle.slot_evidence.specs.TwoNumbers.{AreInOrder}
use Rattle.slot_evidence.specs.inside.Kept.{seen_of, past_symbol, AreKept}
use Rattle.slot_evidence.proofs.Ends.{place_facts}
use Rattle.slot_evidence.proofs.Edges.{IsEdges, edges_met, edges_symbol, order_met, order_symbol, kept_from, ends_from}

edges_same : (S T : Symbols) (least past : ℕ) → ((v : ℕ) → S v ≡ T v) → IsEdges S least past → IsEdges T least past
edges_same S T least past same edges = grind arith

-- the one symbol that a slot shows, if any
slot_edges : (e : List Element) (lead s x : ℕ) → IsSymbol (slot e lead s) x → IsEdges (λ v. nat_lt v 128 && shows e lead s v) x (past_symbol x)
unfolding shows
slot_edges e lead s x is =
    edges_symbol (λ v. nat_lt v 128 && is_word (slot e lead s) v) x is.within
    (λ v below. ap (λ (b : Bool). b && is_word (slot e lead s) v) (lt-ltb v 128 below) ∙ is.shown v below)
    (λ v above. ap (λ (b : Bool). b && is_word (slot e lead s) v) (le-ltb v 128 above))

-- the symbols of a place's two slots
place_edges : (e : List Element) (lead p a b : ℕ) → p < 64 → IsSymbol (slot e lead (dx_slot p)) a → IsSymbol (slot e lead (rx_slot p)) b → IsEdges (facts_at e (Some lead) p) (min a b) (max (past_symbol a) (past_symbol b))
place_edges e lead p a b inside dx rx =
    edges_same _ (facts_at e (Some lead) p) _ _
    (λ v. place_facts (nat_lt p 64) (nat_lt v 128) (shows e lead (dx_slot p) v) (shows e lead (rx_slot p) v) (lt-ltb p 64 inside))
    (edges_met _ _ _ _ _ _ (slot_edges e lead (dx_slot p) a dx) (slot_edges e lead (rx_slot p) b rx))

pub record AreRead (e : List Element) (lead : ℕ) (dx rx leasts pasts : List ℕ) : Type 0 where
  pub even : (k : ℕ) → k < 66 → IsSymbol (slot e lead (12 + 2 * k)) (slice_index dx k)
  pub odd : (k : ℕ) → k < 66 → IsSymbol (slot e lead (13 + 2 * k)) (slice_index rx k)
  pub places : length leasts ≡ 64
  pub as_many : length pasts ≡ 64
  pub least : (p : ℕ) → p < 64 → slice_index leasts p ≡ min (slice_index dx p) (slice_index rx (p + 2))
  pub past : (p : ℕ) → p < 64 → slice_index pasts p ≡ max (past_symbol (slice_index dx p)) (past_symbol (slice_index rx (p + 2)))

rx_read : (e : List Element) (lead : ℕ) (dx rx leasts pasts : List ℕ) → AreRead e lead dx rx leasts pasts → (p : ℕ) → p < 64 → IsSymbol (slot e lead (rx_slot p)) (slice_index rx (p + 2))
rx_read e lead dx rx leasts pasts read p inside =
    let at : 13 + 2 * (p + 2) ≡ rx_slot p = omega arith in
    subst (λ (s : ℕ). IsSymbol (slot e lead s) (slice_index rx (p + 2))) at (read.odd (p + 2) (omega arith))

pub kept_read : (e : List Element) (lead : ℕ) (dx rx leasts pasts : List ℕ) → AreRead e lead dx rx leasts pasts → AreKept leasts pasts
kept_read e lead dx rx leasts pasts read =
    kept_from leasts pasts read.places read.as_many
    (λ p inside.
    subst (λ (n : ℕ). AreInOrder n (slice_index pasts p)) (sym (read.least p inside))
    (subst (λ (n : ℕ). AreInOrder (min (slice_index dx p) (slice_index rx (p + 2))) n) (sym (read.past p inside))
    (order_met _ _ _ _
    (order_symbol (slice_index dx p) (read.even p (omega arith)).within)
    (order_symbol (slice_index rx (p + 2)) (read.odd (p + 2) (omega arith)).within))))

pub ends_read : (e : List Element) (lead : ℕ) (dx rx leasts pasts : List ℕ) → AreRead e lead dx rx leasts pasts → IsEnds (facts_at e (Some lead)) (seen_of leasts pasts)
ends_read e lead dx rx leasts pasts read =
    ends_from (facts_at e (Some lead)) leasts pasts (kept_read e lead dx rx leasts pasts read)
    (λ p inside.
    subst (λ (n : ℕ). IsEdges (facts_at e (Some lead) p) n (slice_index pasts p)) (sym (read.least p inside))
    (subst (λ (n : ℕ). IsEdges (facts_at e (Some lead) p) (min (slice_index dx p) (slice_index rx (p + 2))) n) (sym (read.past p inside))
    (place_edges e lead p _ _ inside (read.even p (omega arith)) (rx_read e lead dx rx leasts pasts read p inside))))
    (λ p v past. and_left _ _ (le-ltb p 64 past))

-- at the lead of the origin the facts are the reception's
pub origin_facts : (e : List Element) (lead : ℕ) (s : List Seen) → Some lead ≡ lead_of e → IsEnds (facts_at e (Some lead)) s → IsEnds (facts_of e) s
unfolding facts_of
origin_facts e lead s origin ends = subst (λ (o : Option ℕ). IsEnds (facts_at e o) s) origin ends
