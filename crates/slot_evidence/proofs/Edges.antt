-- A set of symbols between two numbers: the least symbol, and the number after the greatest.
use Rattle.std.proofs.Common.{◌≡◌, ℕ, suc, ◌+◌, ◌<◌, ◌≤◌, ◌==◌, min, max, Bool, true, false, ◌||◌, List, length, set, slice_index, slice_index_or, ap, sym, ◌∙◌, arith, subst, inl, inr}
use Rattle.std.proofs.lemmas.Bool.{cases_lt}
use Rattle.std.proofs.lemmas.List.{get_or_default, get_or_past, length-set}
use Rattle.slot_evidence.specs.declared.places.Seen.{Seen}
use Rattle.slot_evidence.specs.declared.places.Seen.TheVariants as seen
use Rattle.slot_evidence.specs.Facts.{Symbols, Facts, one_fact, union}
use Rattle.slot_evidence.specs.Seen.{IsSeen}
use Rattle.slot_evidence.specs.Sheet.{IsEnds}
use Rattle.slot_evidence.specs.TwoNumbers.{seen_between, AreInOrder}
use Rattle.slot_evidence.specs.inside.Kept.{seen_of, past_symbol, AreKept}
use Rattle.slot_evidence.proofs.Ends.{IsEnds-add}
use Rattle.slot_evidence.proofs.Kept.{as_many, ordered_at, ordered_from, ordered_set, seen_set, kept_at, kept_long}

pub record IsEdges (S : Symbols) (least past : ℕ) : Type 0 where
  pub has_least : least < 128 → S least ≡ true
  pub has_greatest : (v : ℕ) → past ≡ suc v → S v ≡ true
  pub between : (w : ℕ) → S w ≡ true → (least ≤ w) × (w < past)

-- a least symbol below the number past the greatest is in order
pub order_some : (least past : ℕ) → least < past → past ≤ 128 → AreInOrder least past
order_some least past below small = grind arith

pub order_met : (a b c d : ℕ) → AreInOrder a b → AreInOrder c d → AreInOrder (min a c) (max b d)
order_met a b c d left right = grind arith

-- what is kept of a set of symbols says where its edges are, and the other way round
pub edges_seen : (S : Symbols) (least past : ℕ) → AreInOrder least past → IsEdges S least past → IsSeen S (seen_between least past)
edges_seen S least past order edges = grind arith

pub seen_edges : (S : Symbols) (least past : ℕ) → AreInOrder least past → IsSeen S (seen_between least past) → IsEdges S least past
seen_edges S least past order h = grind arith

-- the edges of two sets together
pub edges_met : (S T : Symbols) (a b c d : ℕ) → IsEdges S a b → IsEdges T c d → IsEdges (λ v. S v || T v) (min a c) (max b d)
edges_met S T a b c d s t = grind arith

pub order_symbol : (s : ℕ) → s ≤ 128 → AreInOrder s (past_symbol s)
order_symbol s small = grind arith

pub edges_symbol : (S : Symbols) (s : ℕ) → s ≤ 128 → ((v : ℕ) → v < 128 → S v ≡ (v == s)) → ((v : ℕ) → 128 ≤ v → S v ≡ false) → IsEdges S s (past_symbol s)
edges_symbol S s small inside outside = grind arith

-- the edges of each place of a sheet
pub ends_edges : (F : Facts) (leasts pasts : List ℕ) → AreKept leasts pasts → IsEnds F (seen_of leasts pasts) → (p : ℕ) → IsEdges (F p) (slice_index_or leasts p 128) (slice_index_or pasts p 0)
ends_edges F leasts pasts kept ends p =
    seen_edges (F p) _ _ (ordered_at leasts pasts kept.ordered p) (subst (λ (x : Seen). IsSeen (F p) x) (kept_at leasts pasts kept p) (ends.each p))

pub edges_ends : (F : Facts) (leasts pasts : List ℕ) → AreKept leasts pasts → ((p : ℕ) → IsEdges (F p) (slice_index_or leasts p 128) (slice_index_or pasts p 0)) → IsEnds F (seen_of leasts pasts)
edges_ends F leasts pasts kept edges = record {
  places = kept_long leasts pasts kept;
  each = λ p. subst (λ (x : Seen). IsSeen (F p) x) (sym (kept_at leasts pasts kept p)) (edges_seen (F p) _ _ (ordered_at leasts pasts kept.ordered p) (edges p));
}

-- two rows of 64 numbers, by each place
pub kept_from : (leasts pasts : List ℕ) → length leasts ≡ 64 → length pasts ≡ 64 → ((p : ℕ) → p < 64 → AreInOrder (slice_index leasts p) (slice_index pasts p)) → AreKept leasts pasts
kept_from leasts pasts long as_long each = record {
  places = long;
  ordered =
      ordered_from leasts pasts (as_long ∙ sym long)
      (λ p below.
      subst (λ (n : ℕ). AreInOrder n (slice_index pasts p)) (get_or_default leasts p 0 128 (omega arith)) (each p (omega arith)));
}

-- and a sheet by the edges of each place
pub ends_from : (F : Facts) (leasts pasts : List ℕ) → AreKept leasts pasts → ((p : ℕ) → p < 64 → IsEdges (F p) (slice_index leasts p) (slice_index pasts p)) → ((p v : ℕ) → 64 ≤ p → F p v ≡ false) → IsEnds F (seen_of leasts pasts)
ends_from F leasts pasts kept each none =
    edges_ends F leasts pasts kept
    (λ p.
    elim (cases_lt p 64) [
      | inl below ↦ subst (λ (n : ℕ). IsEdges (F p) n (slice_index pasts p)) (get_or_default leasts p 0 128 (omega (arith, kept.places))) (each p below)
      | inr past ↦
          let least : slice_index_or leasts p 128 ≡ 128 = get_or_past leasts p 128 (omega (arith, kept.places)) in
          let greatest : slice_index_or pasts p 0 ≡ 0 = get_or_past pasts p 0 (omega (arith, kept.places, as_many leasts pasts kept.ordered)) in
          record {
            has_least = λ small. absurd (omega arith);
            has_greatest = λ v is. absurd (omega arith);
            between = λ w shown. let hidden = none p w past in absurd (cc);
          }
    ])

-- the edges at a place below 64
pub edges_at : (F : Facts) (leasts pasts : List ℕ) → AreKept leasts pasts → IsEnds F (seen_of leasts pasts) → (p : ℕ) → p < 64 → IsEdges (F p) (slice_index leasts p) (slice_index pasts p)
edges_at F leasts pasts kept ends p below =
    subst (λ (n : ℕ). IsEdges (F p) n (slice_index pasts p)) (sym (get_or_default leasts p 0 128 (omega (arith, kept.places)))) (ends_edges F leasts pasts kept ends p)

pub order_at : (leasts pasts : List ℕ) → AreKept leasts pasts → (p : ℕ) → p < 64 → AreInOrder (slice_index leasts p) (slice_index pasts p)
order_at leasts pasts kept p below =
    subst (λ (n : ℕ). AreInOrder n (slice_index pasts p)) (sym (get_or_default leasts p 0 128 (omega (arith, kept.places)))) (ordered_at leasts pasts kept.ordered p)

-- past the places no facts are kept
pub none_past : (F : Facts) (leasts pasts : List ℕ) → AreKept leasts pasts → IsEnds F (seen_of leasts pasts) → (p v : ℕ) → 64 ≤ p → F p v ≡ false
none_past F leasts pasts kept ends p v past =
    subst (λ (x : Seen). IsSeen (F p) x) (get_or_past (seen_of leasts pasts) p seen.None (omega (arith, ends.places))) (ends.each p) v

-- the numbers of two sheets together
pub kept_met : (a b c d leasts pasts : List ℕ) → AreKept a b → AreKept c d → length leasts ≡ 64 → length pasts ≡ 64
    → ((p : ℕ) → p < 64 → slice_index leasts p ≡ min (slice_index a p) (slice_index c p)) → ((p : ℕ) → p < 64 → slice_index pasts p ≡ max (slice_index b p) (slice_index d p)) → AreKept leasts pasts
kept_met a b c d leasts pasts left right long as_long least greatest =
    kept_from leasts pasts long as_long
    (λ p below.
    subst (λ (n : ℕ). AreInOrder n (slice_index pasts p)) (sym (least p below))
    (subst (λ (n : ℕ). AreInOrder (min (slice_index a p) (slice_index c p)) n) (sym (greatest p below))
    (order_met _ _ _ _ (order_at a b left p below) (order_at c d right p below))))

pub ends_met : (F G : Facts) (a b c d leasts pasts : List ℕ) → AreKept a b → AreKept c d → AreKept leasts pasts
    → ((p : ℕ) → p < 64 → slice_index leasts p ≡ min (slice_index a p) (slice_index c p)) → ((p : ℕ) → p < 64 → slice_index pasts p ≡ max (slice_index b p) (slice_index d p))
    → IsEnds F (seen_of a b) → IsEnds G (seen_of c d) → IsEnds (union F G) (seen_of leasts pasts)
ends_met F G a b c d leasts pasts left right kept least greatest f g =
    ends_from (union F G) leasts pasts kept
    (λ p below.
    subst (λ (n : ℕ). IsEdges (union F G p) n (slice_index pasts p)) (sym (least p below))
    (subst (λ (n : ℕ). IsEdges (union F G p) (min (slice_index a p) (slice_index c p)) n) (sym (greatest p below))
    (edges_met (F p) (G p) _ _ _ _ (edges_at F a b left f p below) (edges_at G c d right g p below))))
    (λ p v past.
    let ours : F p v ≡ false = none_past F a b left f p v past in
    let theirs : G p v ≡ false = none_past G c d right g p v past in
    ap (λ (x : Bool). x || G p v) ours ∙ theirs)

-- one symbol more at a place
edges_one : (p symbol : ℕ) → IsEdges (one_fact p symbol p) symbol (symbol + 1)
edges_one p symbol = grind arith

order_added : (leasts pasts : List ℕ) (p symbol least past : ℕ) → AreKept leasts pasts → p < 64 → symbol < 128 → least ≡ min (slice_index leasts p) symbol → past ≡ max (slice_index pasts p) (symbol + 1) → AreInOrder least past
order_added leasts pasts p symbol least past kept inside small is_least is_past =
    subst (λ (n : ℕ). AreInOrder n past) (sym is_least)
    (subst (λ (n : ℕ). AreInOrder (min (slice_index leasts p) symbol) n) (sym is_past)
    (order_met _ _ _ _ (order_at leasts pasts kept p inside) (order_some symbol (symbol + 1) (omega arith) (omega arith))))

pub kept_add : (leasts pasts : List ℕ) (p symbol least past : ℕ) → AreKept leasts pasts → p < 64 → symbol < 128 → least ≡ min (slice_index leasts p) symbol → past ≡ max (slice_index pasts p) (symbol + 1) → AreKept (set leasts p least) (set pasts p past)
kept_add leasts pasts p symbol least past kept inside small is_least is_past = record {
  places = length-set leasts p least ∙ kept.places;
  ordered = ordered_set leasts pasts p least past kept.ordered (order_added leasts pasts p symbol least past kept inside small is_least is_past);
}

pub ends_add : (F : Facts) (leasts pasts : List ℕ) (p symbol least past : ℕ) → AreKept leasts pasts → p < 64 → symbol < 128 → least ≡ min (slice_index leasts p) symbol → past ≡ max (slice_index pasts p) (symbol + 1)
    → IsEnds F (seen_of leasts pasts) → IsEnds (union F (one_fact p symbol)) (seen_of (set leasts p least) (set pasts p past))
ends_add F leasts pasts p symbol least past kept inside small is_least is_past ends =
    let both : Symbols = λ v. F p v || one_fact p symbol p v in
    let edges : IsEdges both least past =
    subst (λ (n : ℕ). IsEdges both n past) (sym is_least)
    (subst (λ (n : ℕ). IsEdges both (min (slice_index leasts p) symbol) n) (sym is_past)
    (edges_met (F p) (one_fact p symbol p) _ _ _ _ (edges_at F leasts pasts kept ends p inside) (edges_one p symbol)))
    in
    subst (λ (s : List Seen). IsEnds (union F (one_fact p symbol)) s) (sym (seen_set leasts pasts p least past kept.ordered))
    (IsEnds-add F (seen_of leasts pasts) p symbol (seen_between least past) inside ends
    (edges_seen both least past (order_added leasts pasts p symbol least past kept inside small is_least is_past) edges))
