-- What a seat gave, as the sheet of a set of facts.
use Rattle.std.proofs.Common.{◌≡◌, ℕ, ◌<◌, ◌≤◌, ◌||◌, true, List, length, refl, arith, ap, sym, ◌∙◌, subst, inl, inr}
use Rattle.std.proofs.lemmas.Bool.{cases_lt}
use Rattle.std.proofs.lemmas.List.{get_or-map, get_or_past, length-map, ext_get_or}
use Rattle.slot_evidence.specs.declared.places.Seen.{Seen}
use Rattle.slot_evidence.specs.declared.places.Seen.TheVariants as seen
use Rattle.slot_evidence.specs.Facts.{Symbols, Facts, no_facts, union}
use Rattle.slot_evidence.specs.Seen.{ShowsNone, IsSeen, IsLawful}
use Rattle.slot_evidence.specs.Sheet.{IsSheet, IsEnds, seen_at}
use Rattle.slot_evidence.specs.Allowed.{IsAllowed}
use Rattle.slot_evidence.specs.TwoNumbers.{seen_between, AreInOrder}
use Rattle.slot_evidence.proofs.PublicLaws.{order_met, edges_met, seen_edges, edges_seen, or_none-seen}
use Rattle.evidence_board.specs.Views.{Reach, united, reach_of, kept_of, Place, blank, View, place_at, fresh, given_sheet, seen_sheet}
use Rattle.evidence_board.specs.Rule.{IsWithin}
use Rattle.evidence_board.specs.Steps.{admitted, joined}
use Rattle.evidence_board.specs.Seats.{IsResting, IsSeated}
use Rattle.evidence_board.specs.inside.Through.{Through, LooksAt}
use Rattle.evidence_board.proofs.StepKinds.{place_blank, blanks_long}
use Rattle.evidence_board.proofs.Rests.{lawful_order, looked_seated}
use Rattle.evidence_board.proofs.Loads.{seen_at_view}

-- the sheet of what a view gave
given_at : (v : View) (p : ℕ) → length v.places ≡ 64 → p < 64 → seen_at (given_sheet v) p ≡ kept_of (place_at v p).given
given_at v p size below = get_or-map (λ place. kept_of place.given) v.places p blank seen.None (omega arith)

given_long : (v : View) → length v.places ≡ 64 → length (given_sheet v) ≡ 64
given_long v size = length-map v.places (λ place. kept_of place.given) ∙ size

beyond : (F : Facts) (sheet : List Seen) → IsEnds F sheet → (p : ℕ) → 64 ≤ p → ShowsNone (F p)
beyond F sheet ends p above =
    subst (λ (x : Seen). IsSeen (F p) x) (get_or_past sheet p seen.None (omega (arith, ends.places))) (ends.each p)

ends_given : (F : Facts) (v : View) → length v.places ≡ 64 → ((p : ℕ) → p < 64 → IsSeen (F p) (kept_of (place_at v p).given)) → ((p : ℕ) → 64 ≤ p → ShowsNone (F p)) → IsEnds F (given_sheet v)
ends_given F v size each none = record {
  places = given_long v size;
  each = λ p. elim (cases_lt p 64) [
    | inl below ↦ subst (λ (x : Seen). IsSeen (F p) x) (sym (given_at v p size below)) (each p below)
    | inr above ↦ subst (λ (x : Seen). IsSeen (F p) x) (sym (get_or_past (given_sheet v) p seen.None (omega (arith, given_long v size)))) (none p above)
  ];
}

united_seen : (S T : Symbols) (a b : Reach) → IsResting a → IsResting b → IsSeen S (kept_of a) → IsSeen T (kept_of b) → IsSeen (λ v. S v || T v) (kept_of (united a b))
united_seen S T a b left right s t =
    edges_seen (λ v. S v || T v) _ _ (order_met a.least a.past b.least b.past left right)
    (edges_met S T a.least a.past b.least b.past (seen_edges S a.least a.past left s) (seen_edges T b.least b.past right t))

-- what two gave together
met_ends : (F G : Facts) (before after : View) (r : ℕ → Reach) → IsSeated before → length after.places ≡ 64 → ((p : ℕ) → p < 64 → IsResting (r p)) → ((p : ℕ) → p < 64 → (place_at after p).given ≡ united (place_at before p).given (r p))
    → IsEnds F (given_sheet before) → ((p : ℕ) → p < 64 → IsSeen (G p) (kept_of (r p))) → ((p : ℕ) → 64 ≤ p → ShowsNone (G p)) → IsEnds (union F G) (given_sheet after)
met_ends F G before after r seated size rest is ends each none =
    ends_given (union F G) after size
    (λ p below.
    subst (λ (x : Reach). IsSeen (union F G p) (kept_of x)) (sym (is p below))
    (united_seen (F p) (G p) (place_at before p).given (r p) (seated.rest.given p below) (rest p below)
    (subst (λ (x : Seen). IsSeen (F p) x) (given_at before p seated.size below) (ends.each p)) (each p below)))
    (λ p above. or_none-seen (F p) (G p) seen.None (beyond F (given_sheet before) ends p above) (none p above))

kept_back : (x : Seen) → IsLawful x → kept_of (reach_of x) ≡ x
kept_back x lawful = grind arith

between_within : (least past : ℕ) → AreInOrder least past → IsWithin (record { least = least; past = past }) (reach_of (seen_between least past))
between_within least past order = grind arith

pub kept_within : (r : Reach) → IsResting r → IsWithin r (reach_of (kept_of r))
kept_within r rest = let w = between_within r.least r.past rest in record { least = w.least; past = w.past }

pub admit_ends : (sheet : List Seen) (before after : View) → IsSheet sheet → IsSeated before → length after.places ≡ 64 → ((p : ℕ) → p < 64 → place_at after p ≡ admitted (seen_at sheet p) (place_at before p))
    → (F G : Facts) → IsEnds F (given_sheet before) → IsEnds G sheet → IsEnds (union F G) (given_sheet after)
admit_ends sheet before after lawful seated size is F G f g =
    met_ends F G before after (λ p. reach_of (seen_at sheet p)) seated size (λ p below. lawful_order _ (lawful.lawful p)) (λ p below. ap (λ (c : Place). c.given) (is p below)) f
    (λ p below. subst (λ (x : Seen). IsSeen (G p) x) (sym (kept_back _ (lawful.lawful p))) (g.each p))
    (beyond G sheet g)

pub join_ends : (a b after : View) → IsSeated a → IsSeated b → length after.places ≡ 64 → ((p : ℕ) → p < 64 → place_at after p ≡ joined (place_at a p) (place_at b p))
    → (F G : Facts) → IsEnds F (given_sheet a) → IsEnds G (given_sheet b) → IsEnds (union F G) (given_sheet after)
join_ends a b after left right size is F G f g =
    met_ends F G a after (λ p. (place_at b p).given) left size right.rest.given (λ p below. ap (λ (c : Place). c.given) (is p below)) f
    (λ p below. subst (λ (x : Seen). IsSeen (G p) x) (given_at b p right.size below) (g.each p))
    (beyond G (given_sheet b) g)

-- two views that gave the same
pub same_given : (v w : View) → length v.places ≡ 64 → length w.places ≡ 64 → ((p : ℕ) → p < 64 → (place_at w p).given ≡ (place_at v p).given) → given_sheet w ≡ given_sheet v
same_given v w size long same =
    ext_get_or seen.None (given_sheet w) (given_sheet v) (given_long w long ∙ sym (given_long v size))
    (λ p below.
    let inside : p < 64 = omega (arith, given_long w long) in
    given_at w p long inside ∙ ap kept_of (same p inside) ∙ sym (given_at v p size inside))

pub same_seen : (v w : View) → length v.places ≡ 64 → length w.places ≡ 64 → ((p : ℕ) → p < 64 → (place_at w p).seen ≡ (place_at v p).seen) → seen_sheet w ≡ seen_sheet v
same_seen v w size long same =
    ext_get_or seen.None (seen_sheet w) (seen_sheet v)
    (length-map w.places (λ place. kept_of place.seen) ∙ long ∙ sym (length-map v.places (λ place. kept_of place.seen) ∙ size))
    (λ p below.
    let inside : p < 64 = omega (arith, length-map w.places (λ place. kept_of place.seen), long) in
    seen_at_view w p (omega (arith, long, inside)) ∙ ap kept_of (same p inside) ∙ sym (seen_at_view v p (omega (arith, size, inside))))

-- a look leaves what was posted
pub looked_given : (facts : List (ℕ × ℕ)) (before after : View) → IsSeated before → Through (LooksAt facts) before after 64 → given_sheet after ≡ given_sheet before
looked_given facts before after seated through =
    same_given before after seated.size (through.size ∙ seated.size) (λ p below. (through.below p below).looked.given)

-- where only these facts may be posted and a seat posted their ends, a look sees these ends
pub looked_exactly : (facts : List (ℕ × ℕ)) (before after : View) (F : Facts) → IsSeated before → Through (LooksAt facts) before after 64
    → ((p v : ℕ) → IsAllowed facts p v → F p v ≡ true) → IsEnds F (given_sheet before) → IsEnds F (seen_sheet after)
looked_exactly facts before after F seated through among ends =
    let later = looked_seated facts before after seated through in
    record {
      places = length-map after.places (λ place. kept_of place.seen) ∙ later.size;
      each = λ p. elim (cases_lt p 64) [
        | inl below ↦
            let looked = through.below p below in
            let given = (place_at before p).given in
            let saw = (place_at after p).seen in
            let within = later.within p below in
            let same = looked.looked.given in
            let least : saw.least ≤ given.least = omega (arith, within.least, ap (λ (r : Reach). r.least) same) in
            let past : given.past ≤ saw.past = omega (arith, within.past, ap (λ (r : Reach). r.past) same) in
            let edges = seen_edges (F p) given.least given.past (seated.rest.given p below) (subst (λ (x : Seen). IsSeen (F p) x) (given_at before p seated.size below) (ends.each p)) in
            subst (λ (x : Seen). IsSeen (F p) x) (sym (seen_at_view after p (omega (arith, later.size))))
            (edges_seen (F p) saw.least saw.past looked.rest record {
              has_least = λ small. among p saw.least (looked.looked.allowed.least small);
              has_greatest = λ v is. among p v (looked.looked.allowed.greatest v is);
              between = λ w shown. let b = edges.between w shown in (omega arith, omega arith);
            })
        | inr above ↦
            subst (λ (x : Seen). IsSeen (F p) x)
            (sym (get_or_past (seen_sheet after) p seen.None (omega (arith, length-map after.places (λ place. kept_of place.seen), later.size))))
            (beyond F (given_sheet before) ends p above)
      ];
    }

pub nothing_given : (share : ℕ) → IsEnds no_facts (given_sheet (fresh share))
nothing_given share =
    ends_given no_facts (fresh share) blanks_long
    (λ p below. subst (λ (c : Place). IsSeen (no_facts p) (kept_of c.given)) (sym (place_blank p)) (λ v. refl))
    (λ p above v. refl)

pub nothing_seen : (share : ℕ) → IsEnds no_facts (seen_sheet (fresh share))
nothing_seen share =
    let long : length (seen_sheet (fresh share)) ≡ 64 = length-map (fresh share).places (λ place. kept_of place.seen) ∙ blanks_long in
    record {
      places = long;
      each = λ p. elim (cases_lt p 64) [
        | inl below ↦
            subst (λ (x : Seen). IsSeen (no_facts p) x) (sym (seen_at_view (fresh share) p (omega (arith, blanks_long, below))))
            (subst (λ (c : Place). IsSeen (no_facts p) (kept_of c.seen)) (sym (place_blank p)) (λ v. refl))
        | inr above ↦ subst (λ (x : Seen). IsSeen (no_facts p) x) (sym (get_or_past (seen_sheet (fresh share)) p seen.None (omega (arith, long, above)))) (λ v. refl)
      ];
    }
