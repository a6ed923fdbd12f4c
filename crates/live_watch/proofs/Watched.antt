-- What contracts see of a watcher that went round.
use Rattle.std.proofs.Common.{◌≡◌, ◌⊎◌, ℕ, ◌<◌, List, [], Option, Some, None, Contains, map, length, slice_index, slice_index_or, refl, sym, ap, subst, ◌∙◌, inl, inr, arith}
use Rattle.std.proofs.lemmas.List.{get_or-map, length-map, ext_get_or}
use Rattle.call_values.specs.declared.calls.Call.{Call}
use Rattle.slot_evidence.specs.declared.places.Seen.{Seen}
use Rattle.evidence_board.specs.Views.{seen_sheet}
use Rattle.evidence_board.specs.Seats.{Held}
use Rattle.receiver_pool.specs.declared.group_entries.GroupReception.{GroupReception}
use Rattle.receiver_pool.specs.Groups.{facts_of_group, groups_of}
use Rattle.receiver_pool.specs.Rows.{seat_at}
use Rattle.receiver_pool.specs.Seeing.{SawWithin, HasGoneRound}
use Rattle.live_watch.specs.declared.batches.WatchedGroup.{WatchedGroup}
use Rattle.live_watch.specs.Batches.{Sight, HasSeen, IsSightOf, IsUnderWatch, IsSeenWith, IsReportWith, WentRound, HasWatched, known_of}
use Rattle.live_watch.specs.inside.Rounds.{sight_of, sights_of, watched_at, nothing_watched, IsBoardOf, IsNoneOf, IsPlaceOf, IsJudged, IsRound, AreJudged}

pub seen_long : (watched : List WatchedGroup) → length (sights_of watched) ≡ length watched
seen_long watched = length-map watched sight_of

pub sight_at : (watched : List WatchedGroup) (i : ℕ) (d : Sight) → i < length watched → slice_index_or (sights_of watched) i d ≡ sight_of (watched_at watched i)
sight_at watched i d below = get_or-map sight_of watched i nothing_watched d below

same_sight : (a b : Sight) → a.group ≡ b.group → a.seen ≡ b.seen → a ≡ b
same_sight a b group seen = λ i. record { group = group i; seen = seen i }

-- a sight is among those of the groups
pub found : (watched : List WatchedGroup) (i : ℕ) (s : Sight) → i < length watched → (watched_at watched i).group ≡ s.group → (watched_at watched i).call ≡ s.seen → Contains (sights_of watched) s
found watched i s below group call = (i, omega (arith, below, seen_long watched), sight_at watched i s below ∙ same_sight (sight_of (watched_at watched i)) s group call)

pub where_found : (watched : List WatchedGroup) (s : Sight) → Contains (sights_of watched) s → (i : ℕ) × (i < length watched) × ((watched_at watched i).group ≡ s.group) × ((watched_at watched i).call ≡ s.seen)
where_found watched s c =
    let below : c.0 < length watched = omega (arith, c.1, seen_long watched) in
    let is = sym (sight_at watched c.0 s below) ∙ c.2 in
    (c.0, below, ap (λ (x : Sight). x.group) is, ap (λ (x : Sight). x.seen) is)

pub none_there : (watched : List WatchedGroup) (group : ℕ) → IsNoneOf watched group → IsSightOf (sights_of watched) group None
none_there watched group none = inl (λ under. let at = where_found watched (record { group = group; seen = under.0 }) under.1 in none at.0 at.1 at.2)

module _ (known : List (List Seen)) (groups : List ℕ) (begun watched : List WatchedGroup) (seats : List Held) (was : IsRound known groups begun watched seats) where
  same_groups : map (λ (s : Sight). s.group) (sights_of watched) ≡ map (λ (s : Sight). s.group) (sights_of begun)
  same_groups =
      let one : length (map (λ (s : Sight). s.group) (sights_of watched)) ≡ length watched = length-map (sights_of watched) (λ (s : Sight). s.group) ∙ seen_long watched in
      let other : length (map (λ (s : Sight). s.group) (sights_of begun)) ≡ length begun = length-map (sights_of begun) (λ (s : Sight). s.group) ∙ seen_long begun in
      ext_get_or 0 (map (λ (s : Sight). s.group) (sights_of watched)) (map (λ (s : Sight). s.group) (sights_of begun)) (one ∙ was.count ∙ sym other)
      (λ i below.
      let inside : i < length begun = omega (arith, below, one, was.count) in
      get_or-map (λ (s : Sight). s.group) (sights_of watched) i (sight_of nothing_watched) 0 (omega (arith, inside, was.count, seen_long watched))
      ∙ ap (λ (s : Sight). s.group) (sight_at watched i (sight_of nothing_watched) (omega (arith, inside, was.count)))
      ∙ was.group i inside
      ∙ sym (get_or-map (λ (s : Sight). s.group) (sights_of begun) i (sight_of nothing_watched) 0 (omega (arith, inside, seen_long begun))
      ∙ ap (λ (s : Sight). s.group) (sight_at begun i (sight_of nothing_watched) inside)))

  kept : (group : ℕ) (call : Call) → HasSeen (sights_of begun) group call → HasSeen (sights_of watched) group call
  kept group call seen =
      let at = where_found begun (record { group = group; seen = Some call }) seen in
      found watched at.0 (record { group = group; seen = Some call }) (omega (arith, at.1, was.count)) (was.group at.0 at.1 ∙ at.2) (was.kept at.0 call at.1 at.3)

  shown : (group : ℕ) (call : Call) → HasSeen (sights_of watched) group call
      → HasSeen (sights_of begun) group call ⊎ ((k : ℕ) × (k < length groups) × (slice_index groups k ≡ group) × IsSeenWith (known_of known group) (seat_at seats k).view call)
  shown group call seen =
      let at = where_found watched (record { group = group; seen = Some call }) seen in
      let below : at.0 < length begun = omega (arith, at.1, was.count) in
      let is : (watched_at begun at.0).group ≡ group = sym (was.group at.0 below) ∙ at.2 in
      elim (was.shown at.0 call below at.3) [
        | inl before ↦ inl (found begun at.0 (record { group = group; seen = Some call }) below is before)
        | inr s ↦ inr (s.0, s.1, s.2 ∙ is, subst (λ (g : ℕ). IsSeenWith (known_of known g) (seat_at seats s.0).view call) is s.3)
      ]

  judged : (group k : ℕ) → IsJudged known begun watched seats group k → ((call : Call) × HasSeen (sights_of watched) group call) ⊎ IsReportWith (known_of known group) (seen_sheet (seat_at seats k).view) None
  judged group k (inl c) = inl (c.1, found watched c.0 (record { group = group; seen = Some c.1 }) (omega (arith, c.2, was.count)) (was.group c.0 c.2 ∙ c.3) c.4)
  judged group k (inr none) = inr none

  module _ (all : AreJudged known begun watched seats) (group i : ℕ) (below : i < length begun) (is : (watched_at begun i).group ≡ group) (among : Contains groups group) where
    abbrev Outcome : Type 0
    Outcome = ((call : Call) × HasSeen (sights_of watched) group call) ⊎ ((k : ℕ) × (k < length groups) × (slice_index groups k ≡ group) × IsReportWith (known_of known group) (seen_sheet (seat_at seats k).view) None)

    outcome_at : (k : ℕ) → k < length groups → slice_index groups k ≡ group → ((call : Call) × HasSeen (sights_of watched) group call) ⊎ IsReportWith (known_of known group) (seen_sheet (seat_at seats k).view) None → Outcome
    outcome_at k small here (inl seen) = inl seen
    outcome_at k small here (inr none) = inr (k, small, here, none)

    outcome : (board : Option ℕ) → (watched_at watched i).board ≡ board → IsBoardOf groups group board → Outcome
    outcome None at of = absurd (of among)
    outcome (Some k) at of = outcome_at k of.0 of.1 (judged group k (subst (λ (g : ℕ). IsJudged known begun watched seats g k) is (all i k below at)))

  looked : AreJudged known begun watched seats → (group : ℕ) → IsUnderWatch (sights_of watched) group → Contains groups group
      → ((call : Call) × HasSeen (sights_of watched) group call) ⊎ ((k : ℕ) × (k < length groups) × (slice_index groups k ≡ group) × IsReportWith (known_of known group) (seen_sheet (seat_at seats k).view) None)
  looked all group under among =
      let at = where_found watched (record { group = group; seen = under.0 }) under.1 in
      let below : at.0 < length begun = omega (arith, at.1, was.count) in
      let is : (watched_at begun at.0).group ≡ group = sym (was.group at.0 below) ∙ at.2 in
      outcome all group at.0 below is among (watched_at watched at.0).board refl (subst (λ (g : ℕ). IsBoardOf groups g (watched_at watched at.0).board) is (was.boards at.0 below))

  pub went_round : AreJudged known begun watched seats → WentRound (sights_of begun) (sights_of watched) known groups seats
  went_round all = record { same = same_groups; kept = kept; shown = shown; looked = looked all }

-- the seats saw no more than the batch shows
pub has_watched : (known : List (List Seen)) (batch : List GroupReception) (before after : List Sight) → HasGoneRound batch (WentRound before after known) → HasWatched before after known batch
has_watched known batch before after gone =
    let went = gone.saw in
    let saw : (group k : ℕ) → k < length (groups_of batch) → slice_index (groups_of batch) k ≡ group → SawWithin (facts_of_group batch group) (seat_at gone.seats k).view =
    λ group k below is. subst (λ (g : ℕ). SawWithin (facts_of_group batch g) (seat_at gone.seats k).view) is (gone.each k below) in
    record {
      same = went.same;
      kept = went.kept;
      shown = λ group call seen. elim (went.shown group call seen) [
        | inl was ↦ inl was
        | inr s ↦ inr ((seat_at gone.seats s.0).view, saw group s.0 s.1 s.2, s.3)
      ];
      looked = λ group under among. elim (went.looked group under among) [
        | inl seen ↦ inl seen
        | inr s ↦ inr ((seat_at gone.seats s.0).view, saw group s.0 s.1 s.2, s.3)
      ];
    }

pub no_batch : (known : List (List Seen)) (batch : List GroupReception) (sights : List Sight) → batch ≡ [] → HasWatched sights sights known batch
no_batch known batch sights none = record {
  same = refl;
  kept = λ group call seen. seen;
  shown = λ group call seen. inl seen;
  looked = λ group under among. absurd (omega (arith, among.1, ap (λ (b : List GroupReception). length (groups_of b)) none));
}
