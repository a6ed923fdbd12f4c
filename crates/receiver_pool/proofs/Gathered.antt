-- What the sheets of a batch's groups show together, place by place.
use Rattle.std.proofs.Common.{◌≡◌, ℕ, zero, suc, ◌+◌, ◌<◌, ◌≤◌, ◌==◌, Bool, true, false, ◌&&◌, ◌||◌, List, [], ◌∷◌, ◌++◌, All, length, map, take, slice_index, slice_index_or, refl, arith, ap, sym, ◌∙◌, inl, inr, add-one, subst}
use Rattle.std.proofs.lemmas.Bool.{cases_eq, cases_lt, eq-eqb, ne_eqb}
use Rattle.std.proofs.lemmas.List.{get_or_append_left, get_or_push, length-append, take_all, take_more}
use Rattle.std.proofs.lemmas.List.Elements.{All-get_or, All-nil}
use Rattle.std.proofs.Math.Bool.{and-false, or-false}
use Rattle.slot_evidence.specs.Facts.{Facts, facts_of, union}
use Rattle.slot_evidence.specs.declared.places.Seen.{Seen}
use Rattle.slot_evidence.specs.Sheet.{IsEnds}
use Rattle.atomic_table.specs.Seated.{TableId}
use Rattle.evidence_board.specs.Seats.{Held}
use Rattle.receiver_pool.specs.Rows.{AreSeats, seat_at}
use Rattle.receiver_pool.specs.Seeing.{SawWithin, HasGoneRound}
use Rattle.receiver_pool.specs.declared.group_entries.GroupReception.{GroupReception}
use Rattle.receiver_pool.specs.declared.group_entries.GroupSheet.{GroupSheet}
use Rattle.receiver_pool.specs.Groups.{facts_of_group, groups_of, AreSheets, AreShown, Belongs, IsOneOf, Shows}
use Rattle.receiver_pool.specs.inside.Turns.{is_turn, group_part, nobody}
use Rattle.receiver_pool.specs.inside.Numbers.{AreApart, AreNumbered, IsBelow, IsPlaced, nth_at, place_part, gathered, is_listed, with_group}
use Rattle.receiver_pool.proofs.Parts.{groups_all, same_sheets}
use Rattle.receiver_pool.proofs.Entries.{shown_same, shown_append, shown_one}
use Rattle.slot_evidence.proofs.PublicLaws.{IsEnds-same}
use Rattle.receiver_pool.proofs.SeatRows.{same_seats}
use Rattle.receiver_pool.proofs.Naming.{groups_push, apart_with}

or_both : (g a b x y : Bool) → (a || b || (g && (x || y))) ≡ (a || (g && x) || (b || (g && y)))
or_both true true b x y = refl
or_both true false true true y = refl
or_both true false true false y = refl
or_both true false false x y = refl
or_both false true b x y = refl
or_both false false true x y = refl
or_both false false false x y = refl

and_swap : (a b c : Bool) → (a && (b && c)) ≡ (b && (a && c))
and_swap true b c = refl
and_swap false true c = refl
and_swap false false c = refl

module _ (groups : List ℕ) (k p v : ℕ) where
  gathered_split : (F G H : ℕ → Facts) (m : ℕ) → ((j : ℕ) → F j p v ≡ (G j p v || H j p v)) → gathered groups F m k p v ≡ (gathered groups G m k p v || gathered groups H m k p v)
  gathered_split F G H zero split = refl
  gathered_split F G H (suc m) split =
      let here = slice_index groups m == k in
      ap (λ (b : Bool). b || (here && F m p v)) (gathered_split F G H m split)
      ∙ ap (λ (b : Bool). gathered groups G m k p v || gathered groups H m k p v || (here && b)) (split m)
      ∙ or_both here (gathered groups G m k p v) (gathered groups H m k p v) (G m p v) (H m p v)

  gathered_none : (F : ℕ → Facts) (m : ℕ) → ((j : ℕ) → j < m → F j p v ≡ false) → gathered groups F m k p v ≡ false
  gathered_none F zero none = refl
  gathered_none F (suc m) none =
      ap (λ (b : Bool). b || ((slice_index groups m == k) && F m p v)) (gathered_none F m (λ j below. none j (omega arith)))
      ∙ ap (λ (b : Bool). (slice_index groups m == k) && b) (none m (omega arith))
      ∙ and-false (slice_index groups m == k)

  -- what is shown of one place
  gathered_one : (F : ℕ → Facts) (b : Bool) (place m : ℕ) → place < m → ((j : ℕ) → F j p v ≡ ((place == j) && b)) → gathered groups F m k p v ≡ ((slice_index groups place == k) && b)
  gathered_one F b place zero below is = absurd (omega arith)
  gathered_one F b place (suc m) below is =
      let last = (slice_index groups m == k) && F m p v in
      elim (cases_eq place m) [
        | inl here ↦
            ap (λ (x : Bool). x || last)
            (gathered_none F m (λ j small. is j ∙ ap (λ (x : Bool). x && b) (ne_eqb place j (λ e. omega arith))))
            ∙ ap (λ (x : Bool). (slice_index groups m == k) && x) (is m ∙ ap (λ (x : Bool). x && b) (eq-eqb place m here))
            ∙ ap (λ (j : ℕ). (slice_index groups j == k) && b) (sym here)
        | inr apart ↦
            ap (λ (x : Bool). gathered groups F m k p v || ((slice_index groups m == k) && x)) (is m ∙ ap (λ (x : Bool). x && b) (ne_eqb place m apart))
            ∙ ap (λ (x : Bool). gathered groups F m k p v || x) (and-false (slice_index groups m == k))
            ∙ or-false (gathered groups F m k p v)
            ∙ gathered_one F b place m (omega arith) is
      ]

-- all places together show what the receptions show
pub gathered_part : (takes : ℕ → Bool) (batch : List GroupReception) (groups places : List ℕ) (N n k p v : ℕ) → n ≤ N → AreNumbered batch N groups places
    → gathered groups (place_part takes batch places n) (length groups) k p v ≡ group_part takes batch n k p v
gathered_part takes batch groups places N zero k p v inside are = gathered_none groups k p v (place_part takes batch places 0) (length groups) (λ j below. refl)
gathered_part takes batch groups places N (suc n) k p v inside are =
    let x = facts_of (slice_index_or batch n nobody).reception p v in
    let place = slice_index places n in
    let H : ℕ → Facts = λ j q w. takes n && nth_at batch places j n q w in
    gathered_split groups k p v (place_part takes batch places (suc n)) (place_part takes batch places n) H (length groups) (λ j. refl)
    ∙ ap (λ (b : Bool). b || gathered groups H (length groups) k p v) (gathered_part takes batch groups places N n k p v (omega arith) are)
    ∙ ap (λ (b : Bool). group_part takes batch n k p v || b)
    (gathered_one groups k p v H (takes n && x) place (length groups) (are.inside n (omega arith)) (λ j. and_swap (takes n) (place == j) x)
    ∙ ap (λ (g : ℕ). (g == k) && (takes n && x)) (are.same n (omega arith))
    ∙ and_swap ((slice_index_or batch n nobody).group == k) (takes n) x)

-- the groups of all receptions
pub all_named : (batch : List GroupReception) (groups places : List ℕ) → AreNumbered batch (length batch) groups places → groups ≡ groups_of batch
all_named batch groups places are = are.named ∙ ap groups_of (take_all (length batch) batch (omega arith))

-- somebody went round the boards of these
pub has_gone : (batch : List GroupReception) (groups : List ℕ) (Saw : List ℕ → List Held → Type 0) → groups ≡ groups_of batch → (seats : List Held) → length seats ≡ length groups
    → ((k : ℕ) → k < length groups → SawWithin (facts_of_group batch (slice_index groups k)) (seat_at seats k).view) → Saw groups seats → HasGoneRound batch Saw
has_gone batch groups Saw is seats count each saw = record {
  seats = seats;
  count = count ∙ ap (λ (gs : List ℕ). length gs) is;
  each = λ k below.
      subst (λ (gs : List ℕ). SawWithin (facts_of_group batch (slice_index gs k)) (seat_at seats k).view) is
      (each k (omega (arith, below, ap (λ (gs : List ℕ). length gs) is)));
  saw = subst (λ (gs : List ℕ). Saw gs seats) is saw;
}

-- what is read of the group at a place is what the receptions of that group show
place_test : (batch : List GroupReception) (groups places : List ℕ) (N n k : ℕ) → k < length groups → n < N → AreNumbered batch N groups places → (slice_index places n == k) ≡ ((slice_index_or batch n nobody).group == slice_index groups k)
place_test batch groups places N n k inside below are = elim (cases_eq (slice_index places n) k) [
  | inl here ↦ eq-eqb (slice_index places n) k here ∙ sym (eq-eqb (slice_index_or batch n nobody).group (slice_index groups k) (sym (are.same n below) ∙ ap (slice_index groups) here))
  | inr apart ↦
      ne_eqb (slice_index places n) k apart
      ∙ sym (ne_eqb (slice_index_or batch n nobody).group (slice_index groups k) (λ e. apart (are.apart (slice_index places n) k (are.inside n below) inside (are.same n below ∙ e))))
]

place_shows : (takes : ℕ → Bool) (batch : List GroupReception) (groups places : List ℕ) (N n k p v : ℕ) → k < length groups → n ≤ N → AreNumbered batch N groups places
    → place_part takes batch places n k p v ≡ group_part takes batch n (slice_index groups k) p v
place_shows takes batch groups places N zero k p v inside below are = refl
place_shows takes batch groups places N (suc n) k p v inside below are =
    let x = facts_of (slice_index_or batch n nobody).reception p v in
    ap (λ (b : Bool). b || (takes n && (slice_index places n == k && x))) (place_shows takes batch groups places N n k p v inside (omega arith) are)
    ∙ ap (λ (b : Bool). group_part takes batch n (slice_index groups k) p v || (takes n && (b && x))) (place_test batch groups places N n k inside (omega arith) are)

pub place_ends : (workers : ℕ) (batch : List GroupReception) (groups places : List ℕ) (k : ℕ) (sheet : List Seen) → 0 < workers → k < length groups → AreNumbered batch (length batch) groups places
    → IsEnds (place_part (is_turn workers 0 workers) batch places (length batch) k) sheet → IsEnds (facts_of_group batch (slice_index groups k)) sheet
place_ends workers batch groups places k sheet some_there inside are =
    IsEnds-same _ (facts_of_group batch (slice_index groups k)) sheet
    (λ p v. place_shows (is_turn workers 0 workers) batch groups places (length batch) (length batch) k p v inside (omega arith) are ∙ groups_all workers batch (slice_index groups k) p v some_there)

-- the entries of a batch's groups
pub gathered_shown : (workers : ℕ) (batch : List GroupReception) (groups places : List ℕ) (entries : List GroupSheet) → 0 < workers → AreNumbered batch (length batch) groups places
    → AreShown (gathered groups (place_part (is_turn workers 0 workers) batch places (length batch)) (length groups)) entries → ((n : ℕ) → All (IsBelow n) groups → All (IsOneOf n) entries)
    → map (λ entry. entry.group) entries ≡ groups → Shows (facts_of_group batch) batch entries
gathered_shown workers batch groups places entries some_there are shown belong named = record {
  facts = shown_same _ (facts_of_group batch) entries
      (λ k p v.
      gathered_part (is_turn workers 0 workers) batch groups places (length batch) (length batch) k p v (omega arith) are
      ∙ groups_all workers batch k p v some_there)
      shown;
  groups = λ n all. belong n (are.bounded n all);
  named = named ∙ all_named batch groups places are;
}

-- one reception more
pub next_part : (workers low high index : ℕ) (mine : Bool) (batch : List GroupReception) (places : List ℕ) (heard : GroupReception) (sheets : List (List Seen)) (n : ℕ) → heard ≡ slice_index_or batch index nobody
    → mine ≡ is_turn workers low high index
    → AreSheets (λ k. union (place_part (is_turn workers low high) batch places index k) (λ p v. slice_index places index == k && (mine && facts_of heard.reception p v))) sheets n
    → AreSheets (place_part (is_turn workers low high) batch places (index + 1)) sheets n
next_part workers low high index mine batch places heard sheets n is turn are =
    let part = place_part (is_turn workers low high) batch places in
    let place = slice_index places index in
    subst (λ (m : ℕ). AreSheets (part m) sheets n) (sym (add-one index))
    (same_sheets _ (part (suc index)) sheets n
    (λ k p v.
    ap (λ (b : Bool). part index k p v || b)
    (and_swap (place == k) mine (facts_of heard.reception p v)
    ∙ ap (λ (b : Bool). b && (place == k && facts_of heard.reception p v)) turn
    ∙ ap (λ (h : GroupReception). is_turn workers low high index && (place == k && facts_of h.reception p v)) is))
    are)

pub or_assoc : (a b c : Bool) → (a || b || c) ≡ (a || (b || c))
or_assoc true b c = refl
or_assoc false b c = refl

-- one reception more was posted
pub next_posted : (workers low high index : ℕ) (mine : Bool) (batch : List GroupReception) (places : List ℕ) (heard : GroupReception) (share : ℕ) (F : ℕ → Facts) (boards : List TableId) (seats : List Held) → heard ≡ slice_index_or batch index nobody
    → mine ≡ is_turn workers low high index
    → AreSeats share (λ k. union (union (F k) (place_part (is_turn workers low high) batch places index k)) (λ p v. slice_index places index == k && (mine && facts_of heard.reception p v))) boards seats
    → AreSeats share (λ k. union (F k) (place_part (is_turn workers low high) batch places (index + 1) k)) boards seats
next_posted workers low high index mine batch places heard share F boards seats is turn are =
    let part = place_part (is_turn workers low high) batch places in
    let place = slice_index places index in
    subst (λ (m : ℕ). AreSeats share (λ k. union (F k) (part m k)) boards seats) (sym (add-one index))
    (same_seats share share _ (λ k. union (F k) (part (suc index) k)) boards seats refl
    (λ k p v.
    or_assoc (F k p v) (part index k p v) (place == k && (mine && facts_of heard.reception p v))
    ∙ ap (λ (b : Bool). F k p v || (part index k p v || b))
    (and_swap (place == k) mine (facts_of heard.reception p v)
    ∙ ap (λ (b : Bool). b && (place == k && facts_of heard.reception p v)) turn
    ∙ ap (λ (h : GroupReception). is_turn workers low high index && (place == k && facts_of h.reception p v)) is))
    are)

-- one entry more
pub next_entry : (groups : List ℕ) (F : ℕ → Facts) (i : ℕ) (entry : GroupSheet) (entries : List GroupSheet) → entry.group ≡ slice_index groups i → IsEnds (F i) entry.sheet
    → AreShown (gathered groups F i) entries → AreShown (gathered groups F (i + 1)) (entries ++ entry ∷ [])
next_entry groups F i entry entries is ends are =
    subst (λ (m : ℕ). AreShown (gathered groups F m) (entries ++ entry ∷ [])) (sym (add-one i))
    (shown_same _ (gathered groups F (suc i)) (entries ++ entry ∷ [])
    (λ k p v. ap (λ (g : ℕ). gathered groups F i k p v || (g == k && F i p v)) is)
    (shown_append (gathered groups F i) (λ k p v. entry.group == k && F i p v) entries (entry ∷ []) are (shown_one entry (F i) ends)))

-- before the first reception
pub none_numbered : (batch : List GroupReception) (groups places : List ℕ) → groups ≡ [] → places ≡ [] → AreNumbered batch 0 groups places
none_numbered batch groups places no_groups no_places =
    subst (λ (gs : List ℕ). AreNumbered batch 0 gs places) (sym no_groups)
    (subst (λ (ps : List ℕ). AreNumbered batch 0 [] ps) (sym no_places)
    (record {
      count = refl;
      inside = λ i small. absurd (omega arith);
      same = λ i small. absurd (omega arith);
      bounded = λ m all. All-nil (IsBelow m);
      named = refl;
      apart = λ i j small. absurd (omega arith);
    }))

-- one reception more is numbered
pub next_numbered : (batch : List GroupReception) (i place group : ℕ) (old new places : List ℕ) → i < length batch → group ≡ (slice_index_or batch i nobody).group → IsPlaced group place old new
    → AreNumbered batch i old places → AreNumbered batch (i + 1) new (places ++ place ∷ [])
next_numbered batch i place group old new places inside is placed was =
    let before : (j : ℕ) → j < i → slice_index (places ++ place ∷ []) j ≡ slice_index places j = λ j low. get_or_append_left places (place ∷ []) 0 j (omega (arith, was.count)) in
    let last : slice_index (places ++ place ∷ []) i ≡ place = get_or_push places place 0 i was.count in
    record {
      count = length-append places (place ∷ []) ∙ ap (λ (m : ℕ). m + 1) was.count;
      inside = λ j small. elim (cases_lt j i) [
        | inl low ↦ omega (arith, before j low, was.inside j low, placed.longer)
        | inr high ↦ (let here : j ≡ i = omega arith in omega (arith, ap (slice_index (places ++ place ∷ [])) here, last, placed.inside))
      ];
      same = λ j small. elim (cases_lt j i) [
        | inl low ↦ ap (slice_index new) (before j low) ∙ placed.kept (slice_index places j) (was.inside j low) ∙ was.same j low
        | inr high ↦
            let here : j ≡ i = omega arith in
            ap (λ (k : ℕ). slice_index new (slice_index (places ++ place ∷ []) k)) here ∙ ap (slice_index new) last ∙ placed.here ∙ is
            ∙ ap (λ (k : ℕ). (slice_index_or batch k nobody).group) (sym here)
      ];
      named = placed.list ∙ ap (λ (l : List ℕ). with_group l group) was.named ∙ ap (with_group (groups_of (take i batch))) is ∙ sym (groups_push (take i batch) (slice_index_or batch i nobody)) ∙ sym (ap groups_of (take_more batch i nobody inside));
      apart = subst AreApart (sym placed.list) (apart_with old group (is_listed old group) refl was.apart);
      bounded = λ n all. placed.bounded n (subst (λ (g : ℕ). g < n) (sym is) (All-get_or (Belongs n) batch i nobody inside all).group) (was.bounded n all);
    }
