-- A watcher's round stays one after each look, and what it answers at its end.
use Rattle.std.proofs.Common.{◌≡◌, ◌≢◌, ◌⊎◌, ℕ, ◌+◌, ◌<◌, ◌≤◌, false, true, List, Option, Some, None, length, set, slice_index, refl, sym, ap, subst, ◌∙◌, inl, inr, arith}
use Rattle.std.proofs.lemmas.Bool.{cases_eq, cases_lt}
use Rattle.std.proofs.Math.Bool.{or-false}
use Rattle.std.proofs.lemmas.List.{get_or_past, length-set, get_or-set_same, get_or-set_other}
use Rattle.call_values.specs.declared.calls.Call.{Call}
use Rattle.slot_evidence.specs.declared.places.Seen.{Seen}
use Rattle.slot_evidence.specs.Facts.{no_facts, union}
use Rattle.slot_evidence.specs.Sheet.{IsEnds, facts_in}
use Rattle.slot_evidence.proofs.PublicLaws.{IsEnds-same, flip_alike}
use Rattle.slot_join.specs.declared.joined.Joined.TheVariants.{Reported}
use Rattle.evidence_board.specs.Views.{Reach, View, place_at, seen_sheet}
use Rattle.evidence_board.specs.Rule.{IsWithin}
use Rattle.evidence_board.specs.Seats.{Held}
use Rattle.receiver_pool.specs.Rows.{HaveSeenNothing, seat_at}
use Rattle.live_watch.specs.declared.batches.WatchedGroup.{WatchedGroup}
use Rattle.live_watch.specs.Told.{IsReportOf}
use Rattle.live_watch.specs.Batches.{Sight, IsSeenWith, IsReportWith, known_of}
use Rattle.live_watch.specs.inside.Rounds.{sight_of, watched_at, nothing_watched, AreOnBoards, IsBoardOf, HasLooked, IsStep, IsDone, IsJudged, IsRound}
use Rattle.live_watch.proofs.Posting.{Alike}

pub within_itself : (a : Reach) → IsWithin a a
within_itself a = record { least = omega arith; past = omega arith }

pub within_both : (a b c : Reach) → IsWithin a b → IsWithin b c → IsWithin a c
within_both a b c first last =
    let low = first.least in
    let lower = last.least in
    let high = first.past in
    let higher = last.past in
    record { least = omega arith; past = omega arith }

-- a seat that knows more saw the call still
seen_more : (known : List Seen) (before after : View) (call : Call) → ((p : ℕ) → p < 64 → IsWithin (place_at before p).seen (place_at after p).seen) → IsSeenWith known before call → IsSeenWith known after call
seen_more known before after call grows was = record {
  look = was.look;
  within = λ p below. within_both (place_at was.look p).seen (place_at before p).seen (place_at after p).seen (was.within p below) (grows p below);
  report = was.report;
}

module _ (known : List (List Seen)) (groups : List ℕ) (begun : List WatchedGroup) (index : ℕ) (watched more : List WatchedGroup) (seats after : List Held) where
  module _ (was : IsRound known groups begun watched seats) (inside : index < length begun) (look : HasLooked known index watched seats more after) where
    one_here : watched_at more index ≡ look.one
    one_here = ap (λ (l : List WatchedGroup). watched_at l index) look.changed ∙ get_or-set_same watched index look.one nothing_watched (omega (arith, was.count, inside))

    here : (i : ℕ) → i ≡ index → watched_at more i ≡ look.one
    here i same = ap (watched_at more) same ∙ one_here

    apart : (i : ℕ) → i ≢ index → watched_at more i ≡ watched_at watched i
    apart i other = ap (λ (l : List WatchedGroup). watched_at l i) look.changed ∙ get_or-set_other watched index i look.one nothing_watched other

    grows : (j p : ℕ) → p < 64 → IsWithin (place_at (seat_at seats j).view p).seen (place_at (seat_at after j).view p).seen
    grows j p below = elim (cases_eq j look.k) [
      | inl same ↦ subst (λ (i : ℕ). IsWithin (place_at (seat_at seats i).view p).seen (place_at (seat_at after i).view p).seen) (sym same) (look.grows p below)
      | inr other ↦
          subst (λ (s : Held). IsWithin (place_at (seat_at seats j).view p).seen (place_at s.view p).seen) (sym (look.others j other))
          (within_itself (place_at (seat_at seats j).view p).seen)
    ]

    -- the group that was looked for
    abbrev group : ℕ
    group = (watched_at begun index).group

    group_is : (watched_at watched index).group ≡ group
    group_is = was.group index inside

    board_is : (look.k < length groups) × (slice_index groups look.k ≡ group)
    board_is = subst (λ (o : Option ℕ). IsBoardOf groups group o) look.board (was.boards index inside)

    report : IsReportWith (known_of known group) (seen_sheet (seat_at after look.k).view) look.one.call
    report = subst (λ (g : ℕ). IsReportWith (known_of known g) (seen_sheet (seat_at after look.k).view) look.one.call) group_is look.looks.report

    never_called : (i : ℕ) (call : Call) → i ≡ index → (watched_at watched i).call ≡ Some call → ⊥
    never_called i call same is = absurd (cc (look.looks.unseen, ap (λ (j : ℕ). (watched_at watched j).call) same, is))

    kept : (i : ℕ) (call : Call) → (watched_at watched i).call ≡ Some call → (watched_at more i).call ≡ Some call
    kept i call is = elim (cases_eq i index) [
      | inl same ↦ absurd (never_called i call same is)
      | inr other ↦ ap (λ (w : WatchedGroup). w.call) (apart i other) ∙ is
    ]

    fresh_by : (seen : Option Call) → look.one.call ≡ seen → IsJudged known begun more after group look.k
    fresh_by None is = inr (subst (λ (o : Option Call). IsReportWith (known_of known group) (seen_sheet (seat_at after look.k).view) o) is report)
    fresh_by (Some call) is = inl (index, call, inside, refl, ap (λ (w : WatchedGroup). w.call) one_here ∙ is)

    -- whatever was judged is judged still, and so is the group that was looked for
    judged : (g j : ℕ) → (j ≡ look.k → g ≡ group) → IsJudged known begun watched seats g j → IsJudged known begun more after g j
    judged g j same (inl c) = inl (c.0, c.1, c.2, c.3, kept c.0 c.1 c.4)
    judged g j same (inr none) = elim (cases_eq j look.k) [
      | inl k ↦ subst (λ (i : ℕ). IsJudged known begun more after g i) (sym k) (subst (λ (h : ℕ). IsJudged known begun more after h look.k) (sym (same k)) (fresh_by look.one.call refl))
      | inr other ↦ inr (subst (λ (s : Held). IsReportWith (known_of known g) (seen_sheet s.view) None) (sym (look.others j other)) none)
    ]

    -- a board is that of one group
    one_group : (i j : ℕ) → i < length begun → (watched_at watched i).board ≡ Some j → j ≡ look.k → (watched_at begun i).group ≡ group
    one_group i j below is same =
        let at = subst (λ (o : Option ℕ). IsBoardOf groups (watched_at begun i).group o) is (was.boards i below) in
        sym at.1 ∙ ap (slice_index groups) same ∙ board_is.1

    board_more : (i : ℕ) → (watched_at more i).board ≡ (watched_at watched i).board
    board_more i = elim (cases_eq i index) [
      | inl same ↦ ap (λ (w : WatchedGroup). w.board) (here i same) ∙ look.looks.board ∙ sym (ap (λ (j : ℕ). (watched_at watched j).board) same)
      | inr other ↦ ap (λ (w : WatchedGroup). w.board) (apart i other)
    ]

    looked_on : (i j : ℕ) → i < length begun → (watched_at more i).is_looked ≡ true → (watched_at more i).board ≡ Some j → IsJudged known begun more after (watched_at begun i).group j
    looked_on i j below is board =
        let had : (watched_at watched i).board ≡ Some j = sym (board_more i) ∙ board in
        elim (cases_eq i index) [
          | inl same ↦
              let k : j ≡ look.k = cc (had, ap (λ (n : ℕ). (watched_at watched n).board) same, look.board) in
              subst (λ (n : ℕ). IsJudged known begun more after (watched_at begun i).group n) (sym k)
              (subst (λ (n : ℕ). IsJudged known begun more after (watched_at begun n).group look.k) (sym same) (fresh_by look.one.call refl))
          | inr other ↦
              judged (watched_at begun i).group j (one_group i j below had)
              (was.looked i j below (ap (λ (w : WatchedGroup). w.is_looked) (sym (apart i other)) ∙ is) had)
        ]

    seen_here : (i : ℕ) (call : Call) → i ≡ index → look.one.call ≡ Some call
        → (k : ℕ) × (k < length groups) × (slice_index groups k ≡ (watched_at begun i).group) × IsSeenWith (known_of known (watched_at begun i).group) (seat_at after k).view call
    seen_here i call same is = (
      look.k,
      board_is.0,
      board_is.1 ∙ ap (λ (j : ℕ). (watched_at begun j).group) (sym same),
      subst (λ (j : ℕ). IsSeenWith (known_of known (watched_at begun j).group) (seat_at after look.k).view call) (sym same)
          (record {
            look = (seat_at after look.k).view;
            within = λ p below. within_itself (place_at (seat_at after look.k).view p).seen;
            report = subst (λ (o : Option Call). IsReportWith (known_of known group) (seen_sheet (seat_at after look.k).view) o) is report;
          }),
    )

    shown_on : (i : ℕ) (call : Call) → i < length begun → (watched_at more i).call ≡ Some call
        → ((watched_at begun i).call ≡ Some call) ⊎ ((k : ℕ) × (k < length groups) × (slice_index groups k ≡ (watched_at begun i).group) × IsSeenWith (known_of known (watched_at begun i).group) (seat_at after k).view call)
    shown_on i call below is = elim (cases_eq i index) [
      | inl same ↦ inr (seen_here i call same (sym (ap (λ (w : WatchedGroup). w.call) (here i same)) ∙ is))
      | inr other ↦ (elim (was.shown i call below (ap (λ (w : WatchedGroup). w.call) (sym (apart i other)) ∙ is)) [
        | inl before ↦ inl before
        | inr s ↦ inr (s.0, s.1, s.2, seen_more (known_of known (watched_at begun i).group) (seat_at seats s.0).view (seat_at after s.0).view call (grows s.0) s.3)
      ])
    ]

    group_more : (i : ℕ) → i < length begun → (watched_at more i).group ≡ (watched_at begun i).group
    group_more i below = elim (cases_eq i index) [
      | inl same ↦ ap (λ (w : WatchedGroup). w.group) (here i same) ∙ look.looks.group ∙ sym (ap (λ (j : ℕ). (watched_at watched j).group) same) ∙ was.group i below
      | inr other ↦ ap (λ (w : WatchedGroup). w.group) (apart i other) ∙ was.group i below
    ]

    looked_round : IsRound known groups begun more after
    looked_round = record {
      count = ap (λ (l : List WatchedGroup). length l) look.changed ∙ length-set watched index look.one ∙ was.count;
      group = group_more;
      boards = λ i below. subst (λ (o : Option ℕ). IsBoardOf groups (watched_at begun i).group o) (sym (board_more i)) (was.boards i below);
      kept = λ i call below is. kept i call (was.kept i call below is);
      shown = shown_on;
      looked = looked_on;
    }

  pub step_round : IsRound known groups begun watched seats → index < length begun → IsStep known index watched seats more after → IsRound known groups begun more after
  step_round was inside (inl look) = looked_round was inside look
  step_round was inside (inr stays) =
      subst (λ (l : List WatchedGroup). IsRound known groups begun l after) (sym stays.watched_same) (subst (λ (s : List Held). IsRound known groups begun watched s) (sym stays.seats_same) was)

  -- what was judged is judged still
  pub step_judged : IsRound known groups begun watched seats → index < length begun → IsStep known index watched seats more after
      → (i j : ℕ) → i < length begun → (watched_at more i).board ≡ Some j → ((watched_at watched i).board ≡ Some j → IsJudged known begun watched seats (watched_at begun i).group j)
      → IsJudged known begun more after (watched_at begun i).group j
  step_judged was inside (inl look) i j below board judges =
      let had : (watched_at watched i).board ≡ Some j = sym (board_more was inside look i) ∙ board in
      judged was inside look (watched_at begun i).group j (one_group was inside look i j below had) (judges had)
  step_judged was inside (inr stays) i j below board judges =
      subst (λ (l : List WatchedGroup). IsJudged known begun l after (watched_at begun i).group j) (sym stays.watched_same)
      (subst (λ (s : List Held). IsJudged known begun watched s (watched_at begun i).group j) (sym stays.seats_same)
      (judges (ap (λ (l : List WatchedGroup). (watched_at l i).board) (sym stays.watched_same) ∙ board)))

-- a group that is done with is judged
pub done_judged : (known : List (List Seen)) (groups : List ℕ) (begun watched : List WatchedGroup) (seats : List Held) → IsRound known groups begun watched seats
    → (i j : ℕ) → i < length begun → (watched_at watched i).board ≡ Some j → IsDone (watched_at watched i) → IsJudged known begun watched seats (watched_at begun i).group j
done_judged known groups begun watched seats was i j below board (inl c) = inl (i, c.0, below, refl, c.1)
done_judged known groups begun watched seats was i j below board (inr (inl none)) = absurd (cc (none, board))
done_judged known groups begun watched seats was i j below board (inr (inr looked)) = was.looked i j below looked board

-- each board of a round is one of its groups'
pub on_boards : (known : List (List Seen)) (groups : List ℕ) (begun watched : List WatchedGroup) (seats : List Held) (n : ℕ) → length groups ≡ n → IsRound known groups begun watched seats → AreOnBoards n watched
on_boards known groups begun watched seats n many was i k is = elim (cases_lt i (length watched)) [
  | inl below ↦ omega (arith, many, (subst (λ (o : Option ℕ). IsBoardOf groups (watched_at begun i).group o) is (was.boards i (omega (arith, below, was.count)))).0)
  | inr past ↦ absurd (cc (ap (λ (w : WatchedGroup). w.board) (get_or_past watched i nothing_watched past), is))
]

-- the boards of the first groups are found
pub record FoundTo (known : List (List Seen)) (groups : List ℕ) (begun watched : List WatchedGroup) (i : ℕ) : Type 0 where
  pub count : length watched ≡ length begun
  pub same : (j : ℕ) → j < length begun → sight_of (watched_at watched j) ≡ sight_of (watched_at begun j)
  pub board : (j : ℕ) → j < i → IsBoardOf groups (watched_at begun j).group (watched_at watched j).board
  pub judged : (j : ℕ) → j < i → (watched_at watched j).is_looked ≡ true → IsReportOf (known_of known (watched_at begun j).group) None

pub same_sight : (a b : WatchedGroup) → a.group ≡ b.group → a.call ≡ b.call → sight_of a ≡ sight_of b
same_sight a b group call =
    let of_group : (g : ℕ) → Sight = λ g. record { group = g; seen = a.call } in
    let of_call : (o : Option Call) → Sight = λ o. record { group = b.group; seen = o } in
    ap of_group group ∙ ap of_call call

pub found_more : (known : List (List Seen)) (groups : List ℕ) (begun watched : List WatchedGroup) (i : ℕ) (one : WatchedGroup) → i < length begun → sight_of one ≡ sight_of (watched_at watched i) → IsBoardOf groups (watched_at watched i).group one.board
    → (one.is_looked ≡ true → IsReportOf (known_of known (watched_at watched i).group) None)
    → FoundTo known groups begun watched i → FoundTo known groups begun (set watched i one) (i + 1)
found_more known groups begun watched i one inside sight board judged was =
    let here : (j : ℕ) → j ≡ i → watched_at (set watched i one) j ≡ one = λ j e. ap (watched_at (set watched i one)) e ∙ get_or-set_same watched i one nothing_watched (omega (arith, was.count, inside)) in
    let apart : (j : ℕ) → j ≢ i → watched_at (set watched i one) j ≡ watched_at watched j = λ j e. get_or-set_other watched i j one nothing_watched e in
    let group : (watched_at watched i).group ≡ (watched_at begun i).group = ap (λ (s : Sight). s.group) (was.same i inside) in
    record {
      count = length-set watched i one ∙ was.count;
      same = λ j below. elim (cases_eq j i) [
        | inl e ↦ ap sight_of (here j e) ∙ sight ∙ was.same i inside ∙ sym (ap (λ (n : ℕ). sight_of (watched_at begun n)) e)
        | inr e ↦ ap sight_of (apart j e) ∙ was.same j below
      ];
      board = λ j below. elim (cases_eq j i) [
        | inl e ↦
            subst (λ (w : WatchedGroup). IsBoardOf groups (watched_at begun j).group w.board) (sym (here j e))
            (subst (λ (n : ℕ). IsBoardOf groups (watched_at begun n).group one.board) (sym e) (subst (λ (g : ℕ). IsBoardOf groups g one.board) group board))
        | inr e ↦ subst (λ (w : WatchedGroup). IsBoardOf groups (watched_at begun j).group w.board) (sym (apart j e)) (was.board j (omega (arith, below, e)))
      ];
      judged = λ j below is. elim (cases_eq j i) [
        | inl e ↦
            subst (λ (n : ℕ). IsReportOf (known_of known (watched_at begun n).group) None) (sym e)
            (subst (λ (g : ℕ). IsReportOf (known_of known g) None) group (judged (ap (λ (w : WatchedGroup). w.is_looked) (sym (here j e)) ∙ is)))
        | inr e ↦ was.judged j (omega (arith, below, e)) (ap (λ (w : WatchedGroup). w.is_looked) (sym (apart j e)) ∙ is)
      ];
    }

-- a seat that has seen nothing adds nothing to what was known
nothing_adds : Alike → (known shown : List Seen) → IsEnds no_facts shown → IsReportOf known None → IsReportWith known shown None
nothing_adds laws known shown nothing none F ends call extra is =
    none (union F no_facts) (IsEnds-same F _ known (λ p v. sym (or-false (F p v))) ends) call extra
    (laws.answers (union F (facts_in shown)) (union F no_facts) (Reported call extra)
    (λ p. laws.unions (F p) (F p) (facts_in shown p) (no_facts p) (laws.itself (F p)) (flip_alike (no_facts p) (facts_in shown p) (laws.sheet no_facts shown p nothing)))
    is)

-- a round begins where they all are
pub found_round : Alike → (known : List (List Seen)) (groups : List ℕ) (begun watched : List WatchedGroup) (seats : List Held) (i : ℕ) → length begun ≤ i → HaveSeenNothing (length groups) seats
    → FoundTo known groups begun watched i → IsRound known groups begun watched seats
found_round laws known groups begun watched seats i over nothing was = record {
  count = was.count;
  group = λ j below. ap (λ (s : Sight). s.group) (was.same j below);
  boards = λ j below. was.board j (omega (arith, below, over));
  kept = λ j call below is. ap (λ (s : Sight). s.seen) (was.same j below) ∙ is;
  shown = λ j call below is. inl (sym (ap (λ (s : Sight). s.seen) (was.same j below)) ∙ is);
  looked = λ j k below is board.
      let inside : k < length groups = (subst (λ (o : Option ℕ). IsBoardOf groups (watched_at begun j).group o) board (was.board j (omega (arith, below, over)))).0 in
      inr (nothing_adds laws (known_of known (watched_at begun j).group) (seen_sheet (seat_at seats k).view) (nothing k inside) (was.judged j (omega (arith, below, over)) is));
}

-- a look at the board of a group of which no call was seen
pub look_step : (known : List (List Seen)) (watched : List WatchedGroup) (seats after : List Held) (index k : ℕ) (old one : WatchedGroup) (sheet : List Seen) → old ≡ watched_at watched index
    → (watched_at watched index).board ≡ Some k → (watched_at watched index).call ≡ None
    → one.group ≡ old.group → one.board ≡ old.board → sheet ≡ seen_sheet (seat_at after k).view → IsReportWith (known_of known old.group) sheet one.call
    → ((j : ℕ) → j ≢ k → seat_at after j ≡ seat_at seats j) → ((p : ℕ) → p < 64 → IsWithin (place_at (seat_at seats k).view p).seen (place_at (seat_at after k).view p).seen)
    → IsStep known index watched seats (set watched index one) after
look_step known watched seats after index k old one sheet is board unseen group same shown report others grows = inl (record {
  k = k;
  board = board;
  one = one;
  changed = refl;
  looks = record {
    group = group ∙ ap (λ (w : WatchedGroup). w.group) is;
    board = same ∙ ap (λ (w : WatchedGroup). w.board) is;
    unseen = unseen;
    report = subst (λ (w : WatchedGroup). IsReportWith (known_of known w.group) (seen_sheet (seat_at after k).view) one.call) is (subst (λ (s : List Seen). IsReportWith (known_of known old.group) s one.call) shown report);
  };
  others = others;
  grows = grows;
})
