use Rattle.std.proofs.Common.{rules, ℕ, ◌+◌, ◌-◌, ◌/◌, ◌≤◌, List, length, arith, sym, ◌∙◌, subst}
use Rattle.std.proofs.lemmas.Result.{IfOk-at_ok}
use Rattle.plain_laws.proofs.Lists.{lent_whole}
use Rattle.slot_evidence.specs.Facts.{Facts, union}
use Rattle.evidence_board.specs.Seats.{Held}
use Rattle.receiver_pool.specs.inside.Numbers.{nth_at, read_by}
use Rattle.receiver_pool.specs.Rows.{AreSeats}
use Rattle.receiver_pool.proofs.Parts.{part_halves, fold_twice}
use Rattle.receiver_pool.specs.Groups.{known_at}
use Rattle.receiver_pool.proofs.Beyond.{beyond_both, beyond_same_left}
use Rattle.receiver_pool.proofs.SeatRows.{same_seats}
use Rattle.receiver_pool.proofs.batches.+groups.Goals as goal

pub join-first-requires-after_bounds : goal.join-first-requires-after_bounds
join-first-requires-after_bounds g t c κs lives =
    let sit = c.requires.seats in
    let boards = c.args.boards.now in
    let split = c.in_ok-others.ensures.halves sit.share sit.facts (subst (λ (s : List Held). AreSeats sit.share sit.facts boards s) (sym c.deref_mut.ensures.value) sit.are_seats) in
    let whole = lent_whole Held c.args.seats.items c.split_each.new.seats c.args.seats.len c.args.seats.ok.0 (split.0.count ∙ sym sit.are_seats.count) in
    let low : c.args.threads - c.args.threads / 2 ≤ sit.share - sit.share / 2 = omega (arith, sit.enough) in
    let high : c.args.threads / 2 ≤ sit.share / 2 = omega (arith, sit.enough) in (
      (
        search rules,
        (
          (λ a inside. inside),
          (
            (λ a inside. inside),
            (
              (
                c.requires.sync.0,
                c.requires.sync.1,
                (omega arith, omega arith),
                omega arith,
                record { share = sit.share - sit.share / 2; enough = low; facts = sit.facts; are_seats = subst (λ (s : List Held). AreSeats (sit.share - sit.share / 2) sit.facts boards s) (sym whole) split.0 },
                c.requires.turns,
              ),
              (c.requires.sync.0, c.requires.sync.1),
            ),
          ),
        ),
      ),
      (
        search rules,
        (
          (λ a inside. inside),
          (
            (λ a inside. inside),
            (
              (
                c.requires.sync.0,
                c.requires.sync.1,
                (omega arith, omega arith),
                omega arith,
                record { share = sit.share / 2; enough = high; facts = sit.facts; are_seats = split.1 },
                c.requires.turns,
              ),
              (c.requires.sync.0, c.requires.sync.1),
            ),
          ),
        ),
      ),
    )

pub join_each-requires-clause-seats : goal.join_each-requires-clause-seats
join_each-requires-clause-seats g t c =
    let sit = c.requires.seats in
    let boards = c.args.boards.now in
    let split = c.in_ok-others.ensures.halves sit.share sit.facts (subst (λ (s : List Held). AreSeats sit.share sit.facts boards s) (sym c.deref_mut.ensures.value) sit.are_seats) in
    let whole = lent_whole Held c.args.seats.items c.split_each.new.seats c.args.seats.len c.args.seats.ok.0 (split.0.count ∙ sym sit.are_seats.count) in
    let half = sit.share - sit.share / 2 in
    let one = IfOk-at_ok _ c.in_ok-joined.was c.join-first.ensures.first in
    let A : ℕ → Facts = λ k. union (sit.facts k) (one.news k) in
    let first = one.posted half sit.facts (subst (λ (s : List Held). AreSeats half sit.facts boards s) (sym whole) split.0) in
    record { share = half; enough = omega (arith, sit.enough); facts = A; are_seats = subst (λ (s : List Held). AreSeats half A boards s) (sym c.deref_mut-2.ensures.value) first }

pub join_each-requires-clause-others : goal.join_each-requires-clause-others
join_each-requires-clause-others g t c =
    let sit = c.requires.seats in
    let boards = c.args.boards.now in
    let split = c.in_ok-others.ensures.halves sit.share sit.facts (subst (λ (s : List Held). AreSeats sit.share sit.facts boards s) (sym c.deref_mut.ensures.value) sit.are_seats) in
    let second = (IfOk-at_ok _ c.in_ok-second.was c.join-first.ensures.second).posted (sit.share / 2) sit.facts split.1 in
    record { share = sit.share / 2; enough = omega (arith, sit.enough); facts = _; are_seats = second }

pub returns : goal.returns
returns g t c =
    let boards = c.args.boards.now in
    let batch = c.args.batch.now in
    let turns = c.args.turns.now in
    let known = turns.known.items in
    let middle = c.parted-middle.result in
    let one = IfOk-at_ok _ c.in_ok-joined.was c.join-first.ensures.first in
    let other = IfOk-at_ok _ c.in_ok-second.was c.join-first.ensures.second in
    record {
      news = λ k. union (one.news k) (other.news k);
      posted = λ share F are.
          let half = share - share / 2 in
          let split = c.in_ok-others.ensures.halves share F (subst (λ (s : List Held). AreSeats share F boards s) (sym c.deref_mut.ensures.value) are) in
          let whole = lent_whole Held c.args.seats.items c.split_each.new.seats c.args.seats.len c.args.seats.ok.0 (split.0.count ∙ sym are.count) in
          let A : ℕ → Facts = λ k. union (F k) (one.news k) in
          let B : ℕ → Facts = λ k. union (F k) (other.news k) in
          let first = one.posted half F (subst (λ (s : List Held). AreSeats half F boards s) (sym whole) split.0) in
          let second = other.posted (share / 2) F split.1 in
          let both = c.join_each.ensures.seats half (share / 2) A B (subst (λ (s : List Held). AreSeats half A boards s) (sym c.deref_mut-2.ensures.value) first) second in
          let all = same_seats (half + share / 2) share (λ k. union (A k) (B k)) (λ k. union (F k) (union (one.news k) (other.news k))) boards c.join_each.new.seats (omega arith)
          (λ k p v. fold_twice (F k p v) (one.news k p v) (other.news k p v))
          both in
          subst (λ (s : List Held). AreSeats share (λ k. union (F k) (union (one.news k) (other.news k))) boards s)
          (sym (lent_whole Held c.in_ok-joined.joined.items c.join_each.new.seats c.in_ok-joined.joined.len c.in_ok-joined.joined.ok.0 (all.count ∙ sym first.count)))
          all;
      alike = λ k below.
          let R = read_by batch turns in
          beyond_same_left (known_at known k) (union (R c.args.low middle k) (R middle c.args.high k)) (union (one.news k) (other.news k)) (R c.args.low c.args.high k)
          (λ p v. sym (part_halves turns.workers c.args.low middle c.args.high (nth_at batch turns.places.items k) (length batch) p v (omega arith) (omega arith)))
          (beyond_both (known_at known k) (R c.args.low middle k) (one.news k) (R middle c.args.high k) (other.news k) c.ends_are_kept.ensures.unions (one.alike k below) (other.alike k below));
    }
