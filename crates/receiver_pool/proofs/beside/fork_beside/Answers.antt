use Rattle.std.proofs.Common.{ℕ, ◌+◌, List, arith, sym, ◌∙◌, subst}
use Rattle.std.proofs.lemmas.Result.{IfOk-at_ok}
use Rattle.plain_laws.proofs.Lists.{lent_whole}
use Rattle.slot_evidence.specs.Facts.{Facts, union}
use Rattle.evidence_board.specs.Seats.{Held}
use Rattle.slot_evidence.specs.declared.places.Seen.{Seen}
use Rattle.receiver_pool.specs.inside.Numbers.{NewsPosted, read_by}
use Rattle.receiver_pool.proofs.Beyond.{no_news}
use Rattle.evidence_board.specs.Rule.{IsWithin}
use Rattle.evidence_board.specs.Views.{place_at}
use Rattle.receiver_pool.specs.Rows.{AreSeats, seat_at}
use Rattle.receiver_pool.proofs.beside.fork_beside.Goals as goal

pub join_each-requires-clause-seats : goal.join_each-requires-clause-seats
join_each-requires-clause-seats g c =
    let sit = c.requires.seats in
    let boards = c.args.boards.now in
    let part = read_by c.args.batch.now c.args.turns.now 0 c.args.turns.now.workers in
    let law = c.ends_are_kept.ensures in
    let posted = no_news law.kept law.itself law.unions part boards c.args.seats.items c.in_ok-joined.joined.items
    (subst (λ (s : List (List Seen)). NewsPosted s part boards c.args.seats.items c.in_ok-joined.joined.items) c.requires.all (IfOk-at_ok _ c.in_ok-joined.was c.join-first.ensures.second)) in
    let A : ℕ → Facts = λ k. union (sit.facts k) (part k) in
    let first = posted sit.share sit.facts sit.are_seats in
    record { share = sit.share; enough = omega (arith, sit.enough); facts = A; are_seats = subst (λ (s : List Held). AreSeats sit.share A boards s) (sym c.deref_mut.ensures.value) first }

pub join_each-requires-clause-others : goal.join_each-requires-clause-others
join_each-requires-clause-others g c =
    let sit = c.requires.others in
    record { share = sit.share; enough = sit.enough; facts = sit.facts; are_seats = c.join-first.ensures.first.0 sit.share sit.facts sit.are_seats }

pub returns-clause-seats : goal.returns-clause-seats
returns-clause-seats g c =
    λ share other F H are aside.
    let boards = c.args.boards.now in
    let part = read_by c.args.batch.now c.args.turns.now 0 c.args.turns.now.workers in
    let law = c.ends_are_kept.ensures in
    let posted = no_news law.kept law.itself law.unions part boards c.args.seats.items c.in_ok-joined.joined.items
    (subst (λ (s : List (List Seen)). NewsPosted s part boards c.args.seats.items c.in_ok-joined.joined.items) c.requires.all (IfOk-at_ok _ c.in_ok-joined.was c.join-first.ensures.second)) in
    let A : ℕ → Facts = λ k. union (F k) (part k) in
    let first = posted share F are in
    let both = c.join_each.ensures.seats share other A H (subst (λ (s : List Held). AreSeats share A boards s) (sym c.deref_mut.ensures.value) first) (c.join-first.ensures.first.0 other H aside) in
    subst (λ (s : List Held). AreSeats (share + other) (λ k. union (A k) (H k)) boards s)
    (sym (lent_whole Held c.in_ok-joined.joined.items c.join_each.new.seats c.in_ok-joined.joined.len c.in_ok-joined.joined.ok.0 (both.count ∙ sym first.count)))
    both

pub returns-clause-seen : goal.returns-clause-seen
returns-clause-seen g c =
    let boards = c.args.boards.now in
    let part = read_by c.args.batch.now c.args.turns.now 0 c.args.turns.now.workers in
    let law = c.ends_are_kept.ensures in
    let posted = no_news law.kept law.itself law.unions part boards c.args.seats.items c.in_ok-joined.joined.items
    (subst (λ (s : List (List Seen)). NewsPosted s part boards c.args.seats.items c.in_ok-joined.joined.items) c.requires.all (IfOk-at_ok _ c.in_ok-joined.was c.join-first.ensures.second)) in
    let sit = c.requires.seats in
    let more = c.requires.others in
    let A : ℕ → Facts = λ k. union (sit.facts k) (part k) in
    let first = posted sit.share sit.facts sit.are_seats in
    let aside = c.join-first.ensures.first.0 more.share more.facts more.are_seats in
    let both = c.join_each.ensures.seats sit.share more.share A more.facts (subst (λ (s : List Held). AreSeats sit.share A boards s) (sym c.deref_mut.ensures.value) first) aside in (
      c.join-first.result.0.1.items,
      aside.count,
      c.join-first.ensures.first.1,
      λ k below p small.
          subst (λ (s : List Held). IsWithin (place_at (seat_at c.join-first.result.0.1.items k).view p).seen (place_at (seat_at s k).view p).seen)
          (sym (lent_whole Held c.in_ok-joined.joined.items c.join_each.new.seats c.in_ok-joined.joined.len c.in_ok-joined.joined.ok.0 (both.count ∙ sym first.count)))
          (c.join_each.ensures.seen k below p small),
    )
