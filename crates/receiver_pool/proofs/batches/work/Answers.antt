use Rattle.std.proofs.Common.{ℕ, List, length, sym, ◌∙◌, subst}
use Rattle.plain_laws.proofs.Lists.{lent_whole}
use Rattle.slot_evidence.specs.declared.places.Seen.{Seen}
use Rattle.slot_evidence.specs.Facts.{union}
use Rattle.receiver_pool.specs.Groups.{AreSheets}
use Rattle.evidence_board.specs.Seats.{Held}
use Rattle.receiver_pool.specs.inside.Turns.{is_turn}
use Rattle.receiver_pool.specs.inside.Numbers.{KeepNews, place_part, read_by}
use Rattle.receiver_pool.specs.Rows.{AreSeats}
use Rattle.receiver_pool.proofs.Beyond.{all_news}
use Rattle.receiver_pool.proofs.batches.work.Goals as goal

pub post_each-requires-clause-sheets : goal.post_each-requires-clause-sheets
post_each-requires-clause-sheets g c =
    let boards = c.args.boards.now in
    let by = read_by c.args.batch.now c.args.turns.now in
    let part = by c.args.low c.args.high in
    let sheets = c.in_ok-sheets-2.sheets in
    let read = subst (λ (h : ℕ). AreSheets (by c.args.low h) sheets.items (length boards)) c.enter-entered.ensures.1
    (subst (λ (l : ℕ). AreSheets (by l c.enter-entered.result.high) sheets.items (length boards)) c.enter-entered.ensures.0 c.in_ok-sheets-2.ensures) in
    let kept = c.leave_news.ensures part (length boards) (subst (λ (s : List (List Seen)). AreSheets part s (length boards)) (sym c.deref_mut-2.ensures.value) read) in
    let whole = lent_whole (List Seen) sheets.items c.leave_news.new.sheets sheets.len sheets.ok.0 (kept.are.count ∙ sym read.count) in
    (kept.news, subst (λ (s : List (List Seen)). AreSheets kept.news s (length boards)) (sym (c.deref-3.ensures.value ∙ whole)) kept.are)

pub returns : goal.returns
returns g c =
    let boards = c.args.boards.now in
    let known = c.args.turns.now.known.items in
    let by = read_by c.args.batch.now c.args.turns.now in
    let part = by c.args.low c.args.high in
    let sheets = c.in_ok-sheets-2.sheets in
    let read = subst (λ (h : ℕ). AreSheets (by c.args.low h) sheets.items (length boards)) c.enter-entered.ensures.1
    (subst (λ (l : ℕ). AreSheets (by l c.enter-entered.result.high) sheets.items (length boards)) c.enter-entered.ensures.0 c.in_ok-sheets-2.ensures) in
    let left = c.leave_news.ensures part (length boards) (subst (λ (s : List (List Seen)). AreSheets part s (length boards)) (sym c.deref_mut-2.ensures.value) read) in
    let kept = subst (λ (s : List (List Seen)). KeepNews s part c.leave_news.new.sheets (length boards)) c.deref-2.ensures.value left in
    let whole = lent_whole (List Seen) sheets.items c.leave_news.new.sheets sheets.len sheets.ok.0 (kept.are.count ∙ sym read.count) in
    let shown = subst (λ (s : List (List Seen)). AreSheets kept.news s (length boards)) (sym (c.deref-3.ensures.value ∙ whole)) kept.are in
    record {
      news = kept.news;
      posted = λ share F are.
          let posted = c.post_each.ensures share F kept.news (subst (λ (s : List Held). AreSeats share F boards s) (sym c.deref_mut-3.ensures.value) are) shown in
          subst (λ (s : List Held). AreSeats share (λ k. union (F k) (kept.news k)) boards s)
          (sym (lent_whole Held c.args.seats.items c.post_each.new.seats c.args.seats.len c.args.seats.ok.0 (posted.count ∙ sym are.count)))
          posted;
      alike = kept.alike;
    }

pub returns-then-is_watched : goal.returns-then-is_watched
returns-then-is_watched g c =
    let boards = c.args.boards.now in
    let batch = c.args.batch.now in
    let part = read_by batch c.args.turns.now c.args.low c.args.high in
    all_news c.args.turns.now.known.items part boards c.args.seats.items _ c.ends_are_kept.ensures.itself
    (λ share F are.
    let by : ℕ → ℕ → List ℕ → Type 0 = λ low high ps. AreSeats share (λ k. union (F k) (place_part (is_turn c.args.turns.now.workers low high) batch ps (length batch) k)) boards c.post_turns.new.seats in
    let posted = subst (by c.args.low c.args.high) c.deref.ensures.value
    (subst (λ (h : ℕ). by c.args.low h c.deref.result.now) c.enter-entered.ensures.1
    (subst (λ (l : ℕ). by l c.enter-entered.result.high c.deref.result.now) c.enter-entered.ensures.0
    (c.post_turns.ensures share F (subst (λ (s : List Held). AreSeats share F boards s) (sym c.deref_mut.ensures.value) are)))) in
    subst (λ (s : List Held). AreSeats share (λ k. union (F k) (part k)) boards s)
    (sym (lent_whole Held c.args.seats.items c.post_turns.new.seats c.args.seats.len c.args.seats.ok.0 (posted.count ∙ sym are.count)))
    posted)
