use Rattle.std.proofs.Common.{◌≡◌, ℕ, List, [], length, slice_index_or, arith, ap, sym, ◌∙◌, subst}
use Rattle.slot_evidence.specs.declared.places.Seen.{Seen}
use Rattle.receiver_pool.specs.Groups.{AreSheets}
use Rattle.receiver_pool.specs.inside.Turns.{is_turn}
use Rattle.receiver_pool.specs.inside.Numbers.{AreNumbered, place_part}
use Rattle.receiver_pool.proofs.Gathered.{all_named, has_gone, place_ends, gathered_shown}
use Rattle.receiver_pool.proofs.beside.pool_groups_beside.Goals as goal

pub returns-clause-shown : goal.returns-clause-shown
returns-clause-shown g c =
    let batch = c.args.batch.now in
    let places = c.in_ok-groups.places.items in
    let groups = c.deref-3.result.now in
    let part = place_part (is_turn c.args.workers 0 c.args.workers) batch places (length batch) in
    let numbered = subst (λ (gs : List ℕ). AreNumbered batch (length batch) gs places) (sym c.deref-3.ensures.value) c.in_ok-groups.ensures in
    let count : length c.deref-2.result.now ≡ length groups = ap (λ (gs : List ℕ). length gs) c.deref-2.ensures.value ∙ sym (ap (λ (gs : List ℕ). length gs) c.deref-3.ensures.value) in
    let sheets = subst (λ (n : ℕ). AreSheets part c.deref-4.result.now n) count
    (subst (λ (s : List (List Seen)). AreSheets part s (length c.deref-2.result.now)) (sym c.deref-4.ensures.value) c.in_ok-sheets.ensures.sheets) in
    gathered_shown c.args.workers batch groups places c.in_ok-entries.entries.items (omega (arith, c.requires.workers)) numbered (c.in_ok-entries.ensures.0 part sheets) c.in_ok-entries.ensures.1 c.in_ok-entries.ensures.2

pub returns-clause-seen : goal.returns-clause-seen
returns-clause-seen g c =
    let batch = c.args.batch.now in
    let places = c.in_ok-groups.places.items in
    let groups = c.deref-2.result.now in
    let part = place_part (is_turn c.args.workers 0 c.args.workers) batch places (length batch) in
    let numbered = subst (λ (gs : List ℕ). AreNumbered batch (length batch) gs places) (sym c.deref-2.ensures.value) c.in_ok-groups.ensures in
    let named = all_named batch groups places numbered in
    let sheets = c.in_ok-sheets.sheets.items in
    let are = c.in_ok-sheets.ensures.sheets in
    let gone = c.in_ok-sheets.ensures.seen in
    has_gone batch groups (g.B.Beside.has_seen c.args.beside c.in_ok-sheets.beside c.args.known.now) named gone.0 gone.1
    (λ k below. record {
      sheet = slice_index_or sheets k [];
      ends = place_ends c.args.workers batch groups places k (slice_index_or sheets k []) (omega (arith, c.requires.workers)) below numbered (are.each k below);
      within = gone.3 k below;
    })
    gone.2
