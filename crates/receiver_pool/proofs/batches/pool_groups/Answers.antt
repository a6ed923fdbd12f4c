use Rattle.std.proofs.Common.{◌≡◌, ℕ, List, length, arith, ap, sym, ◌∙◌, subst}
use Rattle.std.proofs.lemmas.Result.{IfOk-weaker}
use Rattle.slot_evidence.specs.declared.places.Seen.{Seen}
use Rattle.slot_evidence.specs.Facts.{Facts}
use Rattle.receiver_pool.specs.Groups.{AreSheets, facts_of_group, known_at}
use Rattle.receiver_pool.specs.inside.Turns.{is_turn}
use Rattle.receiver_pool.specs.inside.Numbers.{AreKnown, AreNumbered, KeepNews, gathered, place_part}
use Rattle.receiver_pool.proofs.Parts.{groups_all}
use Rattle.receiver_pool.proofs.Gathered.{all_named, gathered_part}
use Rattle.receiver_pool.proofs.Beyond.{beyond_same_left, gathered_news}
use Rattle.receiver_pool.proofs.batches.pool_groups.Goals as goal

pub returns : goal.returns
returns g c =
    let batch = c.args.batch.now in
    let places = c.in_ok-groups.places.items in
    let groups = c.deref-2.result.now in
    let known = c.args.known.now in
    let before = c.in_ok-known_of.field-0.items in
    let law = c.ends_are_kept.ensures in
    let part = place_part (is_turn c.args.workers 0 c.args.workers) batch places (length batch) in
    let numbered = subst (λ (gs : List ℕ). AreNumbered batch (length batch) gs places) (sym c.deref-2.ensures.value) c.in_ok-groups.ensures in
    let count : c.len.result ≡ length groups = omega (arith, c.len.ensures, c.in_ok-groups.groups.ok.0, ap (λ (gs : List ℕ). length gs) c.deref-2.ensures.value) in
    let kept : KeepNews before part c.in_ok-sheets.sheets.items c.len.result = c.in_ok-sheets.ensures in
    let sheets = subst (λ (n : ℕ). AreSheets kept.news c.deref-3.result.now n) count
    (subst (λ (s : List (List Seen)). AreSheets kept.news s c.len.result) (sym c.deref-3.ensures.value) kept.are) in
    let are_known = subst (λ (gs : List ℕ). AreKnown known gs before) (c.deref.ensures.value ∙ sym c.deref-2.ensures.value) c.in_ok-known_of.ensures in
    let news : ℕ → Facts = gathered groups kept.news (length groups) in
    IfOk-weaker c.entries_of.result _ _
    (λ v are. record {
      news = news;
      shows = record {
        facts = are.0 kept.news sheets;
        groups = λ n all. are.1 n (numbered.bounded n all);
        named = are.2 ∙ all_named batch groups places numbered;
      };
      alike = λ k.
          beyond_same_left (known_at known k) (gathered groups part (length groups) k) (news k) (facts_of_group batch k)
          (λ p v. gathered_part (is_turn c.args.workers 0 c.args.workers) batch groups places (length batch) (length batch) k p v (omega arith) numbered ∙ groups_all c.args.workers batch k p v (omega (arith, c.requires.workers)))
          (gathered_news known groups before part kept.news k (length groups) law.itself law.unions are_known (omega arith) (λ j below. kept.alike j (omega (arith, count))));
    })
    c.entries_of.ensures
