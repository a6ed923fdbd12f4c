use Rattle.std.proofs.Common.{[], List, length, slice_index_or, arith, ap, sym, refl, ◌∙◌, subst}
use Rattle.std.proofs.lemmas.List.{get_or_default, get_or_read}
use Rattle.slot_evidence.specs.declared.places.Seen.{Seen}
use Rattle.slot_evidence.specs.Facts.{Facts, no_facts}
use Rattle.slot_evidence.specs.Sheet.{IsEnds}
use Rattle.receiver_pool.specs.Groups.{AreAlikeBeyond, known_at}
use Rattle.receiver_pool.specs.inside.Numbers.{KeepNews}
use Rattle.receiver_pool.proofs.Beyond.{beyond_itself, news_left}
use Rattle.receiver_pool.proofs.news.leave_news.Goals.{then-k-known+then-adds_nothing, else-k-known}
use Rattle.receiver_pool.proofs.news.leave_news.Goals as goal

pub loop-k-init : goal.loop-k-init
loop-k-init c = record {
  count = refl;
  left = λ F n are. record { news = F; are = are; alike = λ k below. beyond_itself (known_at c.args.known.now k) (F k) c.ends_are_kept.ensures.itself };
}

pub loop-k-preserved : goal.loop-k-preserved
loop-k-preserved c =
    let was = c.loop-k.invariant in
    let k = c.loop-k.k in
    let known = c.args.known.now in
    elim c.if-k-known.branch [
      | then-k-known+then-adds_nothing w ↦ record {
        count = ap (λ (s : List (List Seen)). length s) w.sheets-is ∙ w.take_sheet.auto.sheets ∙ was.count;
        left = λ F n are.
            let of = get_or_read known k w.index-known-k.result (omega arith) w.index-known-k.is [] in
            let here = get_or_default c.loop-k.sheets k w.index-sheets-k.result [] (omega (arith, was.count)) in
            let adds : (G : Facts) → IsEnds G (slice_index_or c.loop-k.sheets k []) → AreAlikeBeyond (known_at known k) G no_facts =
            λ G ends.
            subst (λ (s : List Seen). AreAlikeBeyond s G no_facts) of
            (w.adds_nothing.ensures w.if-adds_nothing.true G (subst (λ (s : List Seen). IsEnds G s) (sym here) ends)) in
            subst (λ (s : List (List Seen)). KeepNews known F s n) (sym w.sheets-is)
            (news_left known F c.loop-k.sheets w.take_sheet.new.sheets n k (omega (arith, are.count)) adds w.take_sheet.ensures.left (was.left F n are));
      }
      | else-k-known w ↦ record {
        count = ap (λ (s : List (List Seen)). length s) w.sheets-is ∙ was.count;
        left = λ F n are. subst (λ (s : List (List Seen)). KeepNews known F s n) (sym w.sheets-is) (was.left F n are);
      }
    ]

pub returns : goal.returns
returns c = λ F n are. c.loop-k.invariant.left F n are
