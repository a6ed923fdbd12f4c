use Rattle.std.proofs.Common.{◌<◌, ◌&&◌, [], List, length, slice_index, refl, arith, sym, ◌∙◌, subst}
use Rattle.std.proofs.lemmas.List.{length-set, get_or_default, get_or_read}
use Rattle.slot_evidence.specs.Facts.{facts_of}
use Rattle.slot_evidence.specs.declared.places.Seen.{Seen}
use Rattle.slot_evidence.specs.Sheet.{IsEnds}
use Rattle.receiver_pool.specs.inside.Turns.{is_turn, nobody}
use Rattle.receiver_pool.specs.inside.Numbers.{place_part}
use Rattle.receiver_pool.proofs.Parts.{turned_at}
use Rattle.receiver_pool.proofs.Gathered.{next_part}
use Rattle.receiver_pool.proofs.batch_groups.read_into.Goals as goal

pub loop-index-preserved : goal.loop-index-preserved
loop-index-preserved c =
    let was = c.loop-index.invariant in
    let index = c.loop-index.index in
    let batch = c.args.batch.now in
    let heard = c.index-batch-index.result in
    let place = slice_index c.args.places.now index in
    let inside : place < length c.loop-index.sheets = omega (arith, was.count, c.requires.places.inside index (omega arith)) in
    let part = place_part (is_turn c.args.workers c.args.entered.now.low c.args.entered.now.high) batch c.args.places.now index in
    record {
      count = length-set c.loop-index.sheets place c.take_turn.new.sheet ∙ was.count;
      shown = λ n none.
          let are = was.shown n none in
          let at = get_or_default c.loop-index.sheets place c.index-sheets-places.result [] inside in
          next_part c.args.workers c.args.entered.now.low c.args.entered.now.high index c.is_mine-mine.result batch c.args.places.now heard _ n
          (get_or_read batch index heard (omega arith) c.index-batch-index.is nobody)
          c.is_mine-mine.ensures
          (turned_at place part (λ p v. c.is_mine-mine.result && facts_of heard.reception p v) c.loop-index.sheets _ c.take_turn.new.sheet n inside refl
          (c.take_turn.ensures (part place) (subst (λ (s : List Seen). IsEnds (part place) s) (sym at) (are.each place (omega (arith, are.count)))))
          are);
    }
