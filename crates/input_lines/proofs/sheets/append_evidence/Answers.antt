use Rattle.std.proofs.Common.{◌++◌, codes, decimal, arith}
use Rattle.input_lines.proofs.SheetTexts.{text_begun, text_more}
use Rattle.input_lines.proofs.sheets.append_evidence.Goals as goal

pub loop-place-init : goal.loop-place-init
loop-place-init g c = record {
  items = text_begun _ _ _ _ _ _ c.append.ensures.items c.from.ensures c.append_number.ensures.items;
  len = omega (arith, c.append.ensures.len, c.append_number.ensures.len);
}

pub loop-place-preserved : goal.loop-place-preserved
loop-place-preserved g c = record {
  items = text_more _ (codes "e g" ++ decimal c.args.group) _ _ _ _ _ c.loop-place.invariant.items c.at.ensures.seen c.append_seen.ensures.items;
  len = omega (arith, c.append_seen.ensures.len, c.loop-place.invariant.len);
}
