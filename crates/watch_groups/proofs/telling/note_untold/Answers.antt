use Rattle.std.proofs.Common.{sym}
use Rattle.std.proofs.lemmas.Result.{on_ok_weaker}
use Rattle.watch_groups.proofs.Kept.{notes_told, notes_more}
use Rattle.watch_groups.proofs.telling.note_untold.Goals as goal

pub returns-then-has : goal.returns-then-has
returns-then-has c = notes_told c.args.told.now c.args.named.now.items c.args.group (sym c.if-has.ensures)

pub returns : goal.returns
returns c = on_ok_weaker c.note.result (notes_more c.args.told.now c.args.named.now.items c.note.new.named.items c.args.group) c.note.ensures
