use Rattle.std.proofs.Common.{◌∙◌, ap}
use Rattle.casualty_book.specs.declared.packing.Packed.{Packed}
use Rattle.casualty_book.specs.Texts.{row_text}
use Rattle.casualty_book.specs.inside.Packing.{unpack}
use Rattle.casualty_book.proofs.Keys.{again}
use Rattle.casualty_book.proofs.texts.put_row.Goals as goal

pub returns : goal.returns
returns c = c.put_key.ensures ∙ ap (λ (k : Packed). row_text (unpack k)) c.pack.ensures ∙ ap row_text (again c.args.r.now c.requires)
