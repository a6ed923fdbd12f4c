use Rattle.std.proofs.Common.{◌≡◌, ◌∙◌, ap₂, nat_cmp}
use Rattle.std.specs.Ordering.{ordering_then}
use Rattle.casualty_book.specs.Rows.{rank}
use Rattle.casualty_book.proofs.Steps.{six, kinds_order}
use Rattle.casualty_book.proofs.packing.Packed.cmp_behind.Goals as goal

pub returns : goal.returns
returns c =
    let a = c.args.self.now in
    let b = c.args.other.now in
    let kinds : c.cmp.result ≡ nat_cmp (rank a.kind) (rank b.kind) = c.cmp.ensures ∙ kinds_order a.kind b.kind in
    let two = c.then.ensures ∙ ap₂ ordering_then kinds c.cmp-2.ensures in
    let three = c.then-2.ensures ∙ ap₂ ordering_then two c.cmp-3.ensures in
    let four = c.then-3.ensures ∙ ap₂ ordering_then three c.cmp-4.ensures in
    let five = c.then-4.ensures ∙ ap₂ ordering_then four c.cmp-5.ensures in
    c.then-5.ensures ∙ ap₂ ordering_then five c.cmp-6.ensures
    ∙ six (nat_cmp (rank a.kind) (rank b.kind)) (nat_cmp a.from b.from) (nat_cmp a.nature b.nature) (nat_cmp a.place b.place) (nat_cmp a.time b.time) (nat_cmp a.second b.second)
