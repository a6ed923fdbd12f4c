use Rattle.std.proofs.Common.{true, refl, sym, ◌∙◌}
use Rattle.std.proofs.lemmas.Bool.Decides.{Decides-eqb}
use Rattle.std.proofs.lemmas.Slice.Eq.{slice_eq-Decides}
use Rattle.live_watch.proofs.Sheets.{left_true, right_true, same_ends}
use Rattle.live_watch.proofs.showing.Unreported.is_of.Goals as goal

pub returns : goal.returns
returns c = λ is F ends.
    let leasts = (slice_eq-Decides Decides-eqb _ _ true (left_true _ _ (sym is ∙ c.eq.ensures))).0 refl in
    let pasts = (slice_eq-Decides Decides-eqb _ _ true (right_true _ _ (sym is ∙ c.eq.ensures))).0 refl in
    c.args.self.now.none F (same_ends c.args.sheet.now c.args.self.now.sheet F c.sheet_is_lawful.ensures c.sheet_is_lawful-2.ensures leasts pasts ends)
