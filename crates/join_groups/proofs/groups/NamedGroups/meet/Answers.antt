use Rattle.std.proofs.Common.{◌<◌, ℕ, List, length, sym, subst}
use Rattle.plain_laws.proofs.Lists.{lent_whole}
use Rattle.slot_evidence.specs.declared.places.Seen.{Seen}
use Rattle.slot_evidence.specs.Facts.{Facts}
use Rattle.receiver_pool.specs.Groups.{AreSheets}
use Rattle.join_groups.specs.Holds.{HoldsIn, named_with, facts_with, number_in}
use Rattle.join_groups.proofs.Holding.{held_some, holds_met}
use Rattle.join_groups.proofs.groups.NamedGroups.meet.Goals as goal

pub meet_sheet-requires : goal.meet_sheet-requires
meet_sheet-requires c =
    let new = c.number_of.new.self in
    let known = c.in_ok-number.ensures.ok c.requires.named c.requires.facts c.requires.holds in
    subst (λ (s : List (List Seen)). c.in_ok-number.number < length s) (sym c.deref_mut.ensures.value)
    (held_some (number_in new) new.sheets.items new.batch.items (named_with c.args.group c.requires.named) c.requires.facts c.args.group c.in_ok-number.number known.2 known.1).1

pub returns-clause-ok : goal.returns-clause-ok
returns-clause-ok c = λ named F G holds shown.
    let new = c.number_of.new.self in
    let n = c.in_ok-number.number in
    let known = c.in_ok-number.ensures.ok named F holds in
    let met : (C : ℕ → Facts) (m : ℕ) → AreSheets C new.sheets.items m → AreSheets _ c.meet_sheet.new.sheets m =
    λ C m are. c.meet_sheet.ensures C G m (subst (λ (s : List (List Seen)). AreSheets C s m) (sym c.deref_mut.ensures.value) are) shown in
    let count = (met known.1.closed (length new.sheets.items) known.1.are_sheets).count in (
      known.0,
      subst (λ (s : List (List Seen)). HoldsIn (number_in new) s new.batch.items (named_with c.args.group named) (facts_with c.args.group G F))
          (sym (lent_whole (List Seen) new.sheets.items c.meet_sheet.new.sheets new.sheets.len new.sheets.ok.0 count))
          (holds_met (number_in new) new.sheets.items new.batch.items (named_with c.args.group named) F c.args.group n known.2 known.1 G c.meet_sheet.new.sheets met),
    )
