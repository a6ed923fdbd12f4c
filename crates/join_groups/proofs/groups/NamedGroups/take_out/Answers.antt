use Rattle.std.proofs.Common.{◌<◌, ℕ, List, length, not, ◌&&◌, ◌==◌, sym, subst}
use Rattle.plain_laws.proofs.Lists.{lent_whole}
use Rattle.slot_evidence.specs.declared.places.Seen.{Seen}
use Rattle.slot_evidence.specs.Facts.{Facts, no_facts}
use Rattle.slot_evidence.specs.Sheet.{IsEnds}
use Rattle.receiver_pool.specs.Groups.{AreSheets}
use Rattle.join_groups.specs.Holds.{HoldsIn, facts_without}
use Rattle.join_groups.proofs.Naming.{same_facts}
use Rattle.join_groups.proofs.Rising.{found}
use Rattle.join_groups.proofs.Holding.{held_some, held_none, shown_whole, holds_anew, holds_unknown}
use Rattle.join_groups.proofs.groups.NamedGroups.take_out.Goals as goal

pub take_sheet-requires : goal.take_sheet-requires
take_sheet-requires c =
    let old = c.args.self.now in
    let ready = c.requires.ready in
    subst (λ (s : List (List Seen)). c.in-Some.number.now < length s) (sym c.deref_mut.ensures.value)
    (held_some (found old.numbers.entries) old.sheets.items old.batch.items ready.named ready.facts c.args.group c.in-Some.number.now (sym c.in-Some.ensures.value) ready.holds).1

pub returns-in-Some-clause-sheet : goal.returns-in-Some-clause-sheet
returns-in-Some-clause-sheet c = λ named F holds.
    let old = c.args.self.now in
    shown_whole (found old.numbers.entries) old.sheets.items old.batch.items named F c.args.group c.in-Some.number.now c.take_sheet.result c.requires.ended (sym c.in-Some.ensures.value) holds
    (c.take_sheet.ensures.taken holds.closed (length old.sheets.items)
    (subst (λ (s : List (List Seen)). AreSheets holds.closed s (length old.sheets.items)) (sym c.deref_mut.ensures.value) holds.are_sheets))

pub returns-in-Some-clause-anew : goal.returns-in-Some-clause-anew
returns-in-Some-clause-anew c = λ named F holds.
    let old = c.args.self.now in
    let n = c.in-Some.number.now in
    let left : (C : ℕ → Facts) (m : ℕ) → AreSheets C old.sheets.items m → AreSheets (λ k p v. not (n == k) && C k p v) c.take_sheet.new.sheets m =
    λ C m are. c.take_sheet.ensures.left C m (subst (λ (s : List (List Seen)). AreSheets C s m) (sym c.deref_mut.ensures.value) are) in
    let count = (left holds.closed (length old.sheets.items) holds.are_sheets).count in
    subst (λ (s : List (List Seen)). HoldsIn (found old.numbers.entries) s old.batch.items named (facts_without c.args.group F))
    (sym (lent_whole (List Seen) old.sheets.items c.take_sheet.new.sheets old.sheets.len old.sheets.ok.0 count))
    (holds_anew (found old.numbers.entries) old.sheets.items c.take_sheet.new.sheets old.batch.items named F c.args.group n c.requires.ended (sym c.in-Some.ensures.value) left holds)

pub returns-in-None-clause-sheet : goal.returns-in-None-clause-sheet
returns-in-None-clause-sheet c = λ named F holds.
    let old = c.args.self.now in
    let nothing = (held_none (found old.numbers.entries) old.sheets.items old.batch.items named F c.args.group (sym c.in-None.ensures.value) holds).1 in
    subst (λ (X : Facts). IsEnds X c.empty.result) (same_facts no_facts (F c.args.group) (λ p v. sym (nothing p v))) c.empty.ensures.ends

pub returns-in-None-clause-anew : goal.returns-in-None-clause-anew
returns-in-None-clause-anew c = λ named F holds.
    let old = c.args.self.now in
    holds_unknown (found old.numbers.entries) old.sheets.items old.batch.items named F c.args.group (sym c.in-None.ensures.value) holds
