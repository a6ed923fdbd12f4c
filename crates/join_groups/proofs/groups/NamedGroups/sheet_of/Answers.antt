use Rattle.std.proofs.Common.{List, [], arith, sym, subst}
use Rattle.std.proofs.lemmas.List.{get_or_read}
use Rattle.slot_evidence.specs.declared.places.Seen.{Seen}
use Rattle.slot_evidence.specs.Facts.{Facts, no_facts}
use Rattle.slot_evidence.specs.Sheet.{IsEnds}
use Rattle.join_groups.proofs.Naming.{same_facts}
use Rattle.join_groups.proofs.Rising.{found}
use Rattle.join_groups.proofs.Holding.{held_some, held_none, shown_whole}
use Rattle.join_groups.proofs.groups.NamedGroups.sheet_of.Goals as goal

pub index-requires : goal.index-requires
index-requires c =
    let old = c.args.self.now in
    let ready = c.requires.ready in
    omega (arith, (held_some (found old.numbers.entries) old.sheets.items old.batch.items ready.named ready.facts c.args.group c.in-Some.number.now (sym c.in-Some.ensures.value) ready.holds).1, old.sheets.ok.0)

pub returns-in-Some : goal.returns-in-Some
returns-in-Some c = λ named F holds.
    let old = c.args.self.now in
    let n = c.in-Some.number.now in
    let inside = (held_some (found old.numbers.entries) old.sheets.items old.batch.items named F c.args.group n (sym c.in-Some.ensures.value) holds).1 in
    shown_whole (found old.numbers.entries) old.sheets.items old.batch.items named F c.args.group n c.index.result.now c.requires.ended (sym c.in-Some.ensures.value) holds
    (subst (λ (s : List Seen). IsEnds (holds.closed n) s) (sym (get_or_read old.sheets.items n c.index.result.now inside c.index.ensures [])) (holds.are_sheets.each n inside))

pub returns-in-None : goal.returns-in-None
returns-in-None c = λ named F holds.
    let old = c.args.self.now in
    let nothing = (held_none (found old.numbers.entries) old.sheets.items old.batch.items named F c.args.group (sym c.in-None.ensures.value) holds).1 in
    subst (λ (X : Facts). IsEnds X c.empty.result) (same_facts no_facts (F c.args.group) (λ p v. sym (nothing p v))) c.empty.ensures.ends
