use Rattle.std.proofs.Common.{List, length, sym, subst, All}
use Rattle.std.proofs.lemmas.List.Elements.{All-weaker}
use Rattle.slot_evidence.specs.declared.places.Seen.{Seen}
use Rattle.receiver_pool.specs.declared.group_entries.GroupReception.{GroupReception}
use Rattle.receiver_pool.specs.Groups.{Belongs, IsShort, ShowsNews, facts_of_group}
use Rattle.join_groups.proofs.groups.NamedGroups.close_batch.Goals as goal

pub read_batch-requires-clause-short : goal.read_batch-requires-clause-short
read_batch-requires-clause-short g c =
    let old = c.args.self.now in
    subst (λ (b : List GroupReception). All IsShort b) (sym c.deref-then-not-is_empty.ensures.value)
    (All-weaker (Belongs (length old.sheets.items)) IsShort (λ heard is. is.short) old.batch.items c.requires.ready.holds.belong)

pub end_batch-requires-clause-shown : goal.end_batch-requires-clause-shown
end_batch-requires-clause-shown g c =
    let shown = c.in_ok-shown.shown.items in
    subst (λ (s : List (List Seen)). ShowsNews s (facts_of_group c.args.self.now.batch.items) c.args.self.now.batch.items shown) c.deref.ensures.value
    (subst (λ (b : List GroupReception). ShowsNews c.deref.result.now (facts_of_group b) b shown) c.deref-then-not-is_empty.ensures.value c.in_ok-shown.ensures)
