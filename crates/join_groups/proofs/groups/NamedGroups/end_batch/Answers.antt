use Rattle.std.proofs.Common.{ℕ, List, [], ◌++◌, length, take, drop, sym, subst, All}
use Rattle.plain_laws.proofs.Lists.{lent_whole}
use Rattle.slot_evidence.specs.declared.places.Seen.{Seen}
use Rattle.slot_evidence.specs.Facts.{Facts, union}
use Rattle.receiver_pool.specs.declared.group_entries.GroupReception.{GroupReception}
use Rattle.receiver_pool.specs.declared.group_entries.GroupSheet.{GroupSheet}
use Rattle.receiver_pool.specs.Groups.{AreSheets, IsOneOf, ShowsNews, facts_of_group}
use Rattle.join_groups.specs.Holds.{HoldsIn, number_in}
use Rattle.join_groups.proofs.Holding.{holds_closed}
use Rattle.join_groups.proofs.groups.NamedGroups.end_batch.Goals as goal

pub meet_entries-requires : goal.meet_entries-requires
meet_entries-requires c =
    let sheets = c.args.self.now.sheets.items in
    subst (λ (s : List (List Seen)). All (IsOneOf (length s)) c.deref.result.now) (sym c.deref_mut.ensures.value)
    (subst (λ (s : List GroupSheet). All (IsOneOf (length sheets)) s) (sym c.deref.ensures.value) (c.requires.shown.shows.groups (length sheets) c.requires.ready.holds.belong))

pub returns-clause-holds : goal.returns-clause-holds
returns-clause-holds c = λ named F holds.
    let old = c.args.self.now in
    let joined : (C : ℕ → Facts) (m : ℕ) → AreSheets C old.sheets.items m → AreSheets (λ k. union (C k) (facts_of_group old.batch.items k)) c.meet_entries.new.sheets m =
    λ C m are.
    c.meet_entries.ensures C (facts_of_group old.batch.items) old.batch.items m (subst (λ (s : List (List Seen)). AreSheets C s m) (sym c.deref_mut.ensures.value) are)
    (subst (λ (s : List (List Seen)). ShowsNews s (facts_of_group old.batch.items) old.batch.items c.deref.result.now) (sym c.deref_mut.ensures.value)
    (subst (λ (s : List GroupSheet). ShowsNews old.sheets.items (facts_of_group old.batch.items) old.batch.items s) (sym c.deref.ensures.value) c.requires.shown)) in
    let count = (joined holds.closed (length old.sheets.items) holds.are_sheets).count in
    subst (λ (b : List GroupReception). HoldsIn (number_in old) (take old.sheets.len (c.meet_entries.new.sheets ++ drop (length c.meet_entries.new.sheets) old.sheets.items)) b named F) (sym c.clear.ensures.items)
    (subst (λ (s : List (List Seen)). HoldsIn (number_in old) s [] named F)
    (sym (lent_whole (List Seen) old.sheets.items c.meet_entries.new.sheets old.sheets.len old.sheets.ok.0 count))
    (holds_closed (number_in old) old.sheets.items c.meet_entries.new.sheets old.batch.items named F joined holds))
