use Rattle.std.proofs.Common.{List, length, arith, sym, ap, ◌∙◌, subst, All}
use Rattle.std.proofs.lemmas.Bool.{eqb-true}
use Rattle.std.proofs.lemmas.List.{nil_from_length}
use Rattle.std.proofs.lemmas.List.Elements.{All-weaker}
use Rattle.slot_evidence.specs.declared.places.Seen.{Seen}
use Rattle.receiver_pool.specs.declared.group_entries.GroupReception.{GroupReception}
use Rattle.receiver_pool.specs.Groups.{Belongs, IsShort, ShowsNews, facts_of_group}
use Rattle.live_watch.specs.Batches.{HasWatched}
use Rattle.live_watch.proofs.PublicLaws.{no_batch}
use Rattle.watch_groups.proofs.closing.close_watched.Goals as goal

pub read_watched-requires-clause-short : goal.read_watched-requires-clause-short
read_watched-requires-clause-short g c =
    let old = c.args.groups.now in
    subst (λ (b : List GroupReception). All IsShort b) (sym c.batch-2.ensures)
    (All-weaker (Belongs (length old.sheets.items)) IsShort (λ heard is. is.short) old.batch.items c.requires.ready.holds.belong)

pub end_batch-requires-clause-shown : goal.end_batch-requires-clause-shown
end_batch-requires-clause-shown g c =
    let shown = c.in_ok-shown.shown.items in
    let batch = c.args.groups.now.batch.items in
    subst (λ (s : List (List Seen)). ShowsNews s (facts_of_group batch) batch shown) c.sheets.ensures
    (subst (λ (b : List GroupReception). ShowsNews c.sheets.result.now (facts_of_group b) b shown) c.batch-2.ensures c.in_ok-shown.ensures.shown)

pub returns-clause-watched : goal.returns-clause-watched
returns-clause-watched g c =
    let after = c.in_ok-shown.watcher in
    subst (λ (b : List GroupReception). HasWatched c.args.watcher after c.args.groups.now.sheets.items b) c.batch-2.ensures
    (subst (λ (s : List (List Seen)). HasWatched c.args.watcher after s c.batch-2.result.now) c.sheets.ensures c.in_ok-shown.ensures.watched)

pub returns-then-is_empty-clause-watched : goal.returns-then-is_empty-clause-watched
returns-then-is_empty-clause-watched g c =
    no_batch c.args.groups.now.sheets.items c.args.groups.now.batch.items c.args.watcher
    (nil_from_length c.args.groups.now.batch.items (omega (arith, eqb-true _ _ (sym c.is_empty.ensures ∙ c.if-is_empty.true), ap length c.batch.ensures)))
