-- What a function must do that reads batches beside a watcher.
use Rattle.std.specs.Prelude.{List, All, IfOk, Result}
use Rattle.std.specs.Borrow.{Bor}
use Rattle.std.specs.declared.vec.Vec.{Vec}
use Rattle.slot_evidence.specs.declared.places.Seen.{Seen}
use Rattle.receiver_pool.specs.declared.group_entries.GroupReception.{GroupReception}
use Rattle.receiver_pool.specs.declared.group_entries.GroupSheet.{GroupSheet}
use Rattle.receiver_pool.specs.Groups.{facts_of_group, IsShort, ShowsNews}
use Rattle.live_watch.specs.Batches.{Sight, HasWatched}

-- it may be called with what is known, a batch of receptions that aren't too long, and a watcher; and then gives what
-- the batch shows of each group beside what is known, and the watcher, who watched it
pub record JoinsWatched {Z E : Type 0} (may : Bor (List (List Seen)) → Bor (List GroupReception) → List Sight → Type 0)
    (gives : Bor (List (List Seen)) → Bor (List GroupReception) → List Sight → Result (Vec GroupSheet Z × List Sight) E → Type 0) : Type 0 where
  pub accepts : (known : Bor (List (List Seen))) (batch : Bor (List GroupReception)) (watcher : List Sight) → All IsShort batch.now → may known batch watcher
  pub answers : (known : Bor (List (List Seen))) (batch : Bor (List GroupReception)) (watcher : List Sight) (answer : Result (Vec GroupSheet Z × List Sight) E)
      → gives known batch watcher answer → IfOk answer (λ v. ShowsNews known.now (facts_of_group batch.now) batch.now v.0.items × HasWatched watcher v.1 known.now batch.now)
