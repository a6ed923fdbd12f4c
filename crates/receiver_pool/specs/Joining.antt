-- What a function must do that reads batches.
use Rattle.std.specs.Prelude.{List, All, IfOk, Result}
use Rattle.std.specs.Borrow.{Bor}
use Rattle.std.specs.declared.vec.Vec.{Vec}
use Rattle.slot_evidence.specs.declared.places.Seen.{Seen}
use Rattle.receiver_pool.specs.declared.group_entries.GroupReception.{GroupReception}
use Rattle.receiver_pool.specs.declared.group_entries.GroupSheet.{GroupSheet}
use Rattle.receiver_pool.specs.Groups.{facts_of_group, IsShort, ShowsNews}

-- it may be called with what is known, and a batch of receptions that aren't too long, and then gives what the batch
-- shows of each group beside what is known of it
pub record JoinsBatches {Z E : Type 0} (may : Bor (List (List Seen)) → Bor (List GroupReception) → Type 0)
    (gives : Bor (List (List Seen)) → Bor (List GroupReception) → Result (Vec GroupSheet Z) E → Type 0) : Type 0 where
  pub accepts : (known : Bor (List (List Seen))) (batch : Bor (List GroupReception)) → All IsShort batch.now → may known batch
  pub answers : (known : Bor (List (List Seen))) (batch : Bor (List GroupReception)) (answer : Result (Vec GroupSheet Z) E)
      → gives known batch answer → IfOk answer (λ v. ShowsNews known.now (facts_of_group batch.now) batch.now v.items)
