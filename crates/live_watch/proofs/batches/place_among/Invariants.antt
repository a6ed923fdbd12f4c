use Rattle.std.proofs.Common.{◌≡◌, ℕ, ◌<◌}
use Rattle.live_watch.specs.inside.Rounds.{watched_at}
use Rattle.live_watch.proofs.batches.place_among.Given as goal

abbrev pub invariant-loop-place : goal.invariant-loop-place
invariant-loop-place l = (i : ℕ) → i < l.place → (watched_at l.watched i).group ≡ l.group → ⊥
