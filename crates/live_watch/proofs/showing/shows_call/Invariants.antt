use Rattle.std.proofs.Common.{◌<◌, ◌≤◌, ℕ}
use Rattle.slot_evidence.specs.Sheet.{facts_in}
use Rattle.live_watch.specs.Told.{IsShownAt}
use Rattle.live_watch.proofs.showing.shows_call.Given as goal

abbrev pub invariant-loop-place : goal.invariant-loop-place
invariant-loop-place l = (p : ℕ) → 2 ≤ p → p < l.place → IsShownAt (facts_in l.sheet) l.call p
