-- Changes of one place, one after another.
use Rattle.std.proofs.Common.{◌≡◌, ℕ, ◌+◌, ◌-◌, true, refl, arith}
use Rattle.slot_evidence.specs.declared.places.Seen.{Seen}
use Rattle.slot_evidence.specs.Seen.{symbols_in}
use Rattle.slot_evidence.specs.TwoNumbers.{least_of, past_of}
use Rattle.evidence_board.specs.Views.{Place, View, place_at}
use Rattle.evidence_board.specs.inside.Tells.{Changed}
use Rattle.evidence_board.specs.inside.Through.{Through}

pub changed_twice : (a b d : View) (p : ℕ) (c : Place) (f : Place → Place) → Changed a p c b → Changed b p (f (place_at b p)) d → Changed a p (f c) d
changed_twice a b d p c f first last = grind arith

-- one place further
pub further : (R : ℕ → Place → Place → Type 0) (before now after : View) (k : ℕ) (c : Place) → Through R before now k → Changed now k c after → R k (place_at before k) c → Through R before after (k + 1)
further R before now after k c through changed here = grind arith

pub at_first : (R : ℕ → Place → Place → Type 0) (v : View) → Through R v v 0
at_first R v = record { share = refl; size = refl; below = λ p under. absurd (omega arith); above = λ p over. refl }

-- the least and the greatest symbol that are kept of a place are among its symbols
pub least_in : (x : Seen) → (past_of x ≡ 0 → ⊥) → symbols_in x (least_of x) ≡ true
least_in x some_there = grind arith

pub greatest_in : (x : Seen) → (past_of x ≡ 0 → ⊥) → symbols_in x (past_of x - 1) ≡ true
greatest_in x some_there = grind arith
