use Rattle.std.proofs.Common.{◌≡◌, ℕ, ◌<◌, ◌≤◌, true, false}
use Rattle.slot_evidence.specs.declared.places.Seen.TheVariants as seen
use Rattle.slot_evidence.specs.Sheet.{seen_at}
use Rattle.slot_join.proofs.extras.is_blank_from.Given as goal

-- all places so far are blank, or one isn't
abbrev pub invariant-loop-p : goal.invariant-loop-p
invariant-loop-p l =
    (l.is_blank ≡ true → (p : ℕ) → l.from ≤ p → p < l.p → seen_at l.sheet p ≡ seen.None)
    × (l.is_blank ≡ false → (p : ℕ) × ((l.from ≤ p) × (p < 64) × (seen_at l.sheet p ≡ seen.None → ⊥)))
