use Rattle.std.proofs.Common.{◌≡◌, ℕ, All, length, map, take}
use Rattle.slot_evidence.specs.Facts.{Facts}
use Rattle.receiver_pool.specs.Groups.{AreSheets, AreShown, IsOneOf}
use Rattle.receiver_pool.specs.inside.Numbers.{IsBelow, gathered}
use Rattle.receiver_pool.proofs.batch_groups.entries_of.Given as goal

abbrev pub invariant-loop-k : goal.invariant-loop-k
invariant-loop-k l = record {
  facts : (F : ℕ → Facts) → AreSheets F l.sheets (length l.groups) → AreShown (gathered l.groups F l.k) l.entries.items;
  groups : (n : ℕ) → All (IsBelow n) l.groups → All (IsOneOf n) l.entries.items;
  named : map (λ entry. entry.group) l.entries.items ≡ take l.k l.groups;
}
