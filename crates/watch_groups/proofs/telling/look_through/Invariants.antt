use Rattle.std.proofs.Common.{◌≡◌, ℕ, true, List, drop}
use Rattle.input_lines.specs.ReceiverLine.{ReceiverLine}
use Rattle.join_groups.specs.Groups.{is_among, is_named}
use Rattle.join_groups.specs.inside.Kept.{Keeps}
use Rattle.watch_groups.specs.inside.Kept.{LooksThrough}
use Rattle.watch_groups.proofs.telling.look_through.Given as goal

abbrev pub invariant-loop-here : goal.invariant-loop-here
invariant-loop-here l =
    (said : List ReceiverLine) → Keeps l.groups said → ((k : ℕ) → is_among l.named k ≡ true → is_named said k ≡ true)
    → LooksThrough said l.named (drop l.here l.named) l.initial.told l.initial.out.items l.told l.out.items
