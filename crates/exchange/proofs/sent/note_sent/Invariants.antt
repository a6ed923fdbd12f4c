use Rattle.std.proofs.Common.{◌≡◌, ◌+◌, ◌-◌, ◌≤◌, ◌++◌, drop, vec_len, vec_capacity}
use Rattle.exchange.specs.Sent.{calls_of}
use Rattle.exchange.proofs.sent.note_sent.Given as goal

abbrev pub invariant-loop-act : goal.invariant-loop-act
invariant-loop-act l =
    (l.sent.items ++ calls_of (drop l.act-index l.acts) ≡ l.fn.sent.items ++ calls_of l.acts)
    × (vec_len l.sent + (l.act-index-end - l.act-index) ≤ vec_capacity l.sent)
