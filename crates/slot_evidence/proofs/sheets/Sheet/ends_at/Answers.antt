use Rattle.std.proofs.Common.{List, ap, sym, ◌∙◌}
use Rattle.slot_evidence.specs.declared.places.Seen.{Seen}
use Rattle.slot_evidence.specs.TwoNumbers.{least_of, past_of}
use Rattle.slot_evidence.specs.Sheet.{seen_at}
use Rattle.slot_evidence.proofs.Kept.{least_at, past_at}
use Rattle.slot_evidence.proofs.Edges.{order_at}
use Rattle.slot_evidence.proofs.sheets.Sheet.ends_at.Goals as goal

pub returns-clause-least : goal.returns-clause-least
returns-clause-least c =
    sym (least_at c.self.inside.leasts c.self.inside.pasts c.args.p c.self.invariant c.requires) ∙ ap (λ (s : List Seen). least_of (seen_at s c.args.p)) c.self.view_is

pub returns-clause-past : goal.returns-clause-past
returns-clause-past c =
    sym (past_at c.self.inside.leasts c.self.inside.pasts c.args.p c.self.invariant) ∙ ap (λ (s : List Seen). past_of (seen_at s c.args.p)) c.self.view_is

pub returns-clause-order : goal.returns-clause-order
returns-clause-order c = order_at c.self.inside.leasts c.self.inside.pasts c.self.invariant c.args.p c.requires
