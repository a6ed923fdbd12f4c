use Rattle.std.proofs.Common.{List, ap, ◌∙◌, rules}
use Rattle.slot_evidence.specs.declared.places.Seen.{Seen}
use Rattle.slot_evidence.specs.Sheet.{seen_at}
use Rattle.slot_evidence.specs.inside.Kept.{AreKept}
use Rattle.slot_evidence.proofs.Kept.{kept_here}
use Rattle.slot_evidence.proofs.Edges.{kept_from}
use Rattle.slot_evidence.proofs.sheets.Sheet.between.Goals as goal

pub from_numbers-requires : goal.from_numbers-requires
from_numbers-requires c = kept_from c.args.leasts c.args.pasts (search rules) (search rules) c.requires

pub returns-clause-each : goal.returns-clause-each
returns-clause-each c =
    λ p below.
    let kept : AreKept c.args.leasts c.args.pasts = kept_from c.args.leasts c.args.pasts (search rules) (search rules) c.requires in
    ap (λ (s : List Seen). seen_at s p) c.from_numbers.ensures ∙ kept_here c.args.leasts c.args.pasts kept p below
