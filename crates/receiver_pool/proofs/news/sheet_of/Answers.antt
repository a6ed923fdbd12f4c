use Rattle.std.proofs.Common.{[], List, arith, ap, sym, ◌∙◌}
use Rattle.std.proofs.lemmas.List.{get_or_past}
use Rattle.slot_evidence.specs.declared.places.Seen.{Seen}
use Rattle.slot_evidence.specs.Sheet.{seen_at}
use Rattle.slot_evidence.proofs.PublicLaws.{blank_at}
use Rattle.receiver_pool.specs.Groups.{known_at}
use Rattle.receiver_pool.proofs.Beyond.{beyond_known}
use Rattle.receiver_pool.proofs.news.sheet_of.Goals as goal

pub returns : goal.returns
returns c = λ F G alike.
    let known = c.args.known.now in
    beyond_known c.empty.result (known_at known c.args.group) F G
    (λ p.
    ap (λ (s : List Seen). seen_at s p) c.empty.ensures.blank ∙ blank_at p
    ∙ sym (ap (λ (s : List Seen). seen_at s p) (get_or_past known c.args.group [] (omega arith))))
    alike
