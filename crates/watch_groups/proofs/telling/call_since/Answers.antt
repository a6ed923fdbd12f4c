use Rattle.std.proofs.Common.{List, sym, subst}
use Rattle.std.proofs.lemmas.Result.{IfErr-weaker}
use Rattle.slot_evidence.specs.declared.places.Seen.{Seen}
use Rattle.slot_evidence.specs.Sheet.{IsEnds}
use Rattle.watch_groups.proofs.telling.call_since.Goals as goal

pub returns-in-Some-clause-none : goal.returns-in-Some-clause-none
returns-in-Some-clause-none c = IfErr-weaker c.judge.result _ _ (λ unreported none. λ F ends. unreported.none F (subst (λ (s : List Seen). IsEnds F s) (sym none.0) ends)) c.judge.ensures.none
