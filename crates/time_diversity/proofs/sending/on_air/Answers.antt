use Rattle.std.proofs.Common.{◌<◌, All, sym, ◌∙◌, subst, List, ℕ}
use Rattle.std.proofs.lemmas.Result.{MatchResult-at_ok}
use Rattle.time_diversity.proofs.sending.on_air.Goals as goal

pub returns-clause-slots : goal.returns-clause-slots
returns-clause-slots c = (MatchResult-at_ok _ _ c.unwrap.result c.unwrap.ensures c.try_from.ensures).0 ∙ c.write_on_air-count.ensures.slots

pub returns-clause-symbols : goal.returns-clause-symbols
returns-clause-symbols c =
    subst (λ (l : List ℕ). All (λ v. v < 128) l) (sym (MatchResult-at_ok _ _ c.unwrap.result c.unwrap.ensures c.try_from.ensures).0) c.write_on_air-count.ensures.symbols
