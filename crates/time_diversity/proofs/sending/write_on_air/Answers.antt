use Rattle.std.proofs.Common.{◌<◌, ℕ, List, All, refl, sym, subst, arith}
use Rattle.time_diversity.proofs.Shows.{on_air_below}
use Rattle.time_diversity.proofs.Copies.{none_yet, one_more, all_shown}
use Rattle.time_diversity.proofs.sending.write_on_air.Goals as goal

pub loop-number-init : goal.loop-number-init
loop-number-init c = none_yet c.args.list.now

pub loop-number-preserved : goal.loop-number-preserved
loop-number-preserved c = one_more c.args.list.now c.loop-number.symbols c.loop-number.number _ _ _ c.loop-number.invariant (omega arith) refl refl refl

pub returns-clause-slots : goal.returns-clause-slots
returns-clause-slots c = all_shown c.args.list.now c.loop-number.symbols c.loop-number.number c.loop-number.invariant (omega arith) c.requires.length.1

pub returns-clause-symbols : goal.returns-clause-symbols
returns-clause-symbols c = subst (λ (l : List ℕ). All (λ v. v < 128) l) (sym (returns-clause-slots c)) (on_air_below c.args.list.now c.requires.symbols)
