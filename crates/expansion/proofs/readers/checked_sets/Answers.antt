use Rattle.std.proofs.Common.{◌≡◌, Ok, sym, subst, IfSome}
use Rattle.symbol_reader.specs.inside.Reading.{Reads}
use Rattle.symbol_reader.proofs.Steps.{alike, fail}
use Rattle.expansion.specs.inside.Grammar.{CheckedSets}
use Rattle.expansion.proofs.SetParts.{sets_alike}
use Rattle.expansion.proofs.readers.checked_sets.Goals as goal

pub returns-in_err-sets : goal.returns-in_err-sets
returns-in_err-sets c =
    fail c.from_residual.ensures.1 (alike (sets_alike c.args.end) (rw c.symbol.ensures at c.in_err-sets.ensures))

pub returns : goal.returns
returns c =
    let read = alike (sets_alike c.args.end) (rw c.symbol.ensures at c.in_ok-sets.ensures) in
    let same : c.unwrap.result ≡ c.in_ok-sets.sets = subst (λ o. IfSome o (λ x. x ≡ c.in_ok-sets.sets)) c.unwrap.ensures c.new.ensures.value in
    subst (λ x. Reads (CheckedSets c.args.end) c.args.list.now (Ok x) c.set_words.new.list) (sym same) read
