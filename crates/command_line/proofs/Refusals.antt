-- Steps of a parse, each of which may refuse.
use Rattle.std.proofs.Common.{◌≡◌, ◌∙◌, [], ◌∷◌, ap, arith}
use Rattle.clap.specs.Kinds.{Kinds, or_else}
use Rattle.clap.specs.declared.error.kind.ErrorKind.{ErrorKind}

-- a list with an element isn't empty
pub some_kind : {k : ErrorKind} {ks : Kinds} → k ∷ ks ≡ [] → ⊥
some_kind e = cc

-- where neither of two faults comes the first one doesn't
pub first_passes : (a b : Kinds) → or_else a b ≡ [] → a ≡ []
first_passes a b e = grind arith

-- where neither of two faults comes the second one doesn't
pub second_passes : (a b : Kinds) → or_else a b ≡ [] → b ≡ []
second_passes a b e = grind arith

-- where no fault comes from either, none comes
pub both_pass : (a b : Kinds) → a ≡ [] → b ≡ [] → or_else a b ≡ []
both_pass a b e f = ap (λ x. or_else x b) e ∙ f
