-- lists of characters
use Rattle.std.proofs.Common.{◌≡◌, ◌<◌, ℕ, true, ◌&&◌, List, [], ◌∷◌, nat_lt, arith}
use Rattle.std.specs.List.{list_all, All}
use Rattle.std.proofs.lemmas.Bool.{and_parts, ltb-true}
use Rattle.std.proofs.lemmas.List.Elements.{All-cons}

pub characters : (list : List ℕ) → list_all (λ v. nat_lt v 128) list ≡ true → All (λ v. v < 128) list
characters [] h = λ k d below. absurd (omega (arith, below))
characters (v ∷ list) h =
    let both = and_parts (nat_lt v 128) (list_all (λ v. nat_lt v 128) list) h in
    All-cons (λ v. v < 128) v list (ltb-true _ _ both.0) (characters list both.1)
