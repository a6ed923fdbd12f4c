-- Casualties by their parts.
use Rattle.std.proofs.Common.{ℕ, List, [], ◌∷◌, Option, arith}
use Rattle.symbol_reader.specs.inside.Languages.{Only, Then, Spelled}
use Rattle.symbol_reader.proofs.Laws.{Good, Alike, then_good, only_good, alike_good}
use Rattle.call_values.specs.declared.positions.Fix.{Fix}
use Rattle.call_values.specs.declared.calls.Casualty.{Casualty}
use Rattle.dsc_symbols.specs.Natures.{IsNature}
use Rattle.dsc_symbols.specs.Telecommands.{IsComm}
use Rattle.call_grammar.specs.inside.Grammar.{Identities, Positions, Times, Casualties}
use Rattle.call_grammar.proofs.IdentityParts.{identity_good}
use Rattle.call_grammar.proofs.SymbolParts.{nature_good, comm_good}
use Rattle.call_grammar.proofs.PositionParts.{position_good}
use Rattle.call_grammar.proofs.TimeParts.{time_good}

abbrev pub Natures : ℕ → List ℕ → Type 0
Natures = Spelled IsNature (λ n. n ∷ [])

abbrev pub Comms : ℕ → List ℕ → Type 0
Comms = Spelled IsComm (λ n. n ∷ [])

abbrev pub casualty_of : ℕ → ℕ → Option Fix → Option (ℕ × ℕ) → ℕ → Casualty
casualty_of m n p t k = record { mmsi = m; nature = n; position = p; time = t; comm = k }

abbrev pub AfterTime : ℕ → ℕ → Option Fix → Option (ℕ × ℕ) → Casualty → List ℕ → Type 0
AfterTime m n p t = Then Comms (λ k. Only (casualty_of m n p t k))

abbrev pub AfterPosition : ℕ → ℕ → Option Fix → Casualty → List ℕ → Type 0
AfterPosition m n p = Then Times (AfterTime m n p)

abbrev pub AfterNature : ℕ → ℕ → Casualty → List ℕ → Type 0
AfterNature m n = Then Positions (AfterPosition m n)

abbrev pub AfterIdentity : ℕ → Casualty → List ℕ → Type 0
AfterIdentity m = Then Natures (AfterNature m)

abbrev pub CasualtyParts : Casualty → List ℕ → Type 0
CasualtyParts = Then Identities AfterIdentity

pub after_time_good : (m n : ℕ) (p : Option Fix) (t : Option (ℕ × ℕ)) → Good (AfterTime m n p t)
after_time_good m n p t = then_good _ _ comm_good (λ k _ _. only_good (casualty_of m n p t k))

pub after_position_good : (m n : ℕ) (p : Option Fix) → Good (AfterPosition m n p)
after_position_good m n p = then_good _ _ time_good (λ t _ _. after_time_good m n p t)

pub after_nature_good : (m n : ℕ) → Good (AfterNature m n)
after_nature_good m n = then_good _ _ position_good (λ p _ _. after_position_good m n p)

pub after_identity_good : (m : ℕ) → Good (AfterIdentity m)
after_identity_good m = then_good _ _ nature_good (λ n _ _. after_nature_good m n)

casualty_parts_good : Good CasualtyParts
casualty_parts_good = then_good _ _ identity_good (λ m _ _. after_identity_good m)

to_casualty : (c : Casualty) (word : List ℕ) → CasualtyParts c word → Casualties c word
to_casualty c word p = grind arith

from_casualty : (c : Casualty) (word : List ℕ) → Casualties c word → CasualtyParts c word
from_casualty c word p = grind arith

pub casualty_alike : Alike CasualtyParts Casualties
casualty_alike = record { to = to_casualty; back = from_casualty }

-- a casualty's characters read back, and none begin another's
pub casualty_good : Good Casualties
casualty_good = alike_good _ _ casualty_alike casualty_parts_good
