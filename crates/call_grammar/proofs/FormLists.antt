-- The lists of the forms, part after part.
use Rattle.std.proofs.Common.{◌≡◌, ℕ, List, ◌∷◌, ◌++◌, ◌∙◌, ap, append_assoc}
use Rattle.call_values.specs.declared.calls.Casualty.{Casualty}
use Rattle.call_values.specs.declared.choices.Category.{Category}
use Rattle.call_values.specs.declared.fields.FieldKind.{FieldKind}
use Rattle.call_values.specs.declared.parts.Message.{Message}
use Rattle.call_values.specs.declared.parts.Message.TheVariants.{Fields}
use Rattle.dsc_symbols.specs.declared.categories.TheConstants as categories
use Rattle.call_grammar.specs.Spelling.{identity_symbols, casualty_symbols, category_symbol, field_symbols, message_symbols, distress_symbols, request_symbols}

-- a distress call and what follows it
pub distress-list : (from telecommand : ℕ) (k : Casualty) (l : List ℕ)
    → distress_symbols from telecommand k ++ l ≡ categories.DISTRESS ∷ (identity_symbols from ++ (telecommand ∷ (casualty_symbols k ++ l)))
distress-list from telecommand k l = ap (λ a. categories.DISTRESS ∷ a) (append_assoc (identity_symbols from) (telecommand ∷ casualty_symbols k) l)

-- after an address
pub relay-list : (a : List ℕ) (from telecommand : ℕ) (k : Casualty) (l : List ℕ)
    → (a ++ distress_symbols from telecommand k) ++ l ≡ a ++ (categories.DISTRESS ∷ (identity_symbols from ++ (telecommand ∷ (casualty_symbols k ++ l))))
relay-list a from telecommand k l = append_assoc a (distress_symbols from telecommand k) l ∙ ap (λ b. a ++ b) (distress-list from telecommand k l)

-- a call with a message, and what follows it, after an address
pub letter-list : (a : List ℕ) (g : Category) (from first second : ℕ) (m : Message) (l : List ℕ)
    → (a ++ request_symbols g from first second m) ++ l ≡ a ++ (category_symbol g ∷ (identity_symbols from ++ (first ∷ second ∷ (message_symbols m ++ l))))
letter-list a g from first second m l =
    append_assoc a (request_symbols g from first second m) l
    ∙ ap (λ b. a ++ (category_symbol g ∷ b)) (append_assoc (identity_symbols from) (first ∷ second ∷ message_symbols m) l)

-- a call with two fields
pub request-list : (a : List ℕ) (g : Category) (from first second : ℕ) (f1 f2 : FieldKind) (l : List ℕ)
    → (a ++ request_symbols g from first second (Fields f1 f2)) ++ l
    ≡ a ++ (category_symbol g ∷ (identity_symbols from ++ (first ∷ second ∷ (field_symbols f1 ++ (field_symbols f2 ++ l)))))
request-list a g from first second f1 f2 l =
    letter-list a g from first second (Fields f1 f2) l
    ∙ ap (λ b. a ++ (category_symbol g ∷ (identity_symbols from ++ (first ∷ second ∷ b)))) (append_assoc (field_symbols f1) (field_symbols f2) l)

-- a service call
pub service-list : (a : List ℕ) (g : Category) (from : ℕ) (k l : List ℕ)
    → (a ++ (category_symbol g ∷ (identity_symbols from ++ k))) ++ l ≡ a ++ (category_symbol g ∷ (identity_symbols from ++ (k ++ l)))
service-list a g from k l =
    append_assoc a (category_symbol g ∷ (identity_symbols from ++ k)) l
    ∙ ap (λ b. a ++ (category_symbol g ∷ b)) (append_assoc (identity_symbols from) k l)
