-- Messages by their letters.
use Rattle.std.proofs.Common.{◌≡◌, ℕ, inl, inr, ◌==◌, Bool, true, false, List, [], ◌∷◌, ◌++◌, Option, refl, sym, ◌∙◌, ap, subst, arith, append-nil}
use Rattle.std.proofs.lemmas.Bool.{eqb-true, eqb-false}
use Rattle.symbol_reader.specs.declared.letters.Letter.TheVariants as letter
use Rattle.symbol_reader.specs.Letters.{Allows}
use Rattle.symbol_reader.specs.inside.Languages.{Only, Then, Choice}
use Rattle.symbol_reader.proofs.Laws.{Good, Alike, then_good, only_good, choice_good, alike_good}
use Rattle.symbol_reader.proofs.Steps.{letter_good, one_then, joined, spelled_then, spelt}
use Rattle.call_values.specs.declared.positions.Fix.{Fix}
use Rattle.call_values.specs.declared.fields.FieldKind.{FieldKind}
use Rattle.call_values.specs.declared.parts.Message.{Message}
use Rattle.call_values.specs.declared.parts.Message.TheVariants.{Fields, At}
use Rattle.dsc_symbols.specs.declared.messages.TheConstants.{POSITION_FOLLOWS}
use Rattle.call_grammar.specs.Spelling.{field_symbols, position_symbols}
use Rattle.call_grammar.specs.inside.Grammar.{Symbol, Positions, FieldWords, FieldRest, Messages}
use Rattle.call_grammar.proofs.PositionParts.{position_good}
use Rattle.call_grammar.proofs.FieldParts.{field_rest_good, field_good, to_rest, split_field}

abbrev pub AtRest : Message → List ℕ → Type 0
AtRest = Then Positions (λ p. Only (At p))

abbrev pub FieldsRest : ℕ → Message → List ℕ → Type 0
FieldsRest initial = Then (FieldRest initial) (λ f. Then FieldWords (λ g. Only (Fields f g)))

abbrev pub MessageRest : ℕ → Message → List ℕ → Type 0
MessageRest initial = Choice (initial == POSITION_FOLLOWS) AtRest (FieldsRest initial)

abbrev pub MessageParts : Message → List ℕ → Type 0
MessageParts = Then (Symbol letter.Message) MessageRest

pub at_good : (p : Option Fix) → Good (Only (At p))
at_good p = only_good (At p)

pub at_rest_good : Good AtRest
at_rest_good = then_good _ _ position_good (λ p _ _. at_good p)

pub second_field_good : (f : FieldKind) → Good (Then FieldWords (λ g. Only (Fields f g)))
second_field_good f = then_good _ _ field_good (λ g _ _. only_good (Fields f g))

pub fields_rest_good : (initial : ℕ) → Good (FieldsRest initial)
fields_rest_good initial = then_good _ _ (field_rest_good initial) (λ f _ _. second_field_good f)

pub message_rest_good : (initial : ℕ) → Good (MessageRest initial)
message_rest_good initial = choice_good (initial == POSITION_FOLLOWS) _ _ (λ _. at_rest_good) (λ _. fields_rest_good initial)

parts_good : Good MessageParts
parts_good = then_good _ _ (letter_good letter.Message) (λ initial _ _. message_rest_good initial)

-- what begins a message and no position begins a field
pub field_initial : (initial : ℕ) → Allows letter.Message initial → (initial ≡ POSITION_FOLLOWS → ⊥) → Allows letter.Field initial
field_initial initial h n = grind arith

to_message_at : (initial : ℕ) (v : Message) (l : List ℕ) → initial ≡ POSITION_FOLLOWS → AtRest v l → Messages v (initial ∷ l)
to_message_at initial v l e p =
    let value : v ≡ At p.chosen = p.after.value in
    let list : l ≡ position_symbols p.chosen = spelt p p.after.list ∙ append-nil (position_symbols p.chosen) in
    let whole : initial ∷ l ≡ POSITION_FOLLOWS ∷ position_symbols p.chosen = cc in
    subst (λ x. Messages x (initial ∷ l)) (sym value) (record { is_lawful = p.before.is_lawful; list = whole })

to_message_fields : (initial : ℕ) (v : Message) (l : List ℕ) → Allows letter.Field initial → FieldsRest initial v l → Messages v (initial ∷ l)
to_message_fields initial v l h p =
    let q = p.after in
    let value : v ≡ Fields p.chosen q.chosen = q.after.value in
    let first = to_rest initial p.chosen p.front h p.before in
    let one : initial ∷ p.front ≡ field_symbols p.chosen = first.list in
    let two : p.back ≡ field_symbols q.chosen = spelt q q.after.list ∙ append-nil (field_symbols q.chosen) in
    let list : l ≡ p.front ++ p.back = p.list in
    let whole : initial ∷ l ≡ field_symbols p.chosen ++ field_symbols q.chosen =
    ap (λ a. initial ∷ a) list ∙ ap (λ a. a ++ p.back) one ∙ ap (λ a. field_symbols p.chosen ++ a) two in
    subst (λ x. Messages x (initial ∷ l)) (sym value) (record { is_lawful = (first.is_lawful, q.before.is_lawful); list = whole })

to_message_rest : (initial : ℕ) (t : Bool) (v : Message) (l : List ℕ) → (initial == POSITION_FOLLOWS) ≡ t → Allows letter.Message initial → MessageRest initial v l → Messages v (initial ∷ l)
to_message_rest initial true v l e h p = to_message_at initial v l (eqb-true initial POSITION_FOLLOWS e) (p.yes e)
to_message_rest initial false v l e h p = to_message_fields initial v l (field_initial initial h (eqb-false initial POSITION_FOLLOWS e)) (p.no e)

to_message : (v : Message) (word : List ℕ) → MessageParts v word → Messages v word
to_message v word p =
    subst (Messages v) (sym (joined p refl)) (to_message_rest p.chosen (p.chosen == POSITION_FOLLOWS) v p.back refl p.before.allowed p.after)

begins_no_position : (initial : ℕ) → Allows letter.Field initial → initial ≡ POSITION_FOLLOWS → ⊥
begins_no_position initial h e = grind arith

from_message : (v : Message) (word : List ℕ) → Messages v word → MessageParts v word
from_message (At p) word m =
    subst (MessageParts (At p)) (sym m.list) (one_then POSITION_FOLLOWS (inl refl) (record {
      yes = λ _. subst (AtRest (At p)) (append-nil (position_symbols p)) (spelled_then p [] m.is_lawful (record { value = refl; list = refl }));
      no = λ (e : true ≡ false). absurd (cc);
    }))
from_message (Fields f g) word m =
    let s = split_field f m.is_lawful.0 in
    let second : Then FieldWords (λ g. Only (Fields f g)) (Fields f g) (field_symbols g) =
    subst (Then FieldWords (λ g. Only (Fields f g)) (Fields f g)) (append-nil (field_symbols g))
    (spelled_then g [] m.is_lawful.1 (record { value = refl; list = refl })) in
    subst (MessageParts (Fields f g)) (sym (m.list ∙ ap (λ a. a ++ field_symbols g) s.list))
    (one_then s.initial (inr s.allowed) (record {
      yes = λ e. absurd (begins_no_position s.initial s.allowed (eqb-true s.initial POSITION_FOLLOWS e));
      no = λ _. record { chosen = f; front = s.rest; back = field_symbols g; before = s.word; after = second; list = refl };
    }))

pub message_alike : Alike MessageParts Messages
message_alike = record { to = to_message; back = from_message }

-- a message reads back, and none begins another
pub message_good : Good Messages
message_good = alike_good _ _ message_alike parts_good
