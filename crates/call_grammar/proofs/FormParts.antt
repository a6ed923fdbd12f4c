-- The languages of the forms are distinguished while they are read.
use Rattle.std.proofs.Common.{◌≡◌, ℕ, Bool, true, false, List, [], ◌∷◌, ◌++◌, length, Option, Some, None, refl, sym, ◌∙◌, ap, subst, append_assoc, length-append, arith}
use Rattle.std.proofs.lemmas.List.{nil_from_length}
use Rattle.symbol_reader.specs.declared.letters.Letter.{Letter}
use Rattle.symbol_reader.specs.declared.letters.Letter.TheVariants.{Exactly}
use Rattle.symbol_reader.specs.Letters.{Allows}
use Rattle.symbol_reader.specs.inside.Languages.{One, Only, Then, Spelled}
use Rattle.symbol_reader.proofs.Laws.{Good, then_good, only_good}
use Rattle.symbol_reader.proofs.Steps.{letter_good}
use Rattle.call_values.specs.declared.choices.Category.{Category}
use Rattle.call_values.specs.declared.parts.To.{To}
use Rattle.call_values.specs.declared.parts.To.TheVariants as to
use Rattle.dsc_symbols.specs.declared.ends.TheConstants.{ACKNOWLEDGE_BQ, ACKNOWLEDGE_RQ, EOS}
use Rattle.dsc_symbols.specs.declared.messages.TheConstants.{NO_INFORMATION, POSITION_FOLLOWS}
use Rattle.call_grammar.specs.declared.symbols.Specifier.{Specifier}
use Rattle.call_grammar.specs.declared.symbols.Specifier.TheVariants as format
use Rattle.call_grammar.specs.declared.symbols.Telecommand.{Telecommand}
use Rattle.call_grammar.specs.declared.symbols.Telecommand.TheVariants as telecommand
use Rattle.call_grammar.specs.inside.Forms.{Relays, Acks, AfterDistressTelecommand, AfterRelayer, Distress, Requests, Tests, PositionAnswers, PositionRequests, AfterTold, ShipPositions, Others, AfterTelecommand, Individuals, SenderAndRequest, AfterCategory, Addressed, SenderAndIndividual, AfterCategoryToOne, AddressedOne, Alerts, AfterFormat}
use Rattle.call_grammar.proofs.IdentityParts.{identity_good}
use Rattle.call_grammar.proofs.PositionParts.{position_good}
use Rattle.call_grammar.proofs.TimeParts.{time_good}
use Rattle.call_grammar.proofs.CasualtyParts.{casualty_good}
use Rattle.call_grammar.proofs.AreaParts.{area_good}
use Rattle.call_grammar.proofs.FieldParts.{field_good}
use Rattle.call_grammar.proofs.MessageParts.{message_good}
use Rattle.call_grammar.proofs.CodedParts.{categories_good, endings_good, eithers_good, distress_telecommands_good, telecommands_good, first_good, second_good, blanks_good}

-- each word has a symbol, and what lacks the last symbol of a word lacks one symbol of every word that it begins
pub record LacksOne {V : Type 0} (language : V → List ℕ → Type 0) : Type 0 where
  pub some : (v : V) → language v [] → ⊥
  pub one : (v u : V) (front : List ℕ) (last : ℕ) (rest : List ℕ) → language v (front ++ (last ∷ [])) → language u (front ++ rest) → length rest ≡ 1

-- the last symbol of a list and what comes before it
parted : (l : List ℕ) → (l ≡ [] → ⊥) → (front : List ℕ) × (last : ℕ) × (l ≡ front ++ (last ∷ []))
parted [] some = absurd (some refl)
parted (x ∷ []) some = ([], x, refl)
parted (x ∷ (y ∷ l)) some =
    let rest = parted (y ∷ l) (λ (e : y ∷ l ≡ []). absurd (cc)) in
    (x ∷ rest.0, rest.1, ap (λ a. x ∷ a) rest.2)

front_same : (a b : List ℕ) (x y : ℕ) → a ++ (x ∷ []) ≡ b ++ (y ∷ []) → a ≡ b
front_same [] [] x y e = refl
front_same [] (z ∷ b) x y e =
    let k : length (x ∷ []) ≡ length (z ∷ (b ++ (y ∷ []))) = ap length e in absurd (omega (arith, length-append b (y ∷ [])))
front_same (z ∷ a) [] x y e =
    let k : length (z ∷ (a ++ (x ∷ []))) ≡ length (y ∷ []) = ap length e in absurd (omega (arith, length-append a (x ∷ [])))
front_same (z ∷ a) (u ∷ b) x y e =
    let k : a ++ (x ∷ []) ≡ b ++ (y ∷ []) = cc in
    let h : z ≡ u = cc in
    let same : a ≡ b = front_same a b x y k in
    cc

-- words of one symbol each
single : {V : Type 0} (language : V → List ℕ → Type 0) → ((v : V) (word : List ℕ) → language v word → length word ≡ 1) → LacksOne language
single language h = record {
  some = λ v p. let k : length {A = ℕ} [] ≡ 1 = h v [] p in absurd (omega arith);
  one = λ v u front last rest p q.
      let a : length (front ++ (last ∷ [])) ≡ 1 = h v (front ++ (last ∷ [])) p in
      let b : length (front ++ rest) ≡ 1 = h u (front ++ rest) q in
      omega (arith, length-append front (last ∷ []), length-append front rest);
}

-- a word of a language whose words can be distinguished, and then one of a language of this kind
pub then_last : {U V : Type 0} (first : U → List ℕ → Type 0) (second : U → V → List ℕ → Type 0)
    → Good first → ((u : U) (front : List ℕ) → first u front → LacksOne (second u)) → LacksOne (Then first second)
then_last first second g h = record {
  some = λ v p.
      let list : [] ≡ p.front ++ p.back = p.list in
      let none : p.back ≡ [] = nil_from_length p.back (omega (arith, ap length list, length-append p.front p.back)) in
      (h p.chosen p.front p.before).some v (subst (second p.chosen v) none p.after);
  one = λ v u front last rest p q.
      let some : p.back ≡ [] → ⊥ = λ none. (h p.chosen p.front p.before).some v (subst (second p.chosen v) none p.after) in
      let back = parted p.back some in
      let whole : front ++ (last ∷ []) ≡ (p.front ++ back.0) ++ (back.1 ∷ []) =
      p.list ∙ ap (λ l. p.front ++ l) back.2 ∙ sym (append_assoc p.front back.0 (back.1 ∷ [])) in
      let begins : front ≡ p.front ++ back.0 = front_same front (p.front ++ back.0) last back.1 whole in
      let other : p.front ++ (back.0 ++ rest) ≡ q.front ++ q.back =
      sym (append_assoc p.front back.0 rest) ∙ ap (λ l. l ++ rest) (sym begins) ∙ q.list in
      let k = g.one p.chosen q.chosen p.front q.front (back.0 ++ rest) q.back p.before q.before other in
      let after : second p.chosen u q.back = subst (λ x. second x u q.back) (sym k.0) q.after in
      (h p.chosen p.front p.before).one v u back.0 back.1 rest (subst (second p.chosen v) back.2 p.after) (subst (second p.chosen u) (sym k.2) after);
}

-- one symbol that ends a word
ends : {U V : Type 0} (first : U → List ℕ → Type 0) (value : U → V) → ((u : U) (word : List ℕ) → first u word → length word ≡ 1)
    → LacksOne (Then first (λ u. Only (value u)))
ends first value h =
    single (Then first (λ u. Only (value u)))
    (λ v word p.
    let list : word ≡ p.front ++ p.back = p.list in
    let none : p.back ≡ [] = p.after.list in
    let one : length p.front ≡ 1 = h p.chosen p.front p.before in
    omega (arith, ap length list, ap length none, length-append p.front p.back))

letter_one : (letter : Letter) (v : ℕ) (word : List ℕ) → One (Allows letter) v word → length word ≡ 1
letter_one letter v word p = ap length p.list

code_one : {V : Type 0} (lawful : V → Type 0) (code : V → ℕ) (v : V) (word : List ℕ) → Spelled lawful (λ u. code u ∷ []) v word → length word ≡ 1
code_one lawful code v word p = ap length p.list

-- its words are distinguished while they are read, and what lacks the last symbol of one lacks one symbol
pub record Closes {V : Type 0} (language : V → List ℕ → Type 0) : Type 0 where
  pub good : Good language
  pub last : LacksOne language

closes_then : {U V : Type 0} (first : U → List ℕ → Type 0) (second : U → V → List ℕ → Type 0)
    → Good first → ((u : U) (front : List ℕ) → first u front → Closes (second u)) → Closes (Then first second)
closes_then first second g h = record { good = then_good _ _ g (λ u front p. (h u front p).good); last = then_last _ _ g (λ u front p. (h u front p).last) }

closes_one : {U V : Type 0} (first : U → List ℕ → Type 0) (value : U → V) → Good first → ((u : U) (word : List ℕ) → first u word → length word ≡ 1)
    → Closes (Then first (λ u. Only (value u)))
closes_one first value g h = record { good = then_good _ _ g (λ u _ _. only_good (value u)); last = ends first value h }

-- the forms
relays_closes : (t : To) (from : ℕ) → Closes (Relays t from)
relays_closes t from = closes_then _ _ casualty_good (λ _ _ _. closes_one _ _ endings_good (code_one _ _))

acks_closes : (from : ℕ) → Closes (Acks from)
acks_closes from = closes_then _ _ casualty_good (λ _ _ _. closes_one _ _ (letter_good (Exactly EOS)) (letter_one (Exactly EOS)))

pub after_distress_telecommand_closes : (t : To) (from : ℕ) (is_ack : Bool) → Closes (AfterDistressTelecommand t from is_ack)
after_distress_telecommand_closes t from true = acks_closes from
after_distress_telecommand_closes t from false = relays_closes t from

pub after_relayer_closes : (t : To) (from : ℕ) → Closes (AfterRelayer t from)
after_relayer_closes t from = closes_then _ _ (distress_telecommands_good t) (λ b _ _. after_distress_telecommand_closes t from b)

distress_closes : (t : To) → Closes (Distress t)
distress_closes t = closes_then _ _ identity_good (λ from _ _. after_relayer_closes t from)

pub requests_closes : (t : To) (g : Category) (from : ℕ) → Closes (Requests t g from)
requests_closes t g from =
    closes_then _ _ first_good (λ _ _ _. closes_then _ _ second_good (λ _ _ _. closes_then _ _ field_good (λ _ _ _. closes_then _ _ field_good (λ _ _ _.
    closes_one _ _ (letter_good (Exactly EOS)) (letter_one (Exactly EOS))))))

tests_closes : (m : ℕ) (g : Category) (from : ℕ) → Closes (Tests m g from)
tests_closes m g from =
    closes_then _ _ (letter_good (Exactly NO_INFORMATION)) (λ _ _ _. closes_then _ _ (letter_good (Exactly NO_INFORMATION)) (λ _ _ _. closes_then _ _ (blanks_good 5) (λ _ _ _.
    closes_one _ _ (eithers_good ACKNOWLEDGE_BQ ACKNOWLEDGE_RQ (λ e. omega (arith, e))) (code_one _ _))))

answers_closes : (m : ℕ) (g : Category) (from : ℕ) → Closes (PositionAnswers m g from)
answers_closes m g from =
    closes_then _ _ position_good (λ _ _ _. closes_then _ _ time_good (λ _ _ _. closes_one _ _ (letter_good (Exactly ACKNOWLEDGE_BQ)) (letter_one (Exactly ACKNOWLEDGE_BQ))))

questions_closes : (m : ℕ) (g : Category) (from : ℕ) → Closes (PositionRequests m g from)
questions_closes m g from = closes_then _ _ (blanks_good 5) (λ _ _ _. closes_one _ _ (letter_good (Exactly ACKNOWLEDGE_RQ)) (letter_one (Exactly ACKNOWLEDGE_RQ)))

pub after_told_closes : (m : ℕ) (g : Category) (from : ℕ) (is_told : Bool) → Closes (AfterTold m g from is_told)
after_told_closes m g from true = answers_closes m g from
after_told_closes m g from false = questions_closes m g from

places_closes : (m : ℕ) (g : Category) (from : ℕ) → Closes (ShipPositions m g from)
places_closes m g from =
    closes_then _ _ (letter_good (Exactly NO_INFORMATION)) (λ _ _ _. closes_then _ _ (eithers_good POSITION_FOLLOWS NO_INFORMATION (λ e. omega (arith, e))) (λ b _ _. after_told_closes m g from b))

others_closes : (m : ℕ) (g : Category) (from first : ℕ) → Closes (Others m g from first)
others_closes m g from first =
    closes_then _ _ second_good (λ _ _ _. closes_then _ _ message_good (λ _ _ _. closes_one _ _ endings_good (code_one _ _)))

pub after_telecommand_closes : (m : ℕ) (g : Category) (from : ℕ) (o : Telecommand) → Closes (AfterTelecommand m g from o)
after_telecommand_closes m g from telecommand.Test = tests_closes m g from
after_telecommand_closes m g from telecommand.Position = places_closes m g from
after_telecommand_closes m g from (telecommand.Request first) = others_closes m g from first

pub individuals_closes : (m : ℕ) (g : Category) (from : ℕ) → Closes (Individuals m g from)
individuals_closes m g from = closes_then _ _ telecommands_good (λ o _ _. after_telecommand_closes m g from o)

sender_and_request_closes : (t : To) (g : Category) → Closes (SenderAndRequest t g)
sender_and_request_closes t g = closes_then _ _ identity_good (λ from _ _. requests_closes t g from)

pub after_category_closes : (t : To) (category : Option Category) → Closes (AfterCategory t category)
after_category_closes t None = distress_closes t
after_category_closes t (Some g) = sender_and_request_closes t g

pub addressed_closes : (t : To) → Closes (Addressed t)
addressed_closes t = closes_then _ _ categories_good (λ category _ _. after_category_closes t category)

sender_and_individual_closes : (m : ℕ) (g : Category) → Closes (SenderAndIndividual m g)
sender_and_individual_closes m g = closes_then _ _ identity_good (λ from _ _. individuals_closes m g from)

pub after_category_to_one_closes : (m : ℕ) (category : Option Category) → Closes (AfterCategoryToOne m category)
after_category_to_one_closes m None = distress_closes (to.One m)
after_category_to_one_closes m (Some g) = sender_and_individual_closes m g

pub addressed_one_closes : (m : ℕ) → Closes (AddressedOne m)
addressed_one_closes m = closes_then _ _ categories_good (λ category _ _. after_category_to_one_closes m category)

alerts_closes : Closes Alerts
alerts_closes = closes_then _ _ casualty_good (λ _ _ _. closes_one _ _ (letter_good (Exactly EOS)) (letter_one (Exactly EOS)))

-- what follows a format specifier reads back
pub after_format_closes : (f : Specifier) → Closes (AfterFormat f)
after_format_closes format.Alert = alerts_closes
after_format_closes format.All = addressed_closes to.All
after_format_closes format.Area = closes_then _ _ area_good (λ a _ _. addressed_closes (to.Area a))
after_format_closes format.Group = closes_then _ _ identity_good (λ m _ _. addressed_closes (to.Group m))
after_format_closes format.One = closes_then _ _ identity_good (λ m _ _. addressed_one_closes m)
