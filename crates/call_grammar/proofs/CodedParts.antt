-- Values of one symbol each.
use Rattle.std.proofs.Common.{◌≡◌, ℕ, zero, suc, ◌==◌, if◌then◌else◌, Bool, List, ◌∷◌, Option, Some, None, refl, ap, ◌∙◌, arith}
use Rattle.std.proofs.lemmas.Bool.Decides.{nat_tests}
use Rattle.symbol_reader.specs.declared.letters.Letter.TheVariants as letter
use Rattle.symbol_reader.specs.Letters.{Allows}
use Rattle.symbol_reader.proofs.Laws.{Good, alike_good, then_good, only_good}
use Rattle.symbol_reader.proofs.Steps.{letter_good, Coded, coded_good, one_then, joined}
use Rattle.call_values.specs.declared.choices.Category.{Category}
use Rattle.call_values.specs.declared.choices.Category.TheVariants.{Routine, Safety, Urgency}
use Rattle.call_values.specs.declared.choices.End.{End}
use Rattle.call_values.specs.declared.choices.End.TheVariants.{Ask, Reply, Plain}
use Rattle.call_values.specs.declared.parts.To.{To}
use Rattle.dsc_symbols.specs.Telecommands.{IsFirst, IsSecond}
use Rattle.dsc_symbols.specs.declared.formats.TheConstants.{ALL_SHIPS, AREA, GROUP}
use Rattle.dsc_symbols.specs.declared.categories.TheConstants.{ROUTINE, SAFETY}
use Rattle.dsc_symbols.specs.declared.ends.TheConstants.{ACKNOWLEDGE_BQ, ACKNOWLEDGE_RQ}
use Rattle.dsc_symbols.specs.declared.messages.TheConstants.{NO_INFORMATION}
use Rattle.dsc_symbols.specs.declared.telecommands.TheConstants.{DISTRESS_ACKNOWLEDGEMENT, SHIP_POSITION, TEST}
use Rattle.dsc_symbols.specs.declared.formats.TheConstants as formats
use Rattle.dsc_symbols.specs.declared.categories.TheConstants as categories
use Rattle.call_grammar.specs.declared.symbols.Specifier.{Specifier}
use Rattle.call_grammar.specs.declared.symbols.Specifier.TheVariants as format
use Rattle.call_grammar.specs.declared.symbols.Telecommand.{Telecommand}
use Rattle.call_grammar.specs.declared.symbols.Telecommand.TheVariants as telecommand
use Rattle.call_grammar.specs.Spelling.{end_symbol, blanks}
use Rattle.call_grammar.specs.inside.Grammar.{Firsts, Seconds, Blanks}
use Rattle.call_grammar.specs.inside.Forms.{format_symbol, Formats, category_or_distress, Categories, Endings, Eithers, distress_telecommand_letter, IsDistressTelecommand, distress_telecommand_symbol, DistressTelecommands, telecommand_symbol, IsTelecommand, Telecommands}
use Rattle.call_grammar.proofs.SymbolParts.{symbol_alike}

abbrev pub format_of_symbol : ℕ → Specifier
format_of_symbol x =
    if x == formats.DISTRESS then format.Alert else (if x == ALL_SHIPS then format.All else (if x == AREA then format.Area else
    (if x == GROUP then format.Group else format.One)))

pub format_there : (x : ℕ) → Allows letter.Format x → format_symbol (format_of_symbol x) ≡ x
format_there x h = grind (arith, nat_tests)

pub format_coded : Coded (Allows letter.Format) (λ _. Unit {0}) format_symbol
format_coded = record { told = format_of_symbol; allowed = λ v _. grind arith; is_lawful = λ _ _. tt; there = format_there; back = λ v _. grind arith }

-- a format specifier reads back
pub formats_good : Good Formats
formats_good = coded_good (letter_good letter.Format) format_coded

abbrev category_of_symbol : ℕ → Option Category
category_of_symbol x = if x == categories.DISTRESS then None else (if x == ROUTINE then Some Routine else (if x == SAFETY then Some Safety else Some Urgency))

pub category_coded : Coded (Allows letter.Category) (λ _. Unit {0}) category_or_distress
category_coded = record { told = category_of_symbol; allowed = λ v _. grind arith; is_lawful = λ _ _. tt; there = λ x h. grind (arith, nat_tests); back = λ v _. grind arith }

-- a category reads back
pub categories_good : Good Categories
categories_good = coded_good (letter_good letter.Category) category_coded

abbrev end_of_symbol : ℕ → End
end_of_symbol x = if x == ACKNOWLEDGE_RQ then Ask else (if x == ACKNOWLEDGE_BQ then Reply else Plain)

pub end_coded : Coded (Allows letter.End) (λ _. Unit {0}) end_symbol
end_coded = record { told = end_of_symbol; allowed = λ v _. grind arith; is_lawful = λ _ _. tt; there = λ x h. grind (arith, nat_tests); back = λ v _. grind arith }

-- an end of sequence reads back
pub endings_good : Good Endings
endings_good = coded_good (letter_good letter.End) end_coded

abbrev pub either_symbol : ℕ → ℕ → Bool → ℕ
either_symbol one other is_one = if is_one then one else other

pub either_there : (one other x : ℕ) → Allows (letter.Either one other) x → (one ≡ other → ⊥) → either_symbol one other (x == one) ≡ x
either_there one other x h differ = grind (arith, nat_tests)

pub either_coded : (one other : ℕ) → (one ≡ other → ⊥) → Coded (Allows (letter.Either one other)) (λ _. Unit {0}) (either_symbol one other)
either_coded one other differ = record {
  told = λ x. x == one;
  allowed = λ v _. grind (arith, nat_tests);
  is_lawful = λ _ _. tt;
  there = λ x h. either_there one other x h differ;
  back = λ v _. grind (arith, nat_tests);
}

-- one of two different symbols reads back
pub eithers_good : (one other : ℕ) → (one ≡ other → ⊥) → Good (Eithers one other)
eithers_good one other differ = coded_good (letter_good (letter.Either one other)) (either_coded one other differ)

pub distress_telecommand_lawful : (t : To) (x : ℕ) → Allows (distress_telecommand_letter t) x → IsDistressTelecommand t (x == DISTRESS_ACKNOWLEDGEMENT)
distress_telecommand_lawful t x h = grind (arith, nat_tests)

pub distress_telecommand_there : (t : To) (x : ℕ) → Allows (distress_telecommand_letter t) x → distress_telecommand_symbol (x == DISTRESS_ACKNOWLEDGEMENT) ≡ x
distress_telecommand_there t x h = grind (arith, nat_tests)

pub distress_telecommand_coded : (t : To) → Coded (Allows (distress_telecommand_letter t)) (IsDistressTelecommand t) distress_telecommand_symbol
distress_telecommand_coded t = record {
  told = λ x. x == DISTRESS_ACKNOWLEDGEMENT;
  allowed = λ v h. grind arith;
  is_lawful = distress_telecommand_lawful t;
  there = distress_telecommand_there t;
  back = λ v _. grind arith;
}

-- the telecommand of a distress call reads back
pub distress_telecommands_good : (t : To) → Good (DistressTelecommands t)
distress_telecommands_good t = coded_good (letter_good (distress_telecommand_letter t)) (distress_telecommand_coded t)

abbrev telecommand_of_symbol : ℕ → Telecommand
telecommand_of_symbol x = if x == TEST then telecommand.Test else (if x == SHIP_POSITION then telecommand.Position else telecommand.Request x)

pub telecommand_coded : Coded (Allows letter.FirstToOne) IsTelecommand telecommand_symbol
telecommand_coded = record {
  told = telecommand_of_symbol;
  allowed = λ v h. grind arith;
  is_lawful = λ x h. grind (arith, nat_tests);
  there = λ x h. grind (arith, nat_tests);
  back = λ v h. grind (arith, nat_tests);
}

-- a first telecommand of a call to one station reads back
pub telecommands_good : Good Telecommands
telecommands_good = coded_good (letter_good letter.FirstToOne) telecommand_coded

-- a first telecommand reads back
pub first_good : Good Firsts
first_good = alike_good _ _ (symbol_alike IsFirst) (letter_good letter.First)

-- a second telecommand reads back
pub second_good : Good Seconds
second_good = alike_good _ _ (symbol_alike IsSecond) (letter_good letter.Second)

-- so many characters of no information read back
pub blanks_good : (n : ℕ) → Good (Blanks n)
blanks_good zero = only_good tt
blanks_good (suc n) = then_good _ _ (letter_good (letter.Exactly NO_INFORMATION)) (λ _ _ _. blanks_good n)

pub blanks_list : (n : ℕ) (v : Unit {0}) (word : List ℕ) → Blanks n v word → word ≡ blanks n
blanks_list zero v word p = p.list
blanks_list (suc n) v word p =
    let k : p.chosen ≡ NO_INFORMATION = p.before.allowed in
    joined p (blanks_list n v p.back p.after) ∙ ap (λ a. a ∷ blanks n) k

pub blanks_word : (n : ℕ) → Blanks n tt (blanks n)
blanks_word zero = record { value = refl; list = refl }
blanks_word (suc n) = one_then NO_INFORMATION refl (blanks_word n)
