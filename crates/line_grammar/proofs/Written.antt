-- lines that are written of their parts
use Rattle.std.proofs.Common.{◌≡◌, ℕ, Bool, true, false, ◌&&◌, List, ◌++◌, Result, Ok, refl, ◌∙◌, ap, arith}
use Rattle.std.proofs.lemmas.Bool.{and_parts}
use Rattle.line_grammar.specs.Columns.{ReadsAs, with_column}
use Rattle.line_grammar.specs.Grammar.{Grammar, finish, anything, word, field, either, Parts, none, part, first, second, Spells, AreParts, written}
use Rattle.line_grammar.specs.inside.Soundness.{is_sound, is_unambiguous}
use Rattle.line_grammar.specs.inside.Reading.{read}
use Rattle.line_grammar.proofs.Apart.{answers}

-- what was written is a line of its parts
pub written_spells : (G : Grammar) (parts : Parts) → AreParts G parts → Spells G parts (written G parts)
written_spells finish none h = refl
written_spells (word text rest) parts h = (written rest parts, refl, written_spells rest parts h)
written_spells (field token rest) (part front parts) h = (h.0, (written rest parts, refl, written_spells rest parts h.1))
written_spells (either left right) (first parts) h = written_spells left parts h
written_spells (either left right) (second parts) h = written_spells right parts h
written_spells finish (part a b) h = absurd h
written_spells finish (first a) h = absurd h
written_spells finish (second a) h = absurd h
written_spells anything parts h = absurd h
written_spells (field token rest) none h = absurd h
written_spells (field token rest) (first a) h = absurd h
written_spells (field token rest) (second a) h = absurd h
written_spells (either left right) none h = absurd h
written_spells (either left right) (part a b) h = absurd h

-- a test of grammars: whether they determine each byte of a line
abbrev pub tells_all : Grammar → Bool
tells_all finish = true
tells_all anything = false
tells_all (word text rest) = tells_all rest
tells_all (field token rest) = tells_all rest
tells_all (either left right) = tells_all left && tells_all right

-- the parts of a line of such a grammar are those of which it is written
pub spelled_parts : (G : Grammar) (parts : Parts) (bytes : List ℕ) → tells_all G ≡ true → Spells G parts bytes → AreParts G parts × (bytes ≡ written G parts)
spelled_parts finish none bytes all h = (tt, h)
spelled_parts anything parts bytes all h = absurd (cc)
spelled_parts (word text rest) parts bytes all h =
    let k = spelled_parts rest parts h.0 all h.2 in
    (k.0, h.1 ∙ ap (λ (l : List ℕ). text ++ l) k.1)
spelled_parts (field token rest) (part front parts) bytes all h =
    let k = spelled_parts rest parts h.1.0 all h.1.2 in
    ((h.0, k.0), h.1.1 ∙ ap (λ (l : List ℕ). front ++ l) k.1)
spelled_parts (either left right) (first parts) bytes all h = spelled_parts left parts bytes (and_parts (tells_all left) (tells_all right) all).0 h
spelled_parts (either left right) (second parts) bytes all h = spelled_parts right parts bytes (and_parts (tells_all left) (tells_all right) all).1 h
spelled_parts finish (part a b) bytes all h = absurd h
spelled_parts finish (first a) bytes all h = absurd h
spelled_parts finish (second a) bytes all h = absurd h
spelled_parts (field token rest) none bytes all h = absurd h
spelled_parts (field token rest) (first a) bytes all h = absurd h
spelled_parts (field token rest) (second a) bytes all h = absurd h
spelled_parts (either left right) none bytes all h = absurd h
spelled_parts (either left right) (part a b) bytes all h = absurd h

-- a line of parts that were written is what was written
pub one_line : (G : Grammar) (parts : Parts) (bytes : List ℕ) → AreParts G parts → Spells G parts bytes → bytes ≡ written G parts
one_line finish none bytes h k = k
one_line (word text rest) parts bytes h k = k.1 ∙ ap (λ (l : List ℕ). text ++ l) (one_line rest parts k.0 h k.2)
one_line (field token rest) (part front parts) bytes h k = k.1.1 ∙ ap (λ (l : List ℕ). front ++ l) (one_line rest parts k.1.0 h.1 k.1.2)
one_line (either left right) (first parts) bytes h k = one_line left parts bytes h k
one_line (either left right) (second parts) bytes h k = one_line right parts bytes h k
one_line anything parts bytes h k = absurd h
one_line finish (part a b) bytes h k = absurd h
one_line finish (first a) bytes h k = absurd h
one_line finish (second a) bytes h k = absurd h
one_line (field token rest) none bytes h k = absurd h
one_line (field token rest) (first a) bytes h k = absurd h
one_line (field token rest) (second a) bytes h k = absurd h
one_line (either left right) none bytes h k = absurd h
one_line (either left right) (part a b) bytes h k = absurd h

-- such a line is read back
read_back : (G : Grammar) (parts : Parts) (bytes : List ℕ) (r : Result Parts ℕ) → Spells G parts bytes → ReadsAs (Spells G) bytes (with_column bytes r) → r ≡ Ok parts
read_back G parts bytes r h k = grind arith

-- what a grammar writes it reads again
pub written_is_read : (G : Grammar) (parts : Parts) → is_sound G ≡ true → is_unambiguous G ≡ true → AreParts G parts → read G (written G parts) ≡ Ok parts
written_is_read G parts sound plain h =
    let line = written G parts in
    read_back G parts line (read G line) (written_spells G parts h) (answers G line sound plain)
