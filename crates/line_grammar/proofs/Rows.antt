-- the readers of rows, and what they answer of whole lines
use Rattle.std.proofs.Common.{◌≡◌, ℕ, true, false, List, ◌++◌, Result, Ok, Err, is_ok, IfOk, IsErrAnd, refl, sym, ◌∙◌, ap, subst, arith}
use Rattle.line_grammar.specs.Grammar.{Grammar, finish, word, field, either, Parts, none, part, first, second, Spells, written}
use Rattle.line_grammar.specs.Rows.{IsWritten, ReadsRow, FindsRow, ReadsWhole, ReadsAmong}
use Rattle.line_grammar.specs.Sections.{last, ReadsForm, FindsForm, ReadsTail}
use Rattle.line_grammar.specs.Tokens.{Token}
use Rattle.line_grammar.specs.inside.Reading.{ended, read_token, and_part, further, read}
use Rattle.line_grammar.specs.inside.Soundness.{is_sound, is_unambiguous}
use Rattle.line_grammar.proofs.Forms.{Texts, one_value, text_read, texts_alike}
use Rattle.line_grammar.proofs.Grammars.{reads}
use Rattle.line_grammar.proofs.Fronts.{IsMissed, is_first, not_first, fault_misses, rows_after, are_ruled_out, later}
use Rattle.line_grammar.proofs.Judged.{HasGrammar, of_alike, of_texts}
use Rattle.line_grammar.proofs.Sections.{Section, closed, renamed}
use Rattle.line_grammar.proofs.SectionSteps.{IsRead, IsLeft, either_form, first_form, whole, no_tail}
use Rattle.line_grammar.proofs.Stops.{Reads, Stops, IsAlike, Stops-alike, left_le, IsColumn-stops}
use Rattle.line_grammar.proofs.Written.{tells_all}

-- one of two rows
abbrev pub or : (G H : Grammar → Grammar) → Grammar → Grammar
or G H rest = either (G rest) (H rest)

-- a section under other names of its values: a name is a value with the same parts and within its ranges, and each value
-- has its name
pub under : {V W : Type 0} {G : Grammar → Grammar} {P : W → Type 0} {Q : V → Type 0} {f : W → Parts → Parts} {g : V → Parts → Parts} → Section G P f
    → (value_of : (w : W) → (v : V) × ((q : Parts) → g v q ≡ f w q) × (P w → Q v)) → ((v : V) → (w : W) × ((value_of w).0 ≡ v) × (Q v → P w)) → Section G Q g
under {V = V} {g = g} s value_of name_of =
    renamed s (λ v. (name_of v).0) (λ w. (value_of w).0) (λ v. (name_of v).2) (λ w. (value_of w).2) (λ v h. (name_of v).1)
    (λ v h q. ap (λ (u : V). g u q) (sym (name_of v).1) ∙ (value_of (name_of v).0).1 q) (λ w h q. (value_of w).1 q)

-- a token that was read, and one that was missed
pub field_read : (token : Token) (old front mid : List ℕ) → read_token token old ≡ Ok (front, mid) → IsRead (field token) (part front) old mid
unfolding read
field_read token old front mid h rest = ap (λ (r : Result (List ℕ × List ℕ) ℕ). and_part r (read rest)) h

pub field_left : (token : Token) (old : List ℕ) (left : ℕ) → read_token token old ≡ Err left → IsLeft (field token) old left
unfolding read
field_left token old left h rest = ap (λ (r : Result (List ℕ × List ℕ) ℕ). and_part r (read rest)) h

-- the end of a line
pub ends : (bytes : List ℕ) → ended bytes ≡ Ok none → read finish bytes ≡ Ok none
unfolding read
ends bytes h = h

pub goes_on : (bytes : List ℕ) (left : ℕ) → ended bytes ≡ Err left → read finish bytes ≡ Err left
unfolding read
goes_on bytes left h = h

-- the exit of ? from what goes to the end of a line, and from a row
pub leaves_tail : {V : Type 0} (G : Grammar) (parts : V → Parts) (old bytes : List ℕ) (r : Result V ℕ) (left : ℕ) → old ≡ bytes → IsErrAnd r (λ y. y ≡ left) → read G old ≡ Err left
    → ReadsTail G parts bytes r
leaves_tail G parts old bytes r left s h k = grind arith

module _ {V : Type 0} (place : Parts → Parts) (Lawful : V → Type 0) (parts : V → Parts → Parts) where
  pub leaves_row : (rows : Grammar → Grammar) (old bytes : List ℕ) (r : Result V ℕ) (left : ℕ) → old ≡ bytes → IsErrAnd r (λ y. y ≡ left) → read (rows finish) old ≡ Err left
      → ReadsRow rows place Lawful parts bytes r
  leaves_row rows old bytes (Ok v) left s h k = absurd h
  leaves_row rows old bytes (Err n) left s h k = ap (read (rows finish)) (sym s) ∙ k ∙ ap (λ (m : ℕ). Err m) (sym h)

  form_of : (rows : Grammar → Grammar) (at : Parts → Parts) (bytes : List ℕ) (r : Result V ℕ) → ReadsRow rows at Lawful parts bytes r → ReadsForm (rows finish) at (λ v. parts v none) bytes r
  form_of rows at bytes (Ok v) h = h.1
  form_of rows at bytes (Err left) h = h

  -- a word that stands for a value
  pub word_row : (text : List ℕ) (value : V) (bytes : List ℕ) (r : Result V ℕ) → IfOk r (λ found. found ≡ value) → ReadsTail (word text finish) (λ _. none) bytes r → Lawful value
      → parts value none ≡ place none → ReadsRow (word text) place Lawful parts bytes r
  word_row text value bytes (Ok v) same h lawful at = (subst Lawful (sym same) lawful, (none, h, ap (λ (u : V). parts u none) same ∙ at))
  word_row text value bytes (Err left) same h lawful at = h

  -- the further of two rows
  both_rows : (G H : Grammar → Grammar) (bytes : List ℕ) (r s : Result V ℕ) → ReadsRow G (λ p. place (first p)) Lawful parts bytes r → ReadsRow H (λ p. place (second p)) Lawful parts bytes s
      → ReadsForm (either (G finish) (H finish)) place (λ v. parts v none) bytes (further r s) → ReadsRow (or G H) place Lawful parts bytes (further r s)
  both_rows G H bytes (Ok v) s h k f = (h.0, f)
  both_rows G H bytes (Err m) (Ok v) h k f = (k.0, f)
  both_rows G H bytes (Err m) (Err n) h k f = f

  pub further_row : (G H : Grammar → Grammar) (bytes : List ℕ) (answer r s : Result V ℕ) → answer ≡ further r s → ReadsRow G (λ p. place (first p)) Lawful parts bytes r
      → ReadsRow H (λ p. place (second p)) Lawful parts bytes s → ReadsRow (or G H) place Lawful parts bytes answer
  further_row G H bytes answer r s e h k =
      subst (ReadsRow (or G H) place Lawful parts bytes) (sym e)
      (both_rows G H bytes r s h k
      (either_form (G finish) (H finish) place (λ v. parts v none) bytes r s (form_of G (λ p. place (first p)) bytes r h) (form_of H (λ p. place (second p)) bytes s k)))

  -- a section was read, and rows after it were read or missed
  pub after_row : (G H : Grammar → Grammar) (f : Parts → Parts) (old bytes mid at : List ℕ) (own : Parts) (v : V) → old ≡ bytes → IsRead G f old mid → at ≡ mid → read (H finish) at ≡ Ok own → Lawful v
      → parts v none ≡ place (f own) → ReadsRow (λ rest. G (H rest)) place Lawful parts bytes (Ok v)
  after_row G H f old bytes mid at own v s h k e lawful same =
      (lawful, (f own, ap (read (G (H finish))) (sym s) ∙ whole G (H finish) f old mid at own h k e, same))

  pub leaves_after : (G H : Grammar → Grammar) (f : Parts → Parts) (old bytes mid at : List ℕ) (r : Result V ℕ) (left : ℕ) → old ≡ bytes → IsErrAnd r (λ y. y ≡ left) → IsRead G f old mid → at ≡ mid
      → read (H finish) at ≡ Err left → ReadsRow (λ rest. G (H rest)) place Lawful parts bytes r
  leaves_after G H f old bytes mid at r left s x h k e = leaves_row (λ rest. G (H rest)) old bytes r left s x (no_tail G (H finish) f old mid at left h k e)

  -- where the first was read, that is the answer
  pub first_row : (G H : Grammar → Grammar) (bytes : List ℕ) (r : Result V ℕ) → is_ok r ≡ true → ReadsRow G (λ p. place (first p)) Lawful parts bytes r
      → ReadsRow (or G H) place Lawful parts bytes r
  first_row G H bytes (Ok v) ok h = (h.0, first_form (G finish) (H finish) place (λ v. parts v none) bytes (Ok v) ok h.1)
  first_row G H bytes (Err left) ok h = absurd (cc)

  -- where the first wasn't read and the second was, the second is the answer
  pub second_row : (G H : Grammar → Grammar) (bytes : List ℕ) (r s : Result V ℕ) → is_ok r ≡ false → is_ok s ≡ true → ReadsRow G (λ p. place (first p)) Lawful parts bytes r
      → ReadsRow H (λ p. place (second p)) Lawful parts bytes s → ReadsRow (or G H) place Lawful parts bytes s
  second_row G H bytes (Ok v) s fails ok h k = absurd (cc)
  second_row G H bytes (Err m) (Ok v) fails ok h k = further_row G H bytes (Ok v) (Err m) (Ok v) refl h k
  second_row G H bytes (Err m) (Err n) fails ok h k = absurd (cc)

  -- a row that is found: the first one, one after a row that is missed, and one that was read
  pub row_found : (rows : Grammar → Grammar) (bytes : List ℕ) (r : Result V ℕ) → ReadsRow rows place Lawful parts bytes r → FindsRow rows place Lawful parts bytes r
  row_found rows bytes (Ok v) h = h
  row_found rows bytes (Err left) h = tt

  pub found_row : (rows : Grammar → Grammar) (bytes : List ℕ) (r : Result V ℕ) → is_ok r ≡ true → FindsRow rows place Lawful parts bytes r → ReadsRow rows place Lawful parts bytes r
  found_row rows bytes (Ok v) ok h = h
  found_row rows bytes (Err left) ok h = absurd (cc)

  pub first_found : (G H : Grammar → Grammar) (bytes : List ℕ) (r : Result V ℕ) → FindsRow G (λ p. place (first p)) Lawful parts bytes r → FindsRow (or G H) place Lawful parts bytes r
  first_found G H bytes (Ok v) h = (h.0, is_first (λ v. parts v none) bytes place (G finish) (H finish) (Ok v) h.1)
  first_found G H bytes (Err left) h = tt

  pub later_found : (G H : Grammar → Grammar) (bytes : List ℕ) (r : Result V ℕ) → IsMissed (G finish) bytes → FindsRow H (λ p. place (second p)) Lawful parts bytes r
      → FindsRow (or G H) place Lawful parts bytes r
  later_found G H bytes (Ok v) missed h = (h.0, not_first (λ v. parts v none) bytes place (G finish) (H finish) (Ok v) missed h.1)
  later_found G H bytes (Err left) missed h = tt

  pub row_misses : (rows : Grammar → Grammar) (bytes : List ℕ) (r : Result V ℕ) → is_ok r ≡ false → ReadsRow rows place Lawful parts bytes r → IsMissed (rows finish) bytes
  row_misses rows bytes r fails h = fault_misses (rows finish) place (λ v. parts v none) bytes r fails (form_of rows place bytes r h)

  -- a row that is found after so many that the front of the line rules out
  pub later_row : (n : ℕ) (front back bytes : List ℕ) (r : Result V ℕ) (G H : Grammar → Grammar) → bytes ≡ front ++ back → are_ruled_out n front (G finish) ≡ true → rows_after n (G finish) ≡ H finish
      → FindsRow H (λ p. place (last n p)) Lawful parts bytes r → FindsRow G place Lawful parts bytes r
  later_row n front back bytes (Ok v) G H e out same h =
      (h.0, later (λ v. parts v none) n front back bytes (Ok v) (G finish) place e out (subst (λ (K : Grammar). FindsForm K (λ p. place (last n p)) (λ v. parts v none) bytes (Ok v)) (sym same) h.1))
  later_row n front back bytes (Err left) G H e out same h = tt

-- rows that distinguish the values of a section, to the end of a line
pub record WholeRows {V : Type 0} (rows : Grammar → Grammar) (Lawful : V → Type 0) (parts : V → Parts → Parts) : Type 0 where
  pub section : Section rows Lawful parts
  pub sound : is_sound (rows finish) ≡ true
  pub plain : is_unambiguous (rows finish) ≡ true
  pub all : tells_all (rows finish) ≡ true

-- their texts
pub row_texts : {V : Type 0} {rows : Grammar → Grammar} {Lawful : V → Type 0} {parts : V → Parts → Parts} → WholeRows rows Lawful parts
    → Texts (rows finish) Lawful (λ v. parts v none) (λ v. written (rows finish) (parts v none))
row_texts w = record { form = closed w.section; sound = w.sound; plain = w.plain; all = w.all; text_is = λ v h. refl }

-- each text is that of one value
pub one_row : {V : Type 0} {rows : Grammar → Grammar} {Lawful : V → Type 0} {parts : V → Parts → Parts} → WholeRows rows Lawful parts
    → (u v : V) (text : List ℕ) → IsWritten rows Lawful parts u text → IsWritten rows Lawful parts v text → u ≡ v
one_row w u v text h k = one_value (row_texts w) u v h.0 k.0 (sym h.1 ∙ k.1)

-- where the bytes are no text, they leave the texts where the reader says
row_stops : {V : Type 0} {rows : Grammar → Grammar} {Lawful : V → Type 0} {parts : V → Parts → Parts} → WholeRows rows Lawful parts
    → (bytes : List ℕ) (left : ℕ) → read (rows finish) bytes ≡ Err left → Stops (IsWritten rows Lawful parts) bytes left
row_stops {rows = rows} {Lawful = Lawful} {parts = parts} w bytes left e =
    let G = rows finish in
    Stops-alike (Spells G) (IsWritten rows Lawful parts) bytes left (texts_alike (row_texts w)) (subst (λ (r : Result Parts ℕ). Reads (Spells G) bytes r) e (reads G bytes w.sound))

-- what was read is the text of its value, or the bytes leave the texts
pub row_read : {V : Type 0} {rows : Grammar → Grammar} {Lawful : V → Type 0} {parts : V → Parts → Parts} → WholeRows rows Lawful parts → (bytes : List ℕ) (r : Result V ℕ)
    → ReadsRow rows (λ p. p) Lawful parts bytes r → Reads (IsWritten rows Lawful parts) bytes r
row_read w bytes (Ok v) h = (text_read (row_texts w) v bytes h.0 (h.1.1 ∙ ap (λ (p : Parts). Ok p) (sym h.1.2))).0
row_read w bytes (Err left) h = row_stops w bytes left h

-- the lines of one language are those of another, under names
pub record IsAmong {V W : Type 0} (L : V → List ℕ → Type 0) (M : W → List ℕ → Type 0) (says : V → W) : Type 0 where
  pub to : (v : V) (bytes : List ℕ) → L v bytes → M (says v) bytes
  pub back : (w : W) (bytes : List ℕ) → M w bytes → (v : V) × L v bytes

among_alike : {V W : Type 0} (L : V → List ℕ → Type 0) (M : W → List ℕ → Type 0) (says : V → W) → IsAmong L M says → IsAlike L M
among_alike L M says among = record { to = λ v bytes h. (says v, among.to v bytes h); back = among.back }

-- what was read by rows that have the lines of the one, among the lines of the other
pub among_read : {V W : Type 0} {rows : Grammar → Grammar} {Lawful : V → Type 0} {parts : V → Parts → Parts} {M : W → List ℕ → Type 0} {says : V → W} → WholeRows rows Lawful parts
    → IsAmong (IsWritten rows Lawful parts) M says → (bytes : List ℕ) (r : Result V ℕ) → ReadsWhole rows Lawful parts bytes r → ReadsAmong M says bytes r
among_read w among bytes (Ok v) h = among.to v bytes (row_read w bytes (Ok v) h)
among_read {rows = rows} {Lawful = Lawful} {parts = parts} {M = M} {says = says} w among bytes (Err n) h =
    let L = IsWritten rows Lawful parts in
    let stops = row_stops w bytes h.0 h.2 in (
      omega (arith, h.1, left_le L bytes h.0 stops),
      IsColumn-stops M bytes h.0 n (Stops-alike L M bytes h.0 (among_alike L M says among) stops) h.1,
    )

-- such languages have a sound grammar
pub among_grammar : {V W : Type 0} {rows : Grammar → Grammar} {Lawful : V → Type 0} {parts : V → Parts → Parts} {M : W → List ℕ → Type 0} {says : V → W} → WholeRows rows Lawful parts
    → IsAmong (IsWritten rows Lawful parts) M says → HasGrammar M
among_grammar {rows = rows} {Lawful = Lawful} {parts = parts} {M = M} {says = says} w among =
    let L = IsWritten rows Lawful parts in
    of_alike L M (among_alike L M says among) (of_texts (row_texts w))
