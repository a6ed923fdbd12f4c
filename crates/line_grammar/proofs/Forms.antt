-- texts that are written of the parts of a section and are read by its grammar
use Rattle.std.proofs.Common.{◌≡◌, ℕ, ◌+◌, ◌-◌, ◌≤◌, true, List, length, Result, Ok, Err, sym, ◌∙◌, ap, subst, arith}
use Rattle.line_grammar.specs.Columns.{ReadsAs, IsColumn}
use Rattle.line_grammar.specs.Grammar.{Grammar, Parts, Spells, written}
use Rattle.line_grammar.specs.inside.Reading.{read}
use Rattle.line_grammar.specs.inside.Soundness.{is_sound, is_unambiguous}
use Rattle.line_grammar.proofs.Stops.{Reads, Stops, IsAlike, Stops-alike, left_le, IsColumn-stops}
use Rattle.line_grammar.proofs.Grammars.{reads}
use Rattle.line_grammar.proofs.Written.{tells_all, written_spells, spelled_parts, one_line, written_is_read}
use Rattle.line_grammar.proofs.Sections.{Form}

-- the values of a section to the end have these texts, and its grammar distinguishes them
pub record Texts {V : Type 0} (G : Grammar) (Lawful : V → Type 0) (parts : V → Parts) (text : V → List ℕ) : Type 0 where
  pub form : Form G Lawful parts
  pub sound : is_sound G ≡ true
  pub plain : is_unambiguous G ≡ true
  pub all : tells_all G ≡ true
  pub text_is : (v : V) → Lawful v → text v ≡ written G (parts v)

-- the bytes are the text of a lawful value
abbrev pub IsText : {V : Type 0} (Lawful : V → Type 0) (text : V → List ℕ) → V → List ℕ → Type 0
IsText Lawful text v bytes = Lawful v × (bytes ≡ text v)

-- a text is read as the parts of its value
text_parts : {V : Type 0} {G : Grammar} {Lawful : V → Type 0} {parts : V → Parts} {text : V → List ℕ} → Texts G Lawful parts text
    → (v : V) → Lawful v → read G (text v) ≡ Ok (parts v)
text_parts {G = G} {parts = parts} t v h = ap (read G) (t.text_is v h) ∙ written_is_read G (parts v) t.sound t.plain (t.form.is v h)

ok_is : (p q : Parts) (r : Result Parts ℕ) → r ≡ Ok p → r ≡ Ok q → p ≡ q
ok_is p q r e f = cc

-- two values have two texts
pub one_value : {V : Type 0} {G : Grammar} {Lawful : V → Type 0} {parts : V → Parts} {text : V → List ℕ} → Texts G Lawful parts text
    → (u v : V) → Lawful u → Lawful v → text u ≡ text v → u ≡ v
one_value {G = G} {parts = parts} {text = text} t u v h k e =
    t.form.one u v h k (ok_is (parts u) (parts v) (read G (text u)) (text_parts t u h) (ap (read G) e ∙ text_parts t v k))

-- the lines of the grammar are these texts
pub texts_alike : {V : Type 0} {G : Grammar} {Lawful : V → Type 0} {parts : V → Parts} {text : V → List ℕ} → Texts G Lawful parts text → IsAlike (Spells G) (IsText Lawful text)
texts_alike {G = G} {parts = parts} {text = text} t = record {
  to = λ p bytes h.
      let all = spelled_parts G p bytes t.all h in
      let v = t.form.of p all.0 in
      (v.0, (v.1, all.1 ∙ ap (written G) v.2 ∙ sym (t.text_is v.0 v.1)));
  back = λ v bytes h. (parts v, subst (Spells G (parts v)) (sym (h.1 ∙ t.text_is v h.0)) (written_spells G (parts v) (t.form.is v h.0)));
}

-- what was read is a value's text, and no other value has it
pub text_read : {V : Type 0} {G : Grammar} {Lawful : V → Type 0} {parts : V → Parts} {text : V → List ℕ} → Texts G Lawful parts text
    → (v : V) (bytes : List ℕ) → Lawful v → read G bytes ≡ Ok (parts v) → IsText Lawful text v bytes × ((u : V) → IsText Lawful text u bytes → u ≡ v)
text_read {G = G} {parts = parts} t v bytes h e =
    let spelled : Spells G (parts v) bytes = subst (λ (r : Result Parts ℕ). Reads (Spells G) bytes r) e (reads G bytes t.sound) in
    let whole = one_line G (parts v) bytes (t.form.is v h) spelled ∙ sym (t.text_is v h) in
    ((h, whole), λ u k. one_value t u v k.0 h (sym k.1 ∙ whole))

-- where the bytes are no text, they leave the texts where the reader says
text_stops : {V : Type 0} {G : Grammar} {Lawful : V → Type 0} {parts : V → Parts} {text : V → List ℕ} → Texts G Lawful parts text
    → (bytes : List ℕ) (left : ℕ) → read G bytes ≡ Err left → Stops (IsText Lawful text) bytes left
text_stops {G = G} {Lawful = Lawful} {text = text} t bytes left e =
    Stops-alike (Spells G) (IsText Lawful text) bytes left (texts_alike t) (subst (λ (r : Result Parts ℕ). Reads (Spells G) bytes r) e (reads G bytes t.sound))

-- no more bytes are left than the text has
pub text_left : {V : Type 0} {G : Grammar} {Lawful : V → Type 0} {parts : V → Parts} {text : V → List ℕ} → Texts G Lawful parts text
    → (bytes : List ℕ) (left : ℕ) → read G bytes ≡ Err left → left ≤ length bytes
text_left {Lawful = Lawful} {text = text} t bytes left e = left_le (IsText Lawful text) bytes left (text_stops t bytes left e)

-- where the reading stops is the column of the fault
pub text_column : {V : Type 0} {G : Grammar} {Lawful : V → Type 0} {parts : V → Parts} {text : V → List ℕ} → Texts G Lawful parts text
    → (bytes : List ℕ) (left : ℕ) → read G bytes ≡ Err left → IsColumn (IsText Lawful text) bytes (length bytes + 1 - left)
text_column {Lawful = Lawful} {text = text} t bytes left e =
    IsColumn-stops (IsText Lawful text) bytes left (length bytes + 1 - left) (text_stops t bytes left e) (omega (arith, text_left t bytes left e))

-- a column is the number that its place is counted to
pub column_is : {W : Type 0} (L : W → List ℕ → Type 0) (bytes : List ℕ) (left n : ℕ) → n + left ≡ length bytes + 1 → IsColumn L bytes (length bytes + 1 - left) → IsColumn L bytes n
column_is L bytes left n e h = subst (IsColumn L bytes) (omega (arith, e)) h

-- of a text, reading answers nothing but its value
pub answered : {V : Type 0} (Lawful : V → Type 0) (text : V → List ℕ) (v : V) (answer : Result V ℕ) → Lawful v → ReadsAs (IsText Lawful text) (text v) answer → answer ≡ Ok v
answered Lawful text v answer h k = grind arith
