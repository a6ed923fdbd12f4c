-- lines without a fault
use Rattle.std.proofs.Common.{◌≡◌, ℕ, ◌<◌, ◌≤◌, List, [], ◌∷◌, ◌++◌, length, refl, sym, ◌∙◌, ap, subst, arith, append-nil, ◌⊎◌, inl, inr}
use Rattle.std.proofs.lemmas.List.{length_push}
use Rattle.line_engine.specs.declared.faults.Fault.{Fault}
use Rattle.line_engine.specs.Lines.{Lines, lines_of}
use Rattle.line_engine.specs.Meaning.{Meaning}
use Rattle.line_engine.specs.Faults.{IsFault, IsFaultless}
use Rattle.line_engine.specs.Commands.{IsTakenBehind}
use Rattle.line_engine.specs.inside.Progress.{TakesLines}

-- there is no line in an empty list
pub never_empty : (earlier : Lines) (line : List ℕ) (later : Lines) → [] ≡ earlier ++ line ∷ later → ⊥
never_empty [] line later e = absurd (cc)
never_empty (x ∷ earlier) line later e = absurd (cc)

-- no lines have no fault
pub none_yet : (meaning : Meaning) → IsFaultless meaning []
none_yet meaning = record { none = λ earlier line later fault e f. never_empty earlier line later e }

-- a line of a list with one more is the last one, or of the list
split_push : (lines : Lines) (last : List ℕ) (earlier : Lines) (line : List ℕ) (later : Lines) → lines ++ last ∷ [] ≡ earlier ++ line ∷ later
    → ((rest : Lines) × (lines ≡ earlier ++ line ∷ rest)) ⊎ ((lines ≡ earlier) × (last ≡ line))
split_push [] last [] line later e = inr (refl, cc)
split_push [] last (x ∷ earlier) line later e = let none : [] ≡ earlier ++ line ∷ later = cc in absurd (never_empty earlier line later none)
split_push (x ∷ lines) last [] line later e = let same : x ≡ line = cc in inl (lines, ap (λ (l : List ℕ). l ∷ lines) same)
split_push (x ∷ lines) last (y ∷ earlier) line later e =
    let same : x ≡ y = cc in
    let rest : lines ++ last ∷ [] ≡ earlier ++ line ∷ later = cc in
    elim (split_push lines last earlier line later rest) [
      | inl inside ↦ inl (inside.0, ap (λ (l : List ℕ). l ∷ lines) same ∙ ap (λ (l : Lines). y ∷ l) inside.1)
      | inr here ↦ inr (ap (λ (l : List ℕ). l ∷ lines) same ∙ ap (λ (l : Lines). y ∷ l) here.0, here.1)
    ]

pub one_more : (meaning : Meaning) (lines : Lines) (line : List ℕ) → ((fault : Fault) → IsFault meaning lines line fault → ⊥) → IsFaultless meaning lines → IsFaultless meaning (lines ++ line ∷ [])
one_more meaning lines last sound all = record {
  none = λ earlier line later fault e f. elim (split_push lines last earlier line later e) [
    | inl inside ↦ all.none earlier line inside.0 fault inside.1 f
    | inr here ↦
        sound fault (subst (λ (l : Lines). IsFault meaning l last fault) (sym here.0) (subst (λ (t : List ℕ). IsFault meaning earlier t fault) (sym here.1) f))
  ];
}

-- a line that is taken within the limits has no fault
pub sound_line : (meaning : Meaning) (lines : Lines) (line : List ℕ) → IsTakenBehind meaning lines line → length lines < 65536 → length line ≤ 4200 → (fault : Fault) → IsFault meaning lines line fault → ⊥
sound_line meaning lines line is few short fault h = grind arith

pub takes_line : {Command : Type 0} {meaning : Meaning} {stands_for : Command → Lines → List ℕ → Type 0} {lines : Lines} {line : List ℕ} {new : Command} {text : List ℕ}
    → length lines < 65536 → length line ≤ 4200 → IsTakenBehind meaning lines line → stands_for new (lines ++ line ∷ []) text → TakesLines meaning stands_for lines (line ∷ []) new text
takes_line {meaning = meaning} {lines = lines} {line = line} few short is stands = record {
  few = omega (arith, length_push lines line);
  faultless = one_more meaning lines line (sound_line meaning lines line is few short);
  stands = stands;
}

-- no line more
pub takes_none : {Command : Type 0} {meaning : Meaning} {stands_for : Command → Lines → List ℕ → Type 0} {lines : Lines} {command : Command} {text : List ℕ} (more : Lines)
    → more ≡ [] → length lines ≤ 65536 → stands_for command lines text → TakesLines meaning stands_for lines more command text
takes_none {meaning = meaning} {stands_for = stands_for} {lines = lines} {command = command} {text = text} more e few stands =
    let same : lines ≡ lines ++ more = sym (append-nil lines) ∙ ap (λ (l : Lines). lines ++ l) (sym e) in
    record {
      few = subst (λ (l : Lines). length l ≤ 65536) same few;
      faultless = λ none. subst (λ (l : Lines). IsFaultless meaning l) same none;
      stands = subst (λ (l : Lines). stands_for command l text) same stands;
    }

-- the last line
pub takes_last : {Command : Type 0} {meaning : Meaning} {stands_for : Command → Lines → List ℕ → Type 0} {new : Command} {count : ℕ} (old : Command) (rest before after : List ℕ) → lines_of rest ≡ rest ∷ []
    → ((lines : Lines) (text : List ℕ) → stands_for old lines (text ++ before) → count ≡ length lines → TakesLines meaning stands_for lines (rest ∷ []) new (text ++ after))
    → (lines : Lines) (text : List ℕ) → stands_for old lines (text ++ before) → count ≡ length lines → TakesLines meaning stands_for lines (lines_of rest) new (text ++ after)
takes_last old rest before after e h lines text stands n = grind arith
