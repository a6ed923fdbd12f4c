-- the law of fields that are letters
use Rattle.std.proofs.Common.{◌≡◌, ℕ, Bool, true, false, not, nat_eq, List, [], ◌∷◌, get_or, refl, sym, ◌∙◌, ap, inl, inr, codes, arith}
use Rattle.std.proofs.lemmas.Bool.{or_cases, eqb-true, false≢true}
use Rattle.call_values.specs.declared.choices.End.{End}
use Rattle.call_values.specs.declared.choices.End.TheVariants.{Ask, Reply, Plain}
use Rattle.sentence_frame.specs.Shapes.{accepts, letter, maybe, is_among, is_nothing}
use Rattle.sentence_frame.proofs.FieldLaws.{IsKind, letter_text}
use Rattle.dsc_sentences.specs.Dsc.{end_text, expanded_text}
use Rattle.dsc_sentences.specs.inside.DscReading.{end_in}

end_shown : (e : End) → accepts (letter (codes "RBS")) (end_text e) ≡ true
unfolding accepts
end_shown Ask = refl
end_shown Reply = refl
end_shown Plain = refl

end_back : (e : End) → end_in (end_text e) ≡ e
end_back e = grind arith

end_letter : (b : ℕ) → is_among (codes "RBS") b ≡ true → end_text (end_in (b ∷ [])) ≡ b ∷ []
end_letter b h = grind arith

-- the end of sequence is a letter, written and read back
pub end_kind : IsKind (letter (codes "RBS")) end_text end_in (λ e. Unit {0})
end_kind = record {
  shown = λ e h. end_shown e;
  back = λ e h. end_back e;
  fits = λ t h. tt;
  again = λ t h.
      let k = letter_text (codes "RBS") t h in
      ap (λ (l : List ℕ). end_text (end_in l)) k.0 ∙ end_letter (get_or t 0 0) k.1 ∙ sym k.0;
}

-- whether a letter is there
abbrev pub is_there : List ℕ → Bool
is_there t = not (is_nothing t)

mark_shown : (b : Bool) → accepts (maybe (letter (codes "E"))) (expanded_text b) ≡ true
unfolding accepts
mark_shown true = refl
mark_shown false = refl

mark_back : (b : Bool) → is_there (expanded_text b) ≡ b
mark_back b = grind arith

mark_again : (t : List ℕ) → accepts (maybe (letter (codes "E"))) t ≡ true → expanded_text (is_there t) ≡ t
unfolding accepts
mark_again [] h = refl
mark_again (b ∷ t) h =
    let k = letter_text (codes "E") (b ∷ t) h in
    elim (or_cases (nat_eq 69 b) false k.1) [
      | inl here ↦ ap (λ (c : ℕ). c ∷ []) (eqb-true 69 b here) ∙ sym k.0
      | inr none ↦ absurd (false≢true none)
    ]

-- the mark of an expansion is a letter or nothing, written and read back
pub mark_kind : IsKind (maybe (letter (codes "E"))) expanded_text is_there (λ b. Unit {0})
mark_kind = record {
  shown = λ b h. mark_shown b;
  back = λ b h. mark_back b;
  fits = λ t h. tt;
  again = mark_again;
}
