use Rattle.std.proofs.Common.{ℕ, ◌-◌, subst}
use Rattle.ten_unit.specs.inside.Marks.{IsMarks}
use Rattle.ten_unit.specs.Word.{word_of}
use Rattle.dsc_symbols.specs.declared.phasing.TheConstants.{RX_7}
use Rattle.phasing.specs.inside.Places.{is_at}
use Rattle.phasing.proofs.BitTests.{eight}
use Rattle.phasing.proofs.marking.phasing_marked.Goals as goal

pub returns : goal.returns
returns c = λ base e here next.
    let marks : ℕ → ℕ → Type 0 = λ k w. IsMarks w base (is_at e (word_of (RX_7 - k))) in
    record {
      dx = subst (λ w. IsMarks c.word_marked.result base (is_at e w)) c.word.ensures (c.word_marked.ensures base e here next);
      rx =
          eight marks _ _ _ _ _ _ _ _
          (subst (λ w. IsMarks c.word_marked-2.result base (is_at e w)) c.word-2.ensures (c.word_marked-2.ensures base e here next))
          (subst (λ w. IsMarks c.word_marked-3.result base (is_at e w)) c.word-3.ensures (c.word_marked-3.ensures base e here next))
          (subst (λ w. IsMarks c.word_marked-4.result base (is_at e w)) c.word-4.ensures (c.word_marked-4.ensures base e here next))
          (subst (λ w. IsMarks c.word_marked-5.result base (is_at e w)) c.word-5.ensures (c.word_marked-5.ensures base e here next))
          (subst (λ w. IsMarks c.word_marked-6.result base (is_at e w)) c.word-6.ensures (c.word_marked-6.ensures base e here next))
          (subst (λ w. IsMarks c.word_marked-7.result base (is_at e w)) c.word-7.ensures (c.word_marked-7.ensures base e here next))
          (subst (λ w. IsMarks c.word_marked-8.result base (is_at e w)) c.word-8.ensures (c.word_marked-8.ensures base e here next))
          (subst (λ w. IsMarks c.word_marked-9.result base (is_at e w)) c.word-9.ensures (c.word_marked-9.ensures base e here next));
    }
