use Rattle.std.proofs.Common.{ℕ, ◌+◌, ◌-◌, arith}
use Rattle.ten_unit.specs.inside.Marks.{IsMarks}
use Rattle.ten_unit.specs.Word.{word_of}
use Rattle.dsc_symbols.specs.declared.phasing.TheConstants.{DX, RX_0, RX_1, RX_2, RX_3, RX_4, RX_5, RX_6, RX_7}
use Rattle.phasing.specs.inside.Places.{element_at, is_at}
use Rattle.phasing.proofs.BitTests.{eight, no_marks}
use Rattle.phasing.specs.inside.Likely.{filled}
use Rattle.phasing.proofs.Filled.{filled-early}
use Rattle.phasing.proofs.Words.{is_at-early}
use Rattle.phasing.proofs.marking.Phasing.before.Goals as goal

pub returns-clause-exact : goal.returns-clause-exact
returns-clause-exact c = λ base e before.
    let none : (v : ℕ) → IsMarks 0 base (is_at (element_at e) (word_of v)) =
    λ v. no_marks base (is_at (element_at e) (word_of v)) (λ i below. is_at-early e (base + i) v (omega arith))
    in
    record {
      dx = none DX;
      rx =
          eight (λ k w. IsMarks w base (is_at (element_at e) (word_of (RX_7 - k)))) 0 0 0 0 0 0 0 0
          (none RX_7) (none RX_6) (none RX_5) (none RX_4) (none RX_3) (none RX_2) (none RX_1) (none RX_0);
    }

pub returns-clause-likely : goal.returns-clause-likely
returns-clause-likely c = λ base e before.
    let places = filled (element_at e) in
    let none : (v : ℕ) → IsMarks 0 base (is_at places (word_of v)) =
    λ v. no_marks base (is_at places (word_of v)) (λ i below. filled-early e (base + i) v (omega arith))
    in
    record {
      dx = none DX;
      rx =
          eight (λ k w. IsMarks w base (is_at places (word_of (RX_7 - k)))) 0 0 0 0 0 0 0 0
          (none RX_7) (none RX_6) (none RX_5) (none RX_4) (none RX_3) (none RX_2) (none RX_1) (none RX_0);
    }
