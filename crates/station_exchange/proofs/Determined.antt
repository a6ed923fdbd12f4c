-- the lines of a file of an exchange determine what is told of them
use Rattle.std.proofs.Common.{◌≡◌, ℕ, if◌then◌else◌, List, ◌++◌, refl, sym, ◌∙◌, ap, subst}
use Rattle.line_grammar.specs.Columns.{IsColumn}
use Rattle.line_engine.specs.Lines.{Lines}
use Rattle.line_engine.specs.Determined.{IsDetermined, BeginsWith}
use Rattle.input_lines.specs.WorldLine.{IsWorldFileLine}
use Rattle.input_lines.proofs.PublicLaws.{one_column}
use Rattle.station_exchange.specs.Said.{Said, point_of, world_of}
use Rattle.station_exchange.specs.Output.{text_of, all_accepted}
use Rattle.station_exchange.specs.Meaning.{IsIllFormed, Exchanges, exchange_meaning}
use Rattle.station_exchange.proofs.Unique.{OneWorldLine, same_said}
use Rattle.station_exchange.proofs.Fronts.{front_of}

same_lines : OneWorldLine → (lines : Lines) (a b : List ℕ) (x : Exchanges lines a) (y : Exchanges lines b) → x.said ≡ y.said
same_lines one lines a b x y = same_said one x.said y.said lines x.are_said y.are_said

same_text : OneWorldLine → (lines : Lines) (a b : List ℕ) → Exchanges lines a → Exchanges lines b → a ≡ b
same_text one lines a b x y = x.text_is ∙ ap (λ (s : Said). text_of (world_of s)) (same_lines one lines a b x y) ∙ sym y.text_is

same_column : OneWorldLine → (lines : Lines) (text : List ℕ) (m n : ℕ) → IsIllFormed lines text m → IsIllFormed lines text n → m ≡ n
same_column one lines text m n x y =
    let said : y.said ≡ x.said = same_said one y.said x.said lines y.are_said x.are_said in
    one_column (IsWorldFileLine (point_of x.said)) text m n x.is_column
    (subst (λ (s : Said). IsColumn (IsWorldFileLine (point_of s)) text n) said y.is_column)

begins : OneWorldLine → (first later : Lines) (text whole : List ℕ) → Exchanges first text → Exchanges (first ++ later) whole → BeginsWith whole text
begins one first later text whole x y =
    let front = front_of y.said (first ++ later) first later refl y.are_said in
    let same : text_of (world_of front.said) ≡ text = same_text one first (text_of (world_of front.said)) text (record { said = front.said; are_said = front.are_said; text_is = refl }) x in
    (front.begins.0, y.text_is ∙ front.begins.1 ∙ ap (λ (t : List ℕ). t ++ front.begins.0) same)

pub exchange_determined : OneWorldLine → IsDetermined exchange_meaning
exchange_determined one = record {
  one_column = λ earlier line m n h k. same_column one earlier line m n h k;
  one_text = λ lines a b none g h. same_text one lines a b g h;
  grows = λ first later text whole none g h. begins one first later text whole g h;
  one_end = λ lines a b s t none g h.
      let same = same_lines one lines a b g.0 h.0 in
      (same_text one lines a b g.0 h.0, g.1 ∙ ap (λ (said : Said). if all_accepted (world_of said) then 0 else 1) same ∙ sym h.1);
  ends = λ first later text whole status none g h. begins one first later text whole g h.0;
}
