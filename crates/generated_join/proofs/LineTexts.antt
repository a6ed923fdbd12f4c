-- The generated lines are lines of join's input.
use Rattle.std.proofs.Common.{ℕ, zero, suc, ◌+◌, ◌<◌, ◌≤◌, ◌^◌, List, [], ◌∷◌, ◌++◌, flat_map, map, true, refl, arith}
use Rattle.std.specs.List.{range_with_len}
use Rattle.line_engine.specs.Lines.{Lines}
use Rattle.input_lines.specs.ReceiverLine.{ReceiverLine, reception, text_of_reception}
use Rattle.join_groups.specs.Groups.{AreLines}
use Rattle.generated_join.specs.Generator.{heard, lines_of_group, generated, generated_texts}

lines_append : (said other : List ReceiverLine) (texts others : Lines) → AreLines said texts → AreLines other others → AreLines (said ++ other) (texts ++ others)
lines_append [] other [] others a b = b
lines_append [] other (t ∷ texts) others a b = absurd a
lines_append (line ∷ said) other [] others a b = absurd a
lines_append (line ∷ said) other (t ∷ texts) others a b = (a.0, lines_append said other texts others a.1 b)

lines_of_receivers : (k : ℕ) (receivers : List ℕ) → k < 2 ^ 32 → AreLines (map (λ j. reception k (heard k j)) receivers) (map (λ j. text_of_reception true k (heard k j)) receivers)
lines_of_receivers k [] small = tt
lines_of_receivers k (j ∷ receivers) small = ((true, (small, refl)), lines_of_receivers k receivers small)

lines_from : (a n : ℕ) → a + n ≤ 2 ^ 32
    → AreLines (flat_map lines_of_group (range_with_len a n)) (flat_map (λ k. map (λ j. text_of_reception true k (heard k j)) (range_with_len 0 4)) (range_with_len a n))
unfolding lines_of_group
lines_from a zero few = tt
lines_from a (suc n) few =
    lines_append (lines_of_group a) (flat_map lines_of_group (range_with_len (a + 1) n)) (map (λ j. text_of_reception true a (heard a j)) (range_with_len 0 4))
    (flat_map (λ k. map (λ j. text_of_reception true k (heard k j)) (range_with_len 0 4)) (range_with_len (a + 1) n))
    (lines_of_receivers a (range_with_len 0 4) (omega (arith, few))) (lines_from (a + 1) n (omega (arith, few)))

pub lines_are : (n : ℕ) → n ≤ 2 ^ 32 → AreLines (generated n) (generated_texts n)
unfolding generated generated_texts
lines_are n few = lines_from 0 n (omega (arith, few))
