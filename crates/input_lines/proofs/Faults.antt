-- where a line is ill-formed
use Rattle.std.proofs.Common.{◌≡◌, ℕ, suc, ◌≤◌, ◌<◌, min, List, [], ◌∷◌, length, codes, Option, Some, IfSome, Err, refl, sym, subst, arith}
use Rattle.line_grammar.specs.Columns.{IsColumn}
use Rattle.line_grammar.specs.Grammar.{finish, anything, word, either}
use Rattle.line_grammar.specs.Repeats.{repeated}
use Rattle.line_grammar.specs.inside.Reading.{after, read}
use Rattle.line_grammar.proofs.Stops.{Stops, IsColumn-stops}
use Rattle.line_grammar.proofs.Repeats.{Stops-limit, reads_stop}
use Rattle.line_grammar.proofs.Chains.{word_on, fault_within, both_miss, no_end, no_word}
use Rattle.ten_unit.specs.declared.character.Element.{Element}
use Rattle.input_lines.specs.ReceiverLine.{empty_or_comment, reception, behind_blank, signs, grouped, pair, reception_line, evidence_line, IsLine}
use Rattle.input_lines.specs.inside.Reading.{join_lines}
use Rattle.input_lines.proofs.WholeLines.{lines_limit, lines_sound}

-- of a line that begins so, the grammar stops where the rest of its kind does
lines_miss : (n b left m k : ℕ) (rest : List ℕ) → (b ≡ 35 → ⊥) → read reception_line (b ∷ rest) ≡ Err m → read (evidence_line n) (b ∷ rest) ≡ Err k
    → m ≤ suc (length rest) → k ≤ suc (length rest) → left ≡ min m k → read (join_lines n) (b ∷ rest) ≡ Err left
lines_miss n b left m k rest other h e few_m few_k is =
    let all = suc (length rest) in
    let kinds = both_miss reception_line (evidence_line n) (b ∷ rest) m k left h e is in
    let nothings = both_miss finish (word (codes "#") anything) (b ∷ rest) all all all (no_end b rest) (no_word 35 [] anything b rest other) (omega arith) in
    both_miss empty_or_comment (either reception_line (evidence_line n)) (b ∷ rest) all left left nothings kinds (omega (arith, is, few_m, few_k))

stops_of : (text : List ℕ) (least left : ℕ) → ((n : ℕ) → least ≤ n → read (join_lines n) text ≡ Err left) → Stops IsLine text left
stops_of text least left h = Stops-limit join_lines IsLine least text left lines_limit (reads_stop join_lines least text left lines_sound h)

no_reception : (b : ℕ) (rest : List ℕ) → (b ≡ 114 → ⊥) → read reception_line (b ∷ rest) ≡ Err (suc (length rest))
no_reception b rest other = no_word 114 [] (grouped (behind_blank signs)) b rest other

no_evidence : (n b : ℕ) (rest : List ℕ) → (b ≡ 101 → ⊥) → read (evidence_line n) (b ∷ rest) ≡ Err (suc (length rest))
no_evidence n b rest other = no_word 101 [] (grouped (repeated pair n)) b rest other

reception_missed : (rest : List ℕ) (left : ℕ) → read (grouped (behind_blank signs)) rest ≡ Err left → read reception_line (114 ∷ rest) ≡ Err left
unfolding after
reception_missed rest left h = word_on (codes "r") (grouped (behind_blank signs)) (114 ∷ rest) rest left refl h

evidence_missed : (n : ℕ) (rest : List ℕ) (left : ℕ) → read (grouped (repeated pair n)) rest ≡ Err left → read (evidence_line n) (101 ∷ rest) ≡ Err left
unfolding after
evidence_missed n rest left h = word_on (codes "e") (grouped (repeated pair n)) (101 ∷ rest) rest left refl h

pub reception_fault : (text rest : List ℕ) (left : ℕ) → text ≡ 114 ∷ rest → read (grouped (behind_blank signs)) rest ≡ Err left → Stops IsLine text left
reception_fault text rest left e h =
    let few : left ≤ length rest = fault_within (grouped (behind_blank signs)) rest left refl h in
    subst (λ (l : List ℕ). Stops IsLine l left) (sym e)
    (stops_of (114 ∷ rest) 0 left (λ n large.
    lines_miss n 114 left left (suc (length rest)) rest (λ b. omega (arith, b)) (reception_missed rest left h) (no_evidence n 114 rest (λ b. omega (arith, b))) (omega (arith, few)) (omega arith) (omega (arith, few))))

evidence_within : (n : ℕ) (rest : List ℕ) (left : ℕ) → read (evidence_line n) (101 ∷ rest) ≡ Err left → left ≤ suc (length rest)
evidence_within n rest left h = fault_within (evidence_line n) (101 ∷ rest) left (lines_sound n) h

pub evidence_fault : (text rest : List ℕ) (left : ℕ) → text ≡ 101 ∷ rest → ((n : ℕ) → length rest < n → read (grouped (repeated pair n)) rest ≡ Err left) → Stops IsLine text left
evidence_fault text rest left e h =
    let all = suc (length rest) in
    let few : left ≤ suc (length rest) = evidence_within all rest left (evidence_missed all rest left (h all (omega arith))) in
    subst (λ (l : List ℕ). Stops IsLine l left) (sym e)
    (stops_of (101 ∷ rest) all left (λ n large.
    lines_miss n 101 left all left rest (λ b. omega (arith, b)) (no_reception 101 rest (λ b. omega (arith, b))) (evidence_missed n rest left (h n (omega (arith, large)))) (omega arith) few (omega (arith, few))))

pub other_fault : (text rest : List ℕ) (b : ℕ) → text ≡ b ∷ rest → (b ≡ 35 → ⊥) → (b ≡ 114 → ⊥) → (b ≡ 101 → ⊥) → IsColumn IsLine text 1
other_fault text rest b e no_comment no_r no_e =
    let all = suc (length rest) in
    let stops = stops_of (b ∷ rest) 0 all (λ n large. lines_miss n b all all all rest no_comment (no_reception b rest no_r) (no_evidence n b rest no_e) (omega arith) (omega arith) (omega arith)) in
    subst (λ (l : List ℕ). IsColumn IsLine l 1) (sym e) (IsColumn-stops IsLine (b ∷ rest) all 1 stops (omega arith))

-- a reception that was packed
pub packed_read : (read : Option (ℕ × List Element)) (text rest : List ℕ) (group : ℕ) (e : List Element) → read ≡ Some (group, e) → text ≡ 114 ∷ rest
    → IfSome read (λ parts. IsLine (reception parts.0 parts.1) (114 ∷ rest)) → IsLine (reception group e) text
packed_read read text rest group e here is packed =
    let line = subst (λ (o : Option (ℕ × List Element)). IfSome o (λ parts. IsLine (reception parts.0 parts.1) (114 ∷ rest))) here packed in
    subst (IsLine (reception group e)) (sym is) line
