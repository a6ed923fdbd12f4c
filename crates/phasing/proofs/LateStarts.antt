-- the origin of a call whose start is intact is found, however late its reception begins
use Rattle.std.proofs.Common.{◌≡◌, ℕ, ◌+◌, ◌-◌, ◌<◌, ◌≤◌, ◌==◌, inl, inr, Bool, true, false, List, ◌++◌, length, get_or, take, drop, Some, refl, arith, ap, sym, ◌∙◌}
use Rattle.std.specs.List.{list_any, flat_map}
use Rattle.std.proofs.lemmas.Bool.{both_ways, false_from_ne_true}
use Rattle.std.proofs.lemmas.List.{append_assoc, take-append-drop, get_or_append_left}
use Rattle.std.proofs.lemmas.List.Concat.{flat_map-append}
use Rattle.ten_unit.specs.declared.character.Element.{Element}
use Rattle.ten_unit.specs.declared.character.Element.TheVariants.{Lost}
use Rattle.ten_unit.specs.Word.{word_of}
use Rattle.phasing.specs.Origin.{is_phased, lead_of}
use Rattle.phasing.specs.Sent.{dots, dot_count, sent}
use Rattle.phasing.specs.Start.{start_symbols, formats, IsIntactStart}
use Rattle.phasing.proofs.EarlyLeads.{early_unphased}
use Rattle.phasing.proofs.Kept.{IsKept, kept_phased}
use Rattle.phasing.proofs.Leads.{least_found}

sent_front : (front back : List ℕ) (long : Bool) → sent (front ++ back) long ≡ sent front long ++ flat_map word_of back
unfolding sent
sent_front front back long =
    ap (λ (l : List Element). dots (dot_count long) ++ l) (flat_map-append word_of front back)
    ∙ sym (append_assoc (dots (dot_count long)) (flat_map word_of front) (flat_map word_of back))

pub length-start : (format : ℕ) (long : Bool) → length (sent (start_symbols format) long) ≡ dot_count long + 160
unfolding sent dots word_of
length-start format false = refl
length-start format true = refl

-- what is sent up to the end of slot 15
pub same_start : (slots : List ℕ) (long : Bool) (format i : ℕ) → take 16 slots ≡ start_symbols format → i < dot_count long + 160 → get_or (sent slots long) i Lost ≡ get_or (sent (start_symbols format) long) i Lost
same_start slots long format i h below =
    let parts : slots ≡ start_symbols format ++ drop 16 slots = sym (take-append-drop 16 slots) ∙ ap (λ (l : List ℕ). l ++ drop 16 slots) h in
    let whole = ap (λ (l : List ℕ). sent l long) parts ∙ sent_front (start_symbols format) (drop 16 slots) long in
    ap (λ (l : List Element). get_or l i Lost) whole
    ∙ get_or_append_left (sent (start_symbols format) long) (flat_map word_of (drop 16 slots)) Lost i (omega (arith, length-start format long))

kept_start : (e : List Element) (slots : List ℕ) (long : Bool) (lead format : ℕ) → take 16 slots ≡ start_symbols format → IsIntactStart e slots long lead → IsKept e (sent (start_symbols format) long) (dot_count long + 150 - lead) (lead + 10)
kept_start e slots long lead format h k =
    let early : lead ≤ dot_count long + 150 = k.early in
    record {
      same =
          λ i inside below.
          let index : i + 150 + dot_count long - lead ≡ i + (dot_count long + 150 - lead) = omega arith in
          elim (k.intact i inside below) [
            | inl lost ↦ inl lost
            | inr kept ↦
                inr (kept ∙ ap (λ (n : ℕ). get_or (sent slots long) n Lost) index ∙ same_start slots long format _ h (omega arith))
          ];
      long = omega (arith, length-start format long);
    }

-- no lead before the true one is phased
pub none_before : (e : List Element) (slots : List ℕ) (long : Bool) (lead format q : ℕ) → list_any (λ f. f == format) formats ≡ true → take 16 slots ≡ start_symbols format → IsIntactStart e slots long lead → q < lead → is_phased e q ≡ false
none_before e slots long lead format q f h k below =
    let early : lead ≤ dot_count long + 150 = k.early in
    let shift = dot_count long + 150 - lead in
    false_from_ne_true (is_phased e q)
    (λ phased.
    both_ways (is_phased (sent (start_symbols format) long) (q + shift))
    (early_unphased format long (q + shift) f (omega arith))
    (kept_phased e (sent (start_symbols format) long) shift (lead + 10) q (kept_start e slots long lead format h k) (omega arith) phased))

-- an intact start is found
pub found : (e : List Element) (slots : List ℕ) (long : Bool) (lead format : ℕ) → list_any (λ f. f == format) formats ≡ true → take 16 slots ≡ start_symbols format → IsIntactStart e slots long lead → lead_of e ≡ Some lead
found e slots long lead format f h k =
    least_found e lead (lead_of e) refl k.phased (λ q below. none_before e slots long lead format q f h k below)
