-- the transmission of a call has its origin after the dots, and each slot shows there what was sent
use Rattle.std.proofs.Common.{◌≡◌, ℕ, zero, suc, ◌+◌, ◌-◌, ◌*◌, ◌<◌, ◌≤◌, ◌==◌, inr, Bool, true, false, List, [], ◌∷◌, ◌++◌, length, get_or, take, drop, Some, refl, arith, ap, sym, subst, ◌∙◌, length-append}
use Rattle.std.specs.List.{list_any, flat_map}
use Rattle.std.proofs.lemmas.List.{length-take}
use Rattle.std.proofs.Math.Seq.{drop-append-add, take-append_seam}
use Rattle.ten_unit.specs.declared.character.Element.TheVariants.{Lost}
use Rattle.ten_unit.specs.Word.{is_word, word_of}
use Rattle.ten_unit.proofs.PublicLaws.{length-word}
use Rattle.phasing.specs.Slot.{shows}
use Rattle.phasing.specs.Origin.{is_phased, lead_of}
use Rattle.phasing.specs.Sent.{dots, dot_count, sent}
use Rattle.phasing.specs.Start.{start_symbols, formats}
use Rattle.phasing.proofs.Dots.{length-dots}
use Rattle.phasing.proofs.Kept.{shown, kept_phased}
use Rattle.phasing.proofs.LateStarts.{same_start, found}

length-words : (slots : List ℕ) → length (flat_map word_of slots) ≡ 10 * length slots
length-words [] = refl
length-words (v ∷ slots) =
    let rest = length-words slots in
    omega (arith, length-append (word_of v) (flat_map word_of slots), length-word v, rest)

pub length-sent : (slots : List ℕ) (long : Bool) → length (sent slots long) ≡ dot_count long + 10 * length slots
unfolding sent
length-sent slots long =
    let words = length-words slots in
    omega (arith, length-append (dots (dot_count long)) (flat_map word_of slots), length-dots (dot_count long), words)

-- the ten elements of a word come after those of the words before it
word_part : (slots : List ℕ) (s : ℕ) → s < length slots → take 10 (drop (10 * s) (flat_map word_of slots)) ≡ word_of (get_or slots s 0)
word_part [] s below = absurd (omega (arith, below))
word_part (v ∷ slots) zero below =
    ap (λ (n : ℕ). take n (word_of v ++ flat_map word_of slots)) (sym (length-word v)) ∙ take-append_seam (word_of v) (flat_map word_of slots)
word_part (v ∷ slots) (suc s) below =
    let index : 10 * suc s ≡ length (word_of v) + 10 * s = omega (arith, length-word v) in
    ap (λ (n : ℕ). take 10 (drop n (word_of v ++ flat_map word_of slots))) index
    ∙ ap (take 10) (drop-append-add (word_of v) (flat_map word_of slots) (10 * s))
    ∙ word_part slots s (omega (arith, below))

sent_part : (slots : List ℕ) (long : Bool) (s : ℕ) → s < length slots → take 10 (drop (dot_count long + 10 * s) (sent slots long)) ≡ word_of (get_or slots s 0)
unfolding sent
sent_part slots long s below =
    ap (λ (n : ℕ). take 10 (drop (n + 10 * s) (dots (dot_count long) ++ flat_map word_of slots))) (sym (length-dots (dot_count long)))
    ∙ ap (take 10) (drop-append-add (dots (dot_count long)) (flat_map word_of slots) (10 * s))
    ∙ word_part slots s below

-- each slot of what is sent shows its symbol
pub sent_shows : (slots : List ℕ) (long : Bool) (s : ℕ) → s < length slots → shows (sent slots long) (dot_count long + 150) s (get_or slots s 0) ≡ true
sent_shows slots long s below =
    let index : dot_count long + 150 + 10 * s - 150 ≡ dot_count long + 10 * s = omega arith in
    shown (sent slots long) (dot_count long + 150) s (get_or slots s 0) (record {
      low = omega arith;
      high = omega (arith, length-sent slots long, below);
      word = ap (λ (n : ℕ). take 10 (drop n (sent slots long))) index ∙ sent_part slots long s below;
    })

pub phased_start : (format : ℕ) (long : Bool) → is_phased (sent (start_symbols format) long) (dot_count long + 150) ≡ true
unfolding is_phased shows is_word word_of dots sent
phased_start format false = refl
phased_start format true = refl

phased : (slots : List ℕ) (long : Bool) (format : ℕ) → take 16 slots ≡ start_symbols format → 16 ≤ length slots → is_phased (sent slots long) (dot_count long + 150) ≡ true
phased slots long format h enough =
    let same : dot_count long + 150 + 0 ≡ dot_count long + 150 = omega arith in
    subst (λ n. is_phased (sent slots long) n ≡ true) same
    (kept_phased (sent (start_symbols format) long) (sent slots long) 0 (dot_count long + 160) (dot_count long + 150)
    (record {
      same =
          λ i inside below.
          let index : i ≡ i + 0 = omega arith in
          inr (sym (same_start slots long format i h below) ∙ ap (λ (n : ℕ). get_or (sent slots long) n Lost) index);
      long = omega (arith, length-sent slots long, enough);
    })
    (omega arith)
    (phased_start format long))

enough : (slots : List ℕ) (format : ℕ) → take 16 slots ≡ start_symbols format → 16 ≤ length slots
enough slots format h = omega (arith, length-take 16 slots, ap length h)

-- the origin of a call's transmission is after the dots
pub whole_found : (slots : List ℕ) (long : Bool) (format : ℕ) → list_any (λ f. f == format) formats ≡ true → take 16 slots ≡ start_symbols format → lead_of (sent slots long) ≡ Some (dot_count long + 150)
whole_found slots long format f h =
    found (sent slots long) slots long (dot_count long + 150) format f h (record {
      early = omega arith;
      intact =
          λ i inside below.
          let index : i ≡ i + 150 + dot_count long - (dot_count long + 150) = omega arith in
          inr (ap (λ (n : ℕ). get_or (sent slots long) n Lost) index);
      phased = phased slots long format h (enough slots format h);
    })
