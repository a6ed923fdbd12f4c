use Rattle.std.proofs.Common.{◌≡◌, ℕ, ◌+◌, ◌-◌, ◌<◌, List, ◌++◌, length, get_or, map, flat_map, refl, sym, ap, subst, ◌∙◌, append_assoc, append-nil, length-append, arith, rules}
use Rattle.std.specs.List.{All}
use Rattle.std.proofs.lemmas.List.{nil_from_length, map-append, get_or-append_right}
use Rattle.std.proofs.lemmas.List.Concat.{flat_map-append}
use Rattle.std.specs.Slice.Iter.{chunks_rest}
use Rattle.ten_unit.specs.Word.{word_of}
use Rattle.phasing.specs.Sent.{dots, dot_count}
use Rattle.input_lines.specs.ReceiverLine.{sign_of}
use Rattle.line_engine.specs.Determined.{BeginsWith}
use Rattle.encode_calls.proofs.SignTable.{signs_of_sent}
use Rattle.encode_calls.proofs.signs.append_signs.Goals as goal

abbrev words : List ℕ → List ℕ
words symbols = map sign_of (flat_map word_of symbols)

words_parts : (symbols front back : List ℕ) → symbols ≡ front ++ back → words front ++ words back ≡ words symbols
words_parts symbols front back parts =
    sym (map-append sign_of (flat_map word_of front) (flat_map word_of back))
    ∙ ap (map sign_of) (sym (flat_map-append word_of front back))
    ∙ ap words (sym parts)

all_back : (front back : List ℕ) → All (λ v. v < 128) (front ++ back) → All (λ v. v < 128) back
all_back front back all k d below =
    let n = length front in
    let is = get_or-append_right front back n (n + k) d refl (omega arith) in
    let same : n + k - n ≡ k = omega arith in
    subst (λ (v : ℕ). v < 128) (is ∙ ap (λ (i : ℕ). get_or back i d) same) (all (n + k) d (omega (arith, below, length-append front back)))

-- what begins with some bytes begins with them with more after it
begins_on : (old now more front : List ℕ) → now ≡ old ++ more → BeginsWith old front → BeginsWith now front
begins_on old now more front is begins =
    (begins.0 ++ more, is ∙ ap (λ (l : List ℕ). l ++ more) begins.1 ∙ append_assoc front begins.0 more)

pub loop-symbols-init : goal.loop-symbols-init
loop-symbols-init c =
    let out = c.args.out.now.items in
    let slots = c.args.slots.now in
    let rest : chunks_rest c.into_iter-symbols-iterator.result ≡ slots = search rules in (
      search rules,
      tt,
      search rules,
      search rules,
      ap (λ (l : List ℕ). c.append_dots.new.out.items ++ words l) rest
          ∙ ap (λ (l : List ℕ). l ++ words slots) c.in_ok-append_dots.ensures.signs
          ∙ append_assoc out (map sign_of (dots (dot_count c.args.long))) (words slots)
          ∙ ap (λ (l : List ℕ). out ++ l) (signs_of_sent slots c.args.long),
      (map sign_of (dots (dot_count c.args.long)), c.in_ok-append_dots.ensures.signs),
    )

pub loop-symbols-preserved : goal.loop-symbols-preserved
loop-symbols-preserved c =
    let was = c.loop-symbols.invariant in
    let steps = c.in-Some.ensures.steps in
    let symbols = c.in-Some.symbols.now in
    let rest = chunks_rest c.next.new.self in (
      search rules,
      tt,
      steps.0 ∙ was.2,
      all_back symbols rest (subst (All (λ v. v < 128)) steps.1.0 was.3),
      ap (λ (l : List ℕ). l ++ words rest) c.in_ok-append_words.ensures.signs
          ∙ append_assoc c.loop-symbols.out.items (words symbols) (words rest)
          ∙ ap (λ (l : List ℕ). c.loop-symbols.out.items ++ l) (words_parts _ symbols rest steps.1.0)
          ∙ was.4,
      begins_on _ _ _ _ c.in_ok-append_words.ensures.signs was.5,
    )

pub returns-clause-signs : goal.returns-clause-signs
returns-clause-signs c =
    let none = nil_from_length _ c.in-None.ensures.steps.1.0 in
    sym (ap (λ (l : List ℕ). c.loop-symbols.out.items ++ words l) none ∙ append-nil c.loop-symbols.out.items) ∙ c.loop-symbols.invariant.4
