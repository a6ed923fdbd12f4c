-- where nothing may follow a call, a blank after it is refused
use Rattle.std.proofs.Common.{◌≡◌, ℕ, ◌+◌, ◌<◌, ◌≤◌, true, List, [], ◌∷◌, ◌++◌, length, take, drop, codes, Result, Ok, Err, refl, sym, ◌∙◌, ap, subst, append-nil, append_assoc, arith, length-append}
use Rattle.std.proofs.lemmas.List.{take-append-le, take-append-drop}
use Rattle.std.proofs.Math.Seq.{take-append-add}
use Rattle.call_values.specs.declared.calls.Call.{Call}
use Rattle.call_values.specs.Calls.{IsCall}
use Rattle.expansion.specs.declared.values.Sets.{Sets}
use Rattle.slot_join.specs.declared.joined.Extra.TheVariants.{Whole}
use Rattle.line_grammar.specs.Columns.{IsColumn, ReadsAs}
use Rattle.line_grammar.specs.Grammar.{Grammar, finish, anything, word, either, none, first, second, Spells, written}
use Rattle.line_grammar.specs.inside.Reading.{fits}
use Rattle.line_grammar.specs.inside.Soundness.{is_sound, is_unambiguous}
use Rattle.line_grammar.proofs.Apart.{one_reading}
use Rattle.call_texts.specs.CallGrammar.{calls, sets}
use Rattle.call_texts.specs.CallParts.{call_text, expansion_parts, expansion_text}
use Rattle.call_texts.specs.Texts.{IsBareCallText, reported_text}
use Rattle.call_texts.specs.inside.Places.{call_parts}
use Rattle.call_texts.proofs.CallTexts.{calls_section}
use Rattle.call_texts.proofs.CallLaws.{bare_is}

-- a call, and then the end or a blank and anything
abbrev end_or_blank : Grammar
end_or_blank = either finish (word (codes " ") anything)

more_sound : is_sound (calls end_or_blank) ≡ true
unfolding fits
more_sound = refl

more_plain : is_unambiguous (calls end_or_blank) ≡ true
more_plain = refl

blank_or_end : first none ≡ second none → ⊥
blank_or_end e = absurd (cc)

-- no call's text is another's with a blank after it
no_blank : (c u : Call) (more : List ℕ) → IsCall c → IsCall u → call_text u ≡ call_text c ++ (32 ∷ more) → ⊥
no_blank c u more h k e =
    let line = written (calls finish) (call_parts u none) in
    let two = calls_section.front c h end_or_blank (second none) (32 ∷ more) (more, refl, tt) in
    let one = calls_section.front u k end_or_blank (first none) [] refl in
    let same : line ++ [] ≡ written (calls finish) (call_parts c none) ++ (32 ∷ more) =
    append-nil line ∙ sym (bare_is u) ∙ e ∙ ap (λ (l : List ℕ). l ++ (32 ∷ more)) (bare_is c) in
    let parts = one_reading (calls end_or_blank) (call_parts u (first none)) (call_parts c (second none)) (written (calls finish) (call_parts c none) ++ (32 ∷ more)) more_sound more_plain
    (subst (Spells (calls end_or_blank) (call_parts u (first none))) same one) two in
    blank_or_end (calls_section.one u c (first none) (second none) k h parts).1

blank_in_front : (x : Sets) → (more : List ℕ) × (expansion_text x ≡ 32 ∷ more)
unfolding expansion_text
blank_in_front x = (codes "exp" ++ written (sets finish) (expansion_parts x none), refl)

-- the column of a call's text with a blank after it
no_further : (c : Call) (more : List ℕ) (n : ℕ) → IsCall c → IsColumn IsBareCallText (call_text c ++ (32 ∷ more)) n → length (call_text c) + 1 < n → ⊥
no_further c more n h k less =
    let text = call_text c in
    let b = k.before (length text + 1) less in
    let begun : take (length text + 1) (text ++ (32 ∷ more)) ≡ text ++ (32 ∷ []) = take-append-add text (32 ∷ more) 1 in
    no_blank c b.value b.rest h b.whole.0 (sym b.whole.1 ∙ ap (λ (l : List ℕ). l ++ b.rest) begun ∙ append_assoc text (32 ∷ []) b.rest)

no_nearer : (c : Call) (more : List ℕ) (n : ℕ) → IsCall c → IsColumn IsBareCallText (call_text c ++ (32 ∷ more)) n → n < length (call_text c) + 1 → ⊥
no_nearer c more n h k less =
    let text = call_text c in
    let within : n ≤ length text = omega arith in
    k.at (omega (arith, length-append text (32 ∷ more)))
    (record { value = c; rest = drop n text; whole = (h, ap (λ (l : List ℕ). l ++ drop n text) (take-append-le n text (32 ∷ more) within) ∙ take-append-drop n text) })

blank_column : (c : Call) (more : List ℕ) (n : ℕ) → IsCall c → IsColumn IsBareCallText (call_text c ++ (32 ∷ more)) n → n ≡ length (call_text c) + 1
blank_column c more n h k =
    let further : length (call_text c) + 1 < n → ⊥ = no_further c more n h k in
    let nearer : n < length (call_text c) + 1 → ⊥ = no_nearer c more n h k in
    omega arith

blank_refused : (c : Call) (more : List ℕ) (answer : Result Call ℕ) → IsCall c → ReadsAs IsBareCallText (call_text c ++ (32 ∷ more)) answer → answer ≡ Err (length (call_text c) + 1)
blank_refused c more (Ok u) h k = absurd (no_blank c u more h k.0.0 (sym k.0.1))
blank_refused c more (Err n) h k = ap (λ (m : ℕ). Err m) (blank_column c more n h k)

pub expansion_refused : (c : Call) (x : Sets) (answer : Result Call ℕ) → IsCall c → ReadsAs IsBareCallText (reported_text c (Whole x)) answer → answer ≡ Err (length (call_text c) + 1)
expansion_refused c x answer h k =
    let blank = blank_in_front x in
    blank_refused c blank.0 answer h (subst (λ (l : List ℕ). ReadsAs IsBareCallText (call_text c ++ l) answer) blank.1 k)
