-- files whose lines are of one kind or another: each line says one thing, and a list of bytes is one or has a column
use Rattle.std.proofs.Common.{◌≡◌, ◌≢◌, ℕ, suc, zero, ◌≤◌, ◌==◌, ◌⊎◌, true, false, Option, Some, None, inl, inr, refl, sym, ◌∙◌, ap, List, [], ◌∷◌, ◌++◌, take, codes, arith, ◌+◌, map, length, drop, append-nil, Err, subst, Ok}
use Rattle.std.proofs.lemmas.Bool.{eqb-false, eqb-true, and_parts}
use mathlib.Core.List.{head-eq_of_cons-eq}
use Rattle.call_values.specs.declared.calls.Call.{Call}
use Rattle.call_values.specs.declared.calls.Call.TheVariants as form
use Rattle.call_values.specs.declared.parts.Kind.TheVariants as kind
use Rattle.call_values.specs.Calls.{IsCall}
use Rattle.expansion.specs.declared.values.Sets.{Sets}
use Rattle.slot_join.specs.declared.joined.Extra.{Extra}
use Rattle.line_grammar.specs.Columns.{Begins, IsColumn}
use Rattle.line_grammar.specs.Grammar as grammars
use Rattle.line_grammar.specs.Grammar.{Grammar, finish, anything, word, either, Spells, Parts, written}
use Rattle.line_grammar.proofs.Chains.{finished, word_on, no_word}
use Rattle.line_grammar.proofs.Grammars.{choice_back}
use Rattle.line_grammar.proofs.Judged.{HasGrammar, IsJudged, judged, of_grammar, of_alike, of_choice}
use Rattle.line_grammar.proofs.Stops.{IsChoice, left_le, IsColumn-stops}
use Rattle.call_texts.specs.CallParts.{call_text}
use Rattle.call_texts.specs.Texts.{IsCallText, IsWholeOrAbsent, extra_of, reported_text}
use Rattle.call_texts.proofs.PublicLaws.{with_expansion, with_expansion_sound, call_texts_alike}
use Rattle.traffic_lines.specs.declared.worlds.EndEvent.TheVariants.{AtShip, AtCoast}
use Rattle.traffic_lines.specs.declared.worlds.ExchangePoint.{ExchangePoint}
use Rattle.traffic_lines.specs.declared.worlds.WorldLine.{WorldLine}
use Rattle.traffic_lines.specs.declared.worlds.WorldLine.TheVariants as world
use Rattle.traffic_lines.specs.Worlds.{IsWorldLine, IsWorldLineText}
use Rattle.traffic_lines.proofs.PublicLaws.{IsExchangePoint, world_grammar}
use Rattle.input_lines.specs.declared.books.BookLine.{BookLine}
use Rattle.input_lines.specs.declared.books.BookLine.TheVariants as book
use Rattle.input_lines.specs.declared.calls.CallLine.{CallLine}
use Rattle.input_lines.specs.declared.calls.CallLine.TheVariants as call_line
use Rattle.input_lines.specs.declared.sentences.SentenceLine.{SentenceLine}
use Rattle.input_lines.specs.declared.sentences.SentenceLine.TheVariants.{Said, Sentence}
use Rattle.input_lines.specs.BookLine.{is_sentence, IsBookLine}
use Rattle.input_lines.specs.CallLine.{IsCallLine}
use Rattle.input_lines.specs.SentenceLine.{IsSentenceLine, SayTheSame}
use Rattle.input_lines.specs.ReceiverLine.{empty_or_comment, IsNothing, sign_of, signs_parts, ReceiverLine, nothing, reception, evidence, IsLine}
use Rattle.input_lines.specs.WorldLine.{IsWorldFileLine}
use Rattle.std.specs.List.{list_all}
use Rattle.ten_unit.specs.declared.character.Element.{Element}
use Rattle.ten_unit.specs.Signs.{element_of}
use Rattle.line_grammar.specs.Tokens.{is_one_of}
use Rattle.line_grammar.specs.inside.Reading.{after, read}
use Rattle.line_grammar.proofs.Repeats.{read_stops}
use Rattle.line_grammar.proofs.Written.{written_spells}
use Rattle.input_lines.specs.StreamLine.{elements_line, IsStreamLine}
use Rattle.input_lines.specs.inside.Reading.{blank_and_signs}
use Rattle.input_lines.proofs.Bodies.{blank_written, some_map, signs_are, signs_back, elements_again}
use Rattle.traffic_lines.specs.declared.lines.Point.{Point}
use Rattle.traffic_lines.specs.declared.lines.TrafficLine.{TrafficLine}
use Rattle.traffic_lines.specs.declared.lines.TrafficLine.TheVariants.{Ship, Coast, Base, Group, Event}
use Rattle.traffic_lines.specs.Lines.{IsLineText, IsFirstByte, IsTrafficLine}
use Rattle.input_lines.specs.declared.join.JoinLine.{JoinLine as Got}
use Rattle.input_lines.specs.declared.fault.LineFault.{LineFault}
use Rattle.input_lines.specs.declared.fault.LineFault.TheVariants.{Column, NoMemory}
use Rattle.input_lines.specs.PointLine.{PointLine, joined, traffic, IsBody, MayBeJoined, IsPointLine}
use Rattle.input_lines.specs.Lines.{ReadsJoin, ReadsJoinedAt}
use Rattle.input_lines.specs.inside.Points.{IsStationsByte}
use Rattle.input_lines.proofs.WholeLines.{one_line}

-- ---- a line begins with a byte with which none of the one kind begins: the other kind decides its column

module _ (b : ℕ) {U V W : Type 0} {N : U → List ℕ → Type 0} {K : V → List ℕ → Type 0} {L : W → List ℕ → Type 0} (both : IsChoice N K L) (other : (u : U) (rest : List ℕ) → N u (b ∷ rest) → ⊥) where
  only : (w : W) (rest : List ℕ) → L w (b ∷ rest) → (v : V) × K v (b ∷ rest)
  only w rest is = elim (both.back w (b ∷ rest) is) [ inl u ↦ absurd (other u.0 rest u.1) | inr v ↦ v ]

  begins_too : (bytes : List ℕ) → Begins K bytes → Begins L bytes
  begins_too bytes h = let w = both.right h.value (bytes ++ h.rest) h.whole in record { value = w.0; rest = h.rest; whole = w.1 }

  begins_only : (rest : List ℕ) → Begins L (b ∷ rest) → Begins K (b ∷ rest)
  begins_only rest h = let v = only h.value (rest ++ h.rest) h.whole in record { value = v.0; rest = h.rest; whole = v.1 }

  pub column_of_kind : (rest : List ℕ) (n : ℕ) → 1 ≤ n → IsColumn K (b ∷ rest) n → IsColumn L (b ∷ rest) n
  column_of_kind rest zero counted h = absurd (omega (arith, counted))
  column_of_kind rest (suc n) counted h = record {
    is_none = λ w is. (let v = only w rest is in h.is_none v.0 v.1);
    before = λ k below. begins_too (take k (b ∷ rest)) (h.before k below);
    at = λ within begins. h.at within (begins_only (take n rest) begins);
    within = h.within;
  }

-- where the empty line is one, no column is 0
pub counted : {W : Type 0} (L : W → List ℕ → Type 0) (w : W) (text : List ℕ) (n : ℕ) → L w [] → IsColumn L text n → 1 ≤ n
counted L w text zero empty h = absurd (h.at (omega arith) (record { value = w; rest = []; whole = empty }))
counted L w text (suc n) empty h = omega arith

-- ---- lines that say nothing

-- the first byte of a text, and that of comments where it is empty
first_of : List ℕ → ℕ
first_of [] = 35
first_of (b ∷ rest) = b

-- such a line is empty or a comment, and each of these is one
nothing_is : (text : List ℕ) → IsNothing text → (text ≡ []) ⊎ ((comment : List ℕ) × (text ≡ codes "#" ++ comment))
nothing_is text is =
    elim (choice_back finish (word (codes "#") anything) is.0 text is.1) [ inl k ↦ inl (finished k.0 text k.1) | inr c ↦ inr (c.1.0, c.1.1) ]

pub empty_says_nothing : (text : List ℕ) → text ≡ [] → IsNothing text
empty_says_nothing text e = (grammars.first grammars.none, e)

pub comment_says_nothing : (text rest : List ℕ) → text ≡ codes "#" ++ rest → IsNothing text
comment_says_nothing text rest e = (grammars.second grammars.none, (rest, e, tt))

nothing_first : (text : List ℕ) → IsNothing text → first_of text ≡ 35
unfolding first_of
nothing_first text is = elim (nothing_is text is) [ inl empty ↦ ap first_of empty | inr comment ↦ ap first_of comment.1 ]

nothing_byte : (b : ℕ) (rest : List ℕ) → IsNothing (b ∷ rest) → b ≡ 35
unfolding first_of
nothing_byte b rest is = nothing_first (b ∷ rest) is

-- by the first byte of a line that isn't empty
pub hash_says_nothing : (text rest : List ℕ) (b : ℕ) → text ≡ b ∷ rest → b ≡ 35 → IsNothing text
hash_says_nothing text rest b e is = comment_says_nothing text rest (e ∙ ap (λ (c : ℕ). c ∷ rest) is)

pub nothing_has_hash : (text rest : List ℕ) (b : ℕ) → text ≡ b ∷ rest → IsNothing text → b ≡ 35
nothing_has_hash text rest b e none = nothing_byte b rest (subst IsNothing e none)

pub Nothings : Unit {0} → List ℕ → Type 0
Nothings _ text = IsNothing text

nothing_lines : HasGrammar Nothings
unfolding Nothings
nothing_lines =
    of_alike (Spells empty_or_comment) Nothings (record { to = λ parts bytes h. (tt, (parts, h)); back = λ _ bytes h. h }) (of_grammar empty_or_comment refl)

-- a line that says something has the column of the other kind
pub others_column : {V W : Type 0} {K : V → List ℕ → Type 0} {L : W → List ℕ → Type 0} → IsChoice Nothings K L
    → (text : List ℕ) (n : ℕ) → (IsNothing text → ⊥) → 1 ≤ n → IsColumn K text n → IsColumn L text n
unfolding Nothings
others_column choice [] n said some h = absurd (said (empty_says_nothing [] refl))
others_column choice (b ∷ rest) n said some h =
    column_of_kind b choice (λ _ more is. said (comment_says_nothing (b ∷ rest) rest (ap (λ (c : ℕ). c ∷ rest) (nothing_byte b more is)))) rest n some h

-- ---- lines of calls

-- the text of a call begins with a letter
begins_so : (c : Call) (x : Extra) → (b : ℕ) × (first_of (reported_text c x) ≡ b) × ((b == 35) ≡ false) × ((b == 36) ≡ false)
unfolding call_text first_of
begins_so (form.Alert casualty) x = (97, refl, refl, refl)
begins_so (form.Ack from casualty) x = (97, refl, refl, refl)
begins_so (form.Relay to from casualty ask) x = (114, refl, refl, refl)
begins_so (form.RelayAck to from casualty) x = (114, refl, refl, refl)
begins_so (form.AllShips category from first second f1 f2) x = (97, refl, refl, refl)
begins_so (form.AreaCall area category from first second f1 f2) x = (97, refl, refl, refl)
begins_so (form.GroupCall group category from first second f1 f2) x = (103, refl, refl, refl)
begins_so (form.Individual to category from first second message end) x = (111, refl, refl, refl)
begins_so (form.Service to category from (kind.Test reply)) x = (116, refl, refl, refl)
begins_so (form.Service to category from kind.AskPosition) x = (97, refl, refl, refl)
begins_so (form.Service to category from (kind.Position position time)) x = (112, refl, refl, refl)

-- and so neither as a comment nor as a sentence
call_first : (c : Call) (x : Extra) (text : List ℕ) → text ≡ reported_text c x → (first_of text ≡ 35) ⊎ (first_of text ≡ 36) → ⊥
call_first c x text is (inl e) = let s = begins_so c x in eqb-false s.0 35 s.2 (sym s.1 ∙ ap first_of (sym is) ∙ e)
call_first c x text is (inr e) = let s = begins_so c x in eqb-false s.0 36 s.3 (sym s.1 ∙ ap first_of (sym is) ∙ e)

calls_choice : IsChoice Nothings IsCallText IsCallLine
unfolding Nothings
calls_choice = record {
  left = λ _ text h. (call_line.Nothing, h);
  right = λ t text h. (call_line.Call t.0 t.1, h);
  back = elim [ call_line.Nothing ↦ λ text is. inl (tt, is) | call_line.Call c x ↦ λ text is. inr ((c, x), is) ];
}

call_lines : HasGrammar IsCallLine
call_lines =
    of_choice Nothings IsCallText IsCallLine calls_choice nothing_lines (record { grammar = with_expansion; sound = with_expansion_sound; alike = call_texts_alike })

pub call_lines_judged : IsJudged IsCallLine
call_lines_judged = judged IsCallLine call_lines

pub call_column : (text : List ℕ) (n : ℕ) → (IsNothing text → ⊥) → 1 ≤ n → IsColumn IsCallText text n → IsColumn IsCallLine text n
call_column = others_column calls_choice

abbrev pub ApartLaw : Type 0
ApartLaw = (a b : Call) (x y : Extra) → IsCall a → IsCall b → IsWholeOrAbsent x → IsWholeOrAbsent y → reported_text a x ≡ reported_text b y → (a ≡ b) × (x ≡ y)

-- what follows a joined call shows what was sent after it
one_expansion : (x y : Option Sets) → extra_of x ≡ extra_of y → x ≡ y
one_expansion None None h = refl
one_expansion None (Some y) h = absurd (cc)
one_expansion (Some x) None h = absurd (cc)
one_expansion (Some x) (Some y) h = cc

pub one_call : ApartLaw → (a b : CallLine) (text : List ℕ) → IsCallLine a text → IsCallLine b text → a ≡ b
one_call apart call_line.Nothing call_line.Nothing text h k = refl
one_call apart call_line.Nothing (call_line.Call c x) text h k = absurd (call_first c (extra_of x) text k.1 (inl (nothing_first text h)))
one_call apart (call_line.Call c x) call_line.Nothing text h k = absurd (call_first c (extra_of x) text h.1 (inl (nothing_first text k)))
one_call apart (call_line.Call c x) (call_line.Call d y) text h k =
    let same = apart c d (extra_of x) (extra_of y) h.0.0 k.0.0 h.0.1 k.0.1 (sym h.1 ∙ k.1) in
    ap (λ (e : Call). call_line.Call e x) same.0 ∙ ap (λ (e : Option Sets). call_line.Call d e) (one_expansion x y same.1)

-- ---- lines of calls and sentences

abbrev dollar_grammar : Grammar
dollar_grammar = word (codes "$") anything

sentences_choice : IsChoice (Spells dollar_grammar) IsCallLine IsSentenceLine
sentences_choice = record {
  left = λ parts bytes h. (Sentence (record { ref_ptr = (0, 0); now = bytes }), (refl, (h.0, h.1)));
  right = λ w bytes h. (Said w, h);
  back = elim [ Said w ↦ λ bytes is. inr (w, is) | Sentence text ↦ λ bytes is. inl (grammars.none, (is.1.0, is.1.1, tt)) ];
}

pub sentence_lines_judged : IsJudged IsSentenceLine
sentence_lines_judged =
    judged IsSentenceLine (of_choice (Spells dollar_grammar) IsCallLine IsSentenceLine sentences_choice (of_grammar dollar_grammar refl) call_lines)

pub said_column : (text : List ℕ) (n : ℕ) → ((rest : List ℕ) → text ≡ 36 ∷ rest → ⊥) → IsColumn IsCallLine text n → IsColumn IsSentenceLine text n
said_column [] n other h = absurd (h.is_none call_line.Nothing (empty_says_nothing [] refl))
said_column (b ∷ rest) n other h =
    column_of_kind b sentences_choice (λ parts more k. other rest (ap (λ (c : ℕ). c ∷ rest) (head-eq_of_cons-eq k.1))) rest n (counted IsCallLine call_line.Nothing (b ∷ rest) n (empty_says_nothing [] refl) h) h

no_sentence : (a : CallLine) (text rest : List ℕ) → IsCallLine a text → text ≡ codes "$" ++ rest → ⊥
unfolding first_of
no_sentence call_line.Nothing text rest is e = let same : 35 ≡ 36 = sym (nothing_first text is) ∙ ap first_of e in omega (arith, same)
no_sentence (call_line.Call c x) text rest is e = call_first c (extra_of x) text is.1 (inr (ap first_of e))

pub one_sentence : ApartLaw → (a b : SentenceLine) (text : List ℕ) → IsSentenceLine a text → IsSentenceLine b text → SayTheSame a b
one_sentence apart (Said a) (Said b) text h k = one_call apart a b text h k
one_sentence apart (Said a) (Sentence bytes) text h k = absurd (no_sentence a text k.1.0 h k.1.1)
one_sentence apart (Sentence bytes) (Said b) text h k = absurd (no_sentence b text h.1.0 k h.1.1)
one_sentence apart (Sentence bytes) (Sentence others) text h k = sym h.0 ∙ k.0

-- ---- lines of logs of sentences

no_book : (text : List ℕ) → IsNothing text → is_sentence text ≡ true → ⊥
no_book text none is =
    elim (nothing_is text none) [
      | inl empty ↦ absurd (let at = ap is_sentence (sym empty) ∙ is in cc)
      | inr comment ↦ absurd (let at = ap is_sentence (sym comment.1) ∙ is in cc)
    ]

no_such_book : (b : ℕ) (rest : List ℕ) → (b ≡ 35 → ⊥) → (b ≡ 36 → ⊥) → (w : BookLine) → IsBookLine w (b ∷ rest) → ⊥
no_such_book b rest no_comment no_dollar book.Nothing is = no_comment (nothing_byte b rest is)
no_such_book b rest no_comment no_dollar book.Sentence is = no_dollar (sym (eqb-true 36 b (and_parts (36 == b) true is).0))

pub other_book : (text rest : List ℕ) (b : ℕ) → text ≡ b ∷ rest → (b ≡ 35 → ⊥) → (b ≡ 36 → ⊥) → IsColumn IsBookLine text 1
other_book text rest b e no_comment no_dollar =
    subst (λ (l : List ℕ). IsColumn IsBookLine l 1) (sym e)
    (record {
      is_none = no_such_book b rest no_comment no_dollar;
      before = λ k below.
          let first : k ≡ 0 = omega (arith, below) in
          subst (λ (j : ℕ). Begins IsBookLine (take j (b ∷ rest))) (sym first) (record { value = book.Nothing; rest = []; whole = empty_says_nothing [] refl });
      at = λ within begins. no_such_book b begins.rest no_comment no_dollar begins.value begins.whole;
      within = omega arith;
    })

pub one_book : (a b : BookLine) (text : List ℕ) → IsBookLine a text → IsBookLine b text → a ≡ b
one_book book.Nothing book.Nothing text h k = refl
one_book book.Nothing book.Sentence text h k = absurd (no_book text h k)
one_book book.Sentence book.Nothing text h k = absurd (no_book text k h)
one_book book.Sentence book.Sentence text h k = refl

-- ---- lines of files of exchanges

pub worlds_choice : (point : ExchangePoint) → IsChoice Nothings (IsWorldLine point) (IsWorldFileLine point)
unfolding Nothings
worlds_choice point = record {
  left = λ _ bytes h. (None, h);
  right = λ w bytes h. (Some w, h);
  back = elim [ None ↦ λ bytes h. inl (tt, h) | Some w ↦ λ bytes h. inr (w, h) ];
}

pub world_lines_judged : (point : ExchangePoint) → IsExchangePoint point → IsJudged (IsWorldFileLine point)
world_lines_judged point is =
    judged (IsWorldFileLine point) (of_choice Nothings (IsWorldLine point) (IsWorldFileLine point) (worlds_choice point) nothing_lines (world_grammar point is))

-- a line that says something is no empty line and no comment
world_first : (line : WorldLine) (text : List ℕ) → IsWorldLineText line text → first_of text ≡ 35 → ⊥
unfolding first_of
world_first (world.EndEvent (AtShip at what)) text h e = absurd (omega (arith, ap first_of h.1, e))
world_first (world.EndEvent (AtCoast at what)) text h e = absurd (omega (arith, ap first_of h.1, e))
world_first _ text h e = absurd (omega (arith, ap first_of h.1, e))

pub one_exchange : ((a b : WorldLine) (text : List ℕ) → IsWorldLineText a text → IsWorldLineText b text → a ≡ b)
    → (point : ExchangePoint) (a b : Option WorldLine) (text : List ℕ) → IsWorldFileLine point a text → IsWorldFileLine point b text → a ≡ b
one_exchange one point None None text h k = refl
one_exchange one point None (Some b) text h k = absurd (world_first b text k.1 (nothing_first text h))
one_exchange one point (Some a) None text h k = absurd (world_first a text h.1 (nothing_first text k))
one_exchange one point (Some a) (Some b) text h k = ap Some (one a b text h.1 k.1)

-- ---- lines of a stream

no_elements : (e : List Element) (text : List ℕ) → IsNothing text → text ≡ written elements_line (signs_parts e) → ⊥
no_elements e text none is = let byte = nothing_byte 115 (written blank_and_signs (signs_parts e)) (subst IsNothing is none) in omega (arith, byte)

again : (e : List Element) → map element_of (drop 2 (written elements_line (signs_parts e))) ≡ e
again e = ap (map element_of) (append-nil (map sign_of e)) ∙ elements_again e

pub one_stream : (a b : List Element) (text : List ℕ) → IsStreamLine a text → IsStreamLine b text → a ≡ b
one_stream a b text (inl h) (inl k) = h.0 ∙ sym k.0
one_stream a b text (inl h) (inr k) = absurd (no_elements b text h.1 k.1)
one_stream a b text (inr h) (inl k) = absurd (no_elements a text k.1 h.1)
one_stream a b text (inr h) (inr k) = sym (again a) ∙ ap (λ (l : List ℕ). map element_of (drop 2 l)) (sym h.1 ∙ k.1) ∙ again b

-- a line that was read
pub elements_read : (text rest front : List ℕ) → text ≡ 115 ∷ rest → rest ≡ codes " " ++ front → front ≢ [] → list_all (is_one_of (codes "YB-")) front ≡ true → IsStreamLine (map element_of front) text
elements_read text rest front e f some all =
    inr (some_map element_of front some, e ∙ ap (λ (l : List ℕ). 115 ∷ l) (blank_written rest front all f))

stream_spelled : (e : List Element) (text : List ℕ) → IsStreamLine e text → ((u : Unit {0}) × Nothings u text) ⊎ ((parts : Parts) × Spells elements_line parts text)
unfolding Nothings
stream_spelled e text (inl h) = inl (tt, h.1)
stream_spelled e text (inr h) =
    inr (signs_parts e, subst (Spells elements_line (signs_parts e)) (sym h.1) (written_spells elements_line (signs_parts e) (signs_are e h.0)))

stream_choice : IsChoice Nothings (Spells elements_line) IsStreamLine
unfolding Nothings
stream_choice = record {
  left = λ _ text h. ([], inl (refl, h));
  right = λ parts text h. (let s = signs_back parts h.0 h.2 in (s.0, inr (s.1, h.1 ∙ ap (λ (l : List ℕ). codes "s" ++ l) s.2)));
  back = stream_spelled;
}

stream_column : (b : ℕ) (rest : List ℕ) (left n : ℕ) → (b ≡ 35 → ⊥) → read elements_line (b ∷ rest) ≡ Err left → n + left ≡ length (b ∷ rest) + 1 → IsColumn IsStreamLine (b ∷ rest) n
stream_column b rest left n other e at =
    let stops = read_stops elements_line (b ∷ rest) left refl e in
    others_column stream_choice (b ∷ rest) n (λ is. other (nothing_byte b rest is)) (omega (arith, left_le (Spells elements_line) (b ∷ rest) left stops, at))
    (IsColumn-stops (Spells elements_line) (b ∷ rest) left n stops at)

missed : (rest : List ℕ) (left : ℕ) → read blank_and_signs rest ≡ Err left → read elements_line (115 ∷ rest) ≡ Err left
unfolding after
missed rest left h = word_on (codes "s") blank_and_signs (115 ∷ rest) rest left refl h

pub left_within : (line rest : List ℕ) (left : ℕ) → line ≡ 115 ∷ rest → read blank_and_signs rest ≡ Err left → left ≤ length line
left_within line rest left e h =
    subst (λ (l : List ℕ). left ≤ length l) (sym e) (left_le (Spells elements_line) (115 ∷ rest) left (read_stops elements_line (115 ∷ rest) left refl (missed rest left h)))

pub elements_column : (line rest : List ℕ) (left n : ℕ) → line ≡ 115 ∷ rest → read blank_and_signs rest ≡ Err left → n + left ≡ length line + 1 → IsColumn IsStreamLine line n
elements_column line rest left n e h at =
    subst (λ (l : List ℕ). IsColumn IsStreamLine l n) (sym e) (stream_column 115 rest left n (λ b. omega (arith, b)) (missed rest left h) (at ∙ ap (λ (l : List ℕ). length l + 1) e))

pub other_stream : (text rest : List ℕ) (b : ℕ) → text ≡ b ∷ rest → (b ≡ 35 → ⊥) → (b ≡ 115 → ⊥) → IsColumn IsStreamLine text 1
other_stream text rest b e no_comment no_s =
    subst (λ (l : List ℕ). IsColumn IsStreamLine l 1) (sym e) (stream_column b rest (suc (length rest)) 1 no_comment (no_word 115 [] blank_and_signs b rest no_s) (omega arith))

-- ---- lines at a point of a traffic file

-- each of a station's lines has a first byte
abbrev pub StationsBegin : Type 0
StationsBegin = (line : TrafficLine) (text : List ℕ) → IsLineText line text → (b : ℕ) × (rest : List ℕ) × IsFirstByte line b × (text ≡ b ∷ rest)

-- it is none of those of join's input
stations_byte : (line : TrafficLine) (b : ℕ) → IsFirstByte line b → (b ≡ 35) ⊎ ((b ≡ 114) ⊎ (b ≡ 101)) → ⊥
stations_byte (Event at what) b first h = grind arith
stations_byte _ b first h = omega (arith, first, h)

joined_byte : (line : ReceiverLine) (b : ℕ) (rest : List ℕ) → IsLine line (b ∷ rest) → (b ≡ 35) ⊎ ((b ≡ 114) ⊎ (b ≡ 101))
joined_byte nothing b rest is = inl (nothing_byte b rest is)
joined_byte (reception group e) b rest is = inr (inl (head-eq_of_cons-eq is.1.1))
joined_byte (evidence group pairs) b rest is = inr (inr (head-eq_of_cons-eq is.1.1.1))

station_apart : StationsBegin → (line : ReceiverLine) (station : TrafficLine) (text : List ℕ) → IsLine line text → IsLineText station text → ⊥
station_apart begin line station text is said =
    let first = begin station text said in
    stations_byte station first.0 first.2 (joined_byte line first.0 first.1 (subst (IsLine line) first.3 is))

pub one_point : ((a b : TrafficLine) (text : List ℕ) → IsLineText a text → IsLineText b text → a ≡ b) → StationsBegin
    → (at : Point) (a b : PointLine) (text : List ℕ) → IsPointLine at a text → IsPointLine at b text → a ≡ b
one_point one begin at (joined a) (joined b) text x y = ap joined (one_line a b text x.1 y.1)
one_point one begin at (joined a) (traffic b) text x y = absurd (station_apart begin a b text x.1 y.1)
one_point one begin at (traffic a) (joined b) text x y = absurd (station_apart begin b a text y.1 x.1)
one_point one begin at (traffic a) (traffic b) text x y = ap traffic (one a b text x.1 y.1)

-- lines that begin with r or e in a body
may_in_body : (at : Point) (line : ReceiverLine) → IsBody at → MayBeJoined at line
may_in_body at nothing body = tt
may_in_body at _ body = body

joined_choice : (at : Point) → IsBody at → IsChoice (IsTrafficLine at) IsLine (IsPointLine at)
joined_choice at body = record {
  left = λ l text h. (traffic l, h);
  right = λ l text h. (joined l, (may_in_body at l body, h));
  back = elim [ joined l ↦ λ text h. inr (l, h.1) | traffic l ↦ λ text h. inl (l, h) ];
}

no_traffic : StationsBegin → (at : Point) (b : ℕ) → (b ≡ 114) ⊎ (b ≡ 101) → (line : TrafficLine) (rest : List ℕ) → IsTrafficLine at line (b ∷ rest) → ⊥
no_traffic begin at b which line rest is =
    let first = begin line (b ∷ rest) is.1 in
    stations_byte line first.0 first.2 (inr (subst (λ (n : ℕ). (n ≡ 114) ⊎ (n ≡ 101)) (head-eq_of_cons-eq first.3) which))

-- what was read of a line of join's input is what a line of a body says
pub joined_line : (point : Point) (text : List ℕ) (read : Got) → IsBody point → ReadsJoin text (Ok read) → ReadsJoinedAt point text (Ok (Some read))
joined_line point text read body h = (h.0, ((may_in_body point h.0 body, h.1.0), h.1.1))

joined_fault_at : StationsBegin → (at : Point) (b : ℕ) (rest : List ℕ) (fault : LineFault) → IsBody at → (b ≡ 114) ⊎ (b ≡ 101)
    → ReadsJoin (b ∷ rest) (Err fault) → ReadsJoinedAt at (b ∷ rest) (Err fault)
joined_fault_at begin at b rest (Column n) body which h =
    column_of_kind b (joined_choice at body) (no_traffic begin at b which) rest n (counted IsLine nothing (b ∷ rest) n (empty_says_nothing [] refl) h) h
joined_fault_at begin at b rest NoMemory body which h = tt

pub joined_fault : StationsBegin → (at : Point) (text : List ℕ) (fault : LineFault) → IsBody at
    → (b : ℕ) × (rest : List ℕ) × (text ≡ b ∷ rest) × ((b ≡ 114) ⊎ (b ≡ 101)) → ReadsJoin text (Err fault) → ReadsJoinedAt at text (Err fault)
joined_fault begin at text fault body given h =
    subst (λ (l : List ℕ). ReadsJoinedAt at l (Err fault)) (sym given.2)
    (joined_fault_at begin at given.0 given.1 fault body given.3 (subst (λ (l : List ℕ). ReadsJoin l (Err fault)) given.2 h))

-- other lines
station_choice : (at : Point) → IsChoice (λ (l : ReceiverLine) text. MayBeJoined at l × IsLine l text) (IsTrafficLine at) (IsPointLine at)
station_choice at = record {
  left = λ l text h. (joined l, h);
  right = λ l text h. (traffic l, h);
  back = elim [ joined l ↦ λ text h. inl (l, h) | traffic l ↦ λ text h. inr (l, h) ];
}

no_joined : (at : Point) (b : ℕ) → IsStationsByte at b → (line : ReceiverLine) (rest : List ℕ) → MayBeJoined at line × IsLine line (b ∷ rest) → ⊥
no_joined at b other nothing rest is = other.0 (nothing_byte b rest is.1)
no_joined at b other (reception group e) rest is = other.1 (inl (head-eq_of_cons-eq is.1.1.1)) is.0
no_joined at b other (evidence group pairs) rest is = other.1 (inr (head-eq_of_cons-eq is.1.1.1.1)) is.0

pub station_column : (at : Point) (text : List ℕ) (n : ℕ) → (b : ℕ) × (rest : List ℕ) × (text ≡ b ∷ rest) × IsStationsByte at b → 1 ≤ n → IsColumn (IsTrafficLine at) text n
    → IsColumn (IsPointLine at) text n
station_column at text n given some h =
    subst (λ (l : List ℕ). IsColumn (IsPointLine at) l n) (sym given.2)
    (column_of_kind given.0 (station_choice at) (no_joined at given.0 given.3) given.1 n some (subst (λ (l : List ℕ). IsColumn (IsTrafficLine at) l n) given.2 h))
