-- lines of calls and sentences determine what is written of them
use Rattle.std.proofs.Common.{◌≡◌, ℕ, Bool, ◌&&◌, if◌then◌else◌, List, [], ◌∷◌, ◌++◌, flat_map, refl, sym, ap, ◌∙◌}
use Rattle.std.specs.List.{list_all}
use Rattle.std.proofs.lemmas.Grind.{flat_map-append}
use Rattle.line_engine.specs.Lines.{Lines}
use Rattle.line_engine.specs.Determined.{IsDetermined, BeginsWith}
use Rattle.input_lines.specs.declared.sentences.SentenceLine.{SentenceLine}
use Rattle.input_lines.specs.declared.sentences.SentenceLine.TheVariants.{Said, Sentence}
use Rattle.input_lines.specs.SentenceLine.{IsSentenceLine, SayTheSame}
use Rattle.dsc_sentences.specs.Verdicts.{verdict_of, verdict_text}
use Rattle.input_lines.proofs.PublicLaws.{one_column}
use Rattle.sentence_files.specs.Telling.{AreSentenceLines, call_sentences, is_accepted, line_text, is_well, Gives, EndsSo, sentences_meaning}

-- a line says one thing
abbrev pub OneSentenceLine : Type 0
OneSentenceLine = (a b : SentenceLine) (text : List ℕ) → IsSentenceLine a text → IsSentenceLine b text → SayTheSame a b

-- lines that say the same give the same
same_line : (a b : SentenceLine) → SayTheSame a b → (line_text a ≡ line_text b) × (is_well a ≡ is_well b)
same_line (Said a) (Said b) h = (ap call_sentences h, refl)
same_line (Said a) (Sentence c) h = absurd h
same_line (Sentence c) (Said a) h = absurd h
same_line (Sentence c) (Sentence d) h = (ap (λ (l : List ℕ). verdict_text (verdict_of l) ++ 10 ∷ []) h, ap (λ (l : List ℕ). is_accepted (verdict_of l)) h)

same_given : OneSentenceLine → (a b : List SentenceLine) (lines : Lines) → AreSentenceLines a lines → AreSentenceLines b lines
    → (flat_map line_text a ≡ flat_map line_text b) × (list_all is_well a ≡ list_all is_well b)
same_given one [] [] lines x y = (refl, refl)
same_given one [] (t ∷ b) [] x y = absurd y
same_given one [] (t ∷ b) (l ∷ lines) x y = absurd x
same_given one (s ∷ a) [] [] x y = absurd x
same_given one (s ∷ a) [] (l ∷ lines) x y = absurd y
same_given one (s ∷ a) (t ∷ b) [] x y = absurd x
same_given one (s ∷ a) (t ∷ b) (l ∷ lines) x y =
    let here = same_line s t (one s t l x.0 y.0) in
    let rest = same_given one a b lines x.1 y.1 in (
      ap (λ (w : List ℕ). w ++ flat_map line_text a) here.0 ∙ ap (λ (w : List ℕ). line_text t ++ w) rest.0,
      ap (λ (w : Bool). w && list_all is_well a) here.1 ∙ ap (λ (w : Bool). is_well t && w) rest.1,
    )

same_text : OneSentenceLine → (lines : Lines) (a b : List ℕ) → Gives lines a → Gives lines b → a ≡ b
same_text one lines a b g h = g.text_is ∙ (same_given one g.said h.said lines g.are_lines h.are_lines).0 ∙ sym h.text_is

same_status : OneSentenceLine → (lines : Lines) (a b : List ℕ) (s t : ℕ) → EndsSo lines a s → EndsSo lines b t → s ≡ t
same_status one lines a b s t g h =
    g.status_is ∙ ap (λ (well : Bool). if well then 0 else 1) (same_given one g.said h.said lines g.are_lines h.are_lines).1 ∙ sym h.status_is

-- what is told of a whole input
told_of : (lines : Lines) (text : List ℕ) (status : ℕ) → EndsSo lines text status → Gives lines text
told_of lines text status h = record { said = h.said; are_lines = h.are_lines; text_is = h.text_is }

-- what the first lines say, and what the later ones say
record IsSplit (said : List SentenceLine) (first later : Lines) : Type 0 where
  pub front : List SentenceLine
  pub back : List SentenceLine
  pub list : said ≡ front ++ back
  pub are_first : AreSentenceLines front first

split : (said : List SentenceLine) (first later : Lines) → AreSentenceLines said (first ++ later) → IsSplit said first later
split said [] later are = record { front = []; back = said; list = refl; are_first = tt }
split [] (l ∷ first) later are = absurd are
split (s ∷ said) (l ∷ first) later are =
    let rest = split said first later are.1 in
    record { front = s ∷ rest.front; back = rest.back; list = ap (λ (w : List SentenceLine). s ∷ w) rest.list; are_first = (are.0, rest.are_first) }

begins : OneSentenceLine → (first later : Lines) (text whole : List ℕ) → Gives first text → Gives (first ++ later) whole → BeginsWith whole text
begins one first later text whole g h =
    let parts = split h.said first later h.are_lines in
    let front : text ≡ flat_map line_text parts.front = same_text one first text (flat_map line_text parts.front) g (record { said = parts.front; are_lines = parts.are_first; text_is = refl }) in (
      flat_map line_text parts.back,
      h.text_is
          ∙ ap (flat_map line_text) parts.list
          ∙ flat_map-append line_text parts.front parts.back
          ∙ ap (λ (t : List ℕ). t ++ flat_map line_text parts.back) (sym front),
    )

pub telling_determined : OneSentenceLine → IsDetermined sentences_meaning
telling_determined one = record {
  one_column = λ earlier line m n h k. one_column IsSentenceLine line m n h k;
  one_text = λ lines a b none g h. same_text one lines a b g h;
  grows = λ first later text whole none g h. begins one first later text whole g h;
  one_end = λ lines a b s t none g h. (same_text one lines a b (told_of lines a s g) (told_of lines b t h), same_status one lines a b s t g h);
  ends = λ first later text whole status none g h. begins one first later text whole g (told_of (first ++ later) whole status h);
}
