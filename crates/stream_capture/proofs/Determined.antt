-- the lines of a stream determine what is told of its starts
use Rattle.std.proofs.Common.{◌≡◌, ℕ, ◌+◌, ◌≤◌, if◌then◌else◌, List, [], ◌∷◌, ◌++◌, length, refl, sym, ap, ◌∙◌, subst, append_assoc, length-append, arith}
use Rattle.ten_unit.specs.declared.character.Element.{Element}
use Rattle.line_grammar.specs.Columns.{Spelling}
use Rattle.line_engine.specs.Lines.{Lines}
use Rattle.line_engine.specs.Determined.{IsDetermined, BeginsWith}
use Rattle.input_lines.specs.StreamLine.{IsStreamLine}
use Rattle.input_lines.proofs.PublicLaws.{one_column}
use Rattle.long_capture.specs.Captures.{decided}
use Rattle.stream_capture.specs.Telling.{AreStreamLines, stream_of, AnsweredStart, AreAnsweredStarts, told_text, are_reported, GivesStarts, EndsStarts, capture_meaning}
use Rattle.stream_capture.proofs.Texts.{told_append}
use Rattle.stream_capture.proofs.Fronts.{OneAnswer, Stays, told_stays, told_goes_on, one_told}

-- ---- lines of any language

-- the lines spell these values, one each
abbrev AreSaid : {W : Type 0} → Spelling W → List W → Lines → Type 0
AreSaid L [] [] = Unit {0}
AreSaid L [] (text ∷ lines) = ⊥
AreSaid L (value ∷ said) [] = ⊥
AreSaid L (value ∷ said) (text ∷ lines) = L value text × AreSaid L said lines

same_said : {W : Type 0} (L : Spelling W) → ((a b : W) (text : List ℕ) → L a text → L b text → a ≡ b)
    → (a b : List W) (lines : Lines) → AreSaid L a lines → AreSaid L b lines → a ≡ b
same_said L one [] [] lines x y = refl
same_said L one [] (t ∷ b) [] x y = absurd y
same_said L one [] (t ∷ b) (l ∷ lines) x y = absurd x
same_said L one (s ∷ a) [] [] x y = absurd x
same_said L one (s ∷ a) [] (l ∷ lines) x y = absurd y
same_said L one (s ∷ a) (t ∷ b) [] x y = absurd x
same_said {W = W} L one (s ∷ a) (t ∷ b) (l ∷ lines) x y =
    ap (λ (w : W). w ∷ a) (one s t l x.0 y.0) ∙ ap (λ (w : List W). t ∷ w) (same_said L one a b lines x.1 y.1)

-- what the first lines say, and what the later ones say
record IsSplit {W : Type 0} (L : Spelling W) (said : List W) (first later : Lines) : Type 0 where
  pub front : List W
  pub back : List W
  pub list : said ≡ front ++ back
  pub are_first : AreSaid L front first

split : {W : Type 0} (L : Spelling W) (said : List W) (first later : Lines) → AreSaid L said (first ++ later) → IsSplit L said first later
split L said [] later are = record { front = []; back = said; list = refl; are_first = tt }
split L [] (l ∷ first) later are = absurd are
split {W = W} L (s ∷ said) (l ∷ first) later are =
    let rest = split L said first later are.1 in
    record { front = s ∷ rest.front; back = rest.back; list = ap (λ (w : List W). s ∷ w) rest.list; are_first = (are.0, rest.are_first) }

-- ---- lines of a stream

stream_lines : (said : List (List Element)) (lines : Lines) → AreStreamLines said lines → AreSaid IsStreamLine said lines
stream_lines [] [] are = tt
stream_lines [] (text ∷ lines) are = absurd are
stream_lines (added ∷ said) [] are = absurd are
stream_lines (added ∷ said) (text ∷ lines) are = (are.0, stream_lines said lines are.1)

pub stream_append : (front back : List (List Element)) → stream_of (front ++ back) ≡ stream_of front ++ stream_of back
stream_append [] back = refl
stream_append (added ∷ front) back =
    ap (λ (e : List Element). added ++ e) (stream_append front back) ∙ sym (append_assoc added (stream_of front) (stream_of back))

-- a line adds one list of elements
abbrev pub OneStreamLine : Type 0
OneStreamLine = (a b : List Element) (text : List ℕ) → IsStreamLine a text → IsStreamLine b text → a ≡ b

-- lines make one stream
one_stream : OneStreamLine → (x y : List (List Element)) (lines : Lines) → AreStreamLines x lines → AreStreamLines y lines → stream_of x ≡ stream_of y
one_stream one x y lines a b = ap stream_of (same_said IsStreamLine one x y lines (stream_lines x lines a) (stream_lines y lines b))

-- the stream of the first lines goes on to that of all lines
stream_goes_on : OneStreamLine → (x y : List (List Element)) (first later : Lines) → AreStreamLines x first → AreStreamLines y (first ++ later)
    → (more : List Element) × (stream_of y ≡ stream_of x ++ more)
stream_goes_on one x y first later a b =
    let parts = split IsStreamLine y first later (stream_lines y (first ++ later) b) in
    let same = same_said IsStreamLine one parts.front x first parts.are_first (stream_lines x first a) in (
      stream_of parts.back,
      ap stream_of parts.list ∙ stream_append parts.front parts.back ∙ ap (λ (s : List (List Element)). stream_of s ++ stream_of parts.back) same,
    )

-- ---- one text

told_alike : OneAnswer → (e f : List Element) → e ≡ f → (bound : List Element → ℕ) (a b : List AnsweredStart)
    → AreAnsweredStarts e (bound e) a → AreAnsweredStarts f (bound f) b → a ≡ b
told_alike one e f same bound a b x y = one_told one e (bound e) a b x (subst (λ (g : List Element). AreAnsweredStarts g (bound g) b) (sym same) y)

one_text : OneStreamLine → OneAnswer → (lines : Lines) (a b : List ℕ) → GivesStarts lines a → GivesStarts lines b → a ≡ b
one_text line answer lines a b g h =
    let stream = one_stream line g.said h.said lines g.are_lines h.are_lines in
    let told = told_alike answer (stream_of g.said) (stream_of h.said) stream (λ e. decided (length e)) g.told h.told g.are_told h.are_told in
    g.text_is ∙ ap (told_text 0) told ∙ sym h.text_is

pub one_end : OneStreamLine → OneAnswer → (v w : Lines) (x y : List (List Element)) → AreStreamLines x v → AreStreamLines y w → stream_of x ≡ stream_of y
    → (a b : List ℕ) (s t : ℕ) → EndsStarts v a s → EndsStarts w b t → (a ≡ b) × (s ≡ t)
one_end line answer v w x y p q same a b s t g h =
    let stream = one_stream line g.said x v g.are_lines p ∙ same ∙ one_stream line y h.said w q h.are_lines in
    let told = told_alike answer (stream_of g.said) (stream_of h.said) stream (λ e. length e + 150) g.told h.told g.are_told h.are_told in (
      g.text_is ∙ ap (told_text 0) told ∙ sym h.text_is,
      g.status_is ∙ ap (λ (l : List AnsweredStart). if are_reported l then 0 else 1) told ∙ sym h.status_is,
    )

-- ---- a longer text

-- the starts of a stream below a bound by its length are told in this text
record TellsBelow (bound : ℕ → ℕ) (lines : Lines) (text : List ℕ) : Type 0 where
  pub said : List (List Element)
  pub are_lines : AreStreamLines said lines
  pub told : List AnsweredStart
  pub are_told : AreAnsweredStarts (stream_of said) (bound (length (stream_of said))) told
  pub text_is : text ≡ told_text 0 told

begins : OneStreamLine → OneAnswer → Stays → (bound : ℕ → ℕ) → ((n m : ℕ) → n ≤ m → decided n ≤ bound m)
    → (first later : Lines) (text whole : List ℕ) → GivesStarts first text → TellsBelow bound (first ++ later) whole → BeginsWith whole text
begins line answer stays bound rises first later text whole g h =
    let e = stream_of g.said in
    let goes_on = stream_goes_on line g.said h.said first later g.are_lines h.are_lines in
    let all = e ++ goes_on.0 in
    let longer : length e ≤ length all = omega (arith, length-append e goes_on.0) in
    let further = subst (λ (s : List Element). AreAnsweredStarts s (bound (length s)) h.told) goes_on.1 h.are_told in
    let stay = told_stays stays e goes_on.0 g.told g.are_told in
    let told = told_goes_on answer all (decided (length e)) (bound (length all)) g.told h.told (rises (length e) (length all) longer) stay further in
    let back = told_text (0 + length g.told) told.0 in
    (back, h.text_is ∙ ap (told_text 0) told.1 ∙ told_append 0 g.told told.0 ∙ ap (λ (t : List ℕ). t ++ back) (sym g.text_is))

decided_rises : (n m : ℕ) → n ≤ m → decided n ≤ decided m
decided_rises n m rising = omega (arith, rising)

end_is_far : (n m : ℕ) → n ≤ m → decided n ≤ m + 150
end_is_far n m rising = omega (arith, rising)

given_told : (lines : Lines) (text : List ℕ) → GivesStarts lines text → TellsBelow decided lines text
given_told lines text g = record { said = g.said; are_lines = g.are_lines; told = g.told; are_told = g.are_told; text_is = g.text_is }

ended_told : (lines : Lines) (text : List ℕ) (status : ℕ) → EndsStarts lines text status → TellsBelow (λ n. n + 150) lines text
ended_told lines text status h = record { said = h.said; are_lines = h.are_lines; told = h.told; are_told = h.are_told; text_is = h.text_is }

pub capture_determined : OneStreamLine → OneAnswer → Stays → IsDetermined capture_meaning
capture_determined line answer stays = record {
  one_column = λ earlier text m n h k. one_column IsStreamLine text m n h k;
  one_text = λ lines a b none g h. one_text line answer lines a b g h;
  grows = λ first later text whole none g h. begins line answer stays decided decided_rises first later text whole g (given_told (first ++ later) whole h);
  one_end = λ lines a b s t none g h. one_end line answer lines lines g.said g.said g.are_lines g.are_lines refl a b s t g h;
  ends = λ first later text whole status none g h.
      begins line answer stays (λ n. n + 150) end_is_far first later text whole g (ended_told (first ++ later) whole status h);
}
