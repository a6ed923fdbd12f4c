-- the texts of calls, with and without an expansion
use Rattle.std.proofs.Common.{◌≡◌, ℕ, true, List, ◌++◌, Option, Some, None, refl, sym, ◌∙◌, ap, subst}
use Rattle.call_values.specs.declared.calls.Call.{Call}
use Rattle.call_values.specs.declared.calls.Call.TheVariants.{Alert, Ack, Relay, RelayAck, AllShips, AreaCall, GroupCall, Individual, Service}
use Rattle.call_values.specs.declared.parts.Kind.TheVariants.{Test, AskPosition, Position}
use Rattle.call_values.specs.Calls.{IsCall}
use Rattle.expansion.specs.declared.values.Sets.{Sets}
use Rattle.slot_join.specs.declared.joined.Extra.{Extra}
use Rattle.slot_join.specs.declared.joined.Extra.TheVariants.{Absent, Whole, Broken}
use Rattle.line_grammar.specs.Grammar.{Grammar, finish, none, Spells, written}
use Rattle.line_grammar.specs.inside.Reading.{fits}
use Rattle.line_grammar.specs.inside.Soundness.{is_sound}
use Rattle.line_grammar.proofs.Stops.{IsAlike}
use Rattle.call_texts.specs.CallGrammar.{calls, expansion, perhaps}
use Rattle.call_texts.specs.CallParts.{call_text, expansion_text}
use Rattle.call_texts.specs.Texts.{IsCallText, IsWholeOrAbsent, extra_of, extra_text, reported_text}
use Rattle.call_texts.specs.inside.Expansions.{tail_parts}
use Rattle.call_texts.specs.inside.Places.{call_parts}
use Rattle.line_grammar.proofs.Sections.{Section, followed, closed, renamed}
use Rattle.call_texts.proofs.CallTexts.{calls_section}
use Rattle.call_texts.proofs.ExpansionTexts.{tail_section}
use Rattle.line_grammar.proofs.Forms.{Texts, one_value, texts_alike}

-- the texts of calls with nothing after them
pub bare_is : (c : Call) → call_text c ≡ written (calls finish) (call_parts c none)
unfolding call_text
bare_is (Alert casualty) = refl
bare_is (Ack from casualty) = refl
bare_is (Relay to from casualty ask) = refl
bare_is (RelayAck to from casualty) = refl
bare_is (AllShips category from one two f1 f2) = refl
bare_is (AreaCall area category from one two f1 f2) = refl
bare_is (GroupCall group category from one two f1 f2) = refl
bare_is (Individual to category from one two message end) = refl
bare_is (Service to category from (Test reply)) = refl
bare_is (Service to category from AskPosition) = refl
bare_is (Service to category from (Position position time)) = refl

pub bare_sound : is_sound (calls finish) ≡ true
unfolding fits
bare_sound = refl

pub bare_texts : Texts {V = Call} (calls finish) IsCall (λ c. call_parts c none) call_text
bare_texts = record {
  form = closed calls_section;
  sound = bare_sound;
  plain = refl;
  all = refl;
  text_is = λ c h. bare_is c;
}

-- the texts of calls that an expansion may follow
abbrev pub with_expansion : Grammar
with_expansion = calls (perhaps expansion finish)

tail_is : (x : Option Sets) → extra_text (extra_of x) ≡ written (perhaps expansion finish) (tail_parts x none)
unfolding expansion_text
tail_is None = refl
tail_is (Some x) = refl

text_is : (c : Call) (x : Option Sets) → IsCall c → reported_text c (extra_of x) ≡ written with_expansion (call_parts c (tail_parts x none))
text_is c x h =
    ap (λ (l : List ℕ). l ++ extra_text (extra_of x)) (bare_is c) ∙ ap (λ (l : List ℕ). written (calls finish) (call_parts c none) ++ l) (tail_is x)
    ∙ sym (calls_section.split c h (perhaps expansion finish) (tail_parts x none))

-- what follows a call, by the expansion
abbrev expansion_in : Extra → Option Sets
expansion_in (Whole x) = Some x
expansion_in _ = None

whole_again : (x : Extra) → IsWholeOrAbsent x → extra_of (expansion_in x) ≡ x
whole_again Absent h = refl
whole_again (Whole x) h = refl
whole_again (Broken n) h = absurd h

pub with_expansion_sound : is_sound with_expansion ≡ true
unfolding fits
with_expansion_sound = refl

pub texts : Texts {V = Call × Option Sets} with_expansion (λ w. IsCall w.0 × IsWholeOrAbsent (extra_of w.1)) (λ w. call_parts w.0 (tail_parts w.1 none)) (λ w. reported_text w.0 (extra_of w.1))
texts = record {
  form = closed (followed calls_section tail_section);
  sound = with_expansion_sound;
  plain = refl;
  all = refl;
  text_is = λ w h. text_is w.0 w.1 h.0;
}

-- two texts belong to two calls or to two expansions
pub one_call : (a b : Call) (x y : Extra) → IsCall a → IsCall b → IsWholeOrAbsent x → IsWholeOrAbsent y → reported_text a x ≡ reported_text b y → (a ≡ b) × (x ≡ y)
one_call a b x y h k m n e =
    let there = whole_again x m in
    let other = whole_again y n in
    let same = one_value texts (a, expansion_in x) (b, expansion_in y) (h, subst IsWholeOrAbsent (sym there) m) (k, subst IsWholeOrAbsent (sym other) n) (ap (reported_text a) there ∙ e ∙ sym (ap (reported_text b) other)) in
    (ap (λ (w : Call × Option Sets). w.0) same, sym there ∙ ap (λ (w : Call × Option Sets). extra_of w.1) same ∙ other)

-- the lines of the grammar are these texts
pub call_texts_alike : IsAlike (Spells with_expansion) IsCallText
call_texts_alike = texts_alike texts
