-- Facts that are alike at each place have the same answers.
use Rattle.std.proofs.Common.{ℕ, ◌+◌, ◌||◌, ◌⊎◌, List, length, take, get_or, inl, inr}
use Rattle.std.specs.Prelude.{◌↔◌}
use Rattle.call_grammar.specs.Spelling.{through_check}
use Rattle.slot_evidence.specs.declared.places.Seen.{Seen}
use Rattle.slot_evidence.specs.declared.places.Seen.TheVariants as seen
use Rattle.slot_evidence.specs.Facts.{Facts, Symbols, union}
use Rattle.slot_evidence.specs.Seen.{IsSeen, ShowsNone}
use Rattle.slot_evidence.specs.Sheet.{IsEnds, facts_in}
use Rattle.slot_evidence.specs.Alike.{AreAlike}
use Rattle.slot_join.specs.declared.joined.Joined.{Joined}
use Rattle.slot_join.specs.declared.joined.Extra.{Extra}
use Rattle.slot_join.specs.declared.joined.Extra.TheVariants.{Absent, Whole, Broken}
use Rattle.slot_join.specs.Shown.{head_of, late_of, IsLate, Gives, IsShown, IsShownLate}
use Rattle.slot_join.specs.Extra.{IsBlankFrom, IsShownFrom, IsBroken, IsExtra, Follows}
use Rattle.call_values.specs.declared.choices.End.{End}
use Rattle.call_values.specs.declared.calls.Call.{Call}
use Rattle.slot_join.specs.Answer.{HasFormat, IsAnswer, IsReported, IsStopped, StopsAt, StopsWith, BehindFormat, BehindHead}

-- the laws of sets of symbols with the same ends
pub record Laws : Type 0 where
  pub kept : (S T : Symbols) (x : Seen) → AreAlike S T → IsSeen S x → IsSeen T x
  pub itself : (S : Symbols) → AreAlike S S
  pub unions : (S T U V : Symbols) → AreAlike S T → AreAlike U V → AreAlike (λ v. S v || U v) (λ v. T v || V v)
  pub sheet : (F : Facts) (sheet : List Seen) (p : ℕ) → IsEnds F sheet → AreAlike (F p) (facts_in sheet p)

-- alike at each place
pub record Alike (F G : Facts) : Type 0 where
  pub at : (p : ℕ) → AreAlike (F p) (G p)

flip : (F G : Facts) → Alike F G → Alike G F
flip F G alike = record { at = λ p. record { forth = (alike.at p).back; back = (alike.at p).forth } }

none_too : Laws → (F G : Facts) (p : ℕ) → Alike F G → ShowsNone (F p) → ShowsNone (G p)
none_too laws F G p alike none = laws.kept (F p) (G p) seen.None (alike.at p) none

heads_alike : Laws → (F G : Facts) → Alike F G → AreAlike (head_of F) (head_of G)
heads_alike laws F G alike = laws.unions (F 0) (G 0) (F 1) (G 1) (alike.at 0) (alike.at 1)

late_too : Laws → (F G : Facts) (front : List ℕ) (n v : ℕ) → Alike F G → IsLate F front n v → IsLate G front n v
late_too laws F G front n v alike late = record {
  at_end = late.at_end;
  none = none_too laws F G n alike late.none;
  copies = laws.kept (late_of F n) (late_of G n) (seen.One v) (laws.unions (F (n + 2)) (G (n + 2)) (F (n + 3)) (G (n + 3)) (alike.at (n + 2)) (alike.at (n + 3))) late.copies;
}

gives_too : Laws → (F G : Facts) (front : List ℕ) (p v : ℕ) → Alike F G → Gives F front p v → Gives G front p v
gives_too laws F G front p v alike (inl one) = inl (laws.kept (F p) (G p) (seen.One v) (alike.at p) one)
gives_too laws F G front p v alike (inr late) = inr (late_too laws F G front p v alike late)

shown_too : Laws → (F G : Facts) (l : List ℕ) → Alike F G → IsShown F l → IsShown G l
shown_too laws F G l alike a = record {
  format = a.format;
  rest = a.rest;
  begins = a.begins;
  head = laws.kept (head_of F) (head_of G) (seen.One a.format) (heads_alike laws F G alike) a.head;
  places = λ p least below. gives_too laws F G (take p l) p (get_or l p 0) alike (a.places p least below);
}

shown_late_too : Laws → (F G : Facts) (l : List ℕ) → Alike F G → IsShownLate F l → IsShownLate G l
shown_late_too laws F G l alike a = record {
  place = a.place;
  inside = a.inside;
  late = late_too laws F G (take a.place l) a.place (get_or l a.place 0) alike a.late;
}

blank_from_too : Laws → (F G : Facts) (from : ℕ) → Alike F G → IsBlankFrom F from → IsBlankFrom G from
blank_from_too laws F G from alike blank p least below = none_too laws F G p alike (blank p least below)

shown_from_too : Laws → (F G : Facts) (from : ℕ) (l : List ℕ) → Alike F G → IsShownFrom F from l → IsShownFrom G from l
shown_from_too laws F G from l alike shown k below = laws.kept (F (from + k)) (G (from + k)) (seen.One (get_or l k 0)) (alike.at (from + k)) (shown k below)

broken_too : Laws → (F G : Facts) (from : ℕ) (last : End) (n : ℕ) → Alike F G → IsBroken F from last n → IsBroken G from last n
broken_too laws F G from last n alike b = record {
  some = λ blank. b.some (blank_from_too laws G F from (flip F G alike) blank);
  unfinished = λ x lawful shown. b.unfinished x lawful (shown_from_too laws G F from _ (flip F G alike) shown);
  list = b.list;
  longest = record {
    shown = shown_from_too laws F G from b.list alike b.longest.shown;
    viable = b.longest.viable;
    longest = λ other shown viable. b.longest.longest other (shown_from_too laws G F from other (flip F G alike) shown) viable;
  };
  place = b.place;
}

extra_too : Laws → (F G : Facts) (from : ℕ) (last : End) (extra : Extra) → Alike F G → IsExtra F from last extra → IsExtra G from last extra
extra_too laws F G from last Absent alike blank = blank_from_too laws F G from alike blank
extra_too laws F G from last (Whole x) alike whole = (whole.0, shown_from_too laws F G from _ alike whole.1)
extra_too laws F G from last (Broken n) alike broken = broken_too laws F G from last n alike broken

follows_too : Laws → (F G : Facts) (call : Call) (extra : Extra) → Alike F G → Follows F call extra → Follows G call extra
follows_too laws F G call extra alike f = record { last = f.last; own = f.own; is = extra_too laws F G _ f.last extra alike f.is }

reported_too : Laws → (F G : Facts) (answer : Joined) → Alike F G → IsReported F answer → IsReported G answer
reported_too laws F G answer alike r = record {
  call = r.call;
  extra = r.extra;
  lawful = r.lawful;
  shown = shown_too laws F G (through_check r.call) alike r.shown;
  follows = follows_too laws F G r.call r.extra alike r.follows;
  answer_is = r.answer_is;
}

not_late_too : Laws → (F G : Facts) (l : List ℕ) → Alike F G → (IsShownLate F l → ⊥) → IsShownLate G l → ⊥
not_late_too laws F G l alike prompt late = prompt (shown_late_too laws G F l (flip F G alike) late)

stops_at_too : Laws → (F G : Facts) (l : List ℕ) (v : ℕ) (answer : Joined) → Alike F G → StopsAt F l v answer → StopsAt G l v answer
stops_at_too laws F G l v answer alike (inl x) = inl (shown_late_too laws F G l alike x.0, x.1)
stops_at_too laws F G l v answer alike (inr (inl x)) = inr (inl (not_late_too laws F G l alike x.0, x.1, x.2))
stops_at_too laws F G l v answer alike (inr (inr x)) = inr (inr (not_late_too laws F G l alike x.0, x.1, x.2))

stops_too : Laws → (F G : Facts) (l : List ℕ) (here : Seen) (answer : Joined) → Alike F G → StopsWith F l here answer → StopsWith G l here answer
stops_too laws F G l seen.None answer alike stops = stops
stops_too laws F G l (seen.Differ a b) answer alike stops = stops
stops_too laws F G l (seen.One v) answer alike stops = stops_at_too laws F G l v answer alike stops

stopped_too : Laws → (F G : Facts) (answer : Joined) → Alike F G → IsStopped F answer → IsStopped G answer
stopped_too laws F G answer alike s = record {
  list = s.list;
  unreported = λ call lawful shown. s.unreported call lawful (shown_too laws G F (through_check call) (flip F G alike) shown);
  longest = record {
    shown = shown_too laws F G s.list alike s.longest.shown;
    viable = s.longest.viable;
    longest = λ other shown viable. s.longest.longest other (shown_too laws G F other (flip F G alike) shown) viable;
  };
  here = s.here;
  seen = laws.kept (F (length s.list)) (G (length s.list)) s.here (alike.at (length s.list)) s.seen;
  stops = stops_too laws F G s.list s.here answer alike s.stops;
}

has_format_too : Laws → (F G : Facts) (f : ℕ) → Alike F G → HasFormat F f → HasFormat G f
has_format_too laws F G f alike has = record {
  is_one = has.is_one;
  first = λ both none. has.first both (none_too laws G F 0 (flip F G alike) none);
  second = λ both none. has.second both (none_too laws G F 1 (flip F G alike) none);
}

end_too : Laws → (F G : Facts) (answer : Joined) → Alike F G → IsReported F answer ⊎ IsStopped F answer → IsReported G answer ⊎ IsStopped G answer
end_too laws F G answer alike (inl reported) = inl (reported_too laws F G answer alike reported)
end_too laws F G answer alike (inr stopped) = inr (stopped_too laws F G answer alike stopped)

behind_format_too : Laws → (F G : Facts) (f : ℕ) (answer : Joined) → Alike F G → BehindFormat F f answer → BehindFormat G f answer
behind_format_too laws F G f answer alike (inl outside) = inl outside
behind_format_too laws F G f answer alike (inr (inl x)) = inr (inl (x.0, x.1, none_too laws F G 0 alike x.2, x.3))
behind_format_too laws F G f answer alike (inr (inr (inl x))) =
    inr (inr (inl (x.0, x.1, λ none. x.2 (none_too laws G F 0 (flip F G alike) none), none_too laws F G 1 alike x.3, x.4)))
behind_format_too laws F G f answer alike (inr (inr (inr x))) = inr (inr (inr (has_format_too laws F G f alike x.0, end_too laws F G answer alike x.1)))

behind_head_too : Laws → (F G : Facts) (h : Seen) (answer : Joined) → Alike F G → BehindHead F h answer → BehindHead G h answer
behind_head_too laws F G seen.None answer alike is = is
behind_head_too laws F G (seen.Differ a b) answer alike is = is
behind_head_too laws F G (seen.One f) answer alike is = behind_format_too laws F G f answer alike is

pub answer_too : Laws → (F G : Facts) (answer : Joined) → Alike F G → IsAnswer F answer → IsAnswer G answer
answer_too laws F G answer alike a = record {
  head = a.head;
  seen = laws.kept (head_of F) (head_of G) a.head (heads_alike laws F G alike) a.seen;
  answers = behind_head_too laws F G a.head answer alike a.answers;
}

pub answers_of_ends : Laws → (F G : Facts) (sheet : List Seen) (answer : Joined) → IsEnds F sheet
    → (IsAnswer (union F G) answer ↔ IsAnswer (union (facts_in sheet) G) answer)
answers_of_ends laws F G sheet answer ends =
    let alike : Alike (union F G) (union (facts_in sheet) G) =
    record { at = λ p. laws.unions (F p) (facts_in sheet p) (G p) (G p) (laws.sheet F sheet p ends) (laws.itself (G p)) } in (
      answer_too laws (union F G) (union (facts_in sheet) G) answer alike,
      answer_too laws (union (facts_in sheet) G) (union F G) answer (flip (union F G) (union (facts_in sheet) G) alike),
    )
