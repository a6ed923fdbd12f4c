-- the steps of a station, and its legal histories
use Rattle.std.proofs.Common.{◌≡◌, ℕ, ◌≤◌, Option, Some, None, Result, Ok, Err, [], ◌∷◌, ◌++◌, refl, ap, if◌then◌else◌, arith}
use Rattle.std.proofs.lemmas.Bool.{le-ltb}
use Rattle.traffic_rules.specs.declared.refusals.StationRefusal.{StationRefusal}
use Rattle.traffic_rules.specs.declared.refusals.StationRefusal.TheVariants.{TimeBack}
use Rattle.traffic_rules.specs.Moments.{time_back}
use Rattle.traffic_rules.specs.Histories.{Entry, History, last_moment}
use Rattle.traffic_rules.specs.Rules.{Rules, first_refusal, refusal_or, unless_refused, refused, answer_to, continued, Follows, Legal}

pub on_time : (last given : ℕ) → last ≤ given → time_back last given ≡ None
on_time last given h = ap (λ b. if b then Some (TimeBack last given) else None) (le-ltb given last h)

pub in_time : (last given : ℕ) → time_back last given ≡ None → last ≤ given
in_time last given none = grind arith

module _ {What : Type 0} (rules : Rules What) where
  -- the entry of an event at which a station did what is due
  abbrev pub entry_at : History What → (at : ℕ) → What → Entry What
  entry_at h at what = record { at = at; what = what; acts = rules.due h at what }

  pub refused_on_time : (h : History What) (at : ℕ) (what : What) → last_moment h ≤ at → refused rules h at what ≡ rules.refusal h what
  refused_on_time h at what late = ap (λ r. first_refusal r (rules.refusal h what)) (on_time (last_moment h) at late)

  by_rules : (back own : Option StationRefusal) → first_refusal back own ≡ None → own ≡ None
  by_rules back own accepted = grind arith

  -- an entry of a legal history isn't refused by the station's rules
  pub follows_rules : (e : Entry What) (h : History What) → Follows rules e h → rules.refusal h e.what ≡ None
  follows_rules e h follows = by_rules (time_back (last_moment h) e.at) (rules.refusal h e.what) follows.accepted

  pub answer_accepted : (h : History What) (at : ℕ) (what : What) → refused rules h at what ≡ None → answer_to rules h at what ≡ Ok (rules.due h at what)
  answer_accepted h at what is = ap (λ r. refusal_or r (rules.due h at what)) is

  pub continued_refused : (h : History What) (at : ℕ) (what : What) (refusal : StationRefusal) → refused rules h at what ≡ Some refusal → continued rules h at what ≡ h
  continued_refused h at what refusal is = ap (λ r. unless_refused r (entry_at h at what) h) is

  pub continued_accepted : (h : History What) (at : ℕ) (what : What) → refused rules h at what ≡ None → continued rules h at what ≡ entry_at h at what ∷ h
  continued_accepted h at what is = ap (λ r. unless_refused r (entry_at h at what) h) is

  legal_unless : (h : History What) (at : ℕ) (what : What) → rules.IsEvent what → Legal rules h
      → (r : Option StationRefusal) → refused rules h at what ≡ r → Legal rules (unless_refused r (entry_at h at what) h)
  legal_unless h at what event legal r is = grind arith

  -- a legal history goes on legally
  pub legal_continued : (h : History What) (at : ℕ) (what : What) → rules.IsEvent what → Legal rules h → Legal rules (continued rules h at what)
  legal_continued h at what event legal = legal_unless h at what event legal (refused rules h at what) refl

  -- what comes before any entry of a legal history is legal
  pub legal_before : (later h : History What) → Legal rules (later ++ h) → Legal rules h
  legal_before [] h legal = legal
  legal_before (e ∷ later) h legal = legal_before later h legal.1

-- an answer says whether the event was refused
abbrev pub refusal_in : {A : Type 0} → Result A StationRefusal → Option StationRefusal
refusal_in (Ok acts) = None
refusal_in (Err refusal) = Some refusal

abbrev pub acts_in : {A : Type 0} → A → Result A StationRefusal → A
acts_in other (Ok acts) = acts
acts_in other (Err refusal) = other

pub refusal_of : {A : Type 0} (r : Option StationRefusal) (acts : A) (refusal : StationRefusal) → Err refusal ≡ refusal_or r acts → r ≡ Some refusal
refusal_of r acts refusal is = grind arith

pub acts_of : {A : Type 0} (r : Option StationRefusal) (acts given : A) → Ok given ≡ refusal_or r acts → (r ≡ None) × (given ≡ acts)
acts_of r acts given is = grind arith
