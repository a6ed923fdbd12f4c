-- what is held after each event of the rules that both stations share: what `specs/After` says
use native.Mathlib.Omega.{arith}
use Rattle.std.proofs.Common.{◌≡◌, ℕ, zero, suc, ◌+◌, ◌<◌, ◌≤◌, ◌⊎◌, inl, inr, ◌==◌, ◌&&◌, ◌||◌, not, Bool, true, false, Option, Some, None, List, [], ◌∷◌, ◌++◌, if◌then◌else◌, refl, sym, ◌∙◌, ap}
use Rattle.std.specs.List.{list_any}
use Rattle.std.proofs.Math.Bool.{or-false, and-true, and-false}
use Rattle.std.proofs.lemmas.Bool.{eq-eqb, ne_eqb, cases_lt}
use Rattle.std.proofs.lemmas.List.Folds.{list_any-append}
use Rattle.std.proofs.lemmas.Option.{none-some}
use Rattle.call_values.specs.declared.calls.Call.{Call}
use Rattle.traffic_rules.specs.declared.acts.Act.{Act}
use Rattle.traffic_rules.specs.declared.acts.Act.TheVariants.{Send, Held}
use Rattle.traffic_rules.specs.declared.held.Holding.{Holding}
use Rattle.traffic_rules.specs.declared.refusals.StationRefusal.TheVariants.{NoSuchCall}
use Rattle.traffic_rules.specs.Histories.{Entry, History}
use Rattle.traffic_rules.specs.declared.held.Side.TheVariants.{Sent, Got}
use Rattle.traffic_rules.specs.Holding.{Places, place_of, first_free, newly_held}
use Rattle.traffic_rules.specs.Occurrences.{Occurrence, ticks, answers, hears, other, is_tick, is_answer}
use Rattle.traffic_rules.specs.HeldTold.{holds, frees, begun_by, begins, ends, held_told, all_held}
use Rattle.traffic_rules.specs.Sending.{asks, acknowledges, is_sendable, refused_full, held_under_least, send_refusal, send_due}
use Rattle.traffic_rules.specs.Answering.{reply_due_to, refused_unless_got, answer_refusal, answer_due}
use Rattle.traffic_rules.specs.Repeating.{repeated, repeats}
use Rattle.traffic_rules.specs.Hearing.{Whereabouts, is_answered_by, is_question, is_got, must_be_held, distress_told, question_due, answered_number, answered_or_shown, due_at_once, heard_due, heard_refusal}
use Rattle.traffic_rules.specs.After.{held_at, freed_at, after_sending, after_answering, after_tick, after_question, after_hearing}
use Rattle.traffic_rules.proofs.Places.{place_from, no_place, number_from, free_number}
use Rattle.traffic_rules.proofs.HeldAfter.{gives_up}
use Rattle.traffic_rules.proofs.HeldLists.{none_changed, one_begun, one_ended, all_ticked}
use Rattle.traffic_rules.proofs.Plain.{sendable}

-- acts that mention no number
pub record AreQuiet (acts : List Act) : Type 0 where
  pub begin : (k : ℕ) → list_any (holds k) acts ≡ false
  pub end : (k : ℕ) → list_any (frees k) acts ≡ false

one_begin : (at n k : ℕ) (o : Option Holding) → list_any (holds k) (repeated at n o) ≡ false
one_begin at n k o = grind arith

one_end : (at n k : ℕ) (o : Option Holding) → list_any (frees k) (repeated at n o) ≡ (gives_up at o && (n == k))
one_end at n k o = grind arith

pub repeats_begin : (at n k : ℕ) (places : Places) → list_any (holds k) (repeats at n places) ≡ false
repeats_begin at n k [] = refl
repeats_begin at n k (o ∷ places) =
    list_any-append (holds k) (repeated at n o) (repeats at (suc n) places)
    ∙ ap (λ (b : Bool). b || list_any (holds k) (repeats at (suc n) places)) (one_begin at n k o) ∙ repeats_begin at (suc n) k places

repeats_past : (at n k : ℕ) (places : Places) → k < n → list_any (frees k) (repeats at n places) ≡ false
repeats_past at n k [] past = refl
repeats_past at n k (o ∷ places) past =
    list_any-append (frees k) (repeated at n o) (repeats at (suc n) places)
    ∙ ap (λ (b : Bool). b || list_any (frees k) (repeats at (suc n) places)) (one_end at n k o ∙ ap (λ (b : Bool). gives_up at o && b) (ne_eqb n k (λ same. omega arith)) ∙ and-false (gives_up at o))
    ∙ repeats_past at (suc n) k places (omega arith)

repeats_end : (at n k i : ℕ) (places : Places) → k ≡ n + i → list_any (frees k) (repeats at n places) ≡ gives_up at (place_of places (suc i))
repeats_end at n k i [] is = refl
repeats_end at n k zero (o ∷ places) is =
    list_any-append (frees k) (repeated at n o) (repeats at (suc n) places)
    ∙ ap (λ (b : Bool). list_any (frees k) (repeated at n o) || b) (repeats_past at (suc n) k places (omega arith)) ∙ or-false (list_any (frees k) (repeated at n o))
    ∙ one_end at n k o ∙ ap (λ (b : Bool). gives_up at o && b) (eq-eqb n k (omega arith)) ∙ and-true (gives_up at o)
repeats_end at n k (suc i) (o ∷ places) is =
    list_any-append (frees k) (repeated at n o) (repeats at (suc n) places)
    ∙ ap (λ (b : Bool). b || list_any (frees k) (repeats at (suc n) places)) (one_end at n k o ∙ ap (λ (b : Bool). gives_up at o && b) (ne_eqb n k (λ same. omega arith)) ∙ and-false (gives_up at o))
    ∙ repeats_end at (suc n) k i places (omega arith)

-- a call that must be held isn't refused where a number is free
room : (must : Bool) (places : Places) (first : Option ℕ) → first_free places ≡ first → refused_full must places ≡ None → must ≡ true → (n : ℕ) × (first ≡ Some n)
room must places first is none wanted = grind arith

due_quiet : (own : ℕ) (accepts : Bool) (o : Option Holding) → AreQuiet (reply_due_to own accepts o)
due_quiet own accepts o = grind arith

told_begin : (k : ℕ) (call : Call) → list_any (holds k) (distress_told call) ≡ false
told_begin k call = grind arith

told_end : (k : ℕ) (call : Call) → list_any (frees k) (distress_told call) ≡ false
told_end k call = grind arith

at_once_quiet : (own : ℕ) (place : Option Whereabouts) (call : Call) → AreQuiet (due_at_once own place call)
at_once_quiet own place call = grind arith

module _ {What : Type 0} (occurs : What → Occurrence) (e : Entry What) (h : History What) where
  -- the number of a place that is free, or whose call a heard one answers
  free_within : (n : ℕ) → first_free (all_held occurs h) ≡ Some n → (1 ≤ n) × (n ≤ 16)
  unfolding all_held
  free_within n is = free_number (held_told occurs h) n is

  answered_within : (call : Call) (n : ℕ) → answered_number (all_held occurs h) call ≡ Some n → (1 ≤ n) × (n ≤ 16)
  unfolding all_held
  answered_within call n is = number_from (is_answered_by call) (held_told occurs h) n is

  held_place : (n : ℕ) → 1 ≤ n → n ≤ 16 → place_of (all_held occurs h) n ≡ held_told occurs h n
  unfolding all_held
  held_place n low high = place_from (held_told occurs h) n low high

  no_held_place : (n : ℕ) → 16 < n → place_of (all_held occurs h) n ≡ None
  unfolding all_held
  no_held_place n past = no_place (held_told occurs h) n past

  begins_as : (acts : List Act) → e.acts ≡ acts → (k : ℕ) → begins occurs k e ≡ list_any (holds k) acts
  begins_as acts is k = ap (list_any (holds k)) is

  ends_as : (o : Occurrence) (acts : List Act) → occurs e.what ≡ o → e.acts ≡ acts → (k : ℕ) → ends occurs k e ≡ (is_answer k o || list_any (frees k) acts)
  ends_as o acts happens is k =
      ap (λ (p : Occurrence). is_answer k p || list_any (frees k) e.acts) happens ∙ ap (λ (l : List Act). is_answer k o || list_any (frees k) l) is

  begun_as : (o : Occurrence) (acts : List Act) → occurs e.what ≡ o → e.acts ≡ acts → begun_by (occurs e.what) e.at e.acts ≡ begun_by o e.at acts
  begun_as o acts happens is = ap (λ (p : Occurrence). begun_by p e.at e.acts) happens ∙ ap (λ (l : List Act). begun_by o e.at l) is

  -- an event that is neither a tick nor an operator's answer, with acts that mention no number, leaves all
  pub after_nothing : occurs e.what ≡ other → AreQuiet e.acts → all_held occurs (e ∷ h) ≡ all_held occurs h
  after_nothing happens quiet = none_changed occurs e h quiet.begin (λ k. ends_as other e.acts happens refl k ∙ quiet.end k) (ap is_tick happens)

  pub after_hearing_nothing : (call : Call) → occurs e.what ≡ hears call → AreQuiet e.acts → all_held occurs (e ∷ h) ≡ all_held occurs h
  after_hearing_nothing call happens quiet =
      none_changed occurs e h quiet.begin (λ k. ends_as (hears call) e.acts happens refl k ∙ quiet.end k) (ap is_tick happens)

  -- a call that is sent is held under the least free number
  pub after_held : (call : Call) (times n : ℕ) → occurs e.what ≡ other → e.acts ≡ Send call times ∷ Held n ∷ [] → first_free (all_held occurs h) ≡ Some n
      → all_held occurs (e ∷ h) ≡ held_at (first_free (all_held occurs h)) (all_held occurs h) call Sent e.at
  after_held call times n happens acts free =
      let within = free_within n free in
      one_begun occurs e h n (newly_held call Sent e.at) within.0 within.1
      (λ k. begins_as _ acts k ∙ or-false (n == k)) (λ k. ends_as other _ happens acts k) (ap is_tick happens) (begun_as other _ happens acts)
      ∙ ap (λ (o : Option ℕ). held_at o (all_held occurs h) call Sent e.at) (sym free)

  send_by : (call : Call) (a : Bool) → asks call ≡ a → occurs e.what ≡ other → e.acts ≡ send_due (all_held occurs h) call
      → refused_full (asks call) (all_held occurs h) ≡ None → all_held occurs (e ∷ h) ≡ after_sending (all_held occurs h) call e.at
  send_by call false is happens acts none =
      let here : e.acts ≡ Send call 1 ∷ [] = acts ∙ ap (λ (b : Bool). Send call 1 ∷ (if b then held_under_least (first_free (all_held occurs h)) else [])) is in
      none_changed occurs e h (λ k. begins_as _ here k) (λ k. ends_as other _ happens here k) (ap is_tick happens)
      ∙ ap (λ (b : Bool). if b then held_at (first_free (all_held occurs h)) (all_held occurs h) call Sent e.at else all_held occurs h) (sym is)
  send_by call true is happens acts none =
      let found = room (asks call) (all_held occurs h) (first_free (all_held occurs h)) refl none is in
      let here : e.acts ≡ Send call 1 ∷ Held found.0 ∷ [] =
      acts ∙ ap (λ (b : Bool). Send call 1 ∷ (if b then held_under_least (first_free (all_held occurs h)) else [])) is
      ∙ ap (λ (o : Option ℕ). Send call 1 ∷ held_under_least o) found.1 in
      after_held call 1 found.0 happens here found.1
      ∙ ap (λ (b : Bool). if b then held_at (first_free (all_held occurs h)) (all_held occurs h) call Sent e.at else all_held occurs h) (sym is)

  -- after an operator's call was sent
  pub after_send : (own : ℕ) (call : Call) → occurs e.what ≡ other → e.acts ≡ send_due (all_held occurs h) call
      → send_refusal own (all_held occurs h) call ≡ None → all_held occurs (e ∷ h) ≡ after_sending (all_held occurs h) call e.at
  after_send own call happens acts none = send_by call (asks call) refl happens acts (sendable (is_sendable own call) _ none)

  got_within : (n : ℕ) → answer_refusal (all_held occurs h) n ≡ None → (n < 1) ⊎ (1 ≤ n) → (n ≤ 16) ⊎ (16 < n) → (1 ≤ n) × (n ≤ 16)
  got_within n none (inl none_low) high =
      let zeroth : n ≡ 0 = omega arith in
      absurd (none-some (NoSuchCall n) (sym (sym (ap (λ (m : ℕ). refused_unless_got n (place_of (all_held occurs h) m)) zeroth) ∙ none)))
  got_within n none (inr low) (inl high) = (low, high)
  got_within n none (inr low) (inr past) = absurd (none-some (NoSuchCall n) (sym (sym (ap (refused_unless_got n) (no_held_place n past)) ∙ none)))

  high_or_past : (n : ℕ) → (16 < n) ⊎ (n ≤ 16) → (n ≤ 16) ⊎ (16 < n)
  high_or_past n (inl past) = inr past
  high_or_past n (inr high) = inl high

  -- after an operator answered or declined a call
  pub after_answer : (own n : ℕ) (accepts : Bool) → occurs e.what ≡ answers n → e.acts ≡ answer_due own (all_held occurs h) n accepts
      → answer_refusal (all_held occurs h) n ≡ None → all_held occurs (e ∷ h) ≡ after_answering (all_held occurs h) n
  after_answer own n accepts happens acts none =
      let within = got_within n none (cases_lt n 1) (high_or_past n (cases_lt 16 n)) in
      let quiet = due_quiet own accepts (place_of (all_held occurs h) n) in
      one_ended occurs e h n within.0 within.1 (λ k. begins_as _ acts k ∙ quiet.begin k)
      (λ k. ends_as (answers n) _ happens acts k ∙ ap (λ (b : Bool). (n == k) || b) (quiet.end k) ∙ or-false (n == k)) (ap is_tick happens)

  tick_ends : (front : List Act) → occurs e.what ≡ ticks → e.acts ≡ front ++ repeats e.at 1 (all_held occurs h) → AreQuiet front
      → (k : ℕ) → 1 ≤ k → k ≤ 16 → ends occurs k e ≡ gives_up e.at (held_told occurs h k)
  tick_ends front happens acts quiet zero low high = absurd (omega arith)
  tick_ends front happens acts quiet (suc i) low high =
      ends_as ticks _ happens acts (suc i) ∙ list_any-append (frees (suc i)) front (repeats e.at 1 (all_held occurs h))
      ∙ ap (λ (b : Bool). b || list_any (frees (suc i)) (repeats e.at 1 (all_held occurs h))) (quiet.end (suc i))
      ∙ repeats_end e.at 1 (suc i) i (all_held occurs h) (omega arith) ∙ ap (gives_up e.at) (held_place (suc i) low high)

  -- after a tick, whose acts in front mention no number
  pub after_ticking : (front : List Act) → occurs e.what ≡ ticks → e.acts ≡ front ++ repeats e.at 1 (all_held occurs h) → AreQuiet front
      → all_held occurs (e ∷ h) ≡ after_tick (all_held occurs h) e.at
  after_ticking front happens acts quiet =
      all_ticked occurs e h
      (λ k. begins_as _ acts k ∙ list_any-append (holds k) front (repeats e.at 1 (all_held occurs h))
      ∙ ap (λ (b : Bool). b || list_any (holds k) (repeats e.at 1 (all_held occurs h))) (quiet.begin k) ∙ repeats_begin e.at 1 k (all_held occurs h))
      (tick_ends front happens acts quiet) (ap is_tick happens)

  question_by : (call : Call) (g : Bool) → is_got (all_held occurs h) call ≡ g → is_question call ≡ true → occurs e.what ≡ hears call
      → e.acts ≡ question_due (all_held occurs h) call → heard_refusal (all_held occurs h) call ≡ None
      → all_held occurs (e ∷ h) ≡ after_question (all_held occurs h) call e.at
  question_by call true got asked happens acts none =
      let here : e.acts ≡ distress_told call ++ [] = acts ∙ ap (λ (b : Bool). distress_told call ++ (if b then [] else held_under_least (first_free (all_held occurs h)))) got in
      none_changed occurs e h
      (λ k. begins_as _ here k ∙ list_any-append (holds k) (distress_told call) [] ∙ or-false (list_any (holds k) (distress_told call)) ∙ told_begin k call)
      (λ k. ends_as (hears call) _ happens here k ∙ list_any-append (frees k) (distress_told call) [] ∙ or-false (list_any (frees k) (distress_told call)) ∙ told_end k call)
      (ap is_tick happens)
      ∙ ap (λ (b : Bool). if b then all_held occurs h else held_at (first_free (all_held occurs h)) (all_held occurs h) call Got e.at) (sym got)
  question_by call false got asked happens acts none =
      let must : must_be_held (all_held occurs h) call ≡ true = ap (λ (b : Bool). b && not (is_got (all_held occurs h) call)) asked ∙ ap (λ (b : Bool). not b) got in
      let found = room (must_be_held (all_held occurs h) call) (all_held occurs h) (first_free (all_held occurs h)) refl none must in
      let within = free_within found.0 found.1 in
      let here : e.acts ≡ distress_told call ++ Held found.0 ∷ [] =
      acts ∙ ap (λ (b : Bool). distress_told call ++ (if b then [] else held_under_least (first_free (all_held occurs h)))) got
      ∙ ap (λ (o : Option ℕ). distress_told call ++ held_under_least o) found.1 in
      one_begun occurs e h found.0 (newly_held call Got e.at) within.0 within.1
      (λ k. begins_as _ here k ∙ list_any-append (holds k) (distress_told call) (Held found.0 ∷ [])
      ∙ ap (λ (b : Bool). b || ((found.0 == k) || false)) (told_begin k call) ∙ or-false (found.0 == k))
      (λ k. ends_as (hears call) _ happens here k ∙ list_any-append (frees k) (distress_told call) (Held found.0 ∷ []) ∙ or-false (list_any (frees k) (distress_told call)) ∙ told_end k call)
      (ap is_tick happens) (begun_as (hears call) _ happens here)
      ∙ ap (λ (o : Option ℕ). held_at o (all_held occurs h) call Got e.at) (sym found.1)
      ∙ ap (λ (b : Bool). if b then all_held occurs h else held_at (first_free (all_held occurs h)) (all_held occurs h) call Got e.at) (sym got)

  acknowledged : (call : Call) (o : Option ℕ) → answered_number (all_held occurs h) call ≡ o → occurs e.what ≡ hears call
      → e.acts ≡ answered_or_shown o → all_held occurs (e ∷ h) ≡ freed_at o (all_held occurs h)
  acknowledged call None number happens acts = none_changed occurs e h (λ k. begins_as _ acts k) (λ k. ends_as (hears call) _ happens acts k) (ap is_tick happens)
  acknowledged call (Some n) number happens acts =
      let within = answered_within call n number in
      one_ended occurs e h n within.0 within.1 (λ k. begins_as _ acts k) (λ k. ends_as (hears call) _ happens acts k ∙ or-false (n == k)) (ap is_tick happens)

  heard_by : (own : ℕ) (place : Option Whereabouts) (call : Call) (q a : Bool) → is_question call ≡ q → acknowledges call ≡ a → occurs e.what ≡ hears call
      → e.acts ≡ (if q then question_due (all_held occurs h) call
      else (if a then answered_or_shown (answered_number (all_held occurs h) call) else due_at_once own place call))
      → heard_refusal (all_held occurs h) call ≡ None
      → all_held occurs (e ∷ h) ≡ (if q then after_question (all_held occurs h) call e.at
      else (if a then freed_at (answered_number (all_held occurs h) call) (all_held occurs h) else all_held occurs h))
  heard_by own place call true a asked acked happens acts none = question_by call (is_got (all_held occurs h) call) refl asked happens acts none
  heard_by own place call false true asked acked happens acts none = acknowledged call (answered_number (all_held occurs h) call) refl happens acts
  heard_by own place call false false asked acked happens acts none =
      let quiet = at_once_quiet own place call in
      none_changed occurs e h (λ k. begins_as _ acts k ∙ quiet.begin k) (λ k. ends_as (hears call) _ happens acts k ∙ quiet.end k) (ap is_tick happens)

  -- after a call was heard
  pub after_heard : (own : ℕ) (place : Option Whereabouts) (call : Call) → occurs e.what ≡ hears call → e.acts ≡ heard_due own place (all_held occurs h) call
      → heard_refusal (all_held occurs h) call ≡ None → all_held occurs (e ∷ h) ≡ after_hearing (all_held occurs h) call e.at
  after_heard own place call happens acts none = heard_by own place call (is_question call) (acknowledges call) refl refl happens acts none
