-- What a run of words says at its plan, and by its status.
use Rattle.std.proofs.Common.{◌≡◌, ◌≢◌, ℕ, ◌≤◌, List, inl, inr, arith, ap, subst}
use Rattle.std.specs.Prelude.{◌⊎◌}
use Rattle.byte_streams.specs.declared.streams.Source
use Rattle.byte_streams.specs.declared.streams.Sink
use Rattle.byte_streams.specs.Streams.{Rises}
use Rattle.line_engine.specs.Endings.{IsFinished, IsOfFault, IsBrokenOff, Writes, TellsWhole, TellsFault, TellsSoFar}
use Rattle.command_line.specs.declared.plans.Plan.{Plan}
use Rattle.command_line.specs.Words.{IsPlan}
use Rattle.dsc_cmd.specs.Plans.{meaning_of, input_of, words_refused, IsQuietPlan, IsUnplanned, CutsOffWords, CutsOffPlan, TellsPlanFront}
use Rattle.dsc_cmd.specs.Promises.{IsUnbegun, KeepsWords}
use Rattle.dsc_cmd.proofs.PlanRuns.{RunsPlan}

abbrev pub OnePlan : Type 0
OnePlan = (words : List (List ℕ)) (a b : Plan) → IsPlan words a → IsPlan words b → a ≡ b

-- ---- statuses

two_or_five : {P : Type 0} (status n : ℕ) → (status ≡ 2) ⊎ (status ≡ 5) → status ≡ n → (n ≡ 2 → ⊥) → (n ≡ 5 → ⊥) → P
two_or_five status n (inl two) is no_two no_five = absurd (no_two (omega (arith, two, is)))
two_or_five status n (inr five) is no_two no_five = absurd (no_five (omega (arith, five, is)))

pub six_unfinished : {P : Type 0} (status : ℕ) → status ≡ 6 → IsFinished status → P
six_unfinished status six (inl is) = absurd (omega (arith, six, is))
six_unfinished status six (inr is) = absurd (omega (arith, six, is))

six_no_fault : {P : Type 0} (status : ℕ) → status ≡ 6 → IsOfFault status → P
six_no_fault status six (inl is) = absurd (omega (arith, six, is))
six_no_fault status six (inr is) = absurd (omega (arith, six, is))

no_two : {P : Type 0} (status : ℕ) → IsFinished status ⊎ IsOfFault status ⊎ (status ≡ 4) ⊎ (status ≡ 5) ⊎ (status ≡ 6) → status ≡ 2 → P
no_two status (inl (inl is)) two = absurd (omega (arith, two, is))
no_two status (inl (inr is)) two = absurd (omega (arith, two, is))
no_two status (inr (inl (inl is))) two = absurd (omega (arith, two, is))
no_two status (inr (inl (inr is))) two = absurd (omega (arith, two, is))
no_two status (inr (inr (inl is))) two = absurd (omega (arith, two, is))
no_two status (inr (inr (inr (inl is)))) two = absurd (omega (arith, two, is))
no_two status (inr (inr (inr (inr is)))) two = absurd (omega (arith, two, is))

at_most_seven : (status : ℕ) → IsFinished status ⊎ IsOfFault status ⊎ (status ≡ 4) ⊎ (status ≡ 5) ⊎ (status ≡ 6) → status ≤ 7
at_most_seven status (inl (inl is)) = omega (arith, is)
at_most_seven status (inl (inr is)) = omega (arith, is)
at_most_seven status (inr (inl (inl is))) = omega (arith, is)
at_most_seven status (inr (inl (inr is))) = omega (arith, is)
at_most_seven status (inr (inr (inl is))) = omega (arith, is)
at_most_seven status (inr (inr (inr (inl is)))) = omega (arith, is)
at_most_seven status (inr (inr (inr (inr is)))) = omega (arith, is)

module _ {In Out : Type 0} (words : List (List ℕ)) (source : Source.Ghosts In) (sink : Sink.Ghosts Out) (from rest : In) (before after : Out) (status : ℕ) where
  abbrev Keeps : Type 0
  Keeps = KeepsWords words source sink from rest before after status

  abbrev Unbegun : Type 0
  Unbegun = IsUnbegun from rest before after status

  -- at a plan it was a run of its command, or nothing was begun
  pub at_its_plan : OnePlan → Keeps → (plan : Plan) → IsPlan words plan → RunsPlan source sink from rest before after status plan ⊎ Unbegun
  at_its_plan one (inl p) plan planned = inl (subst (RunsPlan source sink from rest before after status) (one words p.plan plan p.planned planned) p.run)
  at_its_plan one (inr (inl r)) plan planned = absurd (r.0 plan planned)
  at_its_plan one (inr (inr u)) plan planned = inr u

  pub answered : OnePlan → Keeps → (plan : Plan) → IsPlan words plan → IsFinished status
      → TellsWhole (meaning_of plan) (input_of plan (source.left from)) (input_of plan (source.left rest)) (sink.written before) (sink.written after) (sink.flushed after) status
  answered one keeps plan planned finished = elim (at_its_plan one keeps plan planned) [
    | inl run ↦ run.whole finished
    | inr u ↦ six_unfinished status u.status_is finished
  ]

  pub faulty : OnePlan → Keeps → (plan : Plan) → IsPlan words plan → IsOfFault status
      → TellsFault (meaning_of plan) (input_of plan (source.left from)) (input_of plan (source.left rest)) (sink.written before) (sink.written after) (sink.flushed after) status
  faulty one keeps plan planned is = elim (at_its_plan one keeps plan planned) [
    | inl run ↦ run.faulty is
    | inr u ↦ six_no_fault status u.status_is is
  ]

  pub stopped : OnePlan → Keeps → (plan : Plan) → IsPlan words plan → status ≡ 4
      → TellsSoFar (meaning_of plan) (input_of plan (source.left from)) (input_of plan (source.left rest)) (sink.written before) (sink.written after)
  stopped one keeps plan planned is = elim (at_its_plan one keeps plan planned) [
    | inl run ↦ run.stopped is
    | inr u ↦ absurd (omega (arith, is, u.status_is))
  ]

  pub unwritten : OnePlan → Keeps → (plan : Plan) → IsPlan words plan → IsQuietPlan plan → (status ≡ 4) ⊎ (status ≡ 6) → after ≡ before
  unwritten one keeps plan planned quiet is = elim (at_its_plan one keeps plan planned) [
    | inl run ↦ run.unwritten quiet is
    | inr u ↦ u.unwritten
  ]

  pub completes : OnePlan → Keeps → (plan : Plan) → IsPlan words plan → (Rises (source.faults from) (source.faults rest) → ⊥) → (Rises (sink.faults before) (sink.faults after) → ⊥)
      → IsFinished status ⊎ IsOfFault status ⊎ (status ≡ 6)
  completes one keeps plan planned read write = elim (at_its_plan one keeps plan planned) [
    | inl run ↦ run.completes read write
    | inr u ↦ inr (inr u.status_is)
  ]

  -- ---- whatever the words are

  pub planned : Keeps → IsFinished status ⊎ IsOfFault status ⊎ (status ≡ 4) → (plan : Plan) × IsPlan words plan
  planned (inl p) is = (p.plan, p.planned)
  planned (inr (inl (never, r))) (inl (inl is)) = two_or_five status 0 r.which is (λ e. omega (arith, e)) (λ e. omega (arith, e))
  planned (inr (inl (never, r))) (inl (inr is)) = two_or_five status 1 r.which is (λ e. omega (arith, e)) (λ e. omega (arith, e))
  planned (inr (inl (never, r))) (inr (inl (inl is))) = two_or_five status 3 r.which is (λ e. omega (arith, e)) (λ e. omega (arith, e))
  planned (inr (inl (never, r))) (inr (inl (inr is))) = two_or_five status 7 r.which is (λ e. omega (arith, e)) (λ e. omega (arith, e))
  planned (inr (inl (never, r))) (inr (inr is)) = two_or_five status 4 r.which is (λ e. omega (arith, e)) (λ e. omega (arith, e))
  planned (inr (inr u)) (inl is) = six_unfinished status u.status_is is
  planned (inr (inr u)) (inr (inl is)) = six_no_fault status u.status_is is
  planned (inr (inr u)) (inr (inr is)) = absurd (omega (arith, is, u.status_is))

  pub unplanned : Keeps → status ≡ 2 → IsUnplanned words
  unplanned (inl p) two = no_two status p.run.range two
  unplanned (inr (inl r)) two = r.0
  unplanned (inr (inr u)) two = absurd (omega (arith, two, u.status_is))

  pub refused : Keeps → status ≡ 2 → Writes (sink.written before) (sink.written after) (sink.flushed after) words_refused
  refused (inl p) two = no_two status p.run.range two
  refused (inr (inl r)) two = r.1.done two
  refused (inr (inr u)) two = absurd (omega (arith, two, u.status_is))

  pub unread : Keeps → status ≡ 2 → rest ≡ from
  unread (inl p) two = no_two status p.run.range two
  unread (inr (inl r)) two = r.1.unread
  unread (inr (inr u)) two = absurd (omega (arith, two, u.status_is))

  pub read_fault : Keeps → status ≡ 4 → Rises (source.faults from) (source.faults rest)
  read_fault (inl p) four = p.run.read_cause four
  read_fault (inr (inl (never, r))) four = two_or_five status 4 r.which four (λ e. omega (arith, e)) (λ e. omega (arith, e))
  read_fault (inr (inr u)) four = absurd (omega (arith, four, u.status_is))

  pub write_fault : Keeps → status ≡ 5 → Rises (sink.faults before) (sink.faults after)
  write_fault (inl p) five = p.run.write_cause five
  write_fault (inr (inl r)) five = r.1.cause five
  write_fault (inr (inr u)) five = absurd (omega (arith, five, u.status_is))

  pub cut : Keeps → status ≡ 5 → CutsOffWords words (sink.written before) (sink.written after)
      ⊎ CutsOffPlan words (source.left from) (source.left rest) (sink.written before) (sink.written after)
  cut (inl p) five = inr (record { plan = p.plan; planned = p.planned; cuts = p.run.cut five })
  cut (inr (inl r)) five = inl (record { unplanned = r.0; writes = r.1.cut five })
  cut (inr (inr u)) five = absurd (omega (arith, five, u.status_is))

  pub memory : Keeps → status ≡ 6 → (after ≡ before) ⊎ TellsPlanFront words (source.left from) (source.left rest) (sink.written before) (sink.written after)
  memory (inl p) six = inr (record { plan = p.plan; planned = p.planned; tells = p.run.memory six })
  memory (inr (inl (never, r))) six = two_or_five status 6 r.which six (λ e. omega (arith, e)) (λ e. omega (arith, e))
  memory (inr (inr u)) six = inl u.unwritten

  pub unflushed : Keeps → IsBrokenOff status → sink.flushed after ≡ sink.flushed before
  unflushed (inl p) is = p.run.unflushed is
  unflushed (inr (inl (never, r))) (inl is) = two_or_five status 4 r.which is (λ e. omega (arith, e)) (λ e. omega (arith, e))
  unflushed (inr (inl (never, r))) (inr (inl is)) = r.unflushed is
  unflushed (inr (inl (never, r))) (inr (inr is)) = two_or_five status 6 r.which is (λ e. omega (arith, e)) (λ e. omega (arith, e))
  unflushed (inr (inr u)) is = ap sink.flushed u.unwritten

  pub read_sound : Keeps → status ≢ 4 → source.faults rest ≡ source.faults from
  read_sound (inl p) never = p.run.read_sound never
  read_sound (inr (inl r)) never = ap source.faults r.1.unread
  read_sound (inr (inr u)) never = ap source.faults u.unread

  sound_by : (status ≡ 2) ⊎ (status ≡ 5) → (status ≡ 2 → sink.faults after ≡ sink.faults before) → status ≢ 5 → sink.faults after ≡ sink.faults before
  sound_by (inl two) sound never = sound two
  sound_by (inr five) sound never = absurd (never five)

  pub write_sound : Keeps → status ≢ 5 → sink.faults after ≡ sink.faults before
  write_sound (inl p) never = p.run.write_sound never
  write_sound (inr (inl r)) never = sound_by r.1.which r.1.sound never
  write_sound (inr (inr u)) never = ap sink.faults u.unwritten

  small : (status ≡ 2) ⊎ (status ≡ 5) → status ≤ 7
  small (inl two) = omega (arith, two)
  small (inr five) = omega (arith, five)

  pub range : Keeps → status ≤ 7
  range (inl p) = at_most_seven status p.run.range
  range (inr (inl r)) = small r.1.which
  range (inr (inr u)) = omega (arith, u.status_is)

  refused_by : (status ≡ 2) ⊎ (status ≡ 5) → (status ≡ 5 → Rises (sink.faults before) (sink.faults after)) → (Rises (sink.faults before) (sink.faults after) → ⊥) → (status ≡ 2) ⊎ (status ≡ 6)
  refused_by (inl two) cause none = inl two
  refused_by (inr five) cause none = absurd (none (cause five))

  pub refuses_words : Keeps → IsUnplanned words → (Rises (sink.faults before) (sink.faults after) → ⊥) → (status ≡ 2) ⊎ (status ≡ 6)
  refuses_words (inl p) never none = absurd (never p.plan p.planned)
  refuses_words (inr (inl r)) never none = refused_by r.1.which r.1.cause none
  refuses_words (inr (inr u)) never none = inr u.status_is
