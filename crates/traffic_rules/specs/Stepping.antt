-- What a station owes at an event: this project's profile.
use Rattle.std.specs.Prelude.{◌≡◌, ℕ, Result, List, OnErr}
use Rattle.traffic_rules.specs.declared.acts.Act.{Act}
use Rattle.traffic_rules.specs.declared.refusals.StationRefusal.{StationRefusal}
use Rattle.traffic_rules.specs.Histories.{History}
use Rattle.traffic_rules.specs.Rules.{Rules, answer_to, continued}

module _ {Station Who What : Type 0} (rules : Who → Rules What) (stands : Station → Who → History What → Type 0) where
  -- the answer is the one that the rules give after each history that the station stands for
  abbrev pub AnswersByRules : Station → (at : ℕ) → What → Result (List Act) StationRefusal → Type 0
  AnswersByRules old at what answer = (who : Who) (h : History What) → stands old who h → answer ≡ answer_to (rules who) h at what

  -- the station then stands for each such history with this event and its acts put last, or for the same history if the
  -- event is refused
  abbrev pub GoesOnByRules : Station → (at : ℕ) → What → Station → Type 0
  GoesOnByRules old at what new = (who : Who) (h : History What) → stands old who h → stands new who (continued (rules who) h at what)

  -- a step at an event: the answer, the station after it, and that a refusal leaves the station as it was
  pub record IsStep (old : Station) (at : ℕ) (what : What) (answer : Result (List Act) StationRefusal) (new : Station) : Type 0 where
    pub answers : AnswersByRules old at what answer
    pub goes_on : GoesOnByRules old at what new
    pub unchanged : OnErr answer (new ≡ old)
