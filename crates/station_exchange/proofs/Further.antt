-- The stages of a file, one line further.
use Rattle.std.proofs.Common.{◌≤◌, Result, Ok, Err, IfErr, IsErrAnd, ◌≡◌, ℕ, Bool, true, ◌&&◌, Some, None, if◌then◌else◌, List, [], ◌∷◌, ◌++◌, refl, sym, ◌∙◌, ap, subst, append_assoc}
use Rattle.call_values.specs.declared.choices.Band.{Band}
use Rattle.call_values.specs.declared.bounds.TheConstants.{LAST_BASE}
use Rattle.traffic_lines.specs.declared.worlds.ExchangePoint.{ExchangePoint}
use Rattle.traffic_lines.specs.declared.worlds.ExchangePoint.TheVariants as point
use Rattle.traffic_lines.specs.declared.worlds.EndEvent as entries
use Rattle.traffic_lines.specs.declared.worlds.WorldLine.TheVariants.{Ship, Coast, Base, EndEvent}
use Rattle.line_engine.specs.Lines.{Lines}
use Rattle.line_engine.specs.declared.command.Refusal.{Refusal}
use Rattle.line_engine.specs.declared.command.Refusal.TheVariants as refusal
use Rattle.line_grammar.specs.Columns.{IsColumn}
use Rattle.traffic_lines.specs.Worlds.{IsWorldLine}
use Rattle.input_lines.specs.ReceiverLine.{IsNothing}
use Rattle.input_lines.specs.WorldLine.{IsWorldFileLine}
use Rattle.exchange.specs.StandsFor.{StandsFor as WorldStandsFor}
use Rattle.exchange.specs.WorldRules.{Parties, answer_behind}
use Rattle.exchange.specs.WorldHistories.{WorldHistory, histories_of}
use Rattle.station_exchange.specs.declared.command.Exchanging.{Exchanging}
use Rattle.station_exchange.specs.declared.stages.Stage.{Stage}
use Rattle.station_exchange.specs.declared.stages.Stage.TheVariants as at
use Rattle.station_exchange.specs.declared.stages.Events.{Events}
use Rattle.station_exchange.specs.Events.{event_of}
use Rattle.station_exchange.specs.Said.{Said, base_of, parties_of, world_of}
use Rattle.station_exchange.specs.Output.{entry_lines, all_accepted}
use Rattle.station_exchange.specs.Meaning.{exchange_meaning}
use Rattle.station_exchange.specs.inside.Gives.{gives_text}
use Rattle.station_exchange.specs.inside.Happens.{Happens}
use Rattle.station_exchange.specs.inside.Progress.{IsOwnLine, IsRefusedAt, Keeps, KeepsEnds, LeadsTo, Refuses, StandsFor, Takes, is_well_at, point_at}

-- a line that says nothing
silent_ends : (stage : Stage) (said : Said) → KeepsEnds stage said → KeepsEnds stage (None ∷ said)
silent_ends at.Ship said h = h
silent_ends _ said h = h

silent : (stage : Stage) (said : Said) (text : List ℕ) → Keeps stage said text → Keeps stage (None ∷ said) text
silent stage said text k =
    record { point = k.point; ready = k.ready; ends = silent_ends stage said k.ends; text_is = k.text_is; well_is = k.well_is }

pub takes_nothing : (stage : Stage) (said : Said) (line text : List ℕ) → IsNothing line → Keeps stage said text → Takes stage said line text
takes_nothing stage said line text is k = record { says = None; is_line = is; keeps = silent stage said text k }

-- the ship is named
pub names_ship : (mmsi : ℕ) (line : List ℕ) → IsWorldFileLine point.Ship (Some (Ship mmsi)) line → LeadsTo at.Ship line (at.Coast mmsi)
names_ship mmsi line is said text k = record {
  says = Some (Ship mmsi);
  is_line = subst (λ (p : ExchangePoint). IsWorldFileLine p (Some (Ship mmsi)) line) k.point is;
  keeps = record { point = refl; ready = tt; ends = (refl, k.ends); text_is = k.text_is; well_is = k.well_is };
}

-- the coast station is named
pub names_coast : (ship mmsi : ℕ) (band : Band) (line : List ℕ) → IsWorldFileLine (point.Coast ship) (Some (Coast mmsi band)) line
    → LeadsTo (at.Coast ship) line (at.Base ship mmsi band)
names_coast ship mmsi band line is said text k = record {
  says = Some (Coast mmsi band);
  is_line = subst (λ (p : ExchangePoint). IsWorldFileLine p (Some (Coast mmsi band)) line) k.point is;
  keeps = record {
    point = refl;
    ready = tt;
    ends = (ap (λ (own : ℕ). parties_with own) k.ends.0, k.ends.1);
    text_is = k.text_is;
    well_is = k.well_is;
  };
}
  where
    parties_with : ℕ → Parties
    parties_with own = record { ship = record { own = own; groups = [] }; coast = record { own = mmsi; band = band } }

-- the base is named, and the exchange begins
pub names_base : (ship coast : ℕ) (band : Band) (events : Events) (line : List ℕ) → IsWorldFileLine point.Base (Some (Base events.base)) line
    → events.base ≤ LAST_BASE → events.is_well ≡ true
    → WorldStandsFor events.world (record { ship = record { own = ship; groups = [] }; coast = record { own = coast; band = band } }) []
    → LeadsTo (at.Base ship coast band) line (at.Events events)
names_base ship coast band events line is within well stands said text k = record {
  says = Some (Base events.base);
  is_line = subst (λ (p : ExchangePoint). IsWorldFileLine p (Some (Base events.base)) line) k.point is;
  keeps = record {
    point = refl;
    ready = within;
    ends = (
      refl,
      subst (λ (w : WorldHistory). WorldStandsFor events.world (parties_of said) w) (sym k.ends.1) (subst (λ (who : Parties). WorldStandsFor events.world who []) (sym k.ends.0) stands),
    );
    text_is = k.text_is;
    well_is = well ∙ ap all_accepted (sym k.ends.1);
  };
}

-- an event happens
pub takes_event : (old new : Events) (entry : entries.EndEvent) (line text before after : List ℕ) (said : Said) (accepted : Bool)
    → IsWorldFileLine point.Events (Some (EndEvent entry)) line → new.base ≡ old.base → new.is_well ≡ (old.is_well && accepted)
    → ((who : Parties) (w : WorldHistory) → WorldStandsFor old.world who w → Happens who w (event_of old.base entry) new.world before after accepted)
    → Keeps (at.Events old) said (text ++ before) → Takes (at.Events new) said line (text ++ after)
takes_event old new entry line text before after said accepted is base well happens k =
    let happened : Happens (parties_of said) (world_of said) (event_of (base_of said) entry) new.world before after accepted =
    subst (λ (b : ℕ). Happens (parties_of said) (world_of said) (event_of b entry) new.world before after accepted) k.ends.0 (happens (parties_of said) (world_of said) k.ends.1) in
    let event = event_of (base_of said) entry in
    let lines = entry_lines (record { event = event; gave = answer_behind (parties_of said) (histories_of (world_of said)) event }) in
    record {
      says = Some (EndEvent entry);
      is_line = subst (λ (p : ExchangePoint). IsWorldFileLine p (Some (EndEvent entry)) line) k.point is;
      keeps = record {
        point = refl;
        ready = subst (λ (b : ℕ). b ≤ LAST_BASE) (sym base) k.ready;
        ends = (base ∙ k.ends.0, happened.stands);
        text_is = ap (λ (t : List ℕ). text ++ t) happened.lines ∙ sym (append_assoc text before lines) ∙ ap (λ (t : List ℕ). t ++ lines) k.text_is;
        well_is = well ∙ ap (λ (b : Bool). b && accepted) k.well_is ∙ ap (λ (b : Bool). all_accepted (world_of said) && b) happened.well;
      };
    }

-- a line that is ill-formed at the point of a stage is refused there
pub refused_at : (from : Stage) (line : List ℕ) (n : ℕ) (answer : Result Stage Refusal) → IsErrAnd answer (λ reason. reason ≡ refusal.Column n) → IsOwnLine line
    → (1 ≤ n) × IsColumn (IsWorldLine (point_at from)) line n → IfErr answer (λ reason. IsRefusedAt from line reason)
refused_at from line n (Ok to) is own fault = absurd is
refused_at from line n (Err reason) is own fault = λ said text keeps.
    subst (λ (r : Refusal). Refuses said line r) (sym is) (subst (λ (p : ExchangePoint). IsColumn (IsWorldFileLine p) line n) keeps.point (own (point_at from) n fault.0 fault.1))

-- the command stands for a line more
pub stands_on : (old new : Exchanging) (lines : Lines) (line text after : List ℕ) (stands : StandsFor old lines text) → Takes new.stage stands.said line after
    → StandsFor new (lines ++ line ∷ []) after
stands_on old new lines line text after stands takes = record {
  said = takes.says ∷ stands.said;
  are_said = (lines, line, refl, takes.is_line, stands.are_said);
  keeps = takes.keeps;
}

-- the status of an input
pub ends_so : (command : Exchanging) (lines : Lines) (text : List ℕ) (status : ℕ) (is_well : Bool) → StandsFor command lines text → is_well ≡ is_well_at command.stage
    → status ≡ (if is_well then 0 else 1) → exchange_meaning.Ends lines text status
ends_so command lines text status is_well stands same is =
    (gives_text command lines text stands, is ∙ ap (λ (b : Bool). if b then 0 else 1) (same ∙ stands.keeps.well_is))
