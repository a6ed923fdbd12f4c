-- The text of lines begins with that of the first of them.
use Rattle.std.proofs.Common.{◌≡◌, inl, inr, ℕ, Option, Some, None, List, [], ◌∷◌, ◌++◌, refl, sym, ap, subst, ◌∙◌, append-nil}
use Rattle.traffic_lines.specs.declared.worlds.WorldLine.{WorldLine}
use Rattle.traffic_lines.specs.declared.worlds.WorldLine.TheVariants.{Ship, Coast, Base, EndEvent}
use Rattle.line_engine.specs.Lines.{Lines}
use Rattle.line_engine.specs.Determined.{BeginsWith}
use Rattle.station_lines.proofs.PublicLaws.{no_more, last_of, begins_itself, begins_further}
use Rattle.exchange.specs.WorldHistories.{histories_of}
use Rattle.exchange.specs.WorldRules.{answer_behind}
use Rattle.station_exchange.specs.Events.{event_of}
use Rattle.station_exchange.specs.Said.{Said, base_of, parties_of, world_of, AreSaid}
use Rattle.station_exchange.specs.Output.{text_of, entry_lines}

-- one line more
one_more : (last : Option WorldLine) (said : Said) → BeginsWith (text_of (world_of (last ∷ said))) (text_of (world_of said))
one_more None said = begins_itself (text_of (world_of said))
one_more (Some (Ship mmsi)) said = begins_itself (text_of (world_of said))
one_more (Some (Coast mmsi band)) said = begins_itself (text_of (world_of said))
one_more (Some (Base second)) said = begins_itself (text_of (world_of said))
one_more (Some (EndEvent entry)) said =
    let event = event_of (base_of said) entry in
    (entry_lines (record { event = event; gave = answer_behind (parties_of said) (histories_of (world_of said)) event }), refl)

-- what the first lines said
pub record IsFront (first : Lines) (whole : List ℕ) : Type 0 where
  pub said : Said
  pub are_said : AreSaid said first
  pub begins : BeginsWith whole (text_of (world_of said))

further : (first : Lines) (whole middle : List ℕ) → BeginsWith whole middle → IsFront first middle → IsFront first whole
further first whole middle begins f =
    record { said = f.said; are_said = f.are_said; begins = begins_further whole middle (text_of (world_of f.said)) begins f.begins }

all_of : (said : Said) (lines first later : Lines) → lines ≡ first ++ later → later ≡ [] → AreSaid said lines → IsFront first (text_of (world_of said))
all_of said lines first later e none are = record {
  said = said;
  are_said = subst (AreSaid said) (e ∙ ap (λ (l : Lines). first ++ l) none ∙ append-nil first) are;
  begins = begins_itself (text_of (world_of said));
}

pub front_of : (said : Said) (lines first later : Lines) → lines ≡ first ++ later → AreSaid said lines → IsFront first (text_of (world_of said))
front_of [] lines first later e are = record { said = []; are_said = no_more first later (sym are ∙ e); begins = begins_itself [] }
front_of (last ∷ said) lines first later e are =
    elim (last_of first later are.0 are.1 (sym e ∙ are.2)) [
      | inl none ↦ all_of (last ∷ said) lines first later e none are
      | inr rest ↦ further first (text_of (world_of (last ∷ said))) (text_of (world_of said)) (one_more last said) (front_of said are.0 first rest.0 rest.1 are.4)
    ]
