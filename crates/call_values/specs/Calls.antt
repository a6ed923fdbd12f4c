-- Calls whose parts are in their ranges: ITU-R M.493, composition of the calls.
use Rattle.std.specs.Prelude.{ℕ}
use Rattle.call_values.specs.declared.calls.Casualty.{Casualty}
use Rattle.call_values.specs.declared.calls.Call.{Call}
use Rattle.call_values.specs.declared.calls.Call.TheVariants.{Alert, Ack, Relay, RelayAck, AllShips, AreaCall, GroupCall, Individual, Service}
use Rattle.call_values.specs.declared.parts.Message.{Message}
use Rattle.call_values.specs.declared.parts.Message.TheVariants.{Fields}
use Rattle.call_values.specs.Identity.{IsMmsi}
use Rattle.dsc_symbols.specs.Natures.{IsNature}
use Rattle.call_values.specs.Positions.{IsPosition}
use Rattle.call_values.specs.Clock.{IsHourMinute}
use Rattle.call_values.specs.Areas.{IsArea}
use Rattle.dsc_symbols.specs.Telecommands.{IsFirst, IsSecond, IsComm}
use Rattle.call_values.specs.Parts.{IsTo, IsMessage, IsKind}

-- each part of a casualty is in its range
pub record IsCasualty (c : Casualty) : Type 0 where
  pub mmsi : IsMmsi c.mmsi
  pub nature : IsNature c.nature
  pub position : IsPosition c.position
  pub time : IsHourMinute c.time
  pub comm : IsComm c.comm

-- two telecommands and a message, each in its range
pub record IsRequest (first second : ℕ) (message : Message) : Type 0 where
  pub one : IsFirst first
  pub two : IsSecond second
  pub told : IsMessage message

-- each part of a call is in its range
abbrev pub IsCall : Call → Type 0
IsCall (Alert casualty) = IsCasualty casualty
IsCall (Ack from casualty) = IsMmsi from × IsCasualty casualty
IsCall (Relay to from casualty ask) = IsTo to × IsMmsi from × IsCasualty casualty
IsCall (RelayAck to from casualty) = IsTo to × IsMmsi from × IsCasualty casualty
IsCall (AllShips category from first second f1 f2) = IsMmsi from × IsRequest first second (Fields f1 f2)
IsCall (AreaCall area category from first second f1 f2) = IsArea area × IsMmsi from × IsRequest first second (Fields f1 f2)
IsCall (GroupCall group category from first second f1 f2) = IsMmsi group × IsMmsi from × IsRequest first second (Fields f1 f2)
IsCall (Individual to category from first second message end) = IsMmsi to × IsMmsi from × IsRequest first second message
IsCall (Service to category from kind) = IsMmsi to × IsMmsi from × IsKind kind
