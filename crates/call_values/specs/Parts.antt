-- Parts of calls whose own parts are in their ranges: ITU-R M.493, composition of the calls.
use Rattle.call_values.specs.declared.parts.To.{To}
use Rattle.call_values.specs.declared.parts.To.TheVariants as to
use Rattle.call_values.specs.declared.parts.Message.{Message}
use Rattle.call_values.specs.declared.parts.Message.TheVariants as message
use Rattle.call_values.specs.declared.parts.Kind.{Kind}
use Rattle.call_values.specs.declared.parts.Kind.TheVariants as kind
use Rattle.call_values.specs.Identity.{IsMmsi}
use Rattle.call_values.specs.Areas.{IsArea}
use Rattle.call_values.specs.Fields.{IsField}
use Rattle.call_values.specs.Positions.{IsPosition}
use Rattle.call_values.specs.Clock.{IsHourMinute}

-- who a call is addressed to, by an area or an identity in its range
abbrev pub IsTo : To → Type 0
IsTo to.All = Unit {0}
IsTo (to.Area a) = IsArea a
IsTo (to.Group n) = IsMmsi n
IsTo (to.One n) = IsMmsi n

-- two fields or a position, each in its range
abbrev pub IsMessage : Message → Type 0
IsMessage (message.Fields f g) = IsField f × IsField g
IsMessage (message.At p) = IsPosition p

-- a test or a question, or the answer with a position and a time in their ranges
abbrev pub IsKind : Kind → Type 0
IsKind (kind.Test reply) = Unit {0}
IsKind kind.AskPosition = Unit {0}
IsKind (kind.Position p t) = IsPosition p × IsHourMinute t
