-- How long the lists of calls are.
use Rattle.std.proofs.Common.{◌≡◌, ℕ, ◌+◌, ◌*◌, ◌≤◌, ◌⊎◌, inl, inr, List, [], ◌∷◌, ◌++◌, length, Option, Some, None, refl, ap, length-append, arith}
use Rattle.symbol_reader.proofs.Digits.{length-eight}
use Rattle.call_values.specs.declared.positions.Fix.{Fix}
use Rattle.call_values.specs.declared.calls.Casualty.{Casualty}
use Rattle.call_values.specs.declared.calls.Call.{Call}
use Rattle.call_values.specs.declared.bodies.Body.{Body}
use Rattle.call_values.specs.declared.bodies.Body.TheVariants as body
use Rattle.call_values.specs.declared.choices.Category.{Category}
use Rattle.call_values.specs.declared.fields.FieldKind.{FieldKind}
use Rattle.call_values.specs.declared.fields.FieldKind.TheVariants.{Absent, Hundreds, Hf, Vhf, Tens}
use Rattle.call_values.specs.declared.parts.To.{To}
use Rattle.call_values.specs.declared.parts.To.TheVariants as to
use Rattle.call_values.specs.declared.parts.Message.{Message}
use Rattle.call_values.specs.declared.parts.Message.TheVariants.{Fields, At}
use Rattle.call_values.specs.declared.parts.Kind.{Kind}
use Rattle.call_values.specs.declared.parts.Kind.TheVariants.{Test, AskPosition, Position}
use Rattle.call_values.specs.Views.{address_of, body_of}
use Rattle.call_grammar.specs.Spelling.{ten_digits, position_digits, position_symbols, time_symbols, identity_symbols, casualty_symbols, six_digits, area_digits, field_symbols, message_symbols, address_symbols, distress_symbols, request_symbols, distress_telecommand, kind_symbols, body_symbols, fields_of, end_of, covered, check_of, through_check, spell}
use Rattle.call_grammar.specs.inside.Judging.{IsWalking}

length-ten_digits : (n : ℕ) → length (ten_digits n) ≡ 5
unfolding ten_digits
length-ten_digits n = refl

length-position : (p : Option Fix) → length (position_symbols p) ≡ 5
length-position (Some f) = length-ten_digits (position_digits f)
length-position None = refl

length-time : (t : Option (ℕ × ℕ)) → length (time_symbols t) ≡ 2
length-time t = grind arith

length-casualty : (c : Casualty) → length (casualty_symbols c) ≡ 14
length-casualty c =
    omega (
      arith,
      length-append (identity_symbols c.mmsi) (c.nature ∷ (position_symbols c.position ++ (time_symbols c.time ++ (c.comm ∷ [])))),
      length-append (position_symbols c.position) (time_symbols c.time ++ (c.comm ∷ [])),
      length-append (time_symbols c.time) (c.comm ∷ []),
      length-ten_digits (10 * c.mmsi),
      length-position c.position,
      length-time c.time,
    )

length-six : (n : ℕ) → length (six_digits n) ≡ 3
unfolding six_digits
length-six n = refl

length-field : (f : FieldKind) → length (field_symbols f) ≤ 4
length-field Absent = omega arith
length-field (Hundreds n) = omega (arith, length-six n)
length-field (Hf n) = omega (arith, length-six (300000 + n))
length-field (Vhf n) = omega (arith, length-six (900000 + n))
length-field (Tens n) = omega (arith, length-eight (40000000 + n))

length-message : (m : Message) → length (message_symbols m) ≤ 8
length-message (Fields f1 f2) = omega (arith, length-append (field_symbols f1) (field_symbols f2), length-field f1, length-field f2)
length-message (At p) = omega (arith, length-position p)

length-address : (t : To) → length (address_symbols t) ≤ 5
length-address to.All = omega arith
length-address (to.Area a) = omega (arith, length-ten_digits (area_digits a))
length-address (to.Group m) = omega (arith, length-ten_digits (10 * m))
length-address (to.One m) = omega (arith, length-ten_digits (10 * m))

length-distress : (from telecommand : ℕ) (k : Casualty) → length (distress_symbols from telecommand k) ≡ 21
length-distress from telecommand k =
    omega (arith, length-casualty k, length-ten_digits (10 * from), length-append (identity_symbols from) (telecommand ∷ casualty_symbols k))

length-request : (g : Category) (from first second : ℕ) (m : Message) → length (request_symbols g from first second m) ≤ 16
length-request g from first second m =
    omega (arith, length-message m, length-ten_digits (10 * from), length-append (identity_symbols from) (first ∷ second ∷ message_symbols m))

length-kind : (k : Kind) → length (kind_symbols k) ≤ 10
length-kind (Test reply) = omega arith
length-kind AskPosition = omega arith
length-kind (Position p t) = omega (arith, length-append (position_symbols p) (time_symbols t), length-position p, length-time t)

length-body : (b : Body) → length (body_symbols b) ≤ 21
length-body (body.Alert k) = omega (arith, length-casualty k)
length-body (body.Distress from acknowledges k) = omega (arith, length-distress from (distress_telecommand acknowledges) k)
length-body (body.Request g from s k m) = omega (arith, length-request g from s k m)
length-body (body.Service g from k) =
    omega (arith, length-ten_digits (10 * from), length-kind k, length-append (identity_symbols from) (kind_symbols k))

-- the fields of a call take at most 26 characters
pub length-fields : (c : Call) → length (fields_of c) ≤ 26
length-fields c =
    omega (
      arith,
      length-address (address_of c),
      length-body (body_of c),
      length-append (address_symbols (address_of c)) (body_symbols (body_of c)),
    )

pub length-covered : (c : Call) → length (covered c) ≤ 28
length-covered c = omega (arith, length-fields c, length-append (fields_of c) (end_of c ∷ []))

pub length-front : (c : Call) → length (through_check c) ≤ 30
length-front c = omega (arith, length-covered c, length-append (covered c) (check_of (covered c) ∷ []))

-- a call's list has at most 32 symbols
pub length-spell : (c : Call) → length (spell c) ≤ 32
length-spell c = omega (arith, length-front c, length-append (through_check c) (end_of c ∷ end_of c ∷ []))

pub four-spell : (c : Call) → 4 ≤ length (spell c)
four-spell c =
    omega (
      arith,
      length-append (through_check c) (end_of c ∷ end_of c ∷ []),
      length-append (covered c) (check_of (covered c) ∷ []),
      length-append (fields_of c) (end_of c ∷ []),
    )

-- a walk that wants a symbol has taken fewer than thirty
pub walking_short : (l : List ℕ) → (l ≡ []) ⊎ IsWalking l → length l ≤ 29
walking_short l (inl e) = let k : length l ≡ 0 = ap length e in omega arith
walking_short l (inr w) =
    let o = w.begins in
    let k : length (through_check o.call) ≡ length (l ++ (o.next ∷ o.rest)) = ap length o.list in
    omega (arith, length-front o.call, length-append l (o.next ∷ o.rest))
