use Rattle.std.proofs.Common.{◌≡◌, ◌+◌, ◌-◌, ◌≤◌, length, take, drop, arith, length-drop, sym, ap, ◌∙◌}
use Rattle.std.proofs.lemmas.List.{length-take, length-take-le}
use Rattle.line_engine.proofs.Rooms.{read_behind}
use Rattle.line_engine.proofs.window.Window.read.Goals as goal

pub returns-in-Ok-clause-given : goal.returns-in-Ok-clause-given
returns-in-Ok-clause-given g c =
    let room = c.self.inside.room in
    let len = c.self.inside.len in
    let bytes = c.deref_mut.result.now in
    let into = c.read.new.into in
    let view : take len room.items ≡ c.args.self.now = c.self.view_is in
    let size : room.len ≡ 135272 = c.self.invariant.0 in
    let all : length bytes ≡ 135272 = ap length c.deref_mut.ensures.value ∙ sym room.ok.0 ∙ size in
    let old : length c.args.self.now ≤ 4200 = c.requires in
    let short : len ≤ 4200 = omega (arith, ap length view, length-take len room.items, room.ok.0) in
    let auto : length into ≡ length (take (len + 131072 - len) (drop len bytes)) = c.read.auto.into in
    let piece : length into ≡ len + 131072 - len = omega (arith, auto, length-take (len + 131072 - len) (drop len bytes), length-drop len bytes) in
    let count : c.in-Ok.n ≤ length into = c.in-Ok.ensures.count in
    (take c.in-Ok.n into, read_behind room bytes into c.args.self.now len (len + 131072 - len) c.in-Ok.n c.deref_mut.ensures.value (omega arith) piece (omega arith) view, length-take-le c.in-Ok.n into count, c.in-Ok.ensures.bytes)
