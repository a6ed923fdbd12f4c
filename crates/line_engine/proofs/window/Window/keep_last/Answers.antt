use Rattle.std.proofs.Common.{◌≡◌, ◌≤◌, arith}
use Rattle.line_engine.proofs.Rooms.{kept_last}
use Rattle.line_engine.proofs.window.Window.keep_last.Goals as goal

pub returns : goal.returns
returns c =
    let room = c.self.inside.room in
    let size : room.len ≡ 135272 = c.self.invariant.0 in
    let fits : c.self.inside.len ≤ 135272 = c.self.invariant.1 in
    kept_last room.items c.copy_within.new.self.items c.args.self.now c.self.inside.len c.args.left c.copy_within.ensures.items c.self.view_is (omega (arith, room.ok.0)) c.requires
