use Rattle.std.proofs.Common.{◌∙◌}
use Rattle.byte_streams.proofs.Runs.{front_more}
use Rattle.byte_streams.proofs.whole.write_all.Goals as goal

pub loop-rest-preserved : goal.loop-rest-preserved
loop-rest-preserved g c =
    let was = c.loop-rest.invariant in
    record {
      front = front_more _ _ _ _ was.front.0 _ _ _ was.front.1 c.split_at.ensures.back was.front.2 c.in_ok-n.ensures.bytes;
      sound = c.in_ok-n.ensures.cause ∙ was.sound;
      flushed = c.in_ok-n.ensures.not_flushed ∙ was.flushed;
    }
