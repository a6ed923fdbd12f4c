use Rattle.traffic_lines.specs.Worlds.{IsWorldLine}
use Rattle.dsc_files.proofs.OneLine.{only}
use Rattle.dsc_files.proofs.worlds.read_world.Goals as goal

pub returns-clause-read : goal.returns-clause-read
returns-clause-read c = only (IsWorldLine c.args.point) (λ a b text h k. c.one_world_line.ensures a b text h.1 k.1) _ _ c.world_line_at.ensures
