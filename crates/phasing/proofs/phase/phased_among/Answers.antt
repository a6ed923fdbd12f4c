use Rattle.std.proofs.Common.{◌+◌, ◌*◌, arith, ◌∙◌}
use Rattle.std.specs.Int.{trailing_zeros, w64}
use Rattle.std.proofs.lemmas.Nat.{one_shl}
use Rattle.std.proofs.lemmas.Nat.Bits.{bit_at-trailing_zeros}
use Rattle.phasing.specs.Origin.{is_phased}
use Rattle.phasing.proofs.Begins.{no_mark, one_mark}
use Rattle.phasing.proofs.phase.phased_among.Goals as goal

pub returns-then-likely-eq0 : goal.returns-then-likely-eq0
returns-then-likely-eq0 g c =
    no_mark c.args.likely (64 * c.args.block + 22) (is_phased (g.E.Elements.list c.args.e)) c.requires.likely c.if-likely-eq0.true

pub returns-then-begins_well : goal.returns-then-begins_well
returns-then-begins_well g c =
    let number = trailing_zeros w64 c.args.likely in
    let below = (bit_at-trailing_zeros w64 c.args.likely (omega (arith, c.if-likely-eq0.false)) c.requires.likely.fits).0 in
    one_mark c.args.likely (64 * c.args.block + 22) number (is_phased (g.E.Elements.list c.args.e)) c.requires.likely
    (c.if-likely-number.true ∙ one_shl number 64 below)
    (c.begins_well.ensures c.if-begins_well.true)
