use Rattle.std.proofs.Common.{◌-◌, ◌*◌, ◌^◌, ◌%◌, ap}
use Rattle.std.proofs.lemmas.Nat.{one_shl}
use Rattle.phasing.proofs.WholeStarts.{agreed}
use Rattle.phasing.proofs.intact.agree.Goals as goal

pub returns : goal.returns
returns c = λ base e same planes i below.
    let y = c.args.planes.y in
    let b = c.args.planes.b in
    let mask = 1 * 2 ^ c.args.count % 2 ^ 64 - 1 in
    let ones = ap (λ n. n - 1) (one_shl c.args.count 64 c.requires) in
    agreed y b c.args.bits mask c.args.count base e ones c.requires c.ranges.bits.fits same planes i below
