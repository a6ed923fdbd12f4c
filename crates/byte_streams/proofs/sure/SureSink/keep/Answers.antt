use Rattle.std.proofs.Common.{◌≡◌, ◌-◌, ◌≤◌, min, Bool, ◌&&◌, nat_eq, length, vec_len, sym, ◌∙◌, ap, arith}
use Rattle.byte_streams.specs.Sure.{Store, stored}
use Rattle.byte_streams.proofs.Runs.{stored_is, appended}
use Rattle.byte_streams.proofs.sure.SureSink.keep.Goals as goal
use Rattle.byte_streams.proofs.sure.SureSink.keep.Goals.{then-self, else-self}

pub returns : goal.returns
returns c =
    let inside = c.self.inside in
    let s : Store = record { kept = inside.kept.items; room = inside.room; whole = inside.whole; piece = inside.piece; flushed = inside.flushed } in
    let len : length s.kept ≤ s.room = omega (arith, c.self.invariant.0) in
    let same : vec_len inside.kept ≡ length s.kept = omega arith in
    let fits : c.min-fits.result ≡ min (length c.args.bytes.now) (s.room - length s.kept) = omega arith in
    let items = appended _ _ _ _ _ _ _ _ same c.extend_from_slice.ensures.succeeds len c.self.invariant.1 fits c.extend_from_slice.ensures.items in
    let whole : c.if-self.self ≡ (s.whole && nat_eq c.min-fits.result (length c.args.bytes.now)) = elim c.if-self.branch [
      | then-self w ↦ w.self-is ∙ ap (λ (b : Bool). b && nat_eq c.min-fits.result (length c.args.bytes.now)) (sym w.if-self.true)
      | else-self w ↦ w.self-is ∙ w.if-self.false ∙ ap (λ (b : Bool). b && nat_eq c.min-fits.result (length c.args.bytes.now)) (sym w.if-self.false)
    ] in
    stored_is s _ _ _ _ len fits items whole ∙ ap (λ (t : Store). stored t c.args.bytes.now) c.self.view_is
