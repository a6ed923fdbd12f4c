use Rattle.std.proofs.Common.{◌≡◌, ◌<◌, IfOk, IfSome, Some, Option, ℕ, ◌+◌, ◌/◌, ℤ, pos, ◌*ℤ◌, nat_abs, to_z, of_z, w8, w64, FitsSigned, ◌∙◌, ap, subst, arith}
use Rattle.std.proofs.lemmas.Int.{ints, to_z-of_z}
use Rattle.jiff.proofs.SpanFacts.{signed_arith}
use Rattle.jiff.specs.Words.{civil_nanos, epoch_day}
use Rattle.station_lines.specs.CivilTime.{second_of, hour_of, minute_of}
use Rattle.station_lines.proofs.Days.{time_of_day}
use Rattle.station_lines.proofs.minutes.civil_minute.Goals as goal

-- a small number as it is cast
cast : (n : ℕ) (z : ℤ) → z ≡ pos n → n < 60 → to_z w8 (of_z w8 z) ≡ pos n
cast n z e h =
    let fits : FitsSigned w8 z = omega (arith, signed_arith, e, h) in
    to_z-of_z w8 z fits ∙ e

shown : (told : Option (ℕ × ℕ)) (hour minute past : ℕ) (x y : ℤ) → told ≡ Some (nat_abs x, nat_abs y) → x ≡ pos hour → y ≡ pos minute
    → hour ≡ hour_of past → minute ≡ minute_of past → told ≡ Some (hour_of past, minute_of past)
shown told hour minute past x y e f g h k =
    e ∙ ap (λ (z : ℤ). Some (nat_abs z, nat_abs y)) f ∙ ap (λ (z : ℤ). Some (hour, nat_abs z)) g
    ∙ ap (λ (n : ℕ). Some (n, minute)) h ∙ ap (λ (n : ℕ). Some (hour_of past, n)) k

pub returns : goal.returns
unfolding civil_nanos
returns c =
    let t = c.to_datetime-civil.result.time in
    let past = second_of c.args.base c.args.at in
    let same : c.args.base + c.from.result / 1000 ≡ past = ap (λ (n : ℕ). c.args.base + n / 1000) c.from.ensures in
    let small : past < 20000000000 = omega (arith, c.requires, c.ranges.at.fits) in
    let wide : to_z w64 past ≡ pos past = omega (arith, ints, small) in
    let at = subst (λ r. IfOk r (λ t. t.nanosecond ≡ to_z w64 (c.args.base + c.from.result / 1000) *ℤ pos 1000000000)) c.unwrap-instant.ensures c.from_second.ensures.value
    ∙ ap (λ (n : ℕ). to_z w64 n *ℤ pos 1000000000) same ∙ ap (λ (z : ℤ). z *ℤ pos 1000000000) wide in
    let told = time_of_day (epoch_day c.to_datetime-civil.result.date) c.unwrap-instant.result.nanosecond t.hour t.minute t.second t.subsec_nanosecond past
    t.hour_in t.minute_in t.second_in t.subsec_in c.to_datetime-civil.ensures at in
    shown c.unwrap.result t.hour t.minute past (to_z w8 (of_z w8 c.hour.result)) (to_z w8 (of_z w8 c.minute.result))
    (subst (λ r. IfSome r (λ t. t ≡ Some (nat_abs (to_z w8 (of_z w8 c.hour.result)), nat_abs (to_z w8 (of_z w8 c.minute.result))))) c.unwrap.ensures c.new.ensures.value)
    (cast t.hour c.hour.result c.hour.ensures (omega (arith, t.hour_in))) (cast t.minute c.minute.result c.minute.ensures t.minute_in) told.0 told.1
