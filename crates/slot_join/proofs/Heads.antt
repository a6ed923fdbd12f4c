-- The two places of the format specifier.
use Rattle.std.proofs.Common.{◌≡◌, ℕ, true, false, List, [], ◌∷◌, length, refl, ap, arith}
use Rattle.slot_evidence.specs.declared.places.Seen.{Seen}
use Rattle.slot_evidence.specs.declared.places.Seen.TheVariants as seen
use Rattle.slot_evidence.specs.Facts.{Facts, Symbols}
use Rattle.slot_evidence.specs.Seen.{IsSeen, ShowsNone, ShowsOne}
use Rattle.slot_evidence.specs.Sheet.{IsEnds, seen_at}
use Rattle.slot_join.specs.Shown.{head_of, IsShown}
use Rattle.slot_join.proofs.Stops.{seen_there}

-- of a set that shows nothing, nothing is kept
kept_none : (S : Symbols) (x : Seen) → IsSeen S x → ShowsNone S → x ≡ seen.None
kept_none S seen.None h n = refl
kept_none S (seen.One v) h n = let a : S v ≡ true = h.0 in let b : S v ≡ false = n v in absurd (cc)
kept_none S (seen.Differ least greatest) h n = let a : S least ≡ true = h.has_least in let b : S least ≡ false = n least in absurd (cc)

-- a place that shows nothing keeps nothing
pub blank_there : (F : Facts) (s : List Seen) (p : ℕ) → IsEnds F s → ShowsNone (F p) → seen_at s p ≡ seen.None
blank_there F s p ends n = kept_none (F p) (seen_at s p) (seen_there F s p (seen_at s p) ends refl) n

-- a format specifier that comes twice is shown
pub format_shown : (F : Facts) (format : ℕ) (walk : List ℕ) → walk ≡ format ∷ format ∷ [] → ShowsOne (head_of F) format → IsShown F walk
format_shown F format walk e one =
    let two : length walk ≡ 2 = ap length e in
    record { format = format; rest = []; begins = e; head = one; places = λ p h k. absurd (omega arith) }
