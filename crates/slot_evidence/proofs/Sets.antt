-- sets of symbols: what is kept of one is determined, and what is kept of two together
use Rattle.std.proofs.Common.{◌≡◌, ℕ, min, max, Bool, false, ◌||◌, arith, ap, sym}
use Rattle.slot_evidence.specs.declared.places.Seen.{Seen}
use Rattle.slot_evidence.specs.Facts.{Symbols}
use Rattle.slot_evidence.specs.Seen.{ShowsNone, IsSeen}
use Rattle.slot_evidence.specs.inside.Span.{IsSpan}

-- the same set is kept in the same way
pub IsSeen-same : (S T : Symbols) (x : Seen) → ((v : ℕ) → S v ≡ T v) → IsSeen S x → IsSeen T x
IsSeen-same S T x same s = grind arith

-- a set is kept in one way
pub one_seen : (S : Symbols) (a b : Seen) → IsSeen S a → IsSeen S b → a ≡ b
one_seen S a b p q = grind arith

-- with a set that shows nothing
pub none_or : (S T : Symbols) (x : Seen) → ShowsNone S → IsSeen T x → IsSeen (λ v. S v || T v) x
none_or S T x none t = IsSeen-same T (λ v. S v || T v) x (λ v. sym (ap (λ b. b || T v) (none v))) t

pub or_none : (b c : Bool) → c ≡ false → b ≡ (b || c)
or_none b c h = grind arith

pub or_none-seen : (S T : Symbols) (x : Seen) → IsSeen S x → ShowsNone T → IsSeen (λ v. S v || T v) x
or_none-seen S T x s none = IsSeen-same S (λ v. S v || T v) x (λ v. or_none (S v) (T v) (none v)) s

pub span_or : (S T : Symbols) (a b c d least greatest : ℕ) → IsSpan S a b → IsSpan T c d → least ≡ min a c → greatest ≡ max b d → IsSpan (λ v. S v || T v) least greatest
span_or S T a b c d least greatest s t low high = grind arith
