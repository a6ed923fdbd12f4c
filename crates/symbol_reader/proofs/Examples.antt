-- Each letter stands for some symbol.
use Rattle.std.proofs.Common.{ℕ, refl, inl, inr, lit≤, arith}
use Rattle.dsc_symbols.specs.declared.formats.TheConstants as formats
use Rattle.dsc_symbols.specs.declared.categories.TheConstants as categories
use Rattle.dsc_symbols.specs.declared.natures.TheConstants.{FIRE_OR_EXPLOSION}
use Rattle.dsc_symbols.specs.declared.telecommands.TheConstants.{ALL_MODES, TEST}
use Rattle.dsc_symbols.specs.declared.messages.TheConstants.{NO_INFORMATION, POSITION_FOLLOWS}
use Rattle.dsc_symbols.specs.declared.ends.TheConstants.{ACKNOWLEDGE_RQ}
use Rattle.symbol_reader.specs.declared.letters.Letter.{Letter}
use Rattle.symbol_reader.specs.declared.letters.Letter.TheVariants.{Exactly, UpTo, UpToOr, Digits, Nature, Comm, Either, OneOf, Format, Category, First, FirstToOne, Second, Field, Message, End}
use Rattle.symbol_reader.specs.Letters.{Allows}

-- a symbol of the letter
pub example_of : Letter → ℕ
example_of (Exactly only) = only
example_of (UpTo most) = 0
example_of (UpToOr most other) = other
example_of (Digits tens ones) = 0
example_of Nature = FIRE_OR_EXPLOSION
example_of Comm = ALL_MODES
example_of (Either one other) = one
example_of (OneOf one other third) = one
example_of Format = formats.DISTRESS
example_of Category = categories.DISTRESS
example_of First = ALL_MODES
example_of FirstToOne = TEST
example_of Second = NO_INFORMATION
example_of Field = 0
example_of Message = POSITION_FOLLOWS
example_of End = ACKNOWLEDGE_RQ

pub Allows-example : (letter : Letter) → Allows letter (example_of letter)
unfolding example_of
Allows-example (Exactly only) = refl
Allows-example (UpTo most) = omega arith
Allows-example (UpToOr most other) = inr refl
Allows-example (Digits tens ones) = omega arith
Allows-example Nature = inl (lit≤ tt, lit≤ tt)
Allows-example Comm = inl (lit≤ tt, lit≤ tt)
Allows-example (Either one other) = inl refl
Allows-example (OneOf one other third) = inl refl
Allows-example Format = inl refl
Allows-example Category = inl refl
Allows-example First = inl (lit≤ tt, lit≤ tt)
Allows-example FirstToOne = inl refl
Allows-example Second = inr (inl (lit≤ tt, lit≤ tt))
Allows-example Field = inl (omega arith)
Allows-example Message = inl refl
Allows-example End = inl refl
