-- the row of a lawful sentence is lawful
use Rattle.std.proofs.Common.{◌==◌, Bool, if◌then◌else◌, Some, None, IfSome, arith}
use Rattle.dsc_sentences.specs.declared.dsc.DscFields.{DscFields}
use Rattle.dsc_sentences.specs.Dsc.{IsDsc}
use Rattle.dsc_symbols.specs.declared.last_digits.TheConstants.{ALERT, DISTRESS}
use Rattle.casualty_book.specs.declared.rows.BookKind.TheVariants.{Alert}
use Rattle.casualty_book.specs.Rows.{IsLawful}
use Rattle.casualty_book.specs.Sentences.{row_with, kind_of, row_about, says, row_of}

module _ (s : DscFields) (is : IsDsc s) where
  row_by : (alert distress : Bool) → IfSome (if alert then Some (row_with Alert s.address s.first s) else if distress then row_about (kind_of s.first s.end) s.distress s else None) IsLawful
  row_by alert distress = grind arith

  pub row_lawful : IfSome (row_of s) IsLawful
  unfolding row_of
  row_lawful = row_by (s.format == ALERT) (says s.category DISTRESS)
