-- Calls by their parts.
use Rattle.std.proofs.Common.{sym, subst}
use Rattle.symbol_reader.specs.inside.Languages.{Then}
use Rattle.symbol_reader.proofs.Laws.{Good, Alike, then_good, alike_good}
use Rattle.call_grammar.specs.inside.Grammar.{CheckedCharacters}
use Rattle.call_grammar.specs.inside.Forms.{Formats, AfterFormat}
use Rattle.call_grammar.proofs.CodedParts.{formats_good}
use Rattle.call_grammar.proofs.FormParts.{after_format_closes}
use Rattle.call_grammar.proofs.ToForms.{to_call}
use Rattle.call_grammar.proofs.FromForms.{from_covered}

-- the grammar of all forms spells the calls' lists
pub call_alike : Alike (Then Formats AfterFormat) CheckedCharacters
call_alike = record {
  to = to_call;
  back = λ c word p. subst (Then Formats AfterFormat c) (sym p.list) (from_covered c p.is_lawful);
}

-- a call's characters up to its check read back, and none begin another's
pub checked_characters_good : Good CheckedCharacters
checked_characters_good = alike_good _ _ call_alike (then_good _ _ formats_good (λ f _ _. (after_format_closes f).good))
