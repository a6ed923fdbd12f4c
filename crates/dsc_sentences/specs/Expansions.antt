-- The DSE sentence of an expansion: this project's profile.
use Rattle.std.specs.Prelude.{ℕ}
use Rattle.expansion.specs.declared.values.Sets.{Sets}
use Rattle.dsc_sentences.specs.declared.dse.Flag.TheVariants.{A}
use Rattle.dsc_sentences.specs.declared.dse.DseFields.{DseFields}
use Rattle.dsc_sentences.specs.Calls.{identity_digits}

-- the record of an expansion after a call of this sender
abbrev pub of_expansion : ℕ → Sets → DseFields
of_expansion from x = record { flag = A; address = identity_digits from; expansion = x }
