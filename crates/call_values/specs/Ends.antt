-- Ends of sequence: ITU-R M.493, end of sequence.
use Rattle.std.specs.Prelude.{ℕ, ◌==◌, if◌then◌else◌}
use Rattle.dsc_symbols.specs.declared.ends.TheConstants as ends
use Rattle.call_values.specs.declared.choices.End.{End}
use Rattle.call_values.specs.declared.choices.End.TheVariants.{Ask, Reply, Plain}

-- the ends of sequence: acknowledgement wanted, acknowledgement given, neither
abbrev pub end_symbol : End → ℕ
end_symbol Ask = ends.ACKNOWLEDGE_RQ
end_symbol Reply = ends.ACKNOWLEDGE_BQ
end_symbol Plain = ends.EOS

-- the end of sequence that has this symbol
abbrev pub end_named : ℕ → End
end_named symbol = if symbol == ends.ACKNOWLEDGE_RQ then Ask else (if symbol == ends.ACKNOWLEDGE_BQ then Reply else Plain)
