-- What is sent before the first character of each call: ITU-R M.493, dot pattern and phasing sequence.
use Rattle.std.specs.Prelude.{ℕ, Bool, List, [], ◌∷◌, map}
use Rattle.dsc_symbols.specs.declared.phasing.TheConstants.{DX, RX_2, RX_3, RX_4, RX_5, RX_6, RX_7}
use Rattle.phasing.specs.Sent.{sent}
use Rattle.input_lines.specs.ReceiverLine.{sign_of}

-- the symbols of the slots before that of the first character
abbrev pub front_symbols : List ℕ
front_symbols = DX ∷ RX_7 ∷ DX ∷ RX_6 ∷ DX ∷ RX_5 ∷ DX ∷ RX_4 ∷ DX ∷ RX_3 ∷ DX ∷ RX_2 ∷ []

-- the signs of a dot pattern and of these symbols
abbrev pub front_signs : (long : Bool) → List ℕ
front_signs long = map sign_of (sent front_symbols long)
