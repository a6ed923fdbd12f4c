-- The words of a command without options: none.
use Rattle.std.proofs.Common.{◌≡◌, Bool, false, List, [], ◌∷◌, refl, subst}
use Rattle.clap.specs.Lexer.{long_of}
use Rattle.clap.specs.Walk.{Text, nothing_held, walk_from}
use Rattle.clap.specs.Simple.{new_shape}
use Rattle.clap.specs.Faults.{defaults_fault, level_fault, walk_fault}
use Rattle.command_line.proofs.OptionTurns.{leaf}
use Rattle.command_line.proofs.Turns.{HasNoDashes, bare, stray_word, turn_by, turn_passes}

-- the words pass only where there are none
pub alone_passes : (name : Text) (ws : List Text) → HasNoDashes ws → level_fault (leaf (new_shape name)) [] nothing_held ws false [] ≡ [] → ws ≡ []
alone_passes name [] undashed e = refl
alone_passes name (x ∷ xs) undashed e =
    let s = leaf (new_shape name) in
    let turn = turn_passes s (walk_from nothing_held) x xs e in
    absurd (stray_word s x (long_of x) (subst (λ (d : Bool). turn_by (bare s) (walk_from nothing_held) x d (long_of x) ≡ []) undashed.0 turn))

-- and then they pass
pub alone_taken : (name : Text) → level_fault (leaf (new_shape name)) [] nothing_held [] false [] ≡ []
unfolding walk_fault defaults_fault
alone_taken name = refl
