-- What a control socket replies (profile).
use Rattle.std.specs.Prelude.{ℕ, Bool, false, List, [], ◌∷◌, codes, nat_eq, bytes_eq}
use Rattle.std.specs.Char.{is_ascii_digit}
use Rattle.std.specs.List.{starts_with, list_any}
use Rattle.std.specs.Str.Lines.{lines}

-- A speaker of the protocol greets first, with its version.
abbrev pub is_greeting : List ℕ → Bool
is_greeting text = starts_with nat_eq text (codes "BABEL 1.")

-- A command was refused if one of the lines is `bad`.
abbrev pub has_refusal : List ℕ → Bool
has_refusal text = list_any (λ line. bytes_eq line (codes "bad")) (lines text)

-- The lines of the log begin with the moment, and no other does.
abbrev pub is_log_line : List ℕ → Bool
is_log_line [] = false
is_log_line (octet ∷ rest) = is_ascii_digit octet
