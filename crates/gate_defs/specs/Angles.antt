-- What an angle of a body is under arguments.
use Rattle.std.specs.Prelude.{ℕ, nat_lt, Bool, true, false, if◌then◌else◌, List, [], ◌∷◌, ◌++◌, flat_map, get_or, length, codes}
use Rattle.gate_defs.specs.declared.kinds.Arg.{Arg}
use Rattle.gate_defs.specs.declared.kinds.Piece.{Piece}
use Rattle.gate_defs.specs.declared.kinds.Piece.TheVariants.{Text, Param}

abbrev pub arg : List ℕ → Bool → Arg
arg text single = record { text = text; single = single }

-- an argument within a longer angle: in parentheses, unless it is one token
abbrev pub inner_text : Arg → List ℕ
inner_text a = if a.single then a.text else codes "(" ++ a.text ++ codes ")"

-- a piece of a longer angle
abbrev pub piece_text : List Arg → Piece → List ℕ
piece_text args (Text text) = text
piece_text args (Param n) = inner_text (get_or args n (arg [] true))

-- an angle of one piece: a token, or the argument as it stands
abbrev pub alone : List Arg → Piece → Arg
alone args (Text text) = arg text true
alone args (Param n) = get_or args n (arg [] true)

-- an angle of a body under these arguments
abbrev pub angle_under : List Arg → List Piece → Arg
angle_under args [] = arg [] false
angle_under args (p ∷ []) = alone args p
angle_under args (p ∷ q ∷ ps) = arg (flat_map (piece_text args) (p ∷ q ∷ ps)) false

-- whether the text is past the limit of an angle
abbrev pub is_long : Arg → Bool
is_long a = nat_lt 1024 (length a.text)
