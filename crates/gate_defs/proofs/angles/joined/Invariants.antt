use Rattle.std.proofs.Common.{◌≡◌, ◌≤◌, flat_map, take, length}
use Rattle.gate_defs.specs.Angles.{piece_text}
use Rattle.gate_defs.proofs.angles.joined.Given as goal

-- the text of the pieces so far, which is not too long
abbrev pub invariant-loop-piece : goal.invariant-loop-piece
invariant-loop-piece l = (l.text.items ≡ flat_map (piece_text l.args) (take l.piece-index l.pieces)) × (length l.text.items ≤ 1024)
