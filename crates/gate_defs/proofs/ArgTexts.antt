-- Angles of a body under well-formed arguments are well formed, where they are not too long.
use Rattle.std.proofs.Common.{◌≡◌, ℕ, zero, suc, ◌<◌, Bool, true, false, ◌&&◌, List, [], ◌∷◌, ◌++◌, map, flat_map, length, get_or, All, codes, refl, ◌∙◌, arith, length-append}
use Rattle.std.specs.Prelude.{IsTrue, nat_le, nat_lt, if◌then◌else◌}
use Rattle.std.specs.List.{list_all, list_any}
use Rattle.std.proofs.lemmas.Bool.{and_from, and_parts, leb-true, le-leb, ltb-false, or_parts}
use Rattle.std.proofs.lemmas.List.Elements.{All-head, All-tail}
use Rattle.std.proofs.lemmas.List.Folds.{list_all-append}
use Rattle.qccd_circuit.specs.Item.{is_angle, is_angle_byte}
use Rattle.gate_defs.specs.declared.kinds.Arg.{Arg}
use Rattle.gate_defs.specs.declared.kinds.Piece.{Piece}
use Rattle.gate_defs.specs.declared.kinds.Piece.TheVariants.{Text, Param}
use Rattle.gate_defs.specs.Angles.{alone, angle_under, arg, inner_text, is_long, piece_text}
use Rattle.gate_defs.specs.Rule.{AreArgs, IsAngle, IsPiece, IsText}

joined_bytes : (a b : List ℕ) → IsTrue (list_all is_angle_byte a) → IsTrue (list_all is_angle_byte b) → IsTrue (list_all is_angle_byte (a ++ b))
joined_bytes a b first second = list_all-append is_angle_byte a b ∙ and_from _ _ first second

-- the text of an argument
pub arg_text : (args : List Arg) (n : ℕ) (x : Arg) → AreArgs args → n < length args → IsText (get_or args n x).text
arg_text [] n x are below = absurd (omega (arith, below))
arg_text (a ∷ args) zero x are below =
    let first = and_parts (is_angle a.text) _ are in
    let parts = and_parts (nat_le 1 (length a.text) && nat_le (length a.text) 1024) _ first.0 in
    (leb-true 1 (length a.text) (and_parts (nat_le 1 (length a.text)) _ parts.0).0, parts.1)
arg_text (a ∷ args) (suc n) x are below = arg_text args n x (and_parts (is_angle a.text) _ are).1 (omega (arith, below))

inner : (a : Arg) → IsText a.text → IsText (inner_text a)
inner a is = by_single a.single
  where
    by_single : (b : Bool) → IsText (if b then a.text else codes "(" ++ a.text ++ codes ")")
    by_single true = is
    by_single false = (omega arith, joined_bytes a.text (codes ")") is.1 refl)

-- that of a piece
pub piece : (args : List Arg) (p : Piece) → AreArgs args → IsPiece (length args) p → IsText (piece_text args p)
piece args (Text text) are is = is
piece args (Param n) are is = inner (get_or args n (arg [] true)) (arg_text args n (arg [] true) are is)

pieces : (args : List Arg) (ps : List Piece) → AreArgs args → All (IsPiece (length args)) ps → IsTrue (list_all is_angle_byte (flat_map (piece_text args) ps))
pieces args [] are all = refl
pieces args (p ∷ ps) are all =
    joined_bytes (piece_text args p) (flat_map (piece_text args) ps) (piece args p are (All-head (IsPiece (length args)) p ps all)).1
    (pieces args ps are (All-tail (IsPiece (length args)) p ps all))

one_piece : (args : List Arg) (p : Piece) → AreArgs args → IsPiece (length args) p → IsText (alone args p).text
one_piece args (Text text) are is = is
one_piece args (Param n) are is = arg_text args n (arg [] true) are is

-- and that of an angle
pub angle : (args : List Arg) (ps : List Piece) → AreArgs args → IsAngle (length args) ps → IsText (angle_under args ps).text
angle args [] are is = absurd (omega (arith, is.0))
angle args (p ∷ []) are is = one_piece args p are (All-head (IsPiece (length args)) p [] is.1)
angle args (p ∷ q ∷ ps) are is =
    let first = piece args p are (All-head (IsPiece (length args)) p (q ∷ ps) is.1) in
    (omega (arith, first.0, length-append (piece_text args p) (flat_map (piece_text args) (q ∷ ps))), pieces args (p ∷ q ∷ ps) are is.1)

well_formed : (text : List ℕ) → IsText text → nat_lt 1024 (length text) ≡ false → is_angle text ≡ true
well_formed text is short =
    and_from (nat_le 1 (length text) && nat_le (length text) 1024) _
    (and_from (nat_le 1 (length text)) _ (le-leb 1 (length text) is.0) (le-leb (length text) 1024 (ltb-false 1024 (length text) short))) is.1

-- the angles of a step
pub angles_are :
    (args : List Arg) (angles : List (List Piece)) → AreArgs args → All (IsAngle (length args)) angles
    → list_any is_long (map (angle_under args) angles) ≡ false → AreArgs (map (angle_under args) angles)
angles_are args [] are all short = refl
angles_are args (ps ∷ angles) are all short =
    let parts = or_parts (is_long (angle_under args ps)) _ short in
    and_from (is_angle (angle_under args ps).text) _
    (well_formed (angle_under args ps).text (angle args ps are (All-head (IsAngle (length args)) ps angles all)) parts.0)
    (angles_are args angles are (All-tail (IsAngle (length args)) ps angles all) parts.1)
