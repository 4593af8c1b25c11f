-- Both definitions keep the rule.
use Rattle.std.proofs.Common.{ℕ, ◌<◌, List, [], ◌∷◌, All, arith, codes, refl}
use Rattle.std.proofs.lemmas.List.Elements.{All-from_recursion}
use Rattle.gate_defs.specs.declared.kinds.Piece.{Piece}
use Rattle.gate_defs.specs.declared.kinds.Piece.TheVariants.{Param}
use Rattle.gate_defs.specs.Example.{g, token, twice}
use Rattle.gate_defs.specs.Rule.{none, next, IsAngle, IsNext, IsPiece}
use Rattle.gate_defs.proofs.worked.names.Goals as goal

half : IsAngle 1 (Param 0 ∷ token (codes "/") ∷ token (codes "2") ∷ [])
half = (omega arith, All-from_recursion (IsPiece 1) (Param 0 ∷ token (codes "/") ∷ token (codes "2") ∷ []) (omega arith, ((omega arith, refl), ((omega arith, refl), tt))))

minus : IsAngle 1 (token (codes "-") ∷ Param 0 ∷ [])
minus = (omega arith, All-from_recursion (IsPiece 1) (token (codes "-") ∷ Param 0 ∷ []) ((omega arith, refl), (omega arith, tt)))

double : IsAngle 1 (Param 0 ∷ token (codes "*") ∷ token (codes "2") ∷ [])
double = (omega arith, All-from_recursion (IsPiece 1) (Param 0 ∷ token (codes "*") ∷ token (codes "2") ∷ []) (omega arith, ((omega arith, refl), ((omega arith, refl), tt))))

same : IsAngle 1 (Param 0 ∷ [])
same = (omega arith, All-from_recursion (IsPiece 1) (Param 0 ∷ []) (omega arith, tt))

one : (ps : List Piece) → IsAngle 1 ps → All (IsAngle 1) (ps ∷ [])
one ps is = All-from_recursion (IsAngle 1) (ps ∷ []) (is, tt)

wire : (w : ℕ) → w < 2 → All (λ (v : ℕ). v < 2) (w ∷ [])
wire w below = All-from_recursion (λ (v : ℕ). v < 2) (w ∷ []) (below, tt)

wires : (v w : ℕ) → v < 2 → w < 2 → All (λ (x : ℕ). x < 2) (v ∷ w ∷ [])
wires v w below_v below_w = All-from_recursion (λ (x : ℕ). x < 2) (v ∷ w ∷ []) (below_v, (below_w, tt))

none_of : All (IsAngle 1) []
none_of = All-from_recursion (IsAngle 1) [] tt

first : IsNext [] g
first =
    record {
      new_name = refl;
      room = omega arith;
      qubits = omega arith;
      body = (
        record { called = (refl, refl); angles = one _ half; distinct = refl; wires = wire 0 (omega arith) },
        (
          record { called = (refl, refl); angles = none_of; distinct = refl; wires = wires 0 1 (omega arith) (omega arith) },
          (record { called = (refl, refl); angles = one _ minus; distinct = refl; wires = wire 1 (omega arith) }, tt),
        ),
      );
      deep = omega arith;
      heavy = omega arith;
    }

second : IsNext (g ∷ []) twice
second =
    record {
      new_name = refl;
      room = omega arith;
      qubits = omega arith;
      body = (
        record { called = (omega arith, refl, refl, tt); angles = one _ double; distinct = refl; wires = wires 1 0 (omega arith) (omega arith) },
        (record { called = (omega arith, refl, refl, tt); angles = one _ same; distinct = refl; wires = wires 0 1 (omega arith) (omega arith) }, tt),
      );
      deep = omega arith;
      heavy = omega arith;
    }

pub returns-clause-may : goal.returns-clause-may
returns-clause-may c = next twice (next g none first) second
