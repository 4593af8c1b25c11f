-- Definitions for worked examples.
use Rattle.std.specs.Prelude.{ℕ, true, false, List, [], ◌∷◌, Option, None, Some, codes, replicate}
use Rattle.qccd_base.specs.Names.{bit}
use Rattle.qccd_circuit.specs.declared.kinds.Cond.{Cond}
use Rattle.gate_defs.specs.declared.kinds.Arg.{Arg}
use Rattle.gate_defs.specs.declared.kinds.Piece.{Piece}
use Rattle.gate_defs.specs.declared.kinds.Piece.TheVariants.{Text, Param}
use Rattle.gate_defs.specs.declared.kinds.Callee.{Callee}
use Rattle.gate_defs.specs.declared.kinds.Callee.TheVariants.{Plain, Ccx, Defined, Barrier}
use Rattle.gate_defs.specs.declared.kinds.BodyStep.{BodyStep}
use Rattle.gate_defs.specs.declared.kinds.Def.{Def}
use Rattle.gate_defs.specs.Angles.{arg}

abbrev pub gate_of : List ℕ → ℕ → ℕ → List BodyStep → Def
gate_of name params qubits steps = record { name = name; params = params; qubits = qubits; body = Some steps }

abbrev pub opaque_of : List ℕ → ℕ → ℕ → Def
opaque_of name params qubits = record { name = name; params = params; qubits = qubits; body = None }

abbrev pub step : Callee → List (List Piece) → List ℕ → BodyStep
step callee angles wires = record { callee = callee; angles = angles; wires = wires }

abbrev pub plain : List ℕ → List (List Piece) → List ℕ → BodyStep
plain name angles wires = step (Plain name) angles wires

abbrev pub token : List ℕ → Piece
token text = Text text

-- gate g(t) a,b { rz(t/2) a; cx a,b; rz(-t) b; }
abbrev pub g : Def
g =
    gate_of (codes "g") 1 2
    (plain (codes "rz") ((Param 0 ∷ token (codes "/") ∷ token (codes "2") ∷ []) ∷ []) (0 ∷ [])
    ∷ plain (codes "cx") [] (0 ∷ 1 ∷ [])
    ∷ plain (codes "rz") ((token (codes "-") ∷ Param 0 ∷ []) ∷ []) (1 ∷ []) ∷ [])

-- gate twice(s) a,b { g(s*2) b,a; g(s) a,b; }, where g is number 0
abbrev pub twice : Def
twice =
    gate_of (codes "twice") 1 2
    (step (Defined 0) ((Param 0 ∷ token (codes "*") ∷ token (codes "2") ∷ []) ∷ []) (1 ∷ 0 ∷ [])
    ∷ step (Defined 0) ((Param 0 ∷ []) ∷ []) (0 ∷ 1 ∷ []) ∷ [])

-- gate alone(t) a { rx(t) a; rx((t)) a; }
abbrev pub alone : Def
alone =
    gate_of (codes "alone") 1 1
    (plain (codes "rx") ((Param 0 ∷ []) ∷ []) (0 ∷ [])
    ∷ plain (codes "rx") ((token (codes "(") ∷ Param 0 ∷ token (codes ")") ∷ []) ∷ []) (0 ∷ []) ∷ [])

-- gate fence a,b { barrier b,a; x a; }
abbrev pub fence : Def
fence = gate_of (codes "fence") 0 2 (step Barrier [] (1 ∷ 0 ∷ []) ∷ plain (codes "x") [] (0 ∷ []) ∷ [])

-- opaque cswap(t) a,b; gate swapped a,b { cswap(1) b,a; }
abbrev pub own_cswap : List Def
own_cswap =
    opaque_of (codes "cswap") 1 2
    ∷ gate_of (codes "swapped") 0 2 (step (Defined 0) ((token (codes "1") ∷ []) ∷ []) (1 ∷ 0 ∷ []) ∷ []) ∷ []

-- opaque o a,b,c; gate none(t) a { } gate three a,b,c { ccx a,b,c; barrier a; h c; } gate deep a,b,c { three c,b,a; three a,b,c; }
abbrev pub sized : List Def
sized =
    opaque_of (codes "o") 0 3
    ∷ gate_of (codes "none") 1 1 []
    ∷ gate_of (codes "three") 0 3 (step Ccx [] (0 ∷ 1 ∷ 2 ∷ []) ∷ step Barrier [] (0 ∷ []) ∷ plain (codes "h") [] (2 ∷ []) ∷ [])
    ∷ gate_of (codes "deep") 0 3 (step (Defined 2) [] (2 ∷ 1 ∷ 0 ∷ []) ∷ step (Defined 2) [] (0 ∷ 1 ∷ 2 ∷ []) ∷ []) ∷ []

-- gate none(t) a { } gate outer(t) a { none(-t) a; }
abbrev pub growing : List Def
growing =
    gate_of (codes "none") 1 1 []
    ∷ gate_of (codes "outer") 1 1 (step (Defined 0) ((token (codes "-") ∷ Param 0 ∷ []) ∷ []) (0 ∷ []) ∷ []) ∷ []

-- an argument of so many digits
abbrev pub digits : ℕ → Arg
digits n = arg (replicate n 49) true

-- the argument pi+1, of three tokens
abbrev pub sum : Arg
sum = arg (codes "pi+1") false

-- that two bits from the first have the value 2
abbrev pub two_bits : Option Cond
two_bits = Some (record { first = bit 0; count = 2; value = 2 })

-- gate f(t) a { o(-t) a; }, where o is number 0
abbrev pub minus_inside : Def
minus_inside = gate_of (codes "f") 1 1 (step (Defined 0) ((token (codes "-") ∷ Param 0 ∷ []) ∷ []) (0 ∷ []) ∷ [])
