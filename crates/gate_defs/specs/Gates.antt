-- The gates that are known by name without a definition.
use Rattle.std.specs.Prelude.{ℕ, Bool, true, false, if◌then◌else◌, List, [], ◌∷◌, ◌++◌, map, Option, None, Some, codes, ◌==◌}
use Rattle.std.specs.List.{slice_split}
use Rattle.std.specs.Str.{bytes_eq}

-- a gate: its name, and how many angles and qubits it takes
pub record Gate : Type 0 where
  pub name : List ℕ
  pub angles : ℕ
  pub qubits : ℕ

abbrev pub gate : List ℕ → ℕ → ℕ → Gate
gate name angles qubits = record { name = name; angles = angles; qubits = qubits }

-- the words of a text, between its spaces
abbrev pub words : List ℕ → List (List ℕ)
words text = slice_split (λ c. c == 32) text

-- gates of these names, each with so many angles on so many qubits
abbrev pub gates : List ℕ → ℕ → ℕ → List Gate
gates names angles qubits = map (λ name. gate name angles qubits) (words names)

-- the gates that every text may use
abbrev pub always : List Gate
always = gates (codes "U") 3 1 ++ gates (codes "CX") 0 2

-- those that it may use after the include: the first table, whose names no definition behind the include may have
abbrev pub first_table : List Gate
first_table =
    gates (codes "id x y z h s sdg t tdg") 0 1
    ++ gates (codes "u1 rx ry rz") 1 1
    ++ gates (codes "u2") 2 1
    ++ gates (codes "u3") 3 1
    ++ gates (codes "cx cz cy ch") 0 2
    ++ gates (codes "crz cu1") 1 2
    ++ gates (codes "cu3") 3 2
    ++ gates (codes "ccx") 0 3

-- and the second, whose names a definition may have
abbrev pub second_table : List Gate
second_table =
    gates (codes "sx sxdg") 0 1
    ++ gates (codes "p u0") 1 1
    ++ gates (codes "u") 3 1
    ++ gates (codes "swap csx") 0 2
    ++ gates (codes "crx cry cp rxx rzz") 1 2
    ++ gates (codes "cu") 4 2
    ++ gates (codes "cswap") 0 3

-- both tables
abbrev pub included : List Gate
included = first_table ++ second_table

-- the gate of this name among some
abbrev pub gate_in : List Gate → List ℕ → Option Gate
gate_in [] name = None
gate_in (g ∷ gs) name = elim (bytes_eq name g.name) as (λ _. Option Gate) [ true ↦ Some g | false ↦ gate_in gs name ]

-- the gate of this name, before the include or after it
abbrev pub gate_of : Bool → List ℕ → Option Gate
gate_of false name = gate_in always name
gate_of true name = gate_in (always ++ included) name

-- that of a gate that is one item: each but ccx and cswap
abbrev pub plain_gate : List ℕ → Option Gate
plain_gate name = if bytes_eq name (codes "ccx") then None else (if bytes_eq name (codes "cswap") then None else gate_of true name)
