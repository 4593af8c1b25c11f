-- What is drawn is an item of a circuit.
use Rattle.std.proofs.Common.{◌≡◌, ◌≢◌, ℕ, zero, suc, ◌-◌, ◌<◌, ◌≤◌, ◌/◌, Bool, true, false, ◌==◌, ◌||◌, IsTrue, length, List, [], ◌∷◌, ◌++◌, ◌∙◌, append_assoc, refl, ap, sym, arith, All, codes, cond}
use Rattle.std.specs.List.{AllByRecursion}
use Rattle.std.proofs.Math.Nat.{mod-lt}
use Rattle.std.proofs.lemmas.Bool.Decides.{nat_tests}
use Rattle.std.proofs.lemmas.List.Elements.{All-from_recursion}
use Rattle.qccd_base.specs.Names.{qubit}
use Rattle.qccd_circuit.specs.declared.kinds.ItemKind.TheVariants.{Gate1, Gate2}
use Rattle.qccd_circuit.specs.Item.{ItemData, Fits, are_distinct}
use Rattle.qccd_circuit.specs.Circuit.{IsCircuit, IsWithin}
use Rattle.rehearsal.specs.Draws.{draw, next}
use Rattle.rehearsal.specs.Generated.{Drawn, plain_gate, other_than, drawn_gate, drawn_item, drawn_items, generated}

-- ---- gates

-- an item of a circuit of so many qubits and no bits
abbrev IsOn : ℕ → ItemData → Type 0
IsOn qubits d = Fits d × IsWithin qubits 0 d

h_fits : (a : ℕ) → Fits (plain_gate Gate1 (codes "h") (qubit a ∷ []))
h_fits a = record {
  name = (refl, omega arith);
  angles = (refl, omega arith);
  cond = tt;
  distinct = refl;
  kind = (refl, refl, (λ is. cc, λ is. cc, λ is. cc));
}

x_fits : (a : ℕ) → Fits (plain_gate Gate1 (codes "x") (qubit a ∷ []))
x_fits a = record {
  name = (refl, omega arith);
  angles = (refl, omega arith);
  cond = tt;
  distinct = refl;
  kind = (refl, refl, (λ is. cc, λ is. cc, λ is. cc));
}

cx_fits : (a b : ℕ) → a ≢ b → Fits (plain_gate Gate2 (codes "cx") (qubit a ∷ qubit b ∷ []))
cx_fits a b apart = record {
  name = (refl, omega arith);
  angles = (refl, omega arith);
  cond = tt;
  distinct = differ a b apart;
  kind = (refl, refl, (λ is. cc, λ is. cc, λ is. cc));
}
  where
    differ : (a b : ℕ) → a ≢ b → IsTrue (are_distinct (qubit a ∷ qubit b ∷ []))
    differ a b apart = grind (arith, nat_tests)

one_within : (qubits a : ℕ) (name : List ℕ) → a < qubits → IsWithin qubits 0 (plain_gate Gate1 name (qubit a ∷ []))
one_within qubits a name low = record {
  qubits_below = All-from_recursion (λ q. q.0 < qubits) (qubit a ∷ []) (low, tt);
  bits_below = All-from_recursion (λ b. b.0 < 0) [] tt;
}

two_within : (qubits a b : ℕ) (name : List ℕ) → a < qubits → b < qubits → IsWithin qubits 0 (plain_gate Gate2 name (qubit a ∷ qubit b ∷ []))
two_within qubits a b name low lower = record {
  qubits_below = All-from_recursion (λ q. q.0 < qubits) (qubit a ∷ qubit b ∷ []) (low, (lower, tt));
  bits_below = All-from_recursion (λ b. b.0 < 0) [] tt;
}

-- ---- draws

-- the other qubit is another one
pub other_apart : (a n : ℕ) → a ≢ other_than a n
other_apart a n = grind (arith, nat_tests)

pub other_below : (qubits a n : ℕ) → n < qubits - 1 → other_than a n < qubits
other_below qubits a n low = grind (arith, nat_tests)

pub draw-below : (bound x : ℕ) → 0 < bound → draw bound x < bound
draw-below bound x some = mod-lt (next x / 65536) some

-- ---- items

pub length-drawn : (qubits x items : ℕ) → length (drawn_items qubits x items) ≡ items
length-drawn qubits x zero = refl
length-drawn qubits x (suc items) = ap suc (length-drawn qubits (drawn_item qubits x).after items)

pub gate_on : (qubits kind a x : ℕ) → 1 ≤ qubits → a < qubits → IsOn qubits (drawn_gate qubits kind a x).item
gate_on qubits kind a x some low = of_kind (kind == 0) ((kind == 1) || (qubits == 1)) alone
  where
    alone : ((kind == 1) || (qubits == 1)) ≡ false → 2 ≤ qubits
    alone is = grind (arith, nat_tests)

    of_kind :
        (b c : Bool) → (c ≡ false → 2 ≤ qubits)
        → IsOn qubits
        (cond {A = Drawn} b (record { item = plain_gate Gate1 (codes "h") (qubit a ∷ []); after = x })
        (cond {A = Drawn} c (record { item = plain_gate Gate1 (codes "x") (qubit a ∷ []); after = x })
        (record { item = plain_gate Gate2 (codes "cx") (qubit a ∷ qubit (other_than a (draw (qubits - 1) x)) ∷ []); after = next x }))).item
    of_kind true c two = (h_fits a, one_within qubits a (codes "h") low)
    of_kind false true two = (x_fits a, one_within qubits a (codes "x") low)
    of_kind false false two =
        let other : draw (qubits - 1) x < qubits - 1 = draw-below (qubits - 1) x (omega (arith, two refl)) in (
          cx_fits a (other_than a (draw (qubits - 1) x)) (other_apart a (draw (qubits - 1) x)),
          two_within qubits a (other_than a (draw (qubits - 1) x)) (codes "cx") low (other_below qubits a (draw (qubits - 1) x) other),
        )

pub item_on : (qubits x : ℕ) → 1 ≤ qubits → IsOn qubits (drawn_item qubits x).item
item_on qubits x some = gate_on qubits (draw 3 x) (draw qubits (next x)) (next (next x)) some (draw-below qubits (next x) some)

items_on : (qubits x items : ℕ) → 1 ≤ qubits → AllByRecursion (IsOn qubits) (drawn_items qubits x items)
items_on qubits x zero some = tt
items_on qubits x (suc items) some = (item_on qubits x some, items_on qubits (drawn_item qubits x).after items some)

-- ---- circuits

pub generated_circuit : (number qubits items : ℕ) → 1 ≤ qubits → qubits ≤ 256 → items ≤ 65536 → IsCircuit (generated number qubits items)
generated_circuit number qubits items some few_qubits few =
    let on : All (IsOn qubits) (drawn_items qubits number items) =
    All-from_recursion (IsOn qubits) (drawn_items qubits number items) (items_on qubits number items some) in
    record {
      few_qubits = few_qubits;
      few_bits = omega arith;
      few_items = omega (arith, length-drawn qubits number items);
      fit = λ i e lt. (on i e lt).0;
      within = λ i e lt. (on i e lt).1;
    }

-- the next item goes from what is left to what is there
pub next_item :
    (qubits x left next_left : ℕ) (front all : List ItemData) → left ≡ suc next_left → front ++ drawn_items qubits x left ≡ all
    → (front ++ (drawn_item qubits x).item ∷ []) ++ drawn_items qubits (drawn_item qubits x).after next_left ≡ all
next_item qubits x left next_left front all is so_far =
    append_assoc front ((drawn_item qubits x).item ∷ []) (drawn_items qubits (drawn_item qubits x).after next_left)
    ∙ ap (λ (n : ℕ). front ++ drawn_items qubits x n) (sym is)
    ∙ so_far
