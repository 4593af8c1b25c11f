-- Two items share exactly where they have an operand in common.
use Rattle.std.proofs.Common.{◌≡◌, ℕ, ◌+◌, ◌*◌, ◌<◌, ◌==◌, Bool, true, false, eqb, ◌||◌, List, [], ◌∷◌, map, get_or, refl, sym, ◌∙◌, ap, arith}
use Rattle.std.proofs.Math.Bool.{or-false}
use Rattle.std.specs.List.{list_any, All}
use Rattle.std.proofs.lemmas.Bool.Decides.{nat_tests}
use Rattle.std.proofs.lemmas.List.Folds.{list_any-append}
use Rattle.std.proofs.lemmas.List.Elements.{All-append, All-map}
use Rattle.qccd_base.specs.declared.names.Qubit.{Qubit}
use Rattle.qccd_base.specs.declared.names.Bit.{Bit}
use Rattle.qccd_circuit.specs.Circuit.{IsWithin}
use Rattle.qccd_circuit.specs.Item.{ItemData, has_qubit, bits_of}
use Rattle.qccd_circuit.specs.Operands.{operands_of, uses}
use Rattle.qccd_circuit.specs.Sharing.{shares, has_bit}

qubit_among_qubits : (qs : List Qubit) (q : Qubit) → list_any (λ n. n == 2 * q.0) (map (λ (r : Qubit). 2 * r.0) qs) ≡ has_qubit qs q
qubit_among_qubits [] q = refl
qubit_among_qubits (r ∷ qs) q =
    let rest = qubit_among_qubits qs q in
    let here : eqb (2 * r.0) (2 * q.0) ≡ eqb r.0 q.0 = grind (arith, nat_tests) in
    rw (here, rest) refl

qubit_among_bits : (bs : List Bit) (n : ℕ) → list_any (λ m. m == 2 * n) (map (λ (b : Bit). 2 * b.0 + 1) bs) ≡ false
qubit_among_bits [] n = refl
qubit_among_bits (b ∷ bs) n =
    let here : eqb (2 * b.0 + 1) (2 * n) ≡ false = grind (arith, nat_tests) in
    rw (here, qubit_among_bits bs n) refl

bit_among_qubits : (qs : List Qubit) (n : ℕ) → list_any (λ m. m == 2 * n + 1) (map (λ (q : Qubit). 2 * q.0) qs) ≡ false
bit_among_qubits [] n = refl
bit_among_qubits (q ∷ qs) n =
    let here : eqb (2 * q.0) (2 * n + 1) ≡ false = grind (arith, nat_tests) in
    rw (here, bit_among_qubits qs n) refl

bit_among_bits : (bs : List Bit) (b : Bit) → list_any (λ n. n == 2 * b.0 + 1) (map (λ (c : Bit). 2 * c.0 + 1) bs) ≡ has_bit bs b
bit_among_bits [] b = refl
bit_among_bits (c ∷ bs) b =
    let rest = bit_among_bits bs b in
    let here : eqb (2 * c.0 + 1) (2 * b.0 + 1) ≡ eqb c.0 b.0 = grind (arith, nat_tests) in
    rw (here, rest) refl

uses_qubit : (d : ItemData) (q : Qubit) → uses d (2 * q.0) ≡ has_qubit d.qubits q
uses_qubit d q =
    list_any-append (λ n. n == 2 * q.0) (map (λ (r : Qubit). 2 * r.0) d.qubits) (map (λ (b : Bit). 2 * b.0 + 1) (bits_of d))
    ∙ rw (qubit_among_qubits d.qubits q, qubit_among_bits (bits_of d) q.0) (or-false (has_qubit d.qubits q))

uses_bit : (d : ItemData) (b : Bit) → uses d (2 * b.0 + 1) ≡ has_bit (bits_of d) b
uses_bit d b =
    list_any-append (λ n. n == 2 * b.0 + 1) (map (λ (q : Qubit). 2 * q.0) d.qubits) (map (λ (c : Bit). 2 * c.0 + 1) (bits_of d))
    ∙ rw (bit_among_qubits d.qubits b.0, bit_among_bits (bits_of d) b) refl

any_mapped : {X : Type 0} (p : ℕ → Bool) (q : X → Bool) (f : X → ℕ) (xs : List X) → ((x : X) → p (f x) ≡ q x) → list_any p (map f xs) ≡ list_any q xs
any_mapped p q f [] same = refl
any_mapped p q f (x ∷ xs) same = rw (same x, any_mapped p q f xs same) refl

pub shares-operands : (a b : ItemData) → shares a b ≡ list_any (uses b) (operands_of a)
shares-operands a b =
    sym (list_any-append (uses b) (map (λ (q : Qubit). 2 * q.0) a.qubits) (map (λ (c : Bit). 2 * c.0 + 1) (bits_of a))
    ∙ rw (any_mapped (uses b) (has_qubit b.qubits) (λ (q : Qubit). 2 * q.0) a.qubits (uses_qubit b), any_mapped (uses b) (has_bit (bits_of b)) (λ (c : Bit). 2 * c.0 + 1) (bits_of a) (uses_bit b)) refl)

-- ---- in both ways

any_none : (xs : List ℕ) → list_any (λ (x : ℕ). false) xs ≡ false
any_none [] = refl
any_none (x ∷ xs) = any_none xs

any_either : (p q : ℕ → Bool) (xs : List ℕ) → list_any (λ x. p x || q x) xs ≡ (list_any p xs || list_any q xs)
any_either p q [] = refl
any_either p q (x ∷ xs) = rw (any_either p q xs) (mixed (p x) (q x) (list_any p xs) (list_any q xs))
  where
    mixed : (a b c d : Bool) → ((a || b) || (c || d)) ≡ ((a || c) || (b || d))
    mixed true b c d = refl
    mixed false true true d = refl
    mixed false true false d = refl
    mixed false false c d = refl

any_same : (p q : ℕ → Bool) (xs : List ℕ) → ((x : ℕ) → p x ≡ q x) → list_any p xs ≡ list_any q xs
any_same p q [] same = refl
any_same p q (x ∷ xs) same = rw (same x, any_same p q xs same) refl

eqb-sym : (m n : ℕ) → eqb m n ≡ eqb n m
eqb-sym m n = grind (arith, nat_tests)

any_swapped : (xs ys : List ℕ) → list_any (λ x. list_any (λ y. eqb y x) ys) xs ≡ list_any (λ y. list_any (λ x. eqb x y) xs) ys
any_swapped [] ys = sym (any_none ys)
any_swapped (x ∷ xs) ys =
    ap (λ (b : Bool). list_any (λ y. eqb y x) ys || b) (any_swapped xs ys)
    ∙ ap (λ (b : Bool). b || list_any (λ y. list_any (λ x. eqb x y) xs) ys) (any_same (λ y. eqb y x) (λ y. eqb x y) ys (λ y. eqb-sym y x))
    ∙ sym (any_either (λ y. eqb x y) (λ y. list_any (λ x. eqb x y) xs) ys)

pub shares-sym : (a b : ItemData) → shares a b ≡ shares b a
shares-sym a b = shares-operands a b ∙ any_swapped (operands_of a) (operands_of b) ∙ sym (shares-operands b a)

-- ---- rows of a table

pub operands_below : (d : ItemData) → IsWithin 256 256 d → All (λ o. o < 512) (operands_of d)
operands_below d within =
    All-append (λ o. o < 512) (map (λ (q : Qubit). 2 * q.0) d.qubits) (map (λ (b : Bit). 2 * b.0 + 1) (bits_of d))
    (All-map (λ o. o < 512) (λ (q : Qubit). 2 * q.0) d.qubits (λ k e h. let small : (get_or d.qubits k e).0 < 256 = within.qubits_below k e h in omega arith))
    (All-map (λ o. o < 512) (λ (b : Bit). 2 * b.0 + 1) (bits_of d) (λ k e h. let small : (get_or (bits_of d) k e).0 < 256 = within.bits_below k e h in omega arith))
