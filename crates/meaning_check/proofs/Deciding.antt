-- Whether two items are equal is decided.
use Rattle.std.proofs.Common.{◌≡◌, ℕ, zero, suc, eqb, List, [], ◌∷◌, Option, Some, None, refl, sym, ◌∙◌, ap, ap₂, ◌⊎◌, inl, inr}
use Rattle.std.specs.Bool.{Decides}
use Rattle.std.proofs.lemmas.Bool.{cases_eq, eq-eqb, eqb-true}
use Rattle.std.proofs.lemmas.Option.{same_Some, none-some}
use Rattle.qccd_base.specs.declared.names.Qubit.{Qubit}
use Rattle.qccd_base.specs.declared.names.Bit.{Bit}
use Rattle.qccd_circuit.specs.Item.{ItemData}
use Rattle.qccd_circuit.specs.declared.kinds.Cond.{Cond}
use Rattle.qccd_circuit.specs.declared.kinds.ItemKind.{ItemKind}
use Rattle.qccd_circuit.specs.declared.kinds.ItemKind.TheVariants.{Gate1, Gate2, Measure, Reset, Barrier}

-- the two are equal, or they are not
abbrev pub Same : {X : Type 0} → X → X → Type 0
Same x y = (x ≡ y) ⊎ (x ≡ y → ⊥)

both : {X : Type 0} (x y : X) (A B : Type 0) → (A ⊎ (A → ⊥)) → (B ⊎ (B → ⊥)) → (A → B → x ≡ y) → (x ≡ y → A × B) → Same x y
both x y A B (inl a) (inl b) join part = inl (join a b)
both x y A B (inl a) (inr b) join part = inr (λ e. b (part e).1)
both x y A B (inr a) b join part = inr (λ e. a (part e).0)

abbrev head_of : {X : Type 0} → X → List X → X
head_of x [] = x
head_of x (y ∷ ys) = y

abbrev tail_of : {X : Type 0} → List X → List X
tail_of [] = []
tail_of (y ∷ ys) = ys

same_lists : {X : Type 0} → ((x y : X) → Same x y) → (xs ys : List X) → Same xs ys
same_lists each [] [] = inl refl
same_lists each [] (y ∷ ys) = inr (λ e. cc)
same_lists each (x ∷ xs) [] = inr (λ e. cc)
same_lists each (x ∷ xs) (y ∷ ys) =
    both (x ∷ xs) (y ∷ ys) (x ≡ y) (xs ≡ ys) (each x y) (same_lists each xs ys) (λ a b. ap₂ (λ z zs. z ∷ zs) a b) (λ e. (ap (head_of x) e, ap tail_of e))

same_options : {X : Type 0} → ((x y : X) → Same x y) → (a b : Option X) → Same a b
same_options each None None = inl refl
same_options each None (Some y) = inr (λ e. none-some y e)
same_options each (Some x) None = inr (λ e. none-some x (sym e))
same_options each (Some x) (Some y) = elim (each x y) [ inl e ↦ inl (ap (λ (z : _). Some z) e) | inr apart ↦ inr (λ e. apart (same_Some x y e)) ]

-- a kind by number, and back
abbrev number_of : ItemKind → ℕ
number_of Gate1 = 0
number_of Gate2 = 1
number_of Measure = 2
number_of Reset = 3
number_of Barrier = 4

abbrev kind_of : ℕ → ItemKind
kind_of zero = Gate1
kind_of (suc zero) = Gate2
kind_of (suc (suc zero)) = Measure
kind_of (suc (suc (suc zero))) = Reset
kind_of (suc (suc (suc (suc n)))) = Barrier

kind_back : (k : ItemKind) → kind_of (number_of k) ≡ k
kind_back Gate1 = refl
kind_back Gate2 = refl
kind_back Measure = refl
kind_back Reset = refl
kind_back Barrier = refl

same_kinds : (a b : ItemKind) → Same a b
same_kinds a b = elim (cases_eq (number_of a) (number_of b)) [
  | inl e ↦ inl (sym (kind_back a) ∙ ap kind_of e ∙ kind_back b)
  | inr apart ↦ inr (λ e. apart (ap number_of e))
]

same_qubits : (a b : Qubit) → Same a b
same_qubits a b = elim (cases_eq a.0 b.0) [ inl e ↦ inl (ap (λ (n : ℕ). record { 0 = n }) e) | inr apart ↦ inr (λ e. apart (ap (λ (q : Qubit). q.0) e)) ]

same_bits : (a b : Bit) → Same a b
same_bits a b = elim (cases_eq a.0 b.0) [ inl e ↦ inl (ap (λ (n : ℕ). record { 0 = n }) e) | inr apart ↦ inr (λ e. apart (ap (λ (q : Bit). q.0) e)) ]

same_conds : (a b : Cond) → Same a b
same_conds a b = elim (same_bits a.first b.first) [
  | inr apart ↦ inr (λ e. apart (ap (λ (c : Cond). c.first) e))
  | inl first ↦ elim (cases_eq a.count b.count) [
    | inr apart ↦ inr (λ e. apart (ap (λ (c : Cond). c.count) e))
    | inl count ↦ elim (cases_eq a.value b.value) [
      | inr apart ↦ inr (λ e. apart (ap (λ (c : Cond). c.value) e))
      | inl value ↦ inl (λ k. record { first = first k; count = count k; value = value k })
    ]
  ]
]

pub same_items : (a b : ItemData) → Same a b
same_items a b = elim (same_kinds a.kind b.kind) [
  | inr apart ↦ inr (λ e. apart (ap (λ (d : ItemData). d.kind) e))
  | inl kind ↦ elim (same_lists cases_eq a.name b.name) [
    | inr apart ↦ inr (λ e. apart (ap (λ (d : ItemData). d.name) e))
    | inl name ↦ elim (same_lists (same_lists cases_eq) a.angles b.angles) [
      | inr apart ↦ inr (λ e. apart (ap (λ (d : ItemData). d.angles) e))
      | inl angles ↦ elim (same_lists same_qubits a.qubits b.qubits) [
        | inr apart ↦ inr (λ e. apart (ap (λ (d : ItemData). d.qubits) e))
        | inl qubits ↦ elim (same_lists same_bits a.bits b.bits) [
          | inr apart ↦ inr (λ e. apart (ap (λ (d : ItemData). d.bits) e))
          | inl bits ↦ elim (same_options same_conds a.cond b.cond) [
            | inr apart ↦ inr (λ e. apart (ap (λ (d : ItemData). d.cond) e))
            | inl cond ↦ inl (λ k. record { kind = kind k; name = name k; angles = angles k; qubits = qubits k; bits = bits k; cond = cond k })
          ]
        ]
      ]
    ]
  ]
]

pub same_found : (a b : Option ItemData) → Same a b
same_found = same_options same_items

-- ---- what `==` says of qubits and of bits

pub qubit_same : (a b : Qubit) → Decides (eqb a.0 b.0) (a ≡ b)
qubit_same a b = (λ e. ap (λ (n : ℕ). record { 0 = n }) (eqb-true a.0 b.0 e), λ e. eq-eqb a.0 b.0 (ap (λ (q : Qubit). q.0) e))

pub bit_same : (a b : Bit) → Decides (eqb a.0 b.0) (a ≡ b)
bit_same a b = (λ e. ap (λ (n : ℕ). record { 0 = n }) (eqb-true a.0 b.0 e), λ e. eq-eqb a.0 b.0 (ap (λ (q : Bit). q.0) e))
