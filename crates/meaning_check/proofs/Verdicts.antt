-- Exactly one verdict.
use Rattle.std.proofs.Common.{◌≡◌, ℕ, ◌≤◌, List, [], ◌∷◌, length, Option, Some, None, refl, ap, ap₂, subst, arith, inl, inr}
use Rattle.std.specs.Prelude.{slice_get, IfSome}
use Rattle.std.specs.List.{AllByRecursion, cons_option}
use Rattle.std.proofs.lemmas.Bool.{cases_eq}
use Rattle.std.proofs.lemmas.Option.{slice_get_within}
use Rattle.qccd_circuit.specs.Circuit.{CircuitData, IsCircuit}
use Rattle.qccd_circuit.specs.Item.{ItemData}
use Rattle.op_table.specs.declared.kinds.OpKind.{OpKind}
use Rattle.op_table.specs.Run.{item_in, items_in}
use Rattle.qccd_program.specs.Program.{ProgramData}
use Rattle.meaning_check.specs.Verdict.{SameSizes, IsOfCircuit, HasEach, NoneOvertakes, HasItems, IsVerdict}
use Rattle.meaning_check.specs.declared.verdict.Verdict.{Verdict}
use Rattle.meaning_check.specs.declared.verdict.Verdict.TheVariants.{Sizes, Differs, Missing, Order, Same}
use Rattle.meaning_check.proofs.Firsts.{differs_not, one_differs, differing, missing_not, one_missing, missing, overtakes_not, one_overtakes, AreNumbers, overtaking}
use Rattle.meaning_check.proofs.Overtakes.{Found}

pub one_at_most : (c : CircuitData) (p : ProgramData) (v w : Verdict) → IsVerdict c p v → IsVerdict c p w → v ≡ w
one_at_most c p Sizes Sizes a b = refl
one_at_most c p Sizes (Differs op item) a b = absurd (a b.0)
one_at_most c p Sizes (Missing item) a b = absurd (a b.0)
one_at_most c p Sizes (Order first second) a b = absurd (a b.0.sizes)
one_at_most c p Sizes Same a b = absurd (a b.0.sizes)
one_at_most c p (Differs op item) Sizes a b = absurd (b a.0)
one_at_most c p (Differs op item) (Differs other number) a b =
    let same = one_differs c.items p.ops op other item number a.1 b.1 in ap₂ Differs same.0 same.1
one_at_most c p (Differs op item) (Missing number) a b = absurd (differs_not c.items p.ops op item a.1 b.1)
one_at_most c p (Differs op item) (Order first second) a b = absurd (differs_not c.items p.ops op item a.1 b.0.items)
one_at_most c p (Differs op item) Same a b = absurd (differs_not c.items p.ops op item a.1 b.0.items)
one_at_most c p (Missing item) Sizes a b = absurd (b a.0)
one_at_most c p (Missing item) (Differs op number) a b = absurd (differs_not c.items p.ops op number b.1 a.1)
one_at_most c p (Missing item) (Missing number) a b = ap Missing (one_missing (length c.items) (items_in p.ops) item number a.2 b.2)
one_at_most c p (Missing item) (Order first second) a b = absurd (missing_not (length c.items) (items_in p.ops) item a.2 b.0.each)
one_at_most c p (Missing item) Same a b = absurd (missing_not (length c.items) (items_in p.ops) item a.2 b.0.each)
one_at_most c p (Order first second) Sizes a b = absurd (b a.0.sizes)
one_at_most c p (Order first second) (Differs op item) a b = absurd (differs_not c.items p.ops op item b.1 a.0.items)
one_at_most c p (Order first second) (Missing item) a b = absurd (missing_not (length c.items) (items_in p.ops) item b.2 a.0.each)
one_at_most c p (Order first second) (Order lesser greater) a b =
    let same = one_overtakes (items_in p.ops) first second lesser greater a.1 b.1 in ap₂ Order same.0 same.1
one_at_most c p (Order first second) Same a b = absurd (overtakes_not (items_in p.ops) first second a.1 b.1)
one_at_most c p Same Sizes a b = absurd (b a.0.sizes)
one_at_most c p Same (Differs op item) a b = absurd (differs_not c.items p.ops op item b.1 a.0.items)
one_at_most c p Same (Missing item) a b = absurd (missing_not (length c.items) (items_in p.ops) item b.2 a.0.each)
one_at_most c p Same (Order first second) a b = absurd (overtakes_not (items_in p.ops) first second b.1 a.1)
one_at_most c p Same Same a b = refl

-- ---- that there is one

numbers_one : (items : List ItemData) (e : Option (ℕ × ItemData)) (list : List (ℕ × ItemData)) → length items ≤ 65536 → IfSome e (λ x. slice_get items x.0 ≡ Some x.1)
    → AreNumbers list → AreNumbers (cons_option e list)
numbers_one items None list few is rest = rest
numbers_one items (Some x) list few is rest = (omega (arith, few, slice_get_within items x.0 x.1 is), rest)

numbers_of : (items : List ItemData) (ops : List OpKind) → length items ≤ 65536 → AllByRecursion (IsOfCircuit items) ops → AreNumbers (items_in ops)
numbers_of items [] few all = tt
numbers_of items (op ∷ ops) few all = numbers_one items (item_in op) (items_in ops) few all.0 (numbers_of items ops few all.1)

of_found : (c : CircuitData) (p : ProgramData) (found : Option (ℕ × ℕ)) → HasItems c p → Found (items_in p.ops) found → (v : Verdict) × IsVerdict c p v
of_found c p None has found = (Same, (has, found.none))
of_found c p (Some x) has found = (Order x.0 x.1, (has, found.some))

of_items : (c : CircuitData) (p : ProgramData) → IsCircuit c → SameSizes c p → (v : Verdict) × IsVerdict c p v
of_items c p circuit sizes = elim (differing c.items p.ops) [
  | inl first ↦ (Differs first.0.0 first.0.1, (sizes, first.1))
  | inr all ↦ elim (missing (length c.items) (items_in p.ops)) [
    | inl least ↦ (Missing least.0, (sizes, all, least.1))
    | inr each ↦
        let found = overtaking (items_in p.ops) (numbers_of c.items p.ops circuit.few_items all) in
        of_found c p found.0 (record { sizes = sizes; items = all; each = each }) found.1
  ]
]

pub one_at_least : (c : CircuitData) (p : ProgramData) → IsCircuit c → (v : Verdict) × IsVerdict c p v
one_at_least c p circuit = elim (cases_eq p.qubits c.qubits) [
  | inr apart ↦ (Sizes, λ sizes. apart sizes.0)
  | inl qubits ↦ elim (cases_eq p.bits c.bits) [
    | inr apart ↦ (Sizes, λ sizes. apart sizes.1)
    | inl bits ↦ of_items c p circuit (qubits, bits)
  ]
]

-- ---- what the code has found

pub same_where : (c : CircuitData) (p : ProgramData) (items : List ItemData) (ops : List OpKind) → items ≡ c.items → ops ≡ p.ops → SameSizes c p
    → AllByRecursion (IsOfCircuit items) ops → HasEach (length items) (items_in ops) → NoneOvertakes (items_in ops) → IsVerdict c p Same
same_where c p items ops are run sizes all each none = (
  record {
    sizes = sizes;
    items = subst (λ (xs : List ItemData). AllByRecursion (IsOfCircuit xs) p.ops) are (subst (AllByRecursion (IsOfCircuit items)) run all);
    each = subst (λ (xs : List ItemData). HasEach (length xs) (items_in p.ops)) are (subst (λ (xs : List OpKind). HasEach (length items) (items_in xs)) run each);
  },
  subst (λ (xs : List OpKind). NoneOvertakes (items_in xs)) run none,
)
