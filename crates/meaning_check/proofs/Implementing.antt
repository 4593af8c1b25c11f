-- A legal program is the same exactly where it implements the circuit.
use Rattle.std.proofs.Common.{◌≡◌, ℕ, zero, suc, ◌<◌, ◌≤◌, ◌==◌, Bool, true, false, cond, eqb, nat_lt, List, [], ◌∷◌, map, length, Option, Some, None, refl, sym, ◌∙◌, ap, subst, arith, ◌⊎◌, inl, inr}
use Rattle.std.specs.Prelude.{slice_get, count_by, IfSome, IsTrue, if◌then◌else◌}
use Rattle.std.specs.List.{AllByRecursion, list_any, cons_option}
use Rattle.std.proofs.lemmas.Bool.{cases_lt, cases_eq, eq-eqb, ne_eqb, lt-ltb, le-ltb, or_right}
use Rattle.std.proofs.lemmas.List.Elements.{All-from_recursion, recursion_from_All}
use Rattle.std.proofs.lemmas.Option.{same_Some, none-some, slice_get_within}
use Rattle.qccd_circuit.specs.Circuit.{CircuitData}
use Rattle.qccd_circuit.specs.Item.{ItemData}
use Rattle.qccd_circuit.specs.Order.{SameOrder, stands_before}
use Rattle.qccd_circuit.specs.Sharing.{shares}
use Rattle.qccd_circuit.proofs.Rising.{times, among_once, once_among, before_any, count_by-cons}
use Rattle.qccd_machine.specs.Machine.{MachineData}
use Rattle.op_table.specs.declared.kinds.OpKind.{OpKind}
use Rattle.op_table.specs.Run.{item_in, items_in}
use Rattle.op_table.proofs.Counts.{count_by-map}
use Rattle.qccd_program.specs.Implements.{Implements}
use Rattle.qccd_program.specs.Legal.{IsLegalProgram}
use Rattle.qccd_program.specs.Program.{ProgramData}
use Rattle.meaning_check.specs.Verdict.{IsOfCircuit, has_number, HasEach, NoneOvertakes, HasItems}

-- ---- the items, operation by operation and together

abbrev pub IsItem : List ItemData → ℕ × ItemData → Type 0
IsItem items e = slice_get items e.0 ≡ Some e.1

more_items : (items : List ItemData) (e : Option (ℕ × ItemData)) (list : List (ℕ × ItemData)) → IfSome e (IsItem items) → AllByRecursion (IsItem items) list → AllByRecursion (IsItem items) (cons_option e list)
more_items items None list is rest = rest
more_items items (Some x) list is rest = (is, rest)

pub items_from_ops : (items : List ItemData) (ops : List OpKind) → AllByRecursion (IsOfCircuit items) ops → AllByRecursion (IsItem items) (items_in ops)
items_from_ops items [] all = tt
items_from_ops items (op ∷ ops) all = more_items items (item_in op) (items_in ops) all.0 (items_from_ops items ops all.1)

less_items : (items : List ItemData) (e : Option (ℕ × ItemData)) (list : List (ℕ × ItemData)) → AllByRecursion (IsItem items) (cons_option e list) → IfSome e (IsItem items) × AllByRecursion (IsItem items) list
less_items items None list all = (tt, all)
less_items items (Some x) list all = all

pub ops_from_items : (items : List ItemData) (ops : List OpKind) → AllByRecursion (IsItem items) (items_in ops) → AllByRecursion (IsOfCircuit items) ops
ops_from_items items [] all = tt
ops_from_items items (op ∷ ops) all = let r = less_items items (item_in op) (items_in ops) all in (r.0, ops_from_items items ops r.1)

item_at : (items : List ItemData) (list : List (ℕ × ItemData)) (k n : ℕ) (d : ItemData) → AllByRecursion (IsItem items) list → slice_get list k ≡ Some (n, d) → slice_get items n ≡ Some d
item_at items [] k n d all there = absurd (none-some (n, d) there)
item_at items (e ∷ list) zero n d all there = subst (IsItem items) (same_Some e (n, d) there) all.0
item_at items (e ∷ list) (suc k) n d all there = item_at items list k n d all.1 there

-- ---- the numbers of a list

abbrev pub numbers : List (ℕ × ItemData) → List ℕ
numbers list = map (λ e. e.0) list

has_among : (list : List (ℕ × ItemData)) (n : ℕ) → has_number list n ≡ list_any (λ k. k == n) (numbers list)
has_among [] n = refl
has_among (e ∷ list) n = rw (has_among list n) refl

times_of : (list : List (ℕ × ItemData)) (n : ℕ) → times n (numbers list) ≡ count_by (λ e. e.0 == n) list
times_of list n = count_by-map (λ k. k == n) (λ (e : ℕ × ItemData). e.0) list

times_past : (items : List ItemData) (list : List (ℕ × ItemData)) (n : ℕ) → AllByRecursion (IsItem items) list → length items ≤ n → times n (numbers list) ≡ 0
times_past items [] n all past = refl
times_past items (e ∷ list) n all past =
    let below : e.0 < length items = slice_get_within items e.0 e.1 all.0 in
    let here : cond {A = ℕ} (eqb e.0 n) 1 0 ≡ 0 = ap (λ (b : Bool). cond {A = ℕ} b 1 0) (ne_eqb e.0 n (λ same. omega (arith, below, past, same))) in
    omega (arith, count_by-cons (λ k. k == n) e.0 (numbers list), here, times_past items list n all.1 past)

-- ---- which of two stands first

-- of two numbers the second stands at an earlier place
abbrev pub StandsBehind : List (ℕ × ItemData) → ℕ → ℕ → Type 0
StandsBehind list i j = (k l : ℕ) × (a b : ItemData) × (k < l) × (slice_get list k ≡ Some (j, b)) × (slice_get list l ≡ Some (i, a))

place_of : (list : List (ℕ × ItemData)) (n : ℕ) → list_any (λ k. k == n) (numbers list) ≡ true → (k : ℕ) × (d : ItemData) × (slice_get list k ≡ Some (n, d))
place_of [] n has = cc
place_of (e ∷ list) n has = elim (cases_eq e.0 n) [
  | inl same ↦ (0, e.1, ap (λ (k : ℕ). Some (k, e.1)) same)
  | inr apart ↦ let r = place_of list n (rw (ne_eqb e.0 n apart) at has) in (suc r.0, r.1, r.2)
]

behind_later : (e : ℕ × ItemData) (list : List (ℕ × ItemData)) (i j : ℕ) → StandsBehind list i j → StandsBehind (e ∷ list) i j
behind_later e list i j r = (suc r.0, suc r.1, r.2, r.3, omega (arith, r.4), r.5, r.6)

either_first : (list : List (ℕ × ItemData)) (i j : ℕ) → (i ≡ j → ⊥) → list_any (λ k. k == i) (numbers list) ≡ true → list_any (λ k. k == j) (numbers list) ≡ true
    → (stands_before i j (numbers list) ≡ true) ⊎ StandsBehind list i j
either_first [] i j apart has_i has_j = cc
either_first (e ∷ list) i j apart has_i has_j = elim (cases_eq e.0 i) [
  | inl same ↦
      let other : e.0 ≡ j → ⊥ = λ is. apart (sym same ∙ is) in
      let later : list_any (λ k. k == j) (numbers list) ≡ true = rw (ne_eqb e.0 j other) at has_j in
      inl (rw (eq-eqb e.0 i same) later)
  | inr not_i ↦
      let later_i : list_any (λ k. k == i) (numbers list) ≡ true = rw (ne_eqb e.0 i not_i) at has_i in
      elim (cases_eq e.0 j) [
        | inl same ↦
            let r = place_of list i later_i in
            inr (0, suc r.0, r.1, e.1, omega arith, ap (λ (k : ℕ). Some (k, e.1)) same, r.2)
        | inr not_j ↦
            let later_j : list_any (λ k. k == j) (numbers list) ≡ true = rw (ne_eqb e.0 j not_j) at has_j in
            elim (either_first list i j apart later_i later_j) [
              | inl before ↦ inl (rw (ne_eqb e.0 i not_i) before)
              | inr behind ↦ inr (behind_later e list i j behind)
            ]
      ]
]

among_at : (list : List (ℕ × ItemData)) (k n : ℕ) (d : ItemData) → slice_get list k ≡ Some (n, d) → list_any (λ m. m == n) (numbers list) ≡ true
among_at [] k n d there = absurd (none-some (n, d) there)
among_at (e ∷ list) zero n d there = rw (eq-eqb e.0 n (ap (λ (x : ℕ × ItemData). x.0) (same_Some e (n, d) there))) refl
among_at (e ∷ list) (suc k) n d there = or_right (eqb e.0 n) (list_any (λ m. m == n) (numbers list)) (among_at list k n d there)

-- a number that stands once is not at the front and behind it as well
twice : (n m : ℕ) (v : List ℕ) → m ≡ n → list_any (λ k. k == n) v ≡ true → times n (m ∷ v) ≤ 1 → ⊥
twice n m v same later once =
    let here : cond {A = ℕ} (eqb m n) 1 0 ≡ 1 = ap (λ (b : Bool). cond {A = ℕ} b 1 0) (eq-eqb m n same) in
    absurd (omega (arith, count_by-cons (λ k. k == n) m v, here, once_among n v later, once))

fewer : (n m : ℕ) (v : List ℕ) → times n (m ∷ v) ≤ 1 → times n v ≤ 1
fewer n m v once = omega (arith, count_by-cons (λ k. k == n) m v, once)

-- where each stands once, the one does not stand before the other and behind it
not_both : (list : List (ℕ × ItemData)) (i j k l : ℕ) (a b : ItemData) → (i ≡ j → ⊥) → times i (numbers list) ≤ 1 → times j (numbers list) ≤ 1
    → stands_before i j (numbers list) ≡ true → slice_get list k ≡ Some (j, b) → slice_get list l ≡ Some (i, a) → k < l → ⊥
not_both [] i j k l a b apart once_i once_j before at_k at_l less = none-some (j, b) at_k
not_both (e ∷ list) i j k zero a b apart once_i once_j before at_k at_l less = absurd (omega (arith, less))
not_both (e ∷ list) i j zero (suc l) a b apart once_i once_j before at_k at_l less =
    let same : e.0 ≡ j = ap (λ (x : ℕ × ItemData). x.0) (same_Some e (j, b) at_k) in
    let rest : stands_before i j (numbers list) ≡ true = rw (ne_eqb e.0 i (λ is. apart (sym is ∙ same))) at before in
    twice j e.0 (numbers list) same (before_any i j (numbers list) rest) once_j
not_both (e ∷ list) i j (suc k) (suc l) a b apart once_i once_j before at_k at_l less = elim (cases_eq e.0 i) [
  | inl same ↦ twice i e.0 (numbers list) same (among_at list l i a at_l) once_i
  | inr other ↦
      not_both list i j k l a b apart (fewer i e.0 (numbers list) once_i) (fewer j e.0 (numbers list) once_j) (rw (ne_eqb e.0 i other) at before) at_k at_l (omega (arith, less))
]

-- ---- the order

order_from : (items : List ItemData) (list : List (ℕ × ItemData)) → AllByRecursion (IsItem items) list → ((n : ℕ) → count_by (λ e. e.0 == n) list ≤ 1)
    → HasEach (length items) list → NoneOvertakes list → SameOrder items (numbers list)
order_from items list all once each none = record { once = one; kept = kept }
  where
    one : (n : ℕ) → times n (numbers list) ≡ (if nat_lt n (length items) then 1 else 0)
    one n = elim (cases_lt n (length items)) [
      | inl below ↦
          let some : 1 ≤ times n (numbers list) = once_among n (numbers list) (sym (has_among list n) ∙ each n below) in
          rw (lt-ltb n (length items) below) (omega (arith, some, once n, times_of list n))
      | inr past ↦ rw (le-ltb n (length items) past) (times_past items list n all past)
    ]

    kept : (i j : ℕ) (a b : ItemData) → i < j → slice_get items i ≡ Some a → slice_get items j ≡ Some b → IsTrue (shares a b) → IsTrue (stands_before i j (numbers list))
    kept i j a b less at_i at_j share =
        let has_i : list_any (λ k. k == i) (numbers list) ≡ true = sym (has_among list i) ∙ each i (slice_get_within items i a at_i) in
        let has_j : list_any (λ k. k == j) (numbers list) ≡ true = sym (has_among list j) ∙ each j (slice_get_within items j b at_j) in
        elim (either_first list i j (λ same. omega (arith, less, same)) has_i has_j) [
          | inl before ↦ before
          | inr behind ↦ absurd (none behind.0 i j (record {
            behind = behind.1;
            a = behind.2;
            b = behind.3;
            second_at = behind.5;
            first_at = behind.6;
            after = behind.4;
            smaller = less;
            share =
                let first : a ≡ behind.2 = same_Some a behind.2 (sym at_i ∙ item_at items list behind.1 i behind.2 all behind.6) in
                let second : b ≡ behind.3 = same_Some b behind.3 (sym at_j ∙ item_at items list behind.0 j behind.3 all behind.5) in
                subst (λ (d : ItemData). IsTrue (shares behind.2 d)) second (subst (λ (d : ItemData). IsTrue (shares d b)) first share);
          }))
        ]

most_one : (b : Bool) → (if b then 1 else 0) ≤ 1
most_one true = omega arith
most_one false = omega arith

once_each : (items : List ItemData) (v : List ℕ) → SameOrder items v → (n : ℕ) → times n v ≤ 1
once_each items v order n = subst (λ (m : ℕ). m ≤ 1) (sym (order.once n)) (most_one (nat_lt n (length items)))

each_from : (items : List ItemData) (list : List (ℕ × ItemData)) → SameOrder items (numbers list) → HasEach (length items) list
each_from items list order = λ n below.
    let one : times n (numbers list) ≡ 1 = order.once n ∙ rw (lt-ltb n (length items) below) refl in
    has_among list n ∙ among_once n (numbers list) (omega (arith, one))

none_from : (items : List ItemData) (list : List (ℕ × ItemData)) → AllByRecursion (IsItem items) list → SameOrder items (numbers list) → NoneOvertakes list
none_from items list all order = λ k i j o.
    let before : stands_before i j (numbers list) ≡ true =
    order.kept i j o.a o.b o.smaller (item_at items list o.behind i o.a all o.first_at) (item_at items list k j o.b all o.second_at) o.share in
    not_both list i j k o.behind o.a o.b (λ same. omega (arith, o.smaller, same)) (once_each items (numbers list) order i) (once_each items (numbers list) order j)
    before o.second_at o.first_at o.after

-- ---- the program

pub implements_from : (c : CircuitData) (p : ProgramData) (m : MachineData) → IsLegalProgram p → p.machine ≡ m → HasItems c p → NoneOvertakes (items_in p.ops) → Implements p c m
implements_from c p m legal on has none =
    let all = items_from_ops c.items p.ops has.items in
    subst (Implements p c) on (record {
      machine = refl;
      qubits = has.sizes.0;
      bits = has.sizes.1;
      start = legal.start;
      ops = legal.ops;
      run = legal.run;
      items = All-from_recursion (IsItem c.items) (items_in p.ops) all;
      order = order_from c.items (items_in p.ops) all legal.once has.each none;
    })

pub same_from : (c : CircuitData) (p : ProgramData) (m : MachineData) → Implements p c m → HasItems c p × NoneOvertakes (items_in p.ops)
same_from c p m does =
    let all = recursion_from_All (IsItem c.items) (items_in p.ops) does.items in (
      record {
        sizes = (does.qubits, does.bits);
        items = ops_from_items c.items p.ops all;
        each = each_from c.items (items_in p.ops) does.order;
      },
      none_from c.items (items_in p.ops) all does.order,
    )
