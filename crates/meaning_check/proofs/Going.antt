-- Operations, gone through one after another.
use Rattle.std.proofs.Common.{◌≡◌, ℕ, suc, ◌+◌, ◌-◌, ◌<◌, ◌≤◌, Bool, true, false, eqb, ◌||◌, List, [], ◌∷◌, ◌++◌, length, take, drop, get_or, Option, Some, None, sym, ◌∙◌, ap, ap₂, subst, arith, inl, inr, drop-cons}
use Rattle.std.specs.Prelude.{slice_get, IfSome}
use Rattle.std.specs.List.{All, AllByRecursion, cons_option}
use Rattle.std.proofs.Math.ListN.{set}
use Rattle.std.proofs.Math.Seq.{take-suc}
use Rattle.std.proofs.lemmas.Bool.{cases_eq, eq-eqb, ne_eqb, or_right}
use Rattle.std.proofs.lemmas.List.{length-set, get_or-set_same, get_or-set_other}
use Rattle.qccd_circuit.specs.Circuit.{CircuitData, IsCircuit, IsWithin}
use Rattle.qccd_circuit.specs.Item.{ItemData}
use Rattle.qccd_circuit.proofs.CircuitLemmas.{IsCircuit-within}
use Rattle.op_table.specs.declared.kinds.OpKind.{OpKind}
use Rattle.op_table.specs.Run.{item_in, items_in}
use Rattle.meaning_check.specs.Least.{HasRows}
use Rattle.meaning_check.specs.Verdict.{IsOfCircuit, has_number}

front_is : {X : Type 0} (xs : List X) (k : ℕ) (x : X) → k < length xs → x ≡ get_or xs k x → take (k + 1) xs ≡ take k xs ++ x ∷ []
front_is xs k x within is =
    let n : k + 1 ≡ suc k = omega arith in
    ap (λ (j : ℕ). take j xs) n ∙ take-suc xs k x within ∙ ap (λ y. take k xs ++ y ∷ []) (sym is)

back_is : {X : Type 0} (xs : List X) (k : ℕ) (x : X) → k < length xs → x ≡ get_or xs k x → drop k xs ≡ x ∷ drop (k + 1) xs
back_is xs k x within is =
    let n : k + 1 ≡ suc k = omega arith in
    drop-cons xs k x within ∙ ap₂ (λ y (j : ℕ). y ∷ drop j xs) (sym is) (sym n)

-- a rule of each operation in front, and of one more
pub all_next : {X : Type 0} (P : X → Type 0) (xs : List X) (k : ℕ) (x : X) → k < length xs → x ≡ get_or xs k x → AllByRecursion P (take k xs) → P x → AllByRecursion P (take (k + 1) xs)
all_next P xs k x within is all own = subst (AllByRecursion P) (sym (front_is xs k x within is)) (all_more (take k xs) all)
  where
    all_more : (ys : List _) → AllByRecursion P ys → AllByRecursion P (ys ++ x ∷ [])
    all_more [] all = (own, tt)
    all_more (y ∷ ys) all = (all.0, all_more ys all.1)

-- the items from an operation on
pub items_from : (ops : List OpKind) (k : ℕ) (op : OpKind) (e : Option (ℕ × ItemData)) → k < length ops → op ≡ get_or ops k op → item_in op ≡ e
    → items_in (drop k ops) ≡ cons_option e (items_in (drop (k + 1) ops))
items_from ops k op e within is does =
    ap items_in (back_is ops k op within is) ∙ ap (λ o. cons_option o (items_in (drop (k + 1) ops))) does

-- the same, gone through from the end
pub items_back : (ops : List OpKind) (k : ℕ) (op : OpKind) (e : Option (ℕ × ItemData)) → 0 < k → k ≤ length ops → op ≡ get_or ops (k - 1) op → item_in op ≡ e
    → items_in (drop (k - 1) ops) ≡ cons_option e (items_in (drop k ops))
items_back ops k op e some within is does =
    let n : k - 1 + 1 ≡ k = omega (arith, some) in
    items_from ops (k - 1) op e (omega (arith, some, within)) is does ∙ ap (λ (j : ℕ). cons_option e (items_in (drop j ops))) n

-- ---- the operands of the circuit's items have rows

rows_one : (c : CircuitData) (e : Option (ℕ × ItemData)) → IsCircuit c → IfSome e (λ x. slice_get c.items x.0 ≡ Some x.1) → IfSome e (λ x. IsWithin 256 256 x.1)
rows_one c None circuit is = tt
rows_one c (Some x) circuit is = IsCircuit-within c x.0 x.1 circuit is

pub rows_all : (c : CircuitData) (ops : List OpKind) → IsCircuit c → AllByRecursion (IsOfCircuit c.items) ops → AllByRecursion HasRows ops
rows_all c [] circuit all = tt
rows_all c (op ∷ ops) circuit all = (rows_one c (item_in op) circuit all.0, rows_all c ops circuit all.1)

pub has_rows : (ops : List OpKind) (k : ℕ) (op : OpKind) (e : ℕ × ItemData) → All HasRows ops → k < length ops → op ≡ get_or ops k op → item_in op ≡ Some e → IsWithin 256 256 e.1
has_rows ops k op e all within is does =
    let one : HasRows op = subst HasRows (sym is) (all k op within) in
    subst (λ (o : Option (ℕ × ItemData)). IfSome o (λ x. IsWithin 256 256 x.1)) does one

-- ---- items that were seen

-- an item is in the program where it was seen, or is still to come
pub record AreSeen (count : ℕ) (ops : List OpKind) (k : ℕ) (seen : List Bool) : Type 0 where
  pub long : length seen ≡ count
  pub each : (n : ℕ) → n < count → has_number (items_in ops) n ≡ (get_or seen n false || has_number (items_in (drop k ops)) n)

pub seen_none : (count : ℕ) (ops : List OpKind) (k : ℕ) (op : OpKind) (seen : List Bool) → k < length ops → op ≡ get_or ops k op → item_in op ≡ None → AreSeen count ops k seen
    → AreSeen count ops (k + 1) seen
seen_none count ops k op seen within is does are = record {
  long = are.long;
  each = λ n below. are.each n below ∙ ap (λ list. get_or seen n false || has_number list n) (items_from ops k op None within is does);
}

one_here : (seen : List Bool) (number n : ℕ) (rest : Bool) → number < length seen → (get_or seen n false || (eqb number n || rest)) ≡ (get_or (set seen number true) n false || rest)
one_here seen number n rest within = elim (cases_eq number n) [
  | inl same ↦
      let here : get_or (set seen number true) n false ≡ true = subst (λ (x : ℕ). get_or (set seen number true) x false ≡ true) same (get_or-set_same seen number true false within) in
      or_right (get_or seen n false) (eqb number n || rest) (ap (λ (b : Bool). b || rest) (eq-eqb number n same)) ∙ sym (ap (λ (b : Bool). b || rest) here)
  | inr apart ↦
      ap (λ (b : Bool). get_or seen n false || (b || rest)) (ne_eqb number n apart)
      ∙ sym (ap (λ (b : Bool). b || rest) (get_or-set_other seen number n true false (λ e. apart (sym e))))
]

pub seen_one : (count : ℕ) (ops : List OpKind) (k : ℕ) (op : OpKind) (e : ℕ × ItemData) (seen : List Bool) → k < length ops → op ≡ get_or ops k op → item_in op ≡ Some e → e.0 < count
    → AreSeen count ops k seen → AreSeen count ops (k + 1) (set seen e.0 true)
seen_one count ops k op e seen within is does below_count are = record {
  long = length-set seen e.0 true ∙ are.long;
  each = λ n below.
      are.each n below ∙ ap (λ list. get_or seen n false || has_number list n) (items_from ops k op (Some e) within is does)
      ∙ one_here seen e.0 n (has_number (items_in (drop (k + 1) ops)) n) (omega (arith, below_count, are.long));
}

pub seen_past : (count : ℕ) (ops : List OpKind) (k : ℕ) (op : OpKind) (e : ℕ × ItemData) (seen : List Bool) → k < length ops → op ≡ get_or ops k op → item_in op ≡ Some e → count ≤ e.0
    → AreSeen count ops k seen → AreSeen count ops (k + 1) seen
seen_past count ops k op e seen within is does past are = record {
  long = are.long;
  each = λ n below.
      are.each n below ∙ ap (λ list. get_or seen n false || has_number list n) (items_from ops k op (Some e) within is does)
      ∙ ap (λ (b : Bool). get_or seen n false || (b || has_number (items_in (drop (k + 1) ops)) n)) (ne_eqb e.0 n (λ same. omega (arith, past, below, same)));
}
