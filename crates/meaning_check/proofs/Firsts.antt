-- The first operation that differs, the least item that is missing, the first item that overtakes: there is
-- one, or none, and only one.
use Rattle.std.proofs.Common.{◌≡◌, ℕ, zero, suc, ◌<◌, ◌≤◌, true, List, [], ◌∷◌, take, Option, Some, None, refl, sym, ◌∙◌, ap, subst, arith, ◌⊎◌, inl, inr}
use Rattle.std.specs.Prelude.{slice_get, IfSome}
use Rattle.std.specs.List.{AllByRecursion}
use Rattle.std.proofs.lemmas.Bool.{cases_Bool, cases_lt, cases_eq, false≢true}
use Rattle.std.proofs.lemmas.Option.{same_Some, none-some}
use Rattle.qccd_circuit.specs.Item.{ItemData}
use Rattle.qccd_circuit.specs.Sharing.{shares}
use Rattle.op_table.specs.declared.kinds.OpKind.{OpKind}
use Rattle.op_table.specs.Run.{item_in}
use Rattle.meaning_check.specs.Least.{no_number, least_of}
use Rattle.meaning_check.specs.Verdict.{IsOfCircuit, IsOther, IsFirstToDiffer, has_number, HasEach, IsLeastMissing, Overtakes, IsFirstToOvertake, NoneOvertakes}
use Rattle.meaning_check.proofs.Deciding.{same_found}
use Rattle.meaning_check.proofs.Overtakes.{Found, found_nothing, found_front, found_further}

-- ---- operations that differ

pub other_not : (items : List ItemData) (op : OpKind) (number : ℕ) → IsOther items op number → IsOfCircuit items op → ⊥
other_not items op number other is =
    other.differs (subst (λ (o : Option (ℕ × ItemData)). IfSome o (λ e. slice_get items e.0 ≡ Some e.1)) other.does is)

not_at : (items : List ItemData) (ops : List OpKind) (k : ℕ) (op : OpKind) → slice_get ops k ≡ Some op → (IsOfCircuit items op → ⊥) → AllByRecursion (IsOfCircuit items) ops → ⊥
not_at items [] k op there differs all = none-some op there
not_at items (o ∷ ops) zero op there differs all = differs (subst (IsOfCircuit items) (same_Some o op there) all.0)
not_at items (o ∷ ops) (suc k) op there differs all = not_at items ops k op there differs all.1

pub differs_not : (items : List ItemData) (ops : List OpKind) (op number : ℕ) → IsFirstToDiffer items ops op number → AllByRecursion (IsOfCircuit items) ops → ⊥
differs_not items ops op number first all =
    not_at items ops op first.kind first.there (other_not items first.kind number first.other) all

get_before : (ops : List OpKind) (n k : ℕ) → k < n → slice_get (take n ops) k ≡ slice_get ops k
get_before ops zero k less = absurd (omega (arith, less))
get_before [] (suc n) k less = refl
get_before (o ∷ ops) (suc n) zero less = refl
get_before (o ∷ ops) (suc n) (suc k) less = get_before ops n k (omega (arith, less))

not_before : (items : List ItemData) (ops : List OpKind) (i j m n : ℕ) → IsFirstToDiffer items ops i m → IsFirstToDiffer items ops j n → i < j → ⊥
not_before items ops i j m n first other less =
    not_at items (take j ops) i first.kind (get_before ops j i less ∙ first.there) (other_not items first.kind m first.other) other.before

same_operation : (items : List ItemData) (ops : List OpKind) (i j m n : ℕ) → IsFirstToDiffer items ops i m → IsFirstToDiffer items ops j n → i ≡ j
same_operation items ops i j m n first other = elim (cases_lt i j) [
  | inl less ↦ absurd (not_before items ops i j m n first other less)
  | inr past ↦ elim (cases_lt j i) [
    | inl less ↦ absurd (not_before items ops j i n m other first less)
    | inr back ↦ omega (arith, past, back)
  ]
]

pub one_differs : (items : List ItemData) (ops : List OpKind) (i j m n : ℕ) → IsFirstToDiffer items ops i m → IsFirstToDiffer items ops j n → (i ≡ j) × (m ≡ n)
one_differs items ops i j m n first other =
    let same : i ≡ j = same_operation items ops i j m n first other in
    let kinds : first.kind ≡ other.kind = same_Some first.kind other.kind (sym first.there ∙ ap (slice_get ops) same ∙ other.there) in
    let does : (m, first.other.item) ≡ (n, other.other.item) =
    same_Some (m, first.other.item) (n, other.other.item) (sym first.other.does ∙ ap item_in kinds ∙ other.other.does) in
    (same, ap (λ (e : ℕ × ItemData). e.0) does)

-- the first of these operations that differs, or all are the circuit's
abbrev pub Differing : List ItemData → List OpKind → Type 0
Differing items ops = ((x : ℕ × ℕ) × IsFirstToDiffer items ops x.0 x.1) ⊎ AllByRecursion (IsOfCircuit items) ops

decided_one : (items : List ItemData) (e : Option (ℕ × ItemData))
    → IfSome e (λ x. slice_get items x.0 ≡ Some x.1) ⊎ ((x : ℕ × ItemData) × (e ≡ Some x) × (slice_get items x.0 ≡ Some x.1 → ⊥))
decided_one items None = inl tt
decided_one items (Some x) = elim (same_found (slice_get items x.0) (Some x.1)) [ inl is ↦ inl is | inr apart ↦ inr (x, refl, apart) ]

pub differing : (items : List ItemData) (ops : List OpKind) → Differing items ops
differing items [] = inr tt
differing items (op ∷ ops) = elim (decided_one items (item_in op)) [
  | inr other ↦ inl ((0, other.0.0), record { kind = op; there = refl; other = record { item = other.0.1; does = other.1; differs = other.2 }; before = tt })
  | inl is ↦ elim (differing items ops) [
    | inr all ↦ inr (is, all)
    | inl later ↦ inl (
      (suc later.0.0, later.0.1),
      record {
        kind = later.1.kind;
        there = later.1.there;
        other = later.1.other;
        before = (is, later.1.before);
      },
    )
  ]
]

-- ---- items that are missing

pub missing_not : (count : ℕ) (list : List (ℕ × ItemData)) (n : ℕ) → IsLeastMissing count list n → HasEach count list → ⊥
missing_not count list n least each = false≢true (sym least.missing ∙ each n least.below)

pub one_missing : (count : ℕ) (list : List (ℕ × ItemData)) (m n : ℕ) → IsLeastMissing count list m → IsLeastMissing count list n → m ≡ n
one_missing count list m n least other = elim (cases_lt m n) [
  | inl less ↦ absurd (false≢true (sym least.missing ∙ other.lesser m less))
  | inr past ↦ elim (cases_lt n m) [
    | inl less ↦ absurd (false≢true (sym other.missing ∙ least.lesser n less))
    | inr back ↦ omega (arith, past, back)
  ]
]

each_more : (count : ℕ) (list : List (ℕ × ItemData)) → HasEach count list → has_number list count ≡ true → HasEach (suc count) list
each_more count list each here = λ n below. elim (cases_eq n count) [
  | inl same ↦ ap (has_number list) same ∙ here
  | inr apart ↦ each n (omega (arith, below, apart))
]

pub missing : (count : ℕ) (list : List (ℕ × ItemData)) → ((n : ℕ) × IsLeastMissing count list n) ⊎ HasEach count list
missing zero list = inr (λ n below. absurd (omega (arith, below)))
missing (suc count) list = elim (missing count list) [
  | inl least ↦ inl (least.0, record { below = omega (arith, least.1.below); missing = least.1.missing; lesser = least.1.lesser })
  | inr each ↦ elim (cases_Bool (has_number list count)) [
    | inl here ↦ inr (each_more count list each here)
    | inr not_here ↦ inl (count, record { below = omega arith; missing = not_here; lesser = each })
  ]
]

-- ---- items that overtake

pub overtakes_not : (list : List (ℕ × ItemData)) (i j : ℕ) → IsFirstToOvertake list i j → NoneOvertakes list → ⊥
overtakes_not list i j first none = none first.place i j first.overtakes

same_place : (list : List (ℕ × ItemData)) (i j m n : ℕ) (first : IsFirstToOvertake list i j) (other : IsFirstToOvertake list m n) → first.place ≡ other.place
same_place list i j m n first other = elim (cases_lt first.place other.place) [
  | inl less ↦ absurd (other.before first.place i j less first.overtakes)
  | inr past ↦ elim (cases_lt other.place first.place) [
    | inl less ↦ absurd (first.before other.place m n less other.overtakes)
    | inr back ↦ omega (arith, past, back)
  ]
]

pub one_overtakes : (list : List (ℕ × ItemData)) (i j m n : ℕ) → IsFirstToOvertake list i j → IsFirstToOvertake list m n → (i ≡ m) × (j ≡ n)
one_overtakes list i j m n first other =
    let place : first.place ≡ other.place = same_place list i j m n first other in
    let entry : (j, first.overtakes.b) ≡ (n, other.overtakes.b) =
    same_Some (j, first.overtakes.b) (n, other.overtakes.b) (sym first.overtakes.second_at ∙ ap (slice_get list) place ∙ other.overtakes.second_at) in
    let second : j ≡ n = ap (λ (e : ℕ × ItemData). e.0) entry in
    let here : Overtakes list first.place m j = subst (λ (k : ℕ). Overtakes list k m j) (sym place) (subst (Overtakes list other.place m) (sym second) other.overtakes) in
    let there : Overtakes list other.place i n = subst (λ (k : ℕ). Overtakes list k i n) place (subst (Overtakes list first.place i) second first.overtakes) in
    let low : i ≤ m = first.least m here in
    let high : m ≤ i = other.least i there in
    let one : i ≡ m = omega (arith, low, high) in
    (one, second)

-- each number is one that a 32-bit number can be
abbrev pub AreNumbers : List (ℕ × ItemData) → Type 0
AreNumbers list = AllByRecursion (λ e. e.0 ≤ no_number) list

pub overtaking : (list : List (ℕ × ItemData)) → AreNumbers list → (found : Option (ℕ × ℕ)) × Found list found
overtaking [] numbers = (None, found_nothing)
overtaking (e ∷ list) numbers = elim (cases_lt (least_of (λ d. shares d e.1) list) e.0) [
  | inl less ↦ (Some (least_of (λ d. shares d e.1) list, e.0), found_front e list less numbers.0)
  | inr high ↦ let rest = overtaking list numbers.1 in (rest.0, found_further e list rest.0 high rest.1)
]
