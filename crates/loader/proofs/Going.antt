-- Operations, gone through one after another.
use Rattle.std.proofs.Common.{◌≡◌, ℕ, suc, ◌+◌, ◌<◌, List, [], ◌∷◌, ◌++◌, length, take, drop, get_or, sym, ◌∙◌, ap, ap₂, subst, arith, Option, None, drop-cons}
use Rattle.std.specs.List.{AllByRecursion}
use Rattle.std.specs.Option.{option_or}
use Rattle.std.proofs.Math.Seq.{take-suc}
use Rattle.qccd_base.specs.declared.names.Mode.{Mode}
use Rattle.qccd_machine.specs.Machine.{MachineData}
use Rattle.op_table.specs.declared.kinds.OpKind.{OpKind}
use Rattle.op_table.specs.Run.{after}
use Rattle.op_table.specs.State.{State}
use Rattle.op_table.specs.Step.{effect}
use Rattle.op_plan.proofs.Runs.{after_append}
use Rattle.loader.specs.declared.faults.LoadFault.{LoadFault}
use Rattle.loader.specs.declared.faults.LoadFault.TheVariants.{TrapCount, BadStart, StartOverfull, Illegal, ItemTwice, WrongMode, NoMemory}
use Rattle.loader.specs.Refusal.{fault_behind, first_fault, IsTold}

pub front_is : {X : Type 0} (xs : List X) (k : ℕ) (x : X) → k < length xs → x ≡ get_or xs k x → take (k + 1) xs ≡ take k xs ++ x ∷ []
front_is xs k x within is =
    let n : k + 1 ≡ suc k = omega arith in
    ap (λ (j : ℕ). take j xs) n ∙ take-suc xs k x within ∙ ap (λ y. take k xs ++ y ∷ []) (sym is)

pub back_is : {X : Type 0} (xs : List X) (k : ℕ) (x : X) → k < length xs → x ≡ get_or xs k x → drop k xs ≡ x ∷ drop (k + 1) xs
back_is xs k x within is =
    let n : k + 1 ≡ suc k = omega arith in
    drop-cons xs k x within ∙ ap₂ (λ y (j : ℕ). y ∷ drop j xs) (sym is) (sym n)

pub state_next : (m : MachineData) (s : State) (ops : List OpKind) (k : ℕ) (op : OpKind) → k < length ops → op ≡ get_or ops k op → after m s (take (k + 1) ops) ≡ effect m (after m s (take k ops)) op
state_next m s ops k op within is = ap (after m s) (front_is ops k op within is) ∙ after_append m s (take k ops) (op ∷ [])

abbrev pub fault_from : MachineData → Option Mode → State → List OpKind → ℕ → Option LoadFault
fault_from m mode s ops k = first_fault m mode (after m s (take k ops)) (take k ops) k (drop k ops)

pub fault_cut : (m : MachineData) (mode : Option Mode) (s : State) (ops : List OpKind) (k : ℕ) (op : OpKind) → k < length ops → op ≡ get_or ops k op
    → fault_from m mode s ops k ≡ option_or (fault_behind m mode (after m s (take k ops)) (take k ops) k op) (fault_from m mode s ops (k + 1))
fault_cut m mode s ops k op within is =
    ap (first_fault m mode (after m s (take k ops)) (take k ops) k) (back_is ops k op within is)
    ∙ ap (option_or (fault_behind m mode (after m s (take k ops)) (take k ops) k op))
    (ap₂ (λ (t : State) (front : List OpKind). first_fault m mode t front (k + 1) (drop (k + 1) ops)) (sym (state_next m s ops k op within is)) (sym (front_is ops k op within is)))

pub fault_next : (m : MachineData) (mode : Option Mode) (s : State) (ops : List OpKind) (k : ℕ) (op : OpKind) → k < length ops → op ≡ get_or ops k op → fault_behind m mode (after m s (take k ops)) (take k ops) k op ≡ None
    → fault_from m mode s ops k ≡ fault_from m mode s ops (k + 1)
fault_next m mode s ops k op within is none = fault_cut m mode s ops k op within is ∙ ap (λ o. option_or o (fault_from m mode s ops (k + 1))) none

-- what is told of one operation is told of all
pub told_or : (fault : LoadFault) (a rest : Option LoadFault) → IsTold fault a → IsTold fault (option_or a rest)
told_or (TrapCount given traps) a rest told = ap (λ o. option_or o rest) told
told_or (BadStart i) a rest told = ap (λ o. option_or o rest) told
told_or (StartOverfull t) a rest told = ap (λ o. option_or o rest) told
told_or (Illegal op cause) a rest told = ap (λ o. option_or o rest) told
told_or (ItemTwice op) a rest told = ap (λ o. option_or o rest) told
told_or (WrongMode op) a rest told = ap (λ o. option_or o rest) told
told_or NoMemory a rest told = tt

pub told_here : (m : MachineData) (mode : Option Mode) (s : State) (ops : List OpKind) (k : ℕ) (op : OpKind) (fault : LoadFault) (total : Option LoadFault) → k < length ops → op ≡ get_or ops k op
    → IsTold fault (fault_behind m mode (after m s (take k ops)) (take k ops) k op) → fault_from m mode s ops k ≡ total → IsTold fault total
told_here m mode s ops k op fault total within is told so_far =
    subst (IsTold fault) (sym (fault_cut m mode s ops k op within is) ∙ so_far) (told_or fault (fault_behind m mode (after m s (take k ops)) (take k ops) k op) (fault_from m mode s ops (k + 1)) told)

-- a rule of each operation in front, and of one more
pub all_next : {X : Type 0} (P : X → Type 0) (xs : List X) (k : ℕ) (x : X) → k < length xs → x ≡ get_or xs k x → AllByRecursion P (take k xs) → P x → AllByRecursion P (take (k + 1) xs)
all_next P xs k x within is all own = subst (AllByRecursion P) (sym (front_is xs k x within is)) (all_more (take k xs) all)
  where
    all_more : (ys : List _) → AllByRecursion P ys → AllByRecursion P (ys ++ x ∷ [])
    all_more [] all = (own, tt)
    all_more (y ∷ ys) all = (all.0, all_more ys all.1)
