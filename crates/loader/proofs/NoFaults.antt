-- When operations have no fault: they are a run of the mode in which no item stands twice.
use Rattle.std.proofs.Common.{◌≡◌, ℕ, ◌+◌, ◌≤◌, Bool, true, false, cond, ◌||◌, ◌==◌, List, [], ◌∷◌, ◌++◌, refl, sym, ◌∙◌, ap, ap₂, subst, arith, Option, Some, None, option_map, inl, inr, append_assoc, if◌then◌else◌}
use Rattle.std.specs.Prelude.{IsTrue, count_by}
use Rattle.std.specs.List.{AllByRecursion, list_any, cons_option}
use Rattle.std.specs.Option.{option_or}
use Rattle.std.proofs.lemmas.Bool.{cases_Bool, eqb-true}
use Rattle.std.proofs.lemmas.Bool.Decides.{eqb_tells}
use Rattle.std.proofs.lemmas.List.Folds.{list_any-append}
use Rattle.std.proofs.lemmas.List.Elements.{filter_map-append}
use Rattle.qccd_base.specs.declared.names.Mode.{Mode}
use Rattle.qccd_circuit.specs.Item.{ItemData}
use Rattle.qccd_machine.specs.Machine.{MachineData}
use Rattle.op_table.specs.declared.kinds.OpKind.{OpKind}
use Rattle.op_table.specs.declared.kinds.Why.{Why}
use Rattle.op_table.specs.Run.{item_in, items_in, IsRun}
use Rattle.op_table.specs.State.{State}
use Rattle.op_table.specs.Step.{why, effect}
use Rattle.op_table.proofs.Counts.{count_by-cons}
use Rattle.qccd_program.specs.Mode.{is_of_mode}
use Rattle.loader.specs.declared.faults.LoadFault.TheVariants.{Illegal, ItemTwice, WrongMode}
use Rattle.loader.specs.Refusal.{does_item, does_again, mode_fault, fault_behind, first_fault}
use Rattle.loader.proofs.Firsts.{some_none, true_false, some_counted, count_parts}

abbrev pub Numbered : Type 0
Numbered = ℕ × ItemData

abbrev pub times : ℕ → List Numbered → ℕ
times n es = count_by (λ (e : Numbered). e.0 == n) es

-- ---- the items of operations in a row

pub items_parts : (a b : List OpKind) → items_in (a ++ b) ≡ items_in a ++ items_in b
items_parts a b = filter_map-append item_in a b

-- whether it is the number of this item
abbrev pub is_number : Option Numbered → ℕ → Bool
is_number None n = false
is_number (Some e) n = e.0 == n

or_false : (b : Bool) → (b || false) ≡ b
or_false true = refl
or_false false = refl

pub does_more : (earlier : List OpKind) (op : OpKind) (n : ℕ) → does_item (earlier ++ op ∷ []) n ≡ (does_item earlier n || is_number (item_in op) n)
does_more earlier op n =
    ap (list_any (λ (e : Numbered). e.0 == n)) (items_parts earlier (op ∷ [])) ∙ list_any-append (λ (e : Numbered). e.0 == n) (items_in earlier) (cons_option (item_in op) [])
    ∙ ap (λ b. does_item earlier n || b) (one (item_in op))
  where
    one : (o : Option Numbered) → list_any (λ (e : Numbered). e.0 == n) (cons_option o []) ≡ is_number o n
    one None = refl
    one (Some e) = or_false (e.0 == n)

-- ---- no fault

pub or_parts : {X : Type 0} (a b : Option X) → option_or a b ≡ None → (a ≡ None) × (b ≡ None)
or_parts None b e = (refl, e)
or_parts (Some x) b e = absurd (some_none e)

pub no_fault : (m : MachineData) (mode : Option Mode) (s : State) (earlier : List OpKind) (k : ℕ) (op : OpKind) → fault_behind m mode s earlier k op ≡ None
    → (does_again earlier (item_in op) ≡ false) × (why m s op ≡ None) × (is_of_mode mode op ≡ true)
no_fault m mode s earlier k op e = by_tests (does_again earlier (item_in op)) (why m s op) (is_of_mode mode op) e
  where
    by_tests : (b : Bool) (w : Option Why) (t : Bool) → (if b then Some (ItemTwice k) else option_or (option_map (Illegal k) w) (if t then None else Some (WrongMode k))) ≡ None → (b ≡ false) × (w ≡ None) × (t ≡ true)
    by_tests true w t e = absurd (some_none e)
    by_tests false None true e = (refl, refl, refl)
    by_tests false None false e = absurd (some_none e)
    by_tests false (Some x) t e = absurd (some_none e)

counted_more : (o : Option Numbered) (rest : List Numbered) (n : ℕ) (h : Bool) → times n rest ≤ (if h || is_number o n then 0 else 1) → (is_number o n ≡ true → h ≡ false) → times n (cons_option o rest) ≤ (if h then 0 else 1)
counted_more None rest n h few own = subst (λ (b : Bool). times n rest ≤ (if b then 0 else 1)) (or_false h) few
counted_more (Some e) rest n h few own = by_tests (e.0 == n) h few own (count_by-cons (λ (x : Numbered). x.0 == n) e rest)
  where
    by_tests : (b h : Bool) → times n rest ≤ (if h || b then 0 else 1) → (b ≡ true → h ≡ false) → times n (e ∷ rest) ≡ cond b 1 0 + times n rest → times n (e ∷ rest) ≤ (if h then 0 else 1)
    by_tests true true few own is = absurd (true_false (own refl))
    by_tests true false few own is = omega (arith, few, is)
    by_tests false true few own is = omega (arith, few, is)
    by_tests false false few own is = omega (arith, few, is)

pub nothing_wrong : (m : MachineData) (mode : Option Mode) (s : State) (earlier : List OpKind) (k : ℕ) (ops : List OpKind) → first_fault m mode s earlier k ops ≡ None
    → IsRun m s ops × ((n : ℕ) → times n (items_in ops) ≤ (if does_item earlier n then 0 else 1)) × AllByRecursion (λ op. IsTrue (is_of_mode mode op)) ops
nothing_wrong m mode s earlier k [] none = (tt, λ n. omega arith, tt)
nothing_wrong m mode s earlier k (op ∷ ops) none =
    let parts = or_parts (fault_behind m mode s earlier k op) (first_fault m mode (effect m s op) (earlier ++ op ∷ []) (k + 1) ops) none in
    let here = no_fault m mode s earlier k op parts.0 in
    let rest = nothing_wrong m mode (effect m s op) (earlier ++ op ∷ []) (k + 1) ops parts.1 in (
      (here.1, rest.0),
      λ n.
          counted_more (item_in op) (items_in ops) n (does_item earlier n) (subst (λ (b : Bool). times n (items_in ops) ≤ (if b then 0 else 1)) (does_more earlier op n) (rest.1 n)) (not_again (item_in op) n here.0),
      (here.2, rest.2),
    )
  where
    not_again : (o : Option Numbered) (n : ℕ) → does_again earlier o ≡ false → is_number o n ≡ true → does_item earlier n ≡ false
    not_again None n new is = absurd (true_false (sym is))
    not_again (Some e) n new is = subst (λ (j : ℕ). does_item earlier j ≡ false) (eqb-true e.0 n is) new

-- ---- and back

pub all_well : (m : MachineData) (mode : Option Mode) (s : State) (earlier : List OpKind) (k : ℕ) (ops : List OpKind) → IsRun m s ops → ((n : ℕ) → times n (items_in (earlier ++ ops)) ≤ 1)
    → AllByRecursion (λ op. IsTrue (is_of_mode mode op)) ops → first_fault m mode s earlier k ops ≡ None
all_well m mode s earlier k [] run few of_mode = refl
all_well m mode s earlier k (op ∷ ops) run few of_mode =
    let rest = all_well m mode (effect m s op) (earlier ++ op ∷ []) (k + 1) ops run.1 (λ n. subst (λ (xs : List OpKind). times n (items_in xs) ≤ 1) (sym (append_assoc earlier (op ∷ []) ops)) (few n)) of_mode.1 in
    ap (λ o. option_or o (first_fault m mode (effect m s op) (earlier ++ op ∷ []) (k + 1) ops)) (well_here (item_in op) refl) ∙ rest
  where
    total : (o : Option Numbered) → item_in op ≡ o → (n : ℕ) → times n (items_in (earlier ++ op ∷ ops)) ≡ times n (items_in earlier) + times n (cons_option o (items_in ops))
    total o is n = ap (times n) (items_parts earlier (op ∷ ops)) ∙ count_parts (λ (e : Numbered). e.0 == n) (items_in earlier) (items_in (op ∷ ops)) ∙ ap (λ (o : Option Numbered). times n (items_in earlier) + times n (cons_option o (items_in ops))) is

    own : (n : ℕ) → (n == n) ≡ true
    own n = elim (eqb_tells n n) [ inl is ↦ is.0 | inr other ↦ absurd (other.1 refl) ]

    not_again : (o : Option Numbered) → item_in op ≡ o → does_again earlier o ≡ false
    not_again None is = refl
    not_again (Some e) is = elim (cases_Bool (does_item earlier e.0)) [
      | inl again ↦
          let one : 1 ≤ times e.0 (items_in earlier) = some_counted (λ (x : Numbered). x.0 == e.0) (items_in earlier) again in
          let more : times e.0 (e ∷ items_in ops) ≡ 1 + times e.0 (items_in ops) = count_by-cons (λ (x : Numbered). x.0 == e.0) e (items_in ops) ∙ ap (λ (b : Bool). ◌+◌ (cond {A = ℕ} b 1 0) (times e.0 (items_in ops))) (own e.0) in
          absurd (omega (arith, one, more, total (Some e) is e.0, few e.0))
      | inr other ↦ other
    ]

    well_here : (o : Option Numbered) → item_in op ≡ o → fault_behind m mode s earlier k op ≡ None
    well_here o is =
        ap (λ b. if b then Some (ItemTwice k) else option_or (option_map (Illegal k) (why m s op)) (mode_fault mode k op)) (ap (does_again earlier) is ∙ not_again o is)
        ∙ ap₂ (λ (w : Option Why) (t : Bool). option_or (option_map (Illegal k) w) (if t then None else Some (WrongMode k))) run.0 of_mode.0
