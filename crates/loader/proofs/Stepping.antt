-- One operation: what is told of it, and what is noted.
use Rattle.std.proofs.Common.{◌≡◌, ℕ, Bool, true, false, cond, ◌||◌, ◌==◌, List, [], ◌∷◌, ◌++◌, refl, sym, ◌∙◌, ap, ap₂, subst, Option, Some, None, option_map, if◌then◌else◌}
use Rattle.std.specs.List.{list_any}
use Rattle.std.specs.Option.{option_or}
use Rattle.qccd_base.specs.declared.names.Mode.{Mode}
use Rattle.qccd_program.specs.Mode.{is_of_mode}
use Rattle.std.specs.BTreeMap.{is_at}
use Rattle.std.specs.BTreeSet.{BTreeSet, contains, keys, Updates}
use Rattle.std.proofs.lemmas.Option.{same_Some}
use Rattle.std.specs.Ordering.{nat_cmp}
use Rattle.qccd_machine.specs.Machine.{MachineData}
use Rattle.op_table.specs.declared.kinds.OpKind.{OpKind}
use Rattle.op_table.specs.declared.kinds.Why.{Why}
use Rattle.op_table.specs.Run.{item_in}
use Rattle.op_table.specs.State.{State}
use Rattle.op_table.specs.Step.{why}
use Rattle.loader.specs.declared.faults.LoadFault.{LoadFault}
use Rattle.loader.specs.declared.faults.LoadFault.TheVariants.{Illegal, ItemTwice, WrongMode}
use Rattle.loader.specs.Refusal.{does_item, does_again, fault_behind}
use Rattle.transport_asm.proofs.Marked.{same_key}
use Rattle.loader.specs.Marked.{AreDone}
use Rattle.loader.proofs.Firsts.{some_none}
use Rattle.loader.proofs.NoFaults.{Numbered, is_number, does_more}

abbrev told_of : ℕ → Bool → Option Why → Bool → Option LoadFault
told_of k again w of_mode = if again then Some (ItemTwice k) else option_or (option_map (Illegal k) w) (if of_mode then None else Some (WrongMode k))

pub told_again : (m : MachineData) (mode : Option Mode) (s : State) (earlier : List OpKind) (k : ℕ) (op : OpKind) → does_again earlier (item_in op) ≡ true → fault_behind m mode s earlier k op ≡ Some (ItemTwice k)
told_again m mode s earlier k op again = ap (λ (b : Bool). told_of k b (why m s op) (is_of_mode mode op)) again

pub told_illegal : (m : MachineData) (mode : Option Mode) (s : State) (earlier : List OpKind) (k : ℕ) (op : OpKind) (w : Why) → does_again earlier (item_in op) ≡ false → why m s op ≡ Some w → fault_behind m mode s earlier k op ≡ Some (Illegal k w)
told_illegal m mode s earlier k op w new is = ap₂ (λ (b : Bool) (x : Option Why). told_of k b x (is_of_mode mode op)) new is

pub told_none : (m : MachineData) (mode : Option Mode) (s : State) (earlier : List OpKind) (k : ℕ) (op : OpKind) → does_again earlier (item_in op) ≡ false → why m s op ≡ None → is_of_mode mode op ≡ true → fault_behind m mode s earlier k op ≡ None
told_none m mode s earlier k op new legal of = ap₂ (λ (b : Bool) (x : Option Why). told_of k b x (is_of_mode mode op)) new legal ∙ ap (told_of k false None) of

pub told_wrong : (m : MachineData) (mode : Option Mode) (s : State) (earlier : List OpKind) (k : ℕ) (op : OpKind) → does_again earlier (item_in op) ≡ false → why m s op ≡ None → is_of_mode mode op ≡ false
    → fault_behind m mode s earlier k op ≡ Some (WrongMode k)
told_wrong m mode s earlier k op new legal other = ap₂ (λ (b : Bool) (x : Option Why). told_of k b x (is_of_mode mode op)) new legal ∙ ap (told_of k false None) other

-- ---- the items that were done

or_false : (b : Bool) → (b || false) ≡ b
or_false true = refl
or_false false = refl

pub done_same : (earlier : List OpKind) (op : OpKind) (done : BTreeSet ℕ) → item_in op ≡ None → AreDone earlier done → AreDone (earlier ++ op ∷ []) done
done_same earlier op done none are n = are n ∙ sym (does_more earlier op n ∙ ap (λ (o : Option Numbered). does_item earlier n || is_number o n) none ∙ or_false (does_item earlier n))

pub done_more : (earlier : List OpKind) (op : OpKind) (e : Numbered) (old new : BTreeSet ℕ) → item_in op ≡ Some e → AreDone earlier old → Updates nat_cmp old new e.0 true → AreDone (earlier ++ op ∷ []) new
done_more earlier op e old new is are updates n =
    updates.0 n ∙ ap₂ (λ (t b : Bool). cond t true b) (same_key e.0 n) (are n) ∙ by_test (e.0 == n) (does_item earlier n)
    ∙ sym (does_more earlier op n ∙ ap (λ (o : Option Numbered). does_item earlier n || is_number o n) is)
  where
    by_test : (t b : Bool) → cond t true b ≡ (b || t)
    by_test true true = refl
    by_test true false = refl
    by_test false true = refl
    by_test false false = refl

pub again_is : (earlier : List OpKind) (e : Numbered) (o : Option Numbered) (done : BTreeSet ℕ) → o ≡ Some e → AreDone earlier done → contains nat_cmp done e.0 ≡ does_again earlier o
again_is earlier e o done is are = are e.0 ∙ sym (ap (does_again earlier) is)

-- ---- by the number that the code reads

item_none : (o : Option Numbered) → option_map {U = ℕ} (λ e. e.0) o ≡ None → o ≡ None
item_none None e = refl
item_none (Some x) e = absurd (some_none e)

pub done_not : (earlier : List OpKind) (op : OpKind) (done : BTreeSet ℕ) → option_map {U = ℕ} (λ e. e.0) (item_in op) ≡ None → AreDone earlier done → AreDone (earlier ++ op ∷ []) done
done_not earlier op done none are = done_same earlier op done (item_none (item_in op) none) are

pub done_number : (earlier : List OpKind) (op : OpKind) (number : ℕ) (old new : BTreeSet ℕ) → option_map {U = ℕ} (λ e. e.0) (item_in op) ≡ Some number → AreDone earlier old → Updates nat_cmp old new number true → AreDone (earlier ++ op ∷ []) new
done_number earlier op number old new is are updates = by_item (item_in op) refl is
  where
    by_item : (o : Option Numbered) → item_in op ≡ o → option_map {U = ℕ} (λ e. e.0) o ≡ Some number → AreDone (earlier ++ op ∷ []) new
    by_item None own e = absurd (some_none (sym e))
    by_item (Some x) own e = done_more earlier op x old new own are (subst (λ (n : ℕ). Updates nat_cmp old new n true) (sym (same_Some x.0 number e)) updates)

pub none_done : (done : BTreeSet ℕ) → keys done ≡ [] → AreDone [] done
none_done done empty n = ap (list_any (is_at (nat_cmp n))) empty
