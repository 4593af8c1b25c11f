-- A legal item touches each of its bits.
use Rattle.std.proofs.Common.{◌≡◌, ℕ, ◌≤◌, Bool, true, ◌==◌, nat_lt, if◌then◌else◌, List, [], ◌∷◌, ◌++◌, map, refl, sym, ◌∙◌, ap, ap₂, subst, arith, Option, Some, None, inl, inr}
use Rattle.std.specs.List.{list_all}
use Rattle.std.proofs.lemmas.Bool.{and_parts, false≢true, lt-ltb, ltb-true, or_cases, or_left, or_right}
use Rattle.std.proofs.lemmas.Option.{none-some, same_Some}
use Rattle.qccd_base.specs.declared.names.Bit.{Bit}
use Rattle.qccd_base.specs.declared.names.TrapId.{TrapId}
use Rattle.qccd_base.specs.declared.names.Res.TheVariants as res
use Rattle.qccd_base.specs.Resource.{among, same_res}
use Rattle.qccd_base.proofs.Resources.{among-ascending}
use Rattle.qccd_circuit.specs.declared.kinds.Cond.{Cond}
use Rattle.qccd_circuit.specs.declared.kinds.ItemKind.{ItemKind}
use Rattle.qccd_circuit.specs.declared.kinds.ItemKind.TheVariants.{Barrier}
use Rattle.qccd_circuit.specs.Item.{ItemData, Fits, FitsKind, bits_of, cond_bits}
use Rattle.qccd_circuit.specs.Sharing.{has_bit}
use Rattle.qccd_machine.specs.Machine.{MachineData}
use Rattle.op_table.specs.declared.kinds.OpKind.{OpKind}
use Rattle.op_table.specs.declared.kinds.OpKind.TheVariants.{Split, Move, Enter, Leave, Merge, Rot, GSwap, Item, Fence}
use Rattle.op_table.specs.Op.{IsOp, KeepsItemRule}
use Rattle.op_table.specs.Run.{item_in}
use Rattle.op_table.specs.State.{State}
use Rattle.op_table.specs.Step.{has_bits, has_trap, needs, why}
use Rattle.op_table.specs.Touch.{most_bits, possible, touches}
use Rattle.op_table.proofs.Shared.{all_met}

-- bits below the number of a program's bits are all possible
all_possible : (n : ℕ) (bs : List Bit) → n ≤ most_bits → list_all (λ b. nat_lt b.0 n) bs ≡ true → possible bs ≡ bs
all_possible n [] few all = refl
all_possible n (b ∷ bs) few all =
    let both = and_parts (nat_lt b.0 n) (list_all (λ b. nat_lt b.0 n) bs) all in
    let below : nat_lt b.0 most_bits ≡ true = lt-ltb b.0 most_bits (omega (arith, few, ltb-true b.0 n both.0)) in
    ap (λ (c : Bool). if c then b ∷ possible bs else possible bs) below ∙ ap (λ (cs : List Bit). b ∷ cs) (all_possible n bs few both.1)

-- a legal item's bits are all possible, where there are no more bits than a program has
pub legal-bits : (m : MachineData) (s : State) (number : ℕ) (t : TrapId) (item : ItemData) (at : List ℕ) → s.bits ≤ most_bits → why m s (Item number t item at) ≡ None → possible (bits_of item) ≡ bits_of item
legal-bits m s number t item at few legal =
    let met = all_met (needs m s (Item number t item at)) legal in
    all_possible s.bits (bits_of item) few (and_parts (has_trap m t.0) (has_bits s item) met.0).1

bit_among : (bs : List Bit) (b : Bit) → has_bit bs b ≡ true → among (map res.Bit bs) (res.Bit b) ≡ true
bit_among [] b h = h
bit_among (c ∷ bs) b h = elim (or_cases (c.0 == b.0) (has_bit bs b) h) [
  | inl is ↦ or_left (same_res (res.Bit c) (res.Bit b)) (among (map res.Bit bs) (res.Bit b)) is
  | inr rest ↦ or_right (same_res (res.Bit c) (res.Bit b)) (among (map res.Bit bs) (res.Bit b)) (bit_among bs b rest)
]

barrier_bits : (item : ItemData) → item.kind ≡ Barrier → Fits item → bits_of item ≡ []
barrier_bits item is fits =
    let rule : FitsKind Barrier item = subst (λ (k : ItemKind). FitsKind k item) is fits.kind in
    ap₂ (λ (bs : List Bit) (c : Option Cond). bs ++ cond_bits c) rule.1 rule.4

-- what does an item touches each of its bits; a barrier has none
pub bit-touched : (m : MachineData) (s : State) (op : OpKind) (a : ℕ × ItemData) (b : Bit) → s.bits ≤ most_bits → why m s op ≡ None → IsOp op → KeepsItemRule op → item_in op ≡ Some a → has_bit (bits_of a.1) b ≡ true
    → among (touches op) (res.Bit b) ≡ true
bit-touched m s (Split t e g) a b few legal kept rule is has = absurd (none-some a is)
bit-touched m s (Move g) a b few legal kept rule is has = absurd (none-some a is)
bit-touched m s (Enter g j) a b few legal kept rule is has = absurd (none-some a is)
bit-touched m s (Leave j g) a b few legal kept rule is has = absurd (none-some a is)
bit-touched m s (Merge g t e) a b few legal kept rule is has = absurd (none-some a is)
bit-touched m s (Rot t p) a b few legal kept rule is has = absurd (none-some a is)
bit-touched m s (GSwap t low high) a b few legal kept rule is has = absurd (none-some a is)
bit-touched m s (Item number t item at) a b few legal kept rule is has =
    let own : has_bit (bits_of item) b ≡ true = ap (λ (e : ℕ × ItemData). has_bit (bits_of e.1) b) (same_Some (number, item) a is) ∙ has in
    among-ascending (res.Trap t ∷ map res.Bit (possible (bits_of item))) (res.Bit b)
    ∙ ap (λ (bs : List Bit). among (res.Trap t ∷ map res.Bit bs) (res.Bit b)) (legal-bits m s number t item at few legal)
    ∙ or_right (same_res (res.Trap t) (res.Bit b)) (among (map res.Bit (bits_of item)) (res.Bit b)) (bit_among (bits_of item) b own)
bit-touched m s (Fence number item traps) a b few legal kept rule is has =
    let own : has_bit (bits_of item) b ≡ true = ap (λ (e : ℕ × ItemData). has_bit (bits_of e.1) b) (same_Some (number, item) a is) ∙ has in
    absurd (false≢true (ap (λ (bs : List Bit). has_bit bs b) (sym (barrier_bits item kept.0 rule)) ∙ own))
