-- Operations that do no item and are as operations should be.
use Rattle.std.proofs.Common.{◌≡◌, ℕ, zero, suc, ◌+◌, ◌-◌, ◌<◌, eqb, List, [], ◌∷◌, ◌++◌, map, length, refl, ◌∙◌, ap, arith, Option, Some, None, inl, inr}
use Rattle.std.specs.Prelude.{filter_map}
use Rattle.std.specs.List.{AllByRecursion, cons_option}
use Rattle.std.proofs.lemmas.Bool.{cases_Bool}
use Rattle.std.proofs.lemmas.Bool.Decides.{nat_tests}
use Rattle.qccd_base.specs.Names.{trap, segment}
use Rattle.qccd_base.specs.declared.names.Res.{Res}
use Rattle.qccd_base.specs.declared.names.End.{End}
use Rattle.qccd_base.specs.declared.names.End.TheVariants.{Left, Right}
use Rattle.qccd_base.specs.declared.names.Mode.{Mode}
use Rattle.qccd_base.specs.declared.names.Mode.TheVariants.{IonSwap, GateSwap}
use Rattle.qccd_circuit.specs.Item.{ItemData}
use Rattle.qccd_machine.specs.declared.place.Place.{Place}
use Rattle.qccd_machine.specs.declared.place.Place.TheVariants.{TrapEnd, Junction}
use Rattle.qccd_machine.specs.Machine.{MachineData, site}
use Rattle.op_table.specs.declared.kinds.OpKind.{OpKind}
use Rattle.op_table.specs.declared.kinds.OpKind.TheVariants.{Split, Move, Enter, Leave, Merge, Rot, GSwap, Item, Fence}
use Rattle.op_table.specs.Op.{IsOp}
use Rattle.op_table.specs.State.{State}
use Rattle.op_table.specs.Step.{effect}
use Rattle.op_table.specs.Run.{after, item_in, items_in}
use Rattle.router.specs.Paths.{way_along}
use Rattle.chain_reorder.specs.Reorder.{to_end, rots_down, rots_up}
use Rattle.rebalancer.specs.Hop.{along, along_way, leave_by, arrive_by}
use Rattle.router.specs.Wiring.{wiring_of}

pub record Plain (ops : List OpKind) : Type 0 where
  pub kept : AllByRecursion IsOp ops
  pub no_items : items_in ops ≡ []

pub nothing_plain : Plain []
nothing_plain = record { kept = tt; no_items = refl }

pub all_append : (a b : List OpKind) → AllByRecursion IsOp a → AllByRecursion IsOp b → AllByRecursion IsOp (a ++ b)
all_append [] b first second = second
all_append (op ∷ a) b first second = (first.0, all_append a b first.1 second)

pub items_append : (a b : List OpKind) → items_in (a ++ b) ≡ items_in a ++ items_in b
items_append [] b = refl
items_append (op ∷ a) b = cons (item_in op) (items_append a b)
  where
    cons : (o : Option (ℕ × ItemData)) → filter_map item_in (a ++ b) ≡ filter_map item_in a ++ filter_map item_in b → cons_option o (filter_map item_in (a ++ b)) ≡ cons_option o (filter_map item_in a) ++ filter_map item_in b
    cons None same = same
    cons (Some e) same = ap (λ rest. e ∷ rest) same

pub plain_append : (a b : List OpKind) → Plain a → Plain b → Plain (a ++ b)
plain_append a b first second = record {
  kept = all_append a b first.kept second.kept;
  no_items = items_append a b ∙ ap (λ xs. xs ++ items_in b) first.no_items ∙ second.no_items;
}

pub one_plain : (op : OpKind) (ops : List OpKind) → IsOp op → item_in op ≡ None → Plain ops → Plain (op ∷ ops)
one_plain op ops kept none rest = record { kept = (kept, rest.kept); no_items = ap (λ o. cons_option o (items_in ops)) none ∙ rest.no_items }

pub along_is_plain : (m : MachineData) (path : List ℕ) (from : Res) → Plain (along m path from)
along_is_plain m [] from = nothing_plain
along_is_plain m (g ∷ path) from = by_way (way_along (wiring_of m) from g) (λ next. along_is_plain m path next)
  where
    leaves : (p : Place) (ops : List OpKind) → Plain ops → Plain (leave_by g p ∷ ops)
    leaves (TrapEnd t e) ops rest = one_plain (Split t e (segment g)) ops tt refl rest
    leaves (Junction j) ops rest = one_plain (Leave j (segment g)) ops tt refl rest

    arrives : (p : Place) (ops : List OpKind) → Plain ops → Plain (arrive_by g p ∷ ops)
    arrives (TrapEnd t e) ops rest = one_plain (Merge (segment g) t e) ops tt refl rest
    arrives (Junction j) ops rest = one_plain (Enter (segment g) j) ops tt refl rest

    by_way : (way : Option (Place × Place)) → ((next : Res) → Plain (along m path next)) → Plain (along_way g way (along m path))
    by_way None more = nothing_plain
    by_way (Some ends) more = leaves ends.0 (Move (segment g) ∷ arrive_by g ends.1 ∷ along m path (site ends.1))
        (one_plain (Move (segment g)) (arrive_by g ends.1 ∷ along m path (site ends.1)) tt refl (arrives ends.1 (along m path (site ends.1)) (more (site ends.1))))

pub to_end_plain : (t n p : ℕ) (end : End) (mode : Mode) → p < n → Plain (to_end t n p end mode)
to_end_plain t n p Left IonSwap within = down t p
  where
    down : (t p : ℕ) → Plain (rots_down t p)
    down t zero = nothing_plain
    down t (suc p) = one_plain (Rot (trap t) p) (rots_down t p) tt refl (down t p)
to_end_plain t n p Right IonSwap within = up t p (n - 1 - p)
  where
    up : (t p k : ℕ) → Plain (rots_up t p k)
    up t p zero = nothing_plain
    up t p (suc k) = one_plain (Rot (trap t) p) (rots_up t (p + 1) k) tt refl (up t (p + 1) k)
to_end_plain t n p Left GateSwap within = elim (cases_Bool (eqb p 0)) [
  | inl own ↦ rw own nothing_plain
  | inr other ↦ let less : 0 < p = grind (nat_tests, arith) in rw other (one_plain (GSwap (trap t) 0 p) [] less refl nothing_plain)
]
to_end_plain t n p Right GateSwap within = elim (cases_Bool (eqb (p + 1) n)) [
  | inl own ↦ rw own nothing_plain
  | inr other ↦ let less : p < n - 1 = grind (nat_tests, arith) in rw other (one_plain (GSwap (trap t) p (n - 1)) [] less refl nothing_plain)
]

-- ---- what no operation changes

length_map : {X Y : Type 0} (f : X → Y) (xs : List X) → length (map f xs) ≡ length xs
length_map f [] = refl
length_map f (x ∷ xs) = ap suc (length_map f xs)

op_long : (m : MachineData) (s : State) (op : OpKind) → length (effect m s op).ions ≡ length s.ions
op_long m s (Split t e g) = length_map _ s.ions
op_long m s (Move g) = length_map _ s.ions
op_long m s (Enter g j) = length_map _ s.ions
op_long m s (Leave j g) = length_map _ s.ions
op_long m s (Merge g t e) = length_map _ s.ions
op_long m s (Rot t p) = length_map _ s.ions
op_long m s (GSwap t low high) = length_map _ s.ions
op_long m s (Item number t item at) = refl
op_long m s (Fence number item traps) = refl

pub ops_long : (m : MachineData) (s : State) (ops : List OpKind) → length (after m s ops).ions ≡ length s.ions
ops_long m s [] = refl
ops_long m s (op ∷ ops) = ops_long m (effect m s op) ops ∙ op_long m s op

op_bits : (m : MachineData) (s : State) (op : OpKind) → (effect m s op).bits ≡ s.bits
op_bits m s (Split t e g) = refl
op_bits m s (Move g) = refl
op_bits m s (Enter g j) = refl
op_bits m s (Leave j g) = refl
op_bits m s (Merge g t e) = refl
op_bits m s (Rot t p) = refl
op_bits m s (GSwap t low high) = refl
op_bits m s (Item number t item at) = refl
op_bits m s (Fence number item traps) = refl

pub ops_bits : (m : MachineData) (s : State) (ops : List OpKind) → (after m s ops).bits ≡ s.bits
ops_bits m s [] = refl
ops_bits m s (op ∷ ops) = ops_bits m (effect m s op) ops ∙ op_bits m s op
