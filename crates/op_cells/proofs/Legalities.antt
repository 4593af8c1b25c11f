-- What the cells tell of an operation is what the state tells of it.
use Rattle.std.proofs.Common.{◌≡◌, ◌≢◌, ℕ, zero, suc, ◌+◌, ◌-◌, Bool, true, false, ◌&&◌, ◌||◌, nat_lt, nat_le, inl, inr, List, [], ◌∷◌, map, drop, length, refl, sym, ◌∙◌, ap, ap₂, arith, Option, Some}
use Rattle.std.specs.List.{AllByRecursion, list_all, list_any}
use Rattle.std.proofs.lemmas.Bool.{cases_Bool}
use Rattle.std.proofs.lemmas.Bool.Decides.{nat_tests}
use Rattle.qccd_base.specs.declared.names.Bit.{Bit}
use Rattle.qccd_base.specs.declared.names.Qubit.{Qubit}
use Rattle.qccd_base.specs.declared.names.TrapId.{TrapId}
use Rattle.qccd_base.specs.declared.names.Res.{Res}
use Rattle.qccd_base.specs.declared.names.Res.TheVariants as res
use Rattle.qccd_base.specs.FirstFailing.{first_failing}
use Rattle.qccd_circuit.specs.Item.{ItemData, bits_from}
use Rattle.qccd_machine.specs.Machine.{MachineData}
use Rattle.op_table.specs.declared.kinds.OpKind.{OpKind}
use Rattle.op_table.specs.declared.kinds.OpKind.TheVariants.{Split, Move, Enter, Leave, Merge, Rot, GSwap, Item, Fence}
use Rattle.op_table.specs.declared.kinds.Why.{Why}
use Rattle.op_table.specs.declared.kinds.Why.TheVariants.{NoPlace, Position, WrongQubit, WrongTraps}
use Rattle.op_table.specs.declared.contents.Content.{Content}
use Rattle.op_table.specs.declared.contents.Entry.{Entry}
use Rattle.op_table.specs.Act.{chain_carries, chain_holds, chain_in, needs_on, why_on}
use Rattle.op_table.specs.Contents.{content}
use Rattle.op_table.specs.Op.{IsOp}
use Rattle.op_table.specs.State.{State, IsSafe}
use Rattle.op_table.specs.Step.{why}
use Rattle.op_table.specs.Touch.{touches}
use Rattle.op_table.proofs.Every.{why-on}
use Rattle.op_table.proofs.Needs.{touches-item}
use Rattle.op_cells.specs.declared.cells.Cell.{Cell}
use Rattle.op_cells.specs.Numbering.{IsThere}
use Rattle.op_cells.specs.Placed.{bits_start, needs_there, names_parts_there}
use Rattle.op_cells.specs.Places.{content_at, content_or}
use Rattle.op_cells.specs.Shows.{Shows}
use Rattle.op_cells.proofs.InTurn.{placed-there}

-- a range of bits is below a number where its end is not above it
pub range_below : (first n m : ℕ) → n ≢ 0 → nat_le (first + n) m ≡ list_all (λ (b : Bit). nat_lt b.0 m) (bits_from first n)
range_below first zero m some = absurd (some refl)
range_below first (suc zero) m some = grind (arith, nat_tests)
range_below first (suc (suc n)) m some = let rest = range_below (first + 1) (suc n) m (λ e. omega (arith, e)) in next (nat_le (first + 1 + suc n) m) (nat_lt first m) (grind (arith, nat_tests)) rest
  where
    next : (b c : Bool) → nat_le (first + suc (suc n)) m ≡ (c && b) → b ≡ list_all (λ (b : Bit). nat_lt b.0 m) (bits_from (first + 1) (suc n)) → nat_le (first + suc (suc n)) m ≡ (c && list_all (λ (b : Bit). nat_lt b.0 m) (bits_from (first + 1) (suc n)))
    next b c step rest = step ∙ ap (λ (d : Bool). c && d) rest

-- an item looks at the first of its resources, which is its trap
pub item-there : (m : MachineData) (op : OpKind) (cells : List Cell) (number : ℕ) (t : TrapId) (item : ItemData) (at : List ℕ) → op ≡ Item number t item at
    → first_failing ((Position, list_all (λ k. nat_lt k (length (chain_in (content_at m cells (res.Trap t))))) at) ∷ (WrongQubit, chain_carries (chain_in (content_at m cells (res.Trap t))) at item.qubits) ∷ [])
    ≡ first_failing (needs_there m op (map (content_at m cells) (touches op)))
item-there m op cells number t item at is =
    ap (λ (rs : List Res). first_failing (needs_there m (Item number t item at) (map (content_at m cells) rs))) (sym (touches-item number t item at))
    ∙ ap (λ (o : OpKind). first_failing (needs_there m o (map (content_at m cells) (touches o)))) (sym is)

any_map : {X Y : Type 0} (p : Y → Bool) (f : X → Y) (xs : List X) → list_any p (map f xs) ≡ list_any (λ x. p (f x)) xs
any_map p f [] = refl
any_map p f (x ∷ xs) = ap (λ (b : Bool). p (f x) || b) (any_map p f xs)

all_map : {X Y : Type 0} (p : Y → Bool) (f : X → Y) (xs : List X) → list_all p (map f xs) ≡ list_all (λ x. p (f x)) xs
all_map p f [] = refl
all_map p f (x ∷ xs) = ap (λ (b : Bool). p (f x) && b) (all_map p f xs)

all_alike : {X : Type 0} (p q : X → Bool) (xs : List X) → ((x : X) → p x ≡ q x) → list_all p xs ≡ list_all q xs
all_alike p q [] same = refl
all_alike p q (x ∷ xs) same = ap₂ (λ (a b : Bool). a && b) (same x) (all_alike p q xs same)

pub fence-there : (m : MachineData) (op : OpKind) (cells : List Cell) (number : ℕ) (item : ItemData) (traps : List TrapId) → op ≡ Fence number item traps
    → first_failing ((WrongTraps, list_all (λ (q : Qubit). list_any (λ (r : Res). chain_holds (content_at m cells r) q) (touches op)) item.qubits && list_all (λ (r : Res). list_any (chain_holds (content_at m cells r)) item.qubits) (touches op)) ∷ [])
    ≡ first_failing (needs_there m op (map (content_at m cells) (touches op)))
fence-there m op cells number item traps is =
    ap₂ (λ (a b : Bool). first_failing ((WrongTraps, a && b) ∷ []))
    (all_alike (λ (q : Qubit). list_any (λ (r : Res). chain_holds (content_at m cells r) q) (touches op)) (λ (q : Qubit). list_any (λ x. chain_holds x q) (map (content_at m cells) (touches op))) item.qubits (λ q. sym (any_map (λ x. chain_holds x q) (content_at m cells) (touches op))))
    (sym (all_map (λ x. list_any (chain_holds x) item.qubits) (content_at m cells) (touches op)))
    ∙ ap (λ (o : OpKind). first_failing (needs_there m o (map (content_at m cells) (touches op)))) (sym is)

-- a part that is not there is told first, whatever the contents
fails : (b : Bool) (rest : List (Why × Bool)) → b ≡ false → first_failing ((NoPlace, b) ∷ rest) ≡ Some NoPlace
fails true rest h = cc
fails false rest h = refl

unplaced : (m : MachineData) (n : ℕ) (op : OpKind) (cs : List Content) → names_parts_there m n op ≡ false → why_on m n op cs ≡ Some NoPlace
unplaced m n (Split t e g) cs h = fails (names_parts_there m n (Split t e g)) (drop 1 (needs_on m n (Split t e g) cs)) h
unplaced m n (Move g) cs h = fails (names_parts_there m n (Move g)) (drop 1 (needs_on m n (Move g) cs)) h
unplaced m n (Enter g j) cs h = fails (names_parts_there m n (Enter g j)) (drop 1 (needs_on m n (Enter g j) cs)) h
unplaced m n (Leave j g) cs h = fails (names_parts_there m n (Leave j g)) (drop 1 (needs_on m n (Leave j g) cs)) h
unplaced m n (Merge g t e) cs h = fails (names_parts_there m n (Merge g t e)) (drop 1 (needs_on m n (Merge g t e) cs)) h
unplaced m n (Rot t p) cs h = fails (names_parts_there m n (Rot t p)) (drop 1 (needs_on m n (Rot t p) cs)) h
unplaced m n (GSwap t low high) cs h = fails (names_parts_there m n (GSwap t low high)) (drop 1 (needs_on m n (GSwap t low high) cs)) h
unplaced m n (Item number t item at) cs h = fails (names_parts_there m n (Item number t item at)) (drop 1 (needs_on m n (Item number t item at) cs)) h
unplaced m n (Fence number item traps) cs h = fails (names_parts_there m n (Fence number item traps)) (drop 1 (needs_on m n (Fence number item traps) cs)) h

-- the cells of resources that are there hold what the resources hold
pub shown : (m : MachineData) (s : State) (cells : List Cell) (rs : List Res) → Shows m s cells → AllByRecursion (IsThere m s.bits) rs → map (content_at m cells) rs ≡ map (content s) rs
shown m s cells [] shows there = refl
shown m s cells (r ∷ rs) shows there =
    let here = shows.each r there.0 in
    ap₂ (λ (x : Content) (xs : List Content). x ∷ xs) (ap content_or here.1 ∙ here.2) (shown m s cells rs shows there.1)

why_placed : (m : MachineData) (s : State) (op : OpKind) (cells : List Cell) → IsSafe m s → Shows m s cells → IsOp op → why_on m s.bits op (map (content_at m cells) (touches op)) ≡ why m s op
why_placed m s op cells safe shows kept = elim (cases_Bool (names_parts_there m s.bits op)) [
  | inl h ↦ choose_true h
  | inr h ↦ choose_false h
]
  where
    choose_false : names_parts_there m s.bits op ≡ false → why_on m s.bits op (map (content_at m cells) (touches op)) ≡ why m s op
    choose_false h = unplaced m s.bits op (map (content_at m cells) (touches op)) h ∙ sym (unplaced m s.bits op (map (content s) (touches op)) h) ∙ why-on m s op safe kept

    choose_true : names_parts_there m s.bits op ≡ true → why_on m s.bits op (map (content_at m cells) (touches op)) ≡ why m s op
    choose_true h = ap (why_on m s.bits op) (shown m s cells (touches op) shows (placed-there m s.bits op h)) ∙ why-on m s op safe kept

pub why-shown : (m : MachineData) (op : OpKind) (cells slice : List Cell) (answer : Option Why) → IsOp op → slice ≡ cells → answer ≡ why_on m (length slice - bits_start m) op (map (content_at m slice) (touches op))
    → (s : State) → IsSafe m s → Shows m s cells → answer ≡ why m s op
why-shown m op cells slice answer kept same is s safe shows =
    let bits : length cells - bits_start m ≡ s.bits = omega (arith, shows.long) in
    is ∙ ap (λ (cs : List Cell). why_on m (length cs - bits_start m) op (map (content_at m cs) (touches op))) same
    ∙ ap (λ (n : ℕ). why_on m n op (map (content_at m cells) (touches op))) bits ∙ why_placed m s op cells safe shows kept

-- the same over what code has read
abbrev item_tests : List Entry → List ℕ → List Qubit → Option Why
item_tests chain at qubits = first_failing ((Position, list_all (λ k. nat_lt k (length chain)) at) ∷ (WrongQubit, chain_carries chain at qubits) ∷ [])

pub item-read : (m : MachineData) (op : OpKind) (cells : List Cell) (number : ℕ) (t : TrapId) (item : ItemData) (at : List ℕ) (chain : List Entry) (ks : List ℕ) (qs : List Qubit) (answer : Option Why) → op ≡ Item number t item at
    → chain ≡ chain_in (content_at m cells (res.Trap t)) → ks ≡ at → qs ≡ item.qubits → answer ≡ item_tests chain ks qs → answer ≡ first_failing (needs_there m op (map (content_at m cells) (touches op)))
item-read m op cells number t item at chain ks qs answer is same_chain same_at same_qubits told =
    told ∙ ap (λ (c : List Entry). item_tests c ks qs) same_chain ∙ ap₂ (λ (k : List ℕ) (q : List Qubit). item_tests (chain_in (content_at m cells (res.Trap t))) k q) same_at same_qubits
    ∙ item-there m op cells number t item at is

abbrev fence_tests : MachineData → List Cell → List Res → List Qubit → Option Why
fence_tests m cells rs qubits =
    first_failing ((WrongTraps, list_all (λ (q : Qubit). list_any (λ (r : Res). chain_holds (content_at m cells r) q) rs) qubits && list_all (λ (r : Res). list_any (chain_holds (content_at m cells r)) qubits) rs) ∷ [])

pub fence-read : (m : MachineData) (op : OpKind) (cells : List Cell) (number : ℕ) (item : ItemData) (traps : List TrapId) (rs : List Res) (qs : List Qubit) (answer : Option Why) → op ≡ Fence number item traps
    → rs ≡ touches op → qs ≡ item.qubits → answer ≡ fence_tests m cells rs qs → answer ≡ first_failing (needs_there m op (map (content_at m cells) (touches op)))
fence-read m op cells number item traps rs qs answer is same_traps same_qubits told =
    told ∙ ap₂ (λ (r : List Res) (q : List Qubit). fence_tests m cells r q) same_traps same_qubits ∙ fence-there m op cells number item traps is
