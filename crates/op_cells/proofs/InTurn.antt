-- The resources that a legal operation touches are there, and stand in turn.
use Rattle.std.proofs.Common.{◌≡◌, ◌≢◌, ℕ, ◌<◌, Bool, true, false, ◌&&◌, ◌||◌, nat_lt, if◌then◌else◌, List, [], ◌∷◌, map, length, refl, sym, ◌∙◌, arith, None}
use Rattle.std.specs.List.{AllByRecursion, list_all}
use Rattle.std.proofs.lemmas.Bool.{and_parts, false≢true, ltb-true, eq-eqb}
use Rattle.qccd_base.specs.declared.names.Bit.{Bit}
use Rattle.qccd_base.specs.declared.names.TrapId.{TrapId}
use Rattle.qccd_base.specs.declared.names.Res.{Res}
use Rattle.qccd_base.specs.declared.names.Res.TheVariants as res
use Rattle.qccd_base.specs.Names.{trap, segment, junction}
use Rattle.qccd_base.specs.Resource.{among, ascending, comes_before, same_res, with_res}
use Rattle.qccd_circuit.specs.Item.{bits_of}
use Rattle.qccd_machine.specs.Machine.{MachineData}
use Rattle.op_table.specs.declared.kinds.OpKind.{OpKind}
use Rattle.op_table.specs.declared.kinds.OpKind.TheVariants.{Split, Move, Enter, Leave, Merge, Rot, GSwap, Item, Fence}
use Rattle.op_table.specs.declared.contents.Content.{Content}
use Rattle.op_table.specs.Act.{needs_on, why_on}
use Rattle.op_table.specs.Step.{has_trap, has_segment, has_junction}
use Rattle.op_table.specs.Touch.{most_bits, possible, touches, named}
use Rattle.op_table.proofs.Shared.{all_met}
use Rattle.op_cells.specs.Numbering.{index_of, IsThere}
use Rattle.op_cells.specs.Placed.{bits_below, names_parts_there}
use Rattle.op_cells.specs.Places.{AreInTurn}
use Rattle.op_cells.proofs.Rising.{Rising, rising-ascending}

-- what holds of the resources of a list holds of them in their order
all_with : (P : Res → Type 0) (r : Res) (qs : List Res) → P r → AllByRecursion P qs → AllByRecursion P (with_res r qs)
all_with P r [] p ps = (p, tt)
all_with P r (q ∷ qs) p ps = go (same_res r q) (comes_before r q) (all_with P r qs p ps.1)
  where
    go : (b c : Bool) → AllByRecursion P (with_res r qs) → AllByRecursion P (if b then q ∷ qs else (if c then r ∷ q ∷ qs else q ∷ with_res r qs))
    go true c rest = ps
    go false true rest = (p, ps)
    go false false rest = (ps.0, rest)

all_ascending : (P : Res → Type 0) (rs : List Res) → AllByRecursion P rs → AllByRecursion P (ascending rs)
all_ascending P [] ps = tt
all_ascending P (r ∷ rs) ps = all_with P r (ascending rs) ps.0 (all_ascending P rs ps.1)

bits_there : (m : MachineData) (n : ℕ) (bs : List Bit) → list_all (λ b. nat_lt b.0 n) bs ≡ true → AllByRecursion (IsThere m n) (map res.Bit (possible bs))
bits_there m n [] h = tt
bits_there m n (b ∷ bs) h =
    let both = and_parts (nat_lt b.0 n) (list_all (λ b. nat_lt b.0 n) bs) h in
    go (nat_lt b.0 most_bits) (ltb-true b.0 n both.0) (bits_there m n bs both.1)
  where
    go : (c : Bool) → b.0 < n → AllByRecursion (IsThere m n) (map res.Bit (possible bs)) → AllByRecursion (IsThere m n) (map res.Bit (if c then b ∷ possible bs else possible bs))
    go true own rest = (own, rest)
    go false own rest = rest

traps_there : (m : MachineData) (n : ℕ) (ts : List TrapId) → list_all (λ t. has_trap m t.0) ts ≡ true → AllByRecursion (IsThere m n) (map res.Trap ts)
traps_there m n [] h = tt
traps_there m n (t ∷ ts) h = let both = and_parts (has_trap m t.0) (list_all (λ t. has_trap m t.0) ts) h in (ltb-true t.0 (length m.capacities) both.0, traps_there m n ts both.1)

trap_seg : (m : MachineData) (n t g : ℕ) → (has_trap m t && has_segment m g) ≡ true → AllByRecursion (IsThere m n) (res.Trap (trap t) ∷ res.Seg (segment g) ∷ [])
trap_seg m n t g h = let both = and_parts (has_trap m t) (has_segment m g) h in (ltb-true t (length m.capacities) both.0, (ltb-true g (length m.segments) both.1, tt))

seg_junc : (m : MachineData) (n g j : ℕ) → (has_segment m g && has_junction m j) ≡ true → AllByRecursion (IsThere m n) (res.Seg (segment g) ∷ res.Junc (junction j) ∷ [])
seg_junc m n g j h = let both = and_parts (has_segment m g) (has_junction m j) h in (ltb-true g (length m.segments) both.0, (ltb-true j m.junctions both.1, tt))

-- what such an operation names is there
named_there : (m : MachineData) (n : ℕ) (op : OpKind) → names_parts_there m n op ≡ true → AllByRecursion (IsThere m n) (named op)
named_there m n (Split t e g) is = trap_seg m n t.0 g.0 is
named_there m n (Move g) is = (ltb-true g.0 (length m.segments) is, tt)
named_there m n (Enter g j) is = seg_junc m n g.0 j.0 is
named_there m n (Leave j g) is = seg_junc m n g.0 j.0 is
named_there m n (Merge g t e) is = trap_seg m n t.0 g.0 is
named_there m n (Rot t p) is = (ltb-true t.0 (length m.capacities) is, tt)
named_there m n (GSwap t low high) is = (ltb-true t.0 (length m.capacities) is, tt)
named_there m n (Item number t item at) is =
    let both = and_parts (has_trap m t.0) (bits_below n item) is in
    (ltb-true t.0 (length m.capacities) both.0, bits_there m n (bits_of item) both.1)
named_there m n (Fence number item traps) is =
    let both = and_parts (list_all (λ t. has_trap m t.0) traps) (bits_below n item) is in traps_there m n traps both.0

pub placed-there : (m : MachineData) (n : ℕ) (op : OpKind) → names_parts_there m n op ≡ true → AllByRecursion (IsThere m n) (touches op)
placed-there m n op is = all_ascending (IsThere m n) (named op) (named_there m n op is)

-- a legal operation names parts that are there
legal_placed : (m : MachineData) (n : ℕ) (op : OpKind) (cs : List Content) → why_on m n op cs ≡ None → names_parts_there m n op ≡ true
legal_placed m n (Split t e g) cs legal = (all_met (needs_on m n (Split t e g) cs) legal).0
legal_placed m n (Move g) cs legal = (all_met (needs_on m n (Move g) cs) legal).0
legal_placed m n (Enter g j) cs legal = (all_met (needs_on m n (Enter g j) cs) legal).0
legal_placed m n (Leave j g) cs legal = (all_met (needs_on m n (Leave j g) cs) legal).0
legal_placed m n (Merge g t e) cs legal = (all_met (needs_on m n (Merge g t e) cs) legal).0
legal_placed m n (Rot t p) cs legal = (all_met (needs_on m n (Rot t p) cs) legal).0
legal_placed m n (GSwap t low high) cs legal = (all_met (needs_on m n (GSwap t low high) cs) legal).0
legal_placed m n (Item number t item at) cs legal = (all_met (needs_on m n (Item number t item at) cs) legal).0
legal_placed m n (Fence number item traps) cs legal = (all_met (needs_on m n (Fence number item traps) cs) legal).0

pub touched-there : (m : MachineData) (n : ℕ) (op : OpKind) (cs : List Content) → why_on m n op cs ≡ None → AllByRecursion (IsThere m n) (touches op)
touched-there m n op cs legal = placed-there m n op (legal_placed m n op cs legal)

-- of two resources that are there the one that comes before stands before
stands_before : (m : MachineData) (n : ℕ) (q r : Res) → IsThere m n q → IsThere m n r → comes_before q r ≡ true → index_of m q < index_of m r
stands_before m n (res.Trap t) (res.Trap u) a b h = ltb-true t.0 u.0 h
stands_before m n (res.Trap t) (res.Seg u) a b h = omega (arith, a)
stands_before m n (res.Trap t) (res.Junc u) a b h = omega (arith, a)
stands_before m n (res.Trap t) (res.Bit u) a b h = omega (arith, a)
stands_before m n (res.Seg t) (res.Trap u) a b h = absurd (false≢true h)
stands_before m n (res.Seg t) (res.Seg u) a b h = let less : t.0 < u.0 = ltb-true t.0 u.0 h in omega (arith, less)
stands_before m n (res.Seg t) (res.Junc u) a b h = omega (arith, a)
stands_before m n (res.Seg t) (res.Bit u) a b h = omega (arith, a)
stands_before m n (res.Junc t) (res.Trap u) a b h = absurd (false≢true h)
stands_before m n (res.Junc t) (res.Seg u) a b h = absurd (false≢true h)
stands_before m n (res.Junc t) (res.Junc u) a b h = let less : t.0 < u.0 = ltb-true t.0 u.0 h in omega (arith, less)
stands_before m n (res.Junc t) (res.Bit u) a b h = omega (arith, a)
stands_before m n (res.Bit t) (res.Trap u) a b h = absurd (false≢true h)
stands_before m n (res.Bit t) (res.Seg u) a b h = absurd (false≢true h)
stands_before m n (res.Bit t) (res.Junc u) a b h = absurd (false≢true h)
stands_before m n (res.Bit t) (res.Bit u) a b h = let less : t.0 < u.0 = ltb-true t.0 u.0 h in omega (arith, less)

in_turn : (m : MachineData) (n : ℕ) (rs : List Res) → Rising rs → AllByRecursion (IsThere m n) rs → AreInTurn m rs
in_turn m n [] up there = tt
in_turn m n (r ∷ rs) up there = (later rs up.0 there.1, in_turn m n rs up.1 there.1)
  where
    later : (qs : List Res) → AllByRecursion (λ x. comes_before r x ≡ true) qs → AllByRecursion (IsThere m n) qs → AllByRecursion (λ q. index_of m r < index_of m q) qs
    later [] up at = tt
    later (q ∷ qs) up at = (stands_before m n r q there.0 at.0 up.0, later qs up.1 at.1)

pub touched-in_turn : (m : MachineData) (n : ℕ) (op : OpKind) (cs : List Content) → why_on m n op cs ≡ None → AreInTurn m (touches op)
touched-in_turn m n op cs legal = in_turn m n (touches op) (rising-ascending (named op)) (touched-there m n op cs legal)

-- resources at one place are one
pub index-same : (m : MachineData) (n k : ℕ) (q r : Res) → IsThere m n q → IsThere m k r → index_of m q ≡ index_of m r → same_res q r ≡ true
index-same m n k (res.Trap t) (res.Trap u) a b e = eq-eqb t.0 u.0 e
index-same m n k (res.Trap t) (res.Seg u) a b e = absurd (omega (arith, a, b, e))
index-same m n k (res.Trap t) (res.Junc u) a b e = absurd (omega (arith, a, b, e))
index-same m n k (res.Trap t) (res.Bit u) a b e = absurd (omega (arith, a, b, e))
index-same m n k (res.Seg t) (res.Trap u) a b e = absurd (omega (arith, a, b, e))
index-same m n k (res.Seg t) (res.Seg u) a b e = let is : t.0 ≡ u.0 = omega (arith, e) in eq-eqb t.0 u.0 is
index-same m n k (res.Seg t) (res.Junc u) a b e = absurd (omega (arith, a, b, e))
index-same m n k (res.Seg t) (res.Bit u) a b e = absurd (omega (arith, a, b, e))
index-same m n k (res.Junc t) (res.Trap u) a b e = absurd (omega (arith, a, b, e))
index-same m n k (res.Junc t) (res.Seg u) a b e = absurd (omega (arith, a, b, e))
index-same m n k (res.Junc t) (res.Junc u) a b e = let is : t.0 ≡ u.0 = omega (arith, e) in eq-eqb t.0 u.0 is
index-same m n k (res.Junc t) (res.Bit u) a b e = absurd (omega (arith, a, b, e))
index-same m n k (res.Bit t) (res.Trap u) a b e = absurd (omega (arith, a, b, e))
index-same m n k (res.Bit t) (res.Seg u) a b e = absurd (omega (arith, a, b, e))
index-same m n k (res.Bit t) (res.Junc u) a b e = absurd (omega (arith, a, b, e))
index-same m n k (res.Bit t) (res.Bit u) a b e = let is : t.0 ≡ u.0 = omega (arith, e) in eq-eqb t.0 u.0 is

-- a resource that is there, but not in the list, stands at none of its places
pub stands_apart : (m : MachineData) (n k : ℕ) (r : Res) (rs : List Res) → IsThere m k r → AllByRecursion (IsThere m n) rs → among rs r ≡ false → AllByRecursion (λ q. index_of m r ≢ index_of m q) rs
stands_apart m n k r [] at there out = tt
stands_apart m n k r (q ∷ rs) at there out =
    let parts = split (same_res q r) (among rs r) out in
    ((λ e. false≢true (sym parts.0 ∙ index-same m n k q r there.0 at (sym e))), stands_apart m n k r rs at there.1 parts.1)
  where
    split : (a b : Bool) → (a || b) ≡ false → (a ≡ false) × (b ≡ false)
    split true b h = absurd (false≢true (sym h))
    split false b h = (refl, h)
