-- The items of statements keep the item rule, and are on qubits and bits that there are.
use Rattle.std.proofs.Common.{◌≡◌, ℕ, ◌+◌, ◌<◌, ◌≤◌, ◌==◌, Bool, true, false, not, ◌&&◌, ◌||◌, List, [], ◌∷◌, ◌++◌, map, length, All, Option, Some, None, codes, refl, sym, ap, subst, ◌∙◌, arith}
use Rattle.std.specs.Prelude.{zero, suc, if◌then◌else◌}
use Rattle.std.specs.Str.{bytes_eq}
use Rattle.std.specs.List.{AllByRecursion, list_any, range_with_len, flat_map}
use Rattle.std.proofs.lemmas.Bool.{false≢true, and_from, and_parts, eqb-false, eqb-true, ne_eqb, or_parts}
use Rattle.std.proofs.lemmas.List.Elements.{All-append, All-cons, All-head, All-map, All-nil, All-tail}
use Rattle.std.proofs.lemmas.List.{length-append, length-map}
use Rattle.std.proofs.lemmas.List.FromFn.{length-range_with_len}
use Rattle.qccd_base.specs.Names.{qubit, bit}
use Rattle.qccd_base.specs.declared.names.Qubit.{Qubit}
use Rattle.qccd_base.specs.declared.names.Bit.{Bit}
use Rattle.qccd_circuit.specs.Circuit.{IsWithin}
use Rattle.qccd_circuit.specs.Item.{ItemData, Fits, AreAngles, are_distinct, has_qubit}
use Rattle.qasm_reader.specs.declared.kinds.Operand.{Operand}
use Rattle.gate_defs.specs.Gates.{Gate}
use Rattle.gate_defs.specs.Items.{ccx_items, cswap_items}
use Rattle.qasm_reader.specs.Gates.{applied}
use Rattle.qasm_reader.specs.Operand.{alike, barrier_items, barrier_of, cell_count, cell_of, cells, first_cell, gate_items, is_whole, measure_item, measure_items, reset_item, reset_items, times, with_mentions}
use Rattle.qasm_reader.specs.Sound.{AreApart, HasCell, IsGateOfItems, LiesBelow}
use Rattle.gate_defs.proofs.Fitting.{gate_fits}
use Rattle.gate_defs.proofs.Good.{ccx_fits, ccx_within, cswap_fits, cswap_within}
use Rattle.qasm_reader.proofs.Cells.{cells_below, distinct_cells, each_has_cell, is_cell}

-- the item keeps the rule, and is on these qubits and bits
pub record IsGood (qubits bits : ℕ) (d : ItemData) : Type 0 where
  pub fits : Fits d
  pub within : IsWithin qubits bits d

below_nothing : (n : ℕ) → All (λ (b : Bit). b.0 < n) []
below_nothing n = All-nil (λ (b : Bit). b.0 < n)

below_one : (n a : ℕ) → a < n → All (λ (q : Qubit). q.0 < n) (qubit a ∷ [])
below_one n a below = All-cons (λ (q : Qubit). q.0 < n) (qubit a) [] below (All-nil (λ (q : Qubit). q.0 < n))

-- ---- gates

pub no_angles : AreAngles []
no_angles = (refl, omega arith)

swapped : (a b : ℕ) → (b == a) ≡ false → (a == b) ≡ false
swapped a b apart = ne_eqb a b (λ same. eqb-false b a apart (sym same))

-- of each item
abbrev pub AllGood : ℕ → ℕ → List ItemData → Type 0
AllGood m n [] = Unit {0}
AllGood m n (d ∷ ds) = IsGood m n d × AllGood m n ds

good_append : (m n : ℕ) (ds es : List ItemData) → AllGood m n ds → AllGood m n es → AllGood m n (ds ++ es)
good_append m n [] es front back = back
good_append m n (d ∷ ds) es front back = (front.0, good_append m n ds es front.1 back)

pub good_fits : (m n : ℕ) (ds : List ItemData) → AllGood m n ds → All Fits ds
good_fits m n [] good = All-nil Fits
good_fits m n (d ∷ ds) good = All-cons Fits d ds good.0.fits (good_fits m n ds good.1)

pub good_within : (m n : ℕ) (ds : List ItemData) → AllGood m n ds → All (IsWithin m n) ds
good_within m n [] good = All-nil (IsWithin m n)
good_within m n (d ∷ ds) good = All-cons (IsWithin m n) d ds good.0.within (good_within m n ds good.1)

good_both : (m n : ℕ) (ds : List ItemData) → AllByRecursion Fits ds → AllByRecursion (IsWithin m n) ds → AllGood m n ds
good_both m n [] fit within = tt
good_both m n (d ∷ ds) fit within = (record { fits = fit.0; within = within.0 }, good_both m n ds fit.1 within.1)

-- a gate on three qubits
good_three : (m n : ℕ) (b : Bool) (x y z : ℕ) → are_distinct (map qubit (x ∷ y ∷ z ∷ [])) ≡ true → All (λ (q : Qubit). q.0 < m) (map qubit (x ∷ y ∷ z ∷ []))
    → AllGood m n (if b then ccx_items (qubit x) (qubit y) (qubit z) None else cswap_items (qubit x) (qubit y) (qubit z) None)
good_three m n true x y z distinct below =
    let on = map qubit (x ∷ y ∷ z ∷ []) in
    good_both m n (ccx_items (qubit x) (qubit y) (qubit z) None) (ccx_fits on None distinct tt) (ccx_within m n on None below (below_nothing n))
good_three m n false x y z distinct below =
    let on = map qubit (x ∷ y ∷ z ∷ []) in
    good_both m n (cswap_items (qubit x) (qubit y) (qubit z) None) (cswap_fits on None distinct tt) (cswap_within m n on None below (below_nothing n))

-- one application of a gate
pub good_applied :
    (m n : ℕ) (g : Gate) (angles : List (List ℕ)) (on : List ℕ) → IsGateOfItems g → AreAngles angles → are_distinct (map qubit on) ≡ true
    → All (λ i. i < m) on → AllGood m n (applied g angles on)
good_applied m n g angles [] is_gate are distinct below = tt
good_applied m n g angles (a ∷ []) is_gate are distinct below = (
  record {
    fits = gate_fits g.name angles (map qubit (a ∷ [])) None is_gate.name is_gate.gate_name are distinct tt (omega arith) (omega arith);
    within = record { qubits_below = All-map (λ (q : Qubit). q.0 < m) qubit (a ∷ []) below; bits_below = below_nothing n };
  },
  tt,
)
good_applied m n g angles (a ∷ b ∷ []) is_gate are distinct below = (
  record {
    fits = gate_fits g.name angles (map qubit (a ∷ b ∷ [])) None is_gate.name is_gate.gate_name are distinct tt (omega arith) (omega arith);
    within = record { qubits_below = All-map (λ (q : Qubit). q.0 < m) qubit (a ∷ b ∷ []) below; bits_below = below_nothing n };
  },
  tt,
)
good_applied m n g angles (a ∷ b ∷ c ∷ []) is_gate are distinct below =
    good_three m n (bytes_eq g.name (codes "ccx")) a b c distinct (All-map (λ (q : Qubit). q.0 < m) qubit (a ∷ b ∷ c ∷ []) below)
good_applied m n g angles (a ∷ b ∷ c ∷ d ∷ on) is_gate are distinct below = tt

-- the applications of a gate, from the first of them on
good_turns :
    (m n : ℕ) (g : Gate) (angles : List (List ℕ)) (os : List Operand) (from count : ℕ) → IsGateOfItems g → AreAngles angles → AreApart os
    → All (LiesBelow m) os → from + count ≤ times os → AllGood m n (flat_map (λ i. applied g angles (map (cell_of i) os)) (range_with_len from count))
good_turns m n g angles os from zero is_gate are apart below few = tt
good_turns m n g angles os from (suc count) is_gate are apart below few =
    let has = each_has_cell from os apart (omega (arith, few)) in
    good_append m n (applied g angles (map (cell_of from) os)) _
    (good_applied m n g angles (map (cell_of from) os) is_gate are (distinct_cells from os apart has) (cells_below from m os below has))
    (good_turns m n g angles os (from + 1) count is_gate are apart below (omega (arith, few)))

pub good_gate :
    (m n : ℕ) (g : Gate) (angles : List (List ℕ)) (os : List Operand) → IsGateOfItems g → AreAngles angles → AreApart os → All (LiesBelow m) os
    → AllGood m n (gate_items g angles os)
good_gate m n g angles os is_gate are apart below = good_turns m n g angles os 0 (times os) is_gate are apart below (omega arith)

-- ---- measurements and resets

pub measure_fits : (q b : ℕ) → Fits (measure_item q b)
measure_fits q b = record { name = (refl, omega arith); angles = no_angles; cond = tt; distinct = refl; kind = (refl, refl, refl, refl) }

pub reset_fits : (q : ℕ) → Fits (reset_item q)
reset_fits q = record { name = (refl, omega arith); angles = no_angles; cond = tt; distinct = refl; kind = (refl, refl, refl, refl) }

-- numbers of a range
each_in_range :
    (m n : ℕ) (f : ℕ → ItemData) (from count : ℕ) → ((i : ℕ) → from ≤ i → i < from + count → IsGood m n (f i)) → AllGood m n (map f (range_with_len from count))
each_in_range m n f from zero each = tt
each_in_range m n f from (suc count) each =
    (each from (omega arith) (omega arith), each_in_range m n f (from + 1) count (λ i above below. each i (omega (arith, above)) (omega (arith, below))))

good_reset : (m n q : ℕ) → q < m → IsGood m n (reset_item q)
good_reset m n q below = record { fits = reset_fits q; within = record { qubits_below = below_one m q below; bits_below = below_nothing n } }

pub good_resets : (m n : ℕ) (o : Operand) → LiesBelow m o → AllGood m n (reset_items o)
good_resets m n o below =
    each_in_range m n (λ i. reset_item (cell_of i o)) 0 (times (o ∷ []))
    (λ i from under.
    let has = All-head (HasCell i) o [] (each_has_cell i (o ∷ []) (refl, refl, tt) (omega (arith, under))) in
    good_reset m n (cell_of i o) (omega (arith, below.below, (is_cell i o has).below)))

good_measure : (m n q b : ℕ) → q < m → b < n → IsGood m n (measure_item q b)
good_measure m n q b below_q below_b =
    record {
      fits = measure_fits q b;
      within = record { qubits_below = below_one m q below_q; bits_below = All-cons (λ (x : Bit). x.0 < n) (bit b) [] below_b (below_nothing n) };
    }

-- the right operand of a measurement has a cell wherever the left one has
pub alike_cells : (a b : Operand) (i : ℕ) → alike a b ≡ true → i < times (a ∷ []) → HasCell i a × HasCell i b
alike_cells a b i same below = by_whole (is_whole a) refl
  where
    by_whole : (x : Bool) → is_whole a ≡ x → HasCell i a × HasCell i b
    by_whole true is_x =
        let sizes = and_parts (is_whole b) _ (ap (λ (y : Bool). if y then is_whole b && (a.register.size == b.register.size) else not (is_whole b)) (sym is_x) ∙ same) in
        let here : i < a.register.size = subst (λ (k : ℕ). i < k) (ap (λ (y : Bool). if y then a.register.size else 1) is_x) below in
        ((λ _. here), (λ _. omega (arith, here, eqb-true a.register.size b.register.size sizes.1)))
    by_whole false is_x =
        let other = ap (λ (y : Bool). if y then is_whole b && (a.register.size == b.register.size) else not (is_whole b)) (sym is_x) ∙ same in
        ((λ whole. absurd (false≢true (sym is_x ∙ whole))), (λ whole. absurd (false≢true (sym (ap not whole) ∙ other))))

pub good_measures : (m n : ℕ) (a b : Operand) → LiesBelow m a → LiesBelow n b → alike a b ≡ true → AllGood m n (measure_items a b)
good_measures m n a b below_a below_b same =
    each_in_range m n (λ i. measure_item (cell_of i a) (cell_of i b)) 0 (times (a ∷ []))
    (λ i from under.
    let has = alike_cells a b i same (omega (arith, under)) in
    good_measure m n (cell_of i a) (cell_of i b) (omega (arith, below_a.below, (is_cell i a has.0).below)) (omega (arith, below_b.below, (is_cell i b has.1).below)))

-- ---- barriers

none_mentioned : (found : List ℕ) (n k : ℕ) → list_any (λ m. m == n) (k ∷ found) ≡ false → (n == k) ≡ false
none_mentioned found n k none = swapped n k (or_parts (k == n) _ none).0

-- one more number that stands nowhere before
distinct_more : (found : List ℕ) (n : ℕ) → are_distinct (map qubit found) ≡ true → list_any (λ m. m == n) found ≡ false → are_distinct (map qubit (found ++ n ∷ [])) ≡ true
distinct_more [] n distinct none = refl
distinct_more (k ∷ found) n distinct none =
    let parts = and_parts (not (has_qubit (map qubit found) (qubit k))) _ distinct in
    and_from _ _ (has_more found (n == k) (none_mentioned found n k none) parts.0) (distinct_more found n parts.1 (or_parts (k == n) _ none).1)
  where
    has_more : (ms : List ℕ) (x : Bool) → (n == k) ≡ false → not (has_qubit (map qubit ms) (qubit k)) ≡ true → not (has_qubit (map qubit (ms ++ n ∷ [])) (qubit k)) ≡ true
    has_more [] x apart none_of = ap (λ (y : Bool). not (y || false)) apart
    has_more (m ∷ ms) x apart none_of = by_head (m == k) (has_qubit (map qubit ms) (qubit k)) none_of (has_more ms x apart)
      where
        by_head : (y z : Bool) → not (y || z) ≡ true → (not z ≡ true → not (has_qubit (map qubit (ms ++ n ∷ [])) (qubit k)) ≡ true) → not (y || has_qubit (map qubit (ms ++ n ∷ [])) (qubit k)) ≡ true
        by_head true z is more = absurd (false≢true is)
        by_head false z is more = more is

pub mentions_distinct : (ns found : List ℕ) → are_distinct (map qubit found) ≡ true → are_distinct (map qubit (with_mentions found ns)) ≡ true
mentions_distinct [] found distinct = distinct
mentions_distinct (n ∷ ns) found distinct = by_found (list_any (λ m. m == n) found) refl (λ next. mentions_distinct ns next)
  where
    by_found :
        (x : Bool) → list_any (λ m. m == n) found ≡ x → ((next : List ℕ) → are_distinct (map qubit next) ≡ true → are_distinct (map qubit (with_mentions next ns)) ≡ true)
        → are_distinct (map qubit (with_mentions (if x then found else found ++ n ∷ []) ns)) ≡ true
    by_found true is_x more = more found distinct
    by_found false is_x more = more (found ++ n ∷ []) (distinct_more found n distinct is_x)

pub mentions_below : (m : ℕ) (ns found : List ℕ) → All (λ i. i < m) found → All (λ i. i < m) ns → All (λ i. i < m) (with_mentions found ns)
mentions_below m [] found below_found below = below_found
mentions_below m (n ∷ ns) found below_found below =
    mentions_below m ns (if list_any (λ m. m == n) found then found else found ++ n ∷ []) (by_found (list_any (λ m. m == n) found)) (All-tail (λ i. i < m) n ns below)
  where
    by_found : (x : Bool) → All (λ i. i < m) (if x then found else found ++ n ∷ [])
    by_found true = below_found
    by_found false = All-append (λ i. i < m) found (n ∷ []) below_found (All-cons (λ i. i < m) n [] (All-head (λ i. i < m) n ns below) (All-nil (λ i. i < m)))

pub mentions_some : (ns found : List ℕ) → 1 ≤ length found + length ns → 1 ≤ length (with_mentions found ns)
mentions_some [] found some = omega (arith, some)
mentions_some (n ∷ ns) found some = by_found (list_any (λ m. m == n) found) refl (λ next. mentions_some ns next)
  where
    none_found : (ms : List ℕ) → list_any (λ m. m == n) ms ≡ true → 1 ≤ length ms
    none_found [] is = absurd (false≢true is)
    none_found (m ∷ ms) is = omega arith

    by_found :
        (x : Bool) → list_any (λ m. m == n) found ≡ x → ((next : List ℕ) → 1 ≤ length next + length ns → 1 ≤ length (with_mentions next ns))
        → 1 ≤ length (with_mentions (if x then found else found ++ n ∷ []) ns)
    by_found true is_x more = more found (omega (arith, none_found found is_x))
    by_found false is_x more = more (found ++ n ∷ []) (omega (arith, length-append found (n ∷ [])))

pub barrier_fits : (ns : List ℕ) → 1 ≤ length ns → Fits (barrier_of (with_mentions [] ns))
barrier_fits ns some =
    record {
      name = (refl, omega arith);
      angles = no_angles;
      cond = tt;
      distinct = mentions_distinct ns [] refl;
      kind = (omega (arith, mentions_some ns [] (omega (arith, some)), length-map (with_mentions [] ns) qubit), refl, refl, refl, refl);
    }

-- the cells of operands
pub some_cells : (m : ℕ) (o : Operand) (os : List Operand) → LiesBelow m o → 1 ≤ length (flat_map cells (o ∷ os))
some_cells m o os below = omega (arith, below.some, length-append (cells o) (flat_map cells os), length_cells o.register.first o.register.size o.index)
  where
    length_cells :
        (first size : ℕ) (index : Option ℕ)
        → length (cells (record { register = record o.register { first = first; size = size }; index = index }))
        ≡ cell_count (record { register = record o.register { first = first; size = size }; index = index })
    length_cells first size None = length-range_with_len first size
    length_cells first size (Some j) = refl

range_below : (m from count : ℕ) → from + count ≤ m → All (λ i. i < m) (range_with_len from count)
range_below m from zero few = All-nil (λ i. i < m)
range_below m from (suc count) few = All-cons (λ i. i < m) from (range_with_len (from + 1) count) (omega (arith, few)) (range_below m (from + 1) count (omega (arith, few)))

each_below : (m : ℕ) (o : Operand) → LiesBelow m o → All (λ i. i < m) (cells o)
each_below m o below = by_index o.register.first o.register.size o.index below.below
  where
    by_index :
        (first size : ℕ) (index : Option ℕ)
        → first_cell (record { register = record o.register { first = first; size = size }; index = index })
        + cell_count (record { register = record o.register { first = first; size = size }; index = index }) ≤ m
        → All (λ i. i < m) (cells (record { register = record o.register { first = first; size = size }; index = index }))
    by_index first size None below = range_below m first size below
    by_index first size (Some j) below = All-cons (λ i. i < m) (first + j) [] (omega (arith, below)) (All-nil (λ i. i < m))

all_below : (m : ℕ) (os : List Operand) → All (LiesBelow m) os → All (λ i. i < m) (flat_map cells os)
all_below m [] below = All-nil (λ i. i < m)
all_below m (o ∷ os) below =
    All-append (λ i. i < m) (cells o) (flat_map cells os) (each_below m o (All-head (LiesBelow m) o os below)) (all_below m os (All-tail (LiesBelow m) o os below))

pub good_barrier : (m n : ℕ) (os : List Operand) → 1 ≤ length os → All (LiesBelow m) os → AllGood m n (barrier_items os)
good_barrier m n [] some below = absurd (omega (arith, some))
good_barrier m n (o ∷ os) some below =
    let ns = flat_map cells (o ∷ os) in (
      record {
        fits = barrier_fits ns (some_cells m o os (All-head (LiesBelow m) o os below));
        within = record {
          qubits_below = All-map (λ (q : Qubit). q.0 < m) qubit (with_mentions [] ns)
              (mentions_below m ns [] (All-nil (λ i. i < m)) (all_below m (o ∷ os) below));
          bits_below = below_nothing n;
        };
      },
      tt,
    )

pub cells_some : (m : ℕ) (os : List Operand) → 1 ≤ length os → All (LiesBelow m) os → 1 ≤ length (flat_map cells os)
cells_some m [] some below = absurd (omega (arith, some))
cells_some m (o ∷ os) some below = some_cells m o os (All-head (LiesBelow m) o os below)
