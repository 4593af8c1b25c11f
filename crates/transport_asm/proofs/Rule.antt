-- The words of an operation are all right, and its rules hold, exactly where it is writable.
use Rattle.std.proofs.Common.{◌≡◌, ◌≢◌, ℕ, ◌+◌, ◌≤◌, Bool, true, false, not, ◌&&◌, ◌||◌, ◌==◌, List, [], ◌∷◌, map, length, codes, Option, Some, None, refl, sym, ap, ◌∙◌, subst, arith, inl, inr}
use Rattle.std.specs.Prelude.{bytes_eq, nat_le}
use Rattle.std.specs.List.{list_all, list_any, AllByRecursion}
use Rattle.std.proofs.lemmas.Bool.{and_parts, cases_Bool, eqb-true, leb-true, ltb-true, ltb-false, lt-ltb, le-ltb, ne_eqb}
use Rattle.std.proofs.lemmas.Slice.Eq.{bytes_eq-Decides}
use Rattle.qccd_base.specs.declared.names.TrapId.{TrapId}
use Rattle.qccd_base.specs.declared.names.Qubit.{Qubit}
use Rattle.qccd_base.specs.declared.names.Bit.{Bit}
use Rattle.qccd_base.specs.declared.names.Ion.{Ion}
use Rattle.qccd_circuit.specs.Item.{ItemData, Fits, FitsKind, IsCond, IsGateName, is_angle, is_angle_byte, are_distinct}
use Rattle.qccd_circuit.specs.declared.kinds.ItemKind.{ItemKind}
use Rattle.qccd_circuit.specs.declared.kinds.ItemKind.TheVariants.{Gate1, Gate2, Measure, Reset, Barrier}
use Rattle.qccd_circuit.specs.declared.kinds.Cond.{Cond}
use Rattle.op_table.specs.Op.{are_ascending}
use Rattle.op_table.specs.declared.kinds.OpKind.{OpKind}
use Rattle.op_table.specs.declared.kinds.OpKind.TheVariants.{Split, Move, Enter, Leave, Merge, Rot, GSwap, Item, Fence}
use Rattle.op_text.specs.Slots.{has_angle_form, is_long_angle}
use Rattle.op_text.specs.Operations.{Tail, kind_of, item_op, barrier_over, item_is_right, is_right}
use Rattle.transport_asm.specs.Texts.{RawData}
use Rattle.transport_asm.specs.Writable.{KeepsCondLimits, KeepsLimits, IsWritable, IsWritableChain, IsWritableRaw}
use Rattle.transport_asm.proofs.Fitting.{FitsGate, FitsOperand, FitsCond, no_tail, bit_tail, second_tail, FitsUnder, Head, FitsHead, FitsItem, FitsFence, FitsOp, FitsChain, FitsRaw}

-- ---- from words that are right

not_true : (t : Bool) → not t ≡ true → t ≡ false
not_true true e = absurd cc
not_true false e = refl

not_false : (t : Bool) → t ≡ false → not t ≡ true
not_false true e = absurd cc
not_false false e = refl

neither : (a b : Bool) → (a || b) ≡ false → (a ≡ false) × (b ≡ false)
neither true b e = absurd cc
neither false b e = (refl, e)

no_length : {A : Type 0} (xs : List A) → (length xs == 0) ≡ true → xs ≡ []
no_length [] e = refl
no_length (x ∷ xs) e = absurd (omega (arith, eqb-true (length (x ∷ xs)) 0 e))

angle_is : (a : List ℕ) → has_angle_form a ≡ true → is_long_angle a ≡ false → is_angle a ≡ true
angle_is [] form short = absurd cc
angle_is (c ∷ cs) form short =
    let parts = and_parts (not (length (c ∷ cs) == 0)) (list_all is_angle_byte (c ∷ cs)) form in
    rw (le_true 1 (length (c ∷ cs)) (omega arith), le_true (length (c ∷ cs)) 1024 (ltb-false 1024 (length (c ∷ cs)) short), parts.1) refl
  where
    le_true : (a b : ℕ) → a ≤ b → nat_le a b ≡ true
    le_true a b le = grind arith

angles_are : (angles : List (List ℕ)) → list_all has_angle_form angles ≡ true → list_any is_long_angle angles ≡ false → list_all is_angle angles ≡ true
angles_are [] form short = refl
angles_are (a ∷ angles) form short =
    let parts = and_parts (has_angle_form a) (list_all has_angle_form angles) form in
    let shorts = neither (is_long_angle a) (list_any is_long_angle angles) short in
    rw (angle_is a parts.0 shorts.0, angles_are angles parts.1 shorts.1) refl

-- the item of a head and a tail, with its kind
abbrev pub item_with : ItemKind → Head → Tail → ItemData
item_with kind head tail = record {
  kind = kind;
  name = head.1.0.name;
  angles = head.1.0.angles;
  qubits = head.1.1.1.0 ∷ map (λ q. q.0) tail.second;
  bits = tail.bits;
  cond = tail.cond;
}

-- a condition whose words are right keeps its rule and its limits
cond_is : (c : Option Cond) → FitsCond c → IsCond c × KeepsCondLimits c
cond_is None fits = (tt, tt)
cond_is (Some c) fits =
    let range = and_parts (nat_le 1 c.count && nat_le c.count 65535) (nat_le (c.first.0 + c.count) 65536) fits.1.0 in
    let small = and_parts (nat_le 1 c.count) (nat_le c.count 65535) range.0 in
    ((leb-true 1 c.count small.0, leb-true (c.first.0 + c.count) 65536 range.1), (leb-true c.count 65535 small.1, fits.1.1))

abbrev positions : Head → Tail → List ℕ
positions head tail = head.1.1.1.1 ∷ map (λ q. q.1) tail.second

item_fits : (kind : ItemKind) (head : Head) (tail : Tail) → FitsHead head → FitsCond tail.cond → FitsKind kind (item_with kind head tail) → are_distinct (item_with kind head tail).qubits ≡ true → Fits (item_with kind head tail)
item_fits kind head tail fits fits_cond is distinct = record {
  name = (fits.1.0.is_name, fits.1.0.short_name);
  angles = (angles_are head.1.0.angles fits.1.0.are_angles fits.1.0.none_long, fits.1.0.few);
  cond = (cond_is tail.cond fits_cond).0;
  distinct = distinct;
  kind = is;
}

-- what the kind asks for, and that the words keep the limits
record Ruled (kind : ItemKind) (head : Head) (tail : Tail) : Type 0 where
  no_barrier : kind ≢ Barrier
  lengths : length (positions head tail) ≡ length (item_with kind head tail).qubits
  fits : Fits (item_with kind head tail)
  qubits : AllByRecursion (λ q. q.0 ≤ 65535) (item_with kind head tail).qubits
  bits : AllByRecursion (λ b. b.0 ≤ 65535) tail.bits
  positions_are : AllByRecursion (λ p. p ≤ 255) (positions head tail)
  cond : KeepsCondLimits tail.cond

name_is : (name stated : List ℕ) → bytes_eq name stated ≡ true → name ≡ stated
name_is name stated e = (bytes_eq-Decides name stated).0 e

name_differs : (name stated : List ℕ) → bytes_eq name stated ≡ false → name ≢ stated
name_differs name stated e is = let f : true ≡ false = sym ((bytes_eq-Decides name stated).1 is) ∙ e in absurd cc

no_angles : (head : Head) → (length head.1.0.angles == 0) ≡ true → head.1.0.angles ≡ []
no_angles head e = no_length head.1.0.angles e

measure_ruled : (head : Head) (b : Bit) (c : Option Cond) → FitsHead head → FitsCond c → b.0 ≤ 65535 → bytes_eq head.1.0.name (codes "measure") ≡ true → (length head.1.0.angles == 0) ≡ true → Ruled Measure head (bit_tail b c)
measure_ruled head b c fits fc small is right = record {
  no_barrier = λ e. cc;
  lengths = refl;
  fits = item_fits Measure head (bit_tail b c) fits fc (refl, refl, no_angles head right, name_is head.1.0.name (codes "measure") is) refl;
  qubits = (fits.1.1.1.0, tt);
  bits = (small, tt);
  positions_are = (fits.1.1.1.1, tt);
  cond = (cond_is c fc).1;
}

reset_ruled : (head : Head) (c : Option Cond) → FitsHead head → FitsCond c → bytes_eq head.1.0.name (codes "reset") ≡ true → (length head.1.0.angles == 0) ≡ true → Ruled Reset head (no_tail c)
reset_ruled head c fits fc is right = record {
  no_barrier = λ e. cc;
  lengths = refl;
  fits = item_fits Reset head (no_tail c) fits fc (refl, refl, no_angles head right, name_is head.1.0.name (codes "reset") is) refl;
  qubits = (fits.1.1.1.0, tt);
  bits = tt;
  positions_are = (fits.1.1.1.1, tt);
  cond = (cond_is c fc).1;
}

gate_name : (name : List ℕ) → bytes_eq name (codes "measure") ≡ false → bytes_eq name (codes "reset") ≡ false → not (bytes_eq name (codes "barrier")) ≡ true → IsGateName name
gate_name name measure reset barrier = (name_differs name (codes "measure") measure, name_differs name (codes "reset") reset, name_differs name (codes "barrier") (not_true (bytes_eq name (codes "barrier")) barrier))

one_ruled : (head : Head) (c : Option Cond) → FitsHead head → FitsCond c → IsGateName head.1.0.name → Ruled Gate1 head (no_tail c)
one_ruled head c fits fc is = record {
  no_barrier = λ e. cc;
  lengths = refl;
  fits = item_fits Gate1 head (no_tail c) fits fc (refl, refl, is) refl;
  qubits = (fits.1.1.1.0, tt);
  bits = tt;
  positions_are = (fits.1.1.1.1, tt);
  cond = (cond_is c fc).1;
}

two_ruled : (head : Head) (q : Qubit × ℕ) (c : Option Cond) → FitsHead head → FitsCond c → FitsOperand q → IsGateName head.1.0.name → are_distinct (head.1.1.1.0 ∷ q.0 ∷ []) ≡ true → Ruled Gate2 head (second_tail q c)
two_ruled head q c fits fc small is distinct = record {
  no_barrier = λ e. cc;
  lengths = refl;
  fits = item_fits Gate2 head (second_tail q c) fits fc (refl, refl, is) distinct;
  qubits = (fits.1.1.1.0, (small.0, tt));
  bits = tt;
  positions_are = (fits.1.1.1.1, (small.1, tt));
  cond = (cond_is c fc).1;
}

-- the kind that the name and a second qubit make
kind_measure : (name : List ℕ) (second : List (Qubit × ℕ)) → bytes_eq name (codes "measure") ≡ true → kind_of name second ≡ Measure
kind_measure name second is = rw is refl

kind_reset : (name : List ℕ) (second : List (Qubit × ℕ)) → bytes_eq name (codes "measure") ≡ false → bytes_eq name (codes "reset") ≡ true → kind_of name second ≡ Reset
kind_reset name second is is' = rw (is, is') refl

kind_one : (name : List ℕ) → bytes_eq name (codes "measure") ≡ false → bytes_eq name (codes "reset") ≡ false → kind_of name [] ≡ Gate1
kind_one name is is' = rw (is, is') refl

kind_two : (name : List ℕ) (q : Qubit × ℕ) → bytes_eq name (codes "measure") ≡ false → bytes_eq name (codes "reset") ≡ false → kind_of name (q ∷ []) ≡ Gate2
kind_two name q is is' = rw (is, is') refl

-- of a kind that a head and a tail have
abbrev RuledBy : Head → Tail → Type 0
RuledBy head tail = Ruled (kind_of head.1.0.name tail.second) head tail

abbrev RightBy : ItemKind → Head → Tail → Type 0
RightBy kind head tail = item_is_right kind (item_with kind head tail) ≡ true

ruled : (head : Head) (tail : Tail) (c : Option Cond) → FitsHead head → FitsCond c → FitsUnder head.1.0.name c tail → RightBy (kind_of head.1.0.name tail.second) head tail → RuledBy head tail
ruled head tail c fits fc (inl (is, (b, (small, tail-is)))) right =
    let k = kind_measure head.1.0.name (bit_tail b c).second is in
    let right' : RightBy (kind_of head.1.0.name (bit_tail b c).second) head (bit_tail b c) = subst (λ (t : Tail). RightBy (kind_of head.1.0.name t.second) head t) tail-is right in
    let made = measure_ruled head b c fits fc small is (subst (λ (k : ItemKind). RightBy k head (bit_tail b c)) k right') in
    subst (λ (t : Tail). RuledBy head t) (sym tail-is) (subst (λ (k : ItemKind). Ruled k head (bit_tail b c)) (sym k) made)
ruled head tail c fits fc (inr (inl (is, (is', tail-is)))) right =
    let k = kind_reset head.1.0.name (no_tail c).second is is' in
    let right' : RightBy (kind_of head.1.0.name (no_tail c).second) head (no_tail c) = subst (λ (t : Tail). RightBy (kind_of head.1.0.name t.second) head t) tail-is right in
    let made = reset_ruled head c fits fc is' (subst (λ (k : ItemKind). RightBy k head (no_tail c)) k right') in
    subst (λ (t : Tail). RuledBy head t) (sym tail-is) (subst (λ (k : ItemKind). Ruled k head (no_tail c)) (sym k) made)
ruled head tail c fits fc (inr (inr (is, (is', inl tail-is)))) right =
    let k = kind_one head.1.0.name is is' in
    let right' : RightBy (kind_of head.1.0.name (no_tail c).second) head (no_tail c) = subst (λ (t : Tail). RightBy (kind_of head.1.0.name t.second) head t) tail-is right in
    let made = one_ruled head c fits fc (gate_name head.1.0.name is is' (subst (λ (k : ItemKind). RightBy k head (no_tail c)) k right')) in
    subst (λ (t : Tail). RuledBy head t) (sym tail-is) (subst (λ (k : ItemKind). Ruled k head (no_tail c)) (sym k) made)
ruled head tail c fits fc (inr (inr (is, (is', inr (q, (small, tail-is)))))) right =
    let k = kind_two head.1.0.name q is is' in
    let right' : RightBy (kind_of head.1.0.name (second_tail q c).second) head (second_tail q c) = subst (λ (t : Tail). RightBy (kind_of head.1.0.name t.second) head t) tail-is right in
    let two : RightBy Gate2 head (second_tail q c) = subst (λ (k : ItemKind). RightBy k head (second_tail q c)) k right' in
    let parts = and_parts (are_distinct (head.1.1.1.0 ∷ q.0 ∷ [])) (not (bytes_eq head.1.0.name (codes "barrier"))) two in
    let made = two_ruled head q c fits fc small (gate_name head.1.0.name is is' parts.1) parts.0 in
    subst (λ (t : Tail). RuledBy head t) (sym tail-is) (subst (λ (k : ItemKind). Ruled k head (second_tail q c)) (sym k) made)

pub item_writable : (op : OpKind) → FitsItem op → is_right op ≡ true → IsWritable op
item_writable op fits right =
    let right' : is_right (item_op fits.head fits.tail) ≡ true = subst (λ (o : OpKind). is_right o ≡ true) (sym fits.is) right in
    let r = ruled fits.head fits.tail fits.fits_tail.cond fits.fits_head fits.fits_tail.fits_cond fits.fits_tail.under right' in
    let made : IsWritable (item_op fits.head fits.tail) = record {
      is_op = (r.no_barrier, r.lengths);
      fits = r.fits;
      limits = (fits.fits_head.0, fits.fits_head.1.1.0, r.qubits, r.bits, r.positions_are, r.cond);
    } in
    subst IsWritable fits.is made

pub fence_writable : (op : OpKind) → FitsFence op → is_right op ≡ true → IsWritable op
fence_writable op fits right =
    let right' : is_right (Fence fits.number (barrier_over fits.qubits) (fits.first ∷ fits.more)) ≡ true = subst (λ (o : OpKind). is_right o ≡ true) (sym fits.is) right in
    let parts = and_parts (are_distinct fits.qubits) (are_ascending (fits.first ∷ fits.more)) right' in
    let made : IsWritable (Fence fits.number (barrier_over fits.qubits) (fits.first ∷ fits.more)) = record {
      is_op = (refl, omega arith, parts.1);
      fits = record { name = (refl, omega arith); angles = (refl, omega arith); cond = tt; distinct = parts.0; kind = (omega (arith, fits.some), refl, refl, refl, refl) };
      limits = (fits.small, (fits.fits_first, fits.fits_more), fits.fits_qubits);
    } in
    subst IsWritable fits.is made

pub writable : (op : OpKind) → FitsOp op → IsWritable op
writable (Split t e g) f = record { is_op = tt; fits = tt; limits = (f.fits.0, f.fits.1.1) }
writable (Move g) f = record { is_op = tt; fits = tt; limits = f.fits }
writable (Enter g j) f = record { is_op = tt; fits = tt; limits = f.fits }
writable (Leave j g) f = record { is_op = tt; fits = tt; limits = f.fits }
writable (Merge g t e) f = record { is_op = tt; fits = tt; limits = (f.fits.0, f.fits.1.0) }
writable (Rot t p) f = record { is_op = tt; fits = tt; limits = f.fits }
writable (GSwap t low high) f = record { is_op = ltb-true low high f.right; fits = tt; limits = (f.fits.0, f.fits.1.0, f.fits.1.1) }
writable (Item number t item at) f = item_writable (Item number t item at) f.fits f.right
writable (Fence number item traps) f = fence_writable (Fence number item traps) f.fits f.right

-- ---- and back

angle_back : (a : List ℕ) → is_angle a ≡ true → (has_angle_form a ≡ true) × (is_long_angle a ≡ false)
angle_back [] is = absurd cc
angle_back (c ∷ cs) is =
    let parts = and_parts (nat_le 1 (length (c ∷ cs)) && nat_le (length (c ∷ cs)) 1024) (list_all is_angle_byte (c ∷ cs)) is in
    let sizes = and_parts (nat_le 1 (length (c ∷ cs))) (nat_le (length (c ∷ cs)) 1024) parts.0 in
    (rw (ne_eqb (length (c ∷ cs)) 0 (λ e. absurd (omega arith)), parts.1) refl, le-ltb 1024 (length (c ∷ cs)) (leb-true (length (c ∷ cs)) 1024 sizes.1))

angles_back : (angles : List (List ℕ)) → list_all is_angle angles ≡ true → (list_all has_angle_form angles ≡ true) × (list_any is_long_angle angles ≡ false)
angles_back [] is = (refl, refl)
angles_back (a ∷ angles) is =
    let parts = and_parts (is_angle a) (list_all is_angle angles) is in
    let first = angle_back a parts.0 in
    let more = angles_back angles parts.1 in
    (rw (first.0, more.0) refl, rw (first.1, more.1) refl)

name_false : (name stated : List ℕ) → name ≢ stated → bytes_eq name stated ≡ false
name_false name stated differs = elim (cases_Bool (bytes_eq name stated)) [ inl is ↦ absurd (differs (name_is name stated is)) | inr is ↦ is ]

name_true : (name stated : List ℕ) → name ≡ stated → bytes_eq name stated ≡ true
name_true name stated is = (bytes_eq-Decides name stated).1 is

gate_back : (d : ItemData) → Fits d → FitsGate (record { name = d.name; angles = d.angles })
gate_back d fits =
    let angles = angles_back d.angles fits.angles.0 in
    record { is_name = fits.name.0; short_name = fits.name.1; are_angles = angles.0; none_long = angles.1; few = fits.angles.1 }

head_of : ℕ → ItemData → TrapId → Qubit × ℕ → Head
head_of number d t q = (number, (record { name = d.name; angles = d.angles }, (t, q)))

-- the parts of an item, as a list of conditions
record Back (number : ℕ) (t : TrapId) (d : ItemData) (at : List ℕ) : Type 0 where
  fits : FitsItem (Item number t d at)
  right : item_is_right d.kind d ≡ true

apart_measure_reset : (name : List ℕ) → name ≡ codes "reset" → bytes_eq name (codes "measure") ≡ false
apart_measure_reset name is = rw is refl

cond_back : (c : Option Cond) → IsCond c → KeepsCondLimits c → FitsCond c
cond_back None is limits = tt
cond_back (Some c) is limits = (omega (arith, is.0, is.1), (rw (le_true 1 c.count is.0, le_true c.count 65535 limits.0, le_true (c.first.0 + c.count) 65536 is.1) refl, limits.1))
  where
    le_true : (a b : ℕ) → a ≤ b → nat_le a b ≡ true
    le_true a b le = grind arith

parts_back : (number : ℕ) (t : TrapId) (kind : ItemKind) (name : List ℕ) (angles : List (List ℕ)) (q : Qubit) (p : ℕ) (second : List (Qubit × ℕ)) (bits : List Bit) (c : Option Cond)
    → FitsHead (number, (record { name = name; angles = angles }, (t, (q, p)))) → kind_of name second ≡ kind
    → FitsCond c → FitsUnder name c (record { second = second; bits = bits; cond = c })
    → item_is_right kind (record { kind = kind; name = name; angles = angles; qubits = q ∷ map (λ o. o.0) second; bits = bits; cond = c }) ≡ true
    → Back number t (record { kind = kind; name = name; angles = angles; qubits = q ∷ map (λ o. o.0) second; bits = bits; cond = c }) (p ∷ map (λ o. o.1) second)
parts_back number t kind name angles q p second bits c fits is fc under right = record {
  fits = record {
    head = (number, (record { name = name; angles = angles }, (t, (q, p))));
    tail = record { second = second; bits = bits; cond = c };
    is = ap (λ (k : ItemKind). Item number t (record { kind = k; name = name; angles = angles; qubits = q ∷ map (λ o. o.0) second; bits = bits; cond = c }) (p ∷ map (λ o. o.1) second)) is;
    fits_head = fits;
    fits_tail = record { cond = c; fits_cond = fc; under = under };
  };
  right = right;
}

-- ---- each kind of item

abbrev item_of : ItemKind → List ℕ → List (List ℕ) → List Qubit → List Bit → Option Cond → ItemData
item_of kind name angles qubits bits c = record { kind = kind; name = name; angles = angles; qubits = qubits; bits = bits; cond = c }

abbrev Turns : ℕ → TrapId → ItemKind → List ℕ → List (List ℕ) → List Qubit → List Bit → Option Cond → List ℕ → Type 0
Turns number t kind name angles qubits bits c at =
    Fits (item_of kind name angles qubits bits c) → KeepsLimits (Item number t (item_of kind name angles qubits bits c) at) → Back number t (item_of kind name angles qubits bits c) at

gate_one : (number : ℕ) (t : TrapId) (name : List ℕ) (angles : List (List ℕ)) (q : Qubit) (p : ℕ) (c : Option Cond) → Turns number t Gate1 name angles (q ∷ []) [] c (p ∷ [])
gate_one number t name angles q p c = λ fits limits.
    let measure = name_false name (codes "measure") fits.kind.2.0 in
    let reset = name_false name (codes "reset") fits.kind.2.1 in
    let barrier = name_false name (codes "barrier") fits.kind.2.2 in
    parts_back number t Gate1 name angles q p [] [] c (limits.0, (gate_back (item_of Gate1 name angles (q ∷ []) [] c) fits, (limits.1, (limits.2.0, limits.4.0)))) (kind_one name measure reset)
    (cond_back c fits.cond limits.5) (inr (inr (measure, (reset, inl refl)))) (not_false (bytes_eq name (codes "barrier")) barrier)

gate_two : (number : ℕ) (t : TrapId) (name : List ℕ) (angles : List (List ℕ)) (q r : Qubit) (p s : ℕ) (c : Option Cond) → Turns number t Gate2 name angles (q ∷ r ∷ []) [] c (p ∷ s ∷ [])
gate_two number t name angles q r p s c = λ fits limits.
    let measure = name_false name (codes "measure") fits.kind.2.0 in
    let reset = name_false name (codes "reset") fits.kind.2.1 in
    let barrier = not_false (bytes_eq name (codes "barrier")) (name_false name (codes "barrier") fits.kind.2.2) in
    parts_back number t Gate2 name angles q p ((r, s) ∷ []) [] c (limits.0, (gate_back (item_of Gate2 name angles (q ∷ r ∷ []) [] c) fits, (limits.1, (limits.2.0, limits.4.0)))) (kind_two name (r, s) measure reset)
    (cond_back c fits.cond limits.5) (inr (inr (measure, (reset, inr ((r, s), ((limits.2.1.0, limits.4.1.0), refl)))))) (both (are_distinct (q ∷ r ∷ [])) (not (bytes_eq name (codes "barrier"))) fits.distinct barrier)
  where
    both : (a b : Bool) → a ≡ true → b ≡ true → (a && b) ≡ true
    both true true e f = refl
    both true false e f = absurd cc
    both false b e f = absurd cc

measured : (number : ℕ) (t : TrapId) (name : List ℕ) (angles : List (List ℕ)) (q : Qubit) (b : Bit) (p : ℕ) (c : Option Cond) → Turns number t Measure name angles (q ∷ []) (b ∷ []) c (p ∷ [])
measured number t name angles q b p c = λ fits limits.
    let measure = name_true name (codes "measure") fits.kind.3 in
    parts_back number t Measure name angles q p [] (b ∷ []) c (limits.0, (gate_back (item_of Measure name angles (q ∷ []) (b ∷ []) c) fits, (limits.1, (limits.2.0, limits.4.0)))) (kind_measure name [] measure)
    (cond_back c fits.cond limits.5) (inl (measure, (b, (limits.3.0, refl)))) (ap (λ (angles : List (List ℕ)). length angles == 0) fits.kind.2)

reset_one : (number : ℕ) (t : TrapId) (name : List ℕ) (angles : List (List ℕ)) (q : Qubit) (p : ℕ) (c : Option Cond) → Turns number t Reset name angles (q ∷ []) [] c (p ∷ [])
reset_one number t name angles q p c = λ fits limits.
    let measure = apart_measure_reset name fits.kind.3 in
    let reset = name_true name (codes "reset") fits.kind.3 in
    parts_back number t Reset name angles q p [] [] c (limits.0, (gate_back (item_of Reset name angles (q ∷ []) [] c) fits, (limits.1, (limits.2.0, limits.4.0)))) (kind_reset name [] measure reset)
    (cond_back c fits.cond limits.5) (inr (inl (measure, (reset, refl)))) (ap (λ (angles : List (List ℕ)). length angles == 0) fits.kind.2)

one_each : (qubits : List Qubit) (at : List ℕ) → length qubits ≡ 1 → length at ≡ length qubits → (P : List Qubit → List ℕ → Type 0) → ((q : Qubit) (p : ℕ) → P (q ∷ []) (p ∷ [])) → P qubits at
one_each [] at one same P made = absurd (omega arith)
one_each (q ∷ r ∷ qubits) at one same P made = absurd (omega arith)
one_each (q ∷ []) [] one same P made = absurd (omega arith)
one_each (q ∷ []) (p ∷ s ∷ at) one same P made = absurd (omega arith)
one_each (q ∷ []) (p ∷ []) one same P made = made q p

two_each : (qubits : List Qubit) (at : List ℕ) → length qubits ≡ 2 → length at ≡ length qubits → (P : List Qubit → List ℕ → Type 0) → ((q r : Qubit) (p s : ℕ) → P (q ∷ r ∷ []) (p ∷ s ∷ [])) → P qubits at
two_each [] at two same P made = absurd (omega arith)
two_each (q ∷ []) at two same P made = absurd (omega arith)
two_each (q ∷ r ∷ u ∷ qubits) at two same P made = absurd (omega arith)
two_each (q ∷ r ∷ []) [] two same P made = absurd (omega arith)
two_each (q ∷ r ∷ []) (p ∷ []) two same P made = absurd (omega arith)
two_each (q ∷ r ∷ []) (p ∷ s ∷ v ∷ at) two same P made = absurd (omega arith)
two_each (q ∷ r ∷ []) (p ∷ s ∷ []) two same P made = made q r p s

one_bit : (bits : List Bit) → length bits ≡ 1 → (P : List Bit → Type 0) → ((b : Bit) → P (b ∷ [])) → P bits
one_bit [] one P made = absurd (omega arith)
one_bit (b ∷ []) one P made = made b
one_bit (b ∷ a ∷ bits) one P made = absurd (omega arith)

by_kind : (number : ℕ) (t : TrapId) (kind : ItemKind) (name : List ℕ) (angles : List (List ℕ)) (qubits : List Qubit) (bits : List Bit) (c : Option Cond) (at : List ℕ) → kind ≢ Barrier → length at ≡ length qubits
    → FitsKind kind (item_of kind name angles qubits bits c) → Turns number t kind name angles qubits bits c at
by_kind number t Gate1 name angles qubits bits c at no_barrier same is =
    subst (λ (bs : List Bit). Turns number t Gate1 name angles qubits bs c at) (sym is.1)
    (one_each qubits at is.0 same (λ qs ps. Turns number t Gate1 name angles qs [] c ps) (λ q p. gate_one number t name angles q p c))
by_kind number t Gate2 name angles qubits bits c at no_barrier same is =
    subst (λ (bs : List Bit). Turns number t Gate2 name angles qubits bs c at) (sym is.1)
    (two_each qubits at is.0 same (λ qs ps. Turns number t Gate2 name angles qs [] c ps) (λ q r p s. gate_two number t name angles q r p s c))
by_kind number t Measure name angles qubits bits c at no_barrier same is =
    one_bit bits is.1 (λ bs. Turns number t Measure name angles qubits bs c at)
    (λ b. one_each qubits at is.0 same (λ qs ps. Turns number t Measure name angles qs (b ∷ []) c ps) (λ q p. measured number t name angles q b p c))
by_kind number t Reset name angles qubits bits c at no_barrier same is =
    subst (λ (bs : List Bit). Turns number t Reset name angles qubits bs c at) (sym is.1)
    (one_each qubits at is.0 same (λ qs ps. Turns number t Reset name angles qs [] c ps) (λ q p. reset_one number t name angles q p c))
by_kind number t Barrier name angles qubits bits c at no_barrier same is = absurd (no_barrier refl)

item_back : (number : ℕ) (t : TrapId) (d : ItemData) (at : List ℕ) → IsWritable (Item number t d at) → Back number t d at
item_back number t d at is =
    by_kind number t d.kind d.name d.angles d.qubits d.bits d.cond at is.is_op.0 is.is_op.1 is.fits.kind is.fits is.limits

barrier_is : (d : ItemData) → d.kind ≡ Barrier → d.name ≡ codes "barrier" → d.angles ≡ [] → d.bits ≡ [] → d.cond ≡ None → barrier_over d.qubits ≡ d
barrier_is d kind name angles bits none =
    ap (λ (k : ItemKind). item_of k (codes "barrier") [] d.qubits [] None) (sym kind)
    ∙ ap (λ (n : List ℕ). item_of d.kind n [] d.qubits [] None) (sym name)
    ∙ ap (λ (a : List (List ℕ)). item_of d.kind d.name a d.qubits [] None) (sym angles)
    ∙ ap (λ (b : List Bit). item_of d.kind d.name d.angles d.qubits b None) (sym bits)
    ∙ ap (λ (c : Option Cond). item_of d.kind d.name d.angles d.qubits d.bits c) (sym none)

fence_back : (number : ℕ) (d : ItemData) (traps : List TrapId) → IsWritable (Fence number d traps) → FitsOp (Fence number d traps)
fence_back number d [] is = absurd (omega (arith, is.is_op.1))
fence_back number d (t ∷ traps) is =
    let asked = subst (λ (k : ItemKind). FitsKind k d) is.is_op.0 is.fits.kind in
    let whole = barrier_is d is.is_op.0 asked.3 asked.2 asked.1 asked.4 in
    record {
      fits = record {
        number = number;
        first = t;
        more = traps;
        qubits = d.qubits;
        is = ap (λ (item : ItemData). Fence number item (t ∷ traps)) whole;
        small = is.limits.0;
        fits_first = is.limits.1.0;
        fits_more = is.limits.1.1;
        some = omega (arith, asked.0);
        fits_qubits = is.limits.2;
      };
      right = both (are_distinct d.qubits) (are_ascending (t ∷ traps)) is.fits.distinct is.is_op.2;
    }
  where
    both : (a b : Bool) → a ≡ true → b ≡ true → (a && b) ≡ true
    both true true e f = refl
    both true false e f = absurd cc
    both false b e f = absurd cc

pub fitting : (op : OpKind) → IsWritable op → FitsOp op
fitting (Split t e g) is = record { fits = (is.limits.0, (tt, is.limits.1)); right = refl }
fitting (Move g) is = record { fits = is.limits; right = refl }
fitting (Enter g j) is = record { fits = is.limits; right = refl }
fitting (Leave j g) is = record { fits = is.limits; right = refl }
fitting (Merge g t e) is = record { fits = (is.limits.0, (is.limits.1, tt)); right = refl }
fitting (Rot t p) is = record { fits = is.limits; right = refl }
fitting (GSwap t low high) is = record { fits = (is.limits.0, (is.limits.1, is.limits.2)); right = lt-ltb low high is.is_op }
fitting (Item number t item at) is = let b = item_back number t item at is in record { fits = b.fits; right = b.right }
fitting (Fence number item traps) is = fence_back number item traps is

-- ---- whole programs

pub all_writable : (ops : List OpKind) → AllByRecursion FitsOp ops → AllByRecursion IsWritable ops
all_writable [] fits = tt
all_writable (op ∷ ops) fits = (writable op fits.0, all_writable ops fits.1)

pub all_fitting : (ops : List OpKind) → AllByRecursion IsWritable ops → AllByRecursion FitsOp ops
all_fitting [] are = tt
all_fitting (op ∷ ops) are = (fitting op are.0, all_fitting ops are.1)

chains_writable : (chains : List (List Ion)) → AllByRecursion FitsChain chains → AllByRecursion IsWritableChain chains
chains_writable [] fits = tt
chains_writable (chain ∷ chains) fits = ((fits.0.few, fits.0.ions), chains_writable chains fits.1)

chains_fitting : (chains : List (List Ion)) → AllByRecursion IsWritableChain chains → AllByRecursion FitsChain chains
chains_fitting [] are = tt
chains_fitting (chain ∷ chains) are = (record { few = are.0.0; ions = are.0.1 }, chains_fitting chains are.1)

pub raw_writable : (raw : RawData) → FitsRaw raw → IsWritableRaw raw
raw_writable raw fits = record { qubits = fits.qubits; bits = fits.bits; traps = fits.traps; chains = chains_writable raw.chains fits.chains; few_ops = fits.few_ops; ops = all_writable raw.ops fits.ops }

pub raw_fitting : (raw : RawData) → IsWritableRaw raw → FitsRaw raw
raw_fitting raw is = record { qubits = is.qubits; bits = is.bits; traps = is.traps; chains = chains_fitting raw.chains is.chains; few_ops = is.few_ops; ops = all_fitting raw.ops is.ops }
