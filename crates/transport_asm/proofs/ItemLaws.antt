-- The lines of items and of fences.
use Rattle.std.proofs.Common.{◌≡◌, ℕ, ◌+◌, ◌<◌, ◌≤◌, Bool, true, false, cond, ◌&&◌, List, [], ◌∷◌, ◌++◌, map, zip, length, decimal, codes, Result, Ok, Err, Option, Some, None, refl, sym, ap, ◌∙◌, subst, arith, inl, inr}
use Rattle.std.specs.Prelude.{bytes_eq, nat_le}
use Rattle.std.specs.List.{AllByRecursion}
use Rattle.std.proofs.lemmas.Slice.Eq.{bytes_eq-Decides}
use Rattle.std.proofs.lemmas.Bool.{and_parts, leb-true}
use Rattle.qccd_base.specs.declared.names.TrapId.{TrapId}
use Rattle.qccd_base.specs.declared.names.Qubit.{Qubit}
use Rattle.qccd_base.specs.declared.names.Bit.{Bit}
use Rattle.qccd_base.specs.Names.{qubit, bit}
use Rattle.qccd_circuit.specs.declared.kinds.Cond.{Cond}
use Rattle.op_table.specs.declared.kinds.OpKind.{OpKind}
use Rattle.op_table.specs.declared.kinds.OpKind.TheVariants.{Fence}
use Rattle.op_text.specs.OpText.{trap_text, qubit_text, bit_text, operand_text}
use Rattle.transport_asm.proofs.Fitting.{FitsGate, FitsOperand, FitsCond, tail_words, FitsUnder, FitsTail, Head, FitsHead, FitsItem, FitsQubit, FitsTrap, FitsFence}
use Rattle.op_text.specs.declared.kind.AsmKind.{AsmKind}
use Rattle.op_text.specs.declared.kind.AsmKind.TheVariants.{Word}
use Rattle.op_text.specs.Steps.{◌>>=◌}
use Rattle.op_text.specs.Slots.{number_slot, greatest, trap_slot, qubit_slot, bit_slot, count_slot, counted_from, is_count, value_slot, greatest_value, operand_slot, gate_slot}
use Rattle.op_text.specs.Shapes.{Reading, read_one, one, ◌▸◌}
use Rattle.op_text.specs.Operations.{Tail, cond_at, condition_at, cond_words, is_last, ends_item, second_at, tail_at, item_shape, item_op, item_at, qubits_at, begins_with, parts_at, barrier_over, fence_at, op_words}
use Rattle.transport_asm.proofs.SlotLaws.{bind_ok, ok_is, IsSlot, IsShape, EachPlain, one_law, both_law, number_law, trap_law, letter_law}
use Rattle.transport_asm.proofs.GateLaws.{gate_law, operand_law}

pub bit_law : IsSlot bit_slot (λ b. b.0 ≤ 65535)
bit_law = letter_law 98 65535 bit (λ b. b.0) (λ n. refl) (λ b. refl) (omega arith) refl

pub qubit_law : IsSlot qubit_slot (λ q. q.0 ≤ 65535)
qubit_law = letter_law 113 65535 qubit (λ q. q.0) (λ n. refl) (λ q. refl) (omega arith) refl

-- ---- conditions

count_takes : (first : Bit) (word : List ℕ) (n : ℕ) → (count_slot first).read word ≡ Ok n → (word ≡ decimal n) × (is_count first n ≡ true)
count_takes first word n e =
    let b = bind_ok ((number_slot greatest).read word) (counted_from first) n e in
    let t = (number_law greatest (omega arith)).takes word b.0 b.1 in
    by_test b.0 (is_count first b.0) refl b.2 t.0
  where
    by_test : (m : ℕ) (t : Bool) → is_count first m ≡ t → cond {A = Result ℕ AsmKind} t (Ok m) (Err Word) ≡ Ok n → word ≡ decimal m → (word ≡ decimal n) × (is_count first n ≡ true)
    by_test m true is e text = let same = ok_is m n e in (text ∙ ap decimal same, subst (λ (k : ℕ). is_count first k ≡ true) same is)
    by_test m false is e text = absurd cc

count_small : (first : Bit) (n : ℕ) → is_count first n ≡ true → n ≤ 65535
count_small first n is =
    let range = and_parts (nat_le 1 n && nat_le n 65535) (nat_le (first.0 + n) 65536) is in
    leb-true n 65535 (and_parts (nat_le 1 n) (nat_le n 65535) range.0).1

count_law : (first : Bit) → IsSlot (count_slot first) (λ n. is_count first n ≡ true)
count_law first = record {
  takes = count_takes first;
  again = λ n is. rw ((number_law greatest (omega arith)).again n (omega (arith, count_small first n is)), is) refl;
  plain = λ n is. (number_law greatest (omega arith)).plain n (omega (arith, count_small first n is));
}

value_law : IsSlot value_slot (λ v. v ≤ greatest_value)
value_law = number_law greatest_value (omega arith)

b_law : IsShape (one bit_slot) (λ b. b.0 ≤ 65535)
b_law = one_law bit_slot (λ b. b.0 ≤ 65535) bit_law

c_law : (first : Bit) → IsShape (one (count_slot first)) (λ n. is_count first n ≡ true)
c_law first = one_law (count_slot first) (λ n. is_count first n ≡ true) (count_law first)

v_law : IsShape (one value_slot) (λ v. v ≤ greatest_value)
v_law = one_law value_slot (λ v. v ≤ greatest_value) value_law

cond_takes : (words : List (List ℕ)) (c : Cond) (rest : List (List ℕ)) → cond_at words ≡ Ok (c, rest)
    → (words ≡ bit_text c.first ∷ decimal c.count ∷ decimal c.value ∷ rest) × FitsCond (Some c)
cond_takes words c rest e =
    let b = bind_ok (read_one bit_slot words) (λ b. read_one (count_slot b.0) b.1 >>= λ n. read_one value_slot n.1 >>= λ v. Ok (record { first = b.0; count = n.0; value = v.0 }, v.1)) (c, rest) e in
    let n = bind_ok (read_one (count_slot b.0.0) b.0.1) (λ n. read_one value_slot n.1 >>= λ v. Ok (record { first = b.0.0; count = n.0; value = v.0 }, v.1)) (c, rest) b.2 in
    let v = bind_ok (read_one value_slot n.0.1) (λ v. Ok (record { first = b.0.0; count = n.0.0; value = v.0 }, v.1)) (c, rest) n.2 in
    let x = b_law.takes words b.0.0 b.0.1 b.1 in
    let y = (c_law b.0.0).takes b.0.1 n.0.0 n.0.1 n.1 in
    let z = v_law.takes n.0.1 v.0.0 v.0.1 v.1 in
    let made : Cond = record { first = b.0.0; count = n.0.0; value = v.0.0 } in
    let are : words ≡ bit_text b.0.0 ∷ decimal n.0.0 ∷ decimal v.0.0 ∷ v.0.1 =
    x.0 ∙ ap (λ (ws : List (List ℕ)). bit_text b.0.0 ∷ ws) (y.0 ∙ ap (λ (ws : List (List ℕ)). decimal n.0.0 ∷ ws) z.0) in
    subst (λ (p : Cond × List (List ℕ)). (words ≡ bit_text p.0.first ∷ decimal p.0.count ∷ decimal p.0.value ∷ p.1) × FitsCond (Some p.0))
    (ok_is (made, v.0.1) (c, rest) v.2) (are, (x.1, (y.1, z.1)))

condition_takes : (words : List (List ℕ)) (c : Option Cond) (rest : List (List ℕ)) → condition_at words ≡ Ok (c, rest) → (words ≡ cond_words c ++ rest) × FitsCond c
condition_takes [] c rest e =
    subst (λ (p : Option Cond × List (List ℕ)). ([] ≡ cond_words p.0 ++ p.1) × FitsCond p.0) (ok_is (None, []) (c, rest) e) (refl, tt)
condition_takes (word ∷ more) c rest e = by_test (bytes_eq word (codes "if")) refl e
  where
    by_test : (t : Bool) → bytes_eq word (codes "if") ≡ t → cond {A = Reading (Option Cond)} t (cond_at more >>= λ c. Ok (Some c.0, c.1)) (Ok (None, word ∷ more)) ≡ Ok (c, rest)
        → (word ∷ more ≡ cond_words c ++ rest) × FitsCond c
    by_test true is e =
        let d = bind_ok (cond_at more) (λ c. Ok (Some c.0, c.1)) (c, rest) e in
        let t = cond_takes more d.0.0 d.0.1 d.1 in
        let named : word ≡ codes "if" = (bytes_eq-Decides word (codes "if")).0 is in
        subst (λ (p : Option Cond × List (List ℕ)). (word ∷ more ≡ cond_words p.0 ++ p.1) × FitsCond p.0) (ok_is (Some d.0.0, d.0.1) (c, rest) d.2)
        (ap (λ (w : List ℕ). w ∷ more) named ∙ ap (λ (ws : List (List ℕ)). codes "if" ∷ ws) t.0, t.1)
    by_test false is e =
        subst (λ (p : Option Cond × List (List ℕ)). (word ∷ more ≡ cond_words p.0 ++ p.1) × FitsCond p.0) (ok_is (None, word ∷ more) (c, rest) e) (refl, tt)

condition_again : (c : Option Cond) → FitsCond c → condition_at (cond_words c) ≡ Ok (c, [])
condition_again None fits = refl
condition_again (Some c) fits =
    rw (b_law.again c.first (decimal c.count ∷ decimal c.value ∷ []) fits.0, (c_law c.first).again c.count (decimal c.value ∷ []) fits.1.0, v_law.again c.value [] fits.1.1) refl

condition_plain : (c : Option Cond) → FitsCond c → EachPlain (cond_words c)
condition_plain None fits = tt
condition_plain (Some c) fits = (refl, (bit_law.plain c.first fits.0, ((count_law c.first).plain c.count fits.1.0, (value_law.plain c.value fits.1.1, tt))))

-- ---- what stands behind an item's first qubit

-- a condition is the last that was read
record Ended (second : List (Qubit × ℕ)) (bits : List Bit) (words : List (List ℕ)) (made : Tail) (rest : List (List ℕ)) : Type 0 where
  cond : Option Cond
  words_are : words ≡ cond_words cond ++ rest
  fits : FitsCond cond
  is : record { second = second; bits = bits; cond = cond } ≡ made

ends_ok : (second : List (Qubit × ℕ)) (bits : List Bit) (words : List (List ℕ)) (made : Tail) (rest : List (List ℕ)) → ends_item second bits words ≡ Ok (made, rest) → Ended second bits words made rest
ends_ok second bits words made rest e =
    let c = bind_ok (condition_at words) (λ c. Ok (record { second = second; bits = bits; cond = c.0 }, c.1)) (made, rest) e in
    let t = condition_takes words c.0.0 c.0.1 c.1 in
    let pair = ok_is (record { second = second; bits = bits; cond = c.0.0 }, c.0.1) (made, rest) c.2 in
    record {
      cond = c.0.0;
      words_are = t.0 ∙ ap (λ (p : Tail × List (List ℕ)). cond_words c.0.0 ++ p.1) pair;
      fits = t.1;
      is = ap (λ (p : Tail × List (List ℕ)). p.0) pair;
    }

ends_again : (second : List (Qubit × ℕ)) (bits : List Bit) (c : Option Cond) → FitsCond c → ends_item second bits (cond_words c) ≡ Ok (record { second = second; bits = bits; cond = c }, [])
ends_again second bits c fits = rw (condition_again c fits) refl

-- no operand is the word of a condition
last_words : (c : Option Cond) → is_last (cond_words c) ≡ true
last_words None = refl
last_words (Some c) = refl

operand_follows : (q : Qubit × ℕ) (ws : List (List ℕ)) → is_last (operand_text q ∷ ws) ≡ false
operand_follows q ws = refl

second_takes : (name : List ℕ) (words : List (List ℕ)) (tail : Tail) (rest : List (List ℕ)) → bytes_eq name (codes "measure") ≡ false → bytes_eq name (codes "reset") ≡ false
    → second_at words ≡ Ok (tail, rest) → (words ≡ tail_words tail ++ rest) × FitsTail name tail
second_takes name words tail rest measure reset e = by_test (is_last words) e
  where
    by_test : (t : Bool) → cond t (ends_item [] [] words) (read_one operand_slot words >>= λ q. ends_item (q.0 ∷ []) [] q.1) ≡ Ok (tail, rest) → (words ≡ tail_words tail ++ rest) × FitsTail name tail
    by_test true e =
        let u = ends_ok [] [] words tail rest e in
        subst (λ (v : Tail). (words ≡ tail_words v ++ rest) × FitsTail name v) u.is
        (u.words_are, record { cond = u.cond; fits_cond = u.fits; under = inr (inr (measure, (reset, inl refl))) })
    by_test false e =
        let q = bind_ok (read_one operand_slot words) (λ q. ends_item (q.0 ∷ []) [] q.1) (tail, rest) e in
        let t = (one_law operand_slot FitsOperand operand_law).takes words q.0.0 q.0.1 q.1 in
        let u = ends_ok (q.0.0 ∷ []) [] q.0.1 tail rest q.2 in
        subst (λ (v : Tail). (words ≡ tail_words v ++ rest) × FitsTail name v) u.is (
          t.0 ∙ ap (λ (ws : List (List ℕ)). operand_text q.0.0 ∷ ws) u.words_are,
          record { cond = u.cond; fits_cond = u.fits; under = inr (inr (measure, (reset, inr (q.0.0, (t.1, refl))))) },
        )

tail_takes : (name : List ℕ) (words : List (List ℕ)) (tail : Tail) (rest : List (List ℕ)) → tail_at name words ≡ Ok (tail, rest) → (words ≡ tail_words tail ++ rest) × FitsTail name tail
tail_takes name words tail rest e = by_name (bytes_eq name (codes "measure")) refl (bytes_eq name (codes "reset")) refl e
  where
    by_name : (m : Bool) → bytes_eq name (codes "measure") ≡ m → (r : Bool) → bytes_eq name (codes "reset") ≡ r
        → cond m (read_one bit_slot words >>= λ b. ends_item [] (b.0 ∷ []) b.1) (cond r (ends_item [] [] words) (second_at words)) ≡ Ok (tail, rest)
        → (words ≡ tail_words tail ++ rest) × FitsTail name tail
    by_name true is r is' e =
        let b = bind_ok (read_one bit_slot words) (λ b. ends_item [] (b.0 ∷ []) b.1) (tail, rest) e in
        let t = b_law.takes words b.0.0 b.0.1 b.1 in
        let u = ends_ok [] (b.0.0 ∷ []) b.0.1 tail rest b.2 in
        subst (λ (v : Tail). (words ≡ tail_words v ++ rest) × FitsTail name v) u.is (
          t.0 ∙ ap (λ (ws : List (List ℕ)). bit_text b.0.0 ∷ ws) u.words_are,
          record { cond = u.cond; fits_cond = u.fits; under = inl (is, (b.0.0, (t.1, refl))) },
        )
    by_name false is true is' e =
        let u = ends_ok [] [] words tail rest e in
        subst (λ (v : Tail). (words ≡ tail_words v ++ rest) × FitsTail name v) u.is
        (u.words_are, record { cond = u.cond; fits_cond = u.fits; under = inr (inl (is, (is', refl))) })
    by_name false is false is' e = second_takes name words tail rest is is' e

under_again : (name : List ℕ) (c : Option Cond) (tail : Tail) → FitsCond c → FitsUnder name c tail → tail_at name (tail_words tail) ≡ Ok (tail, [])
under_again name c tail fc (inl (is, (b, (fits, tail-is)))) = rw tail-is (rw (is, b_law.again b (cond_words c) fits, ends_again [] (b ∷ []) c fc) refl)
under_again name c tail fc (inr (inl (is, (is', tail-is)))) = rw tail-is (rw (is, is', ends_again [] [] c fc) refl)
under_again name c tail fc (inr (inr (is, (is', inl tail-is)))) = rw tail-is (rw (is, is', last_words c, ends_again [] [] c fc) refl)
under_again name c tail fc (inr (inr (is, (is', inr (q, (fits, tail-is)))))) =
    rw tail-is (rw (is, is', operand_follows q (cond_words c), (one_law operand_slot FitsOperand operand_law).again q (cond_words c) fits, ends_again (q ∷ []) [] c fc) refl)

tail_again : (name : List ℕ) (tail : Tail) → FitsTail name tail → tail_at name (tail_words tail) ≡ Ok (tail, [])
tail_again name tail fits = under_again name fits.cond tail fits.fits_cond fits.under

-- ---- items

head_law : IsShape item_shape FitsHead
head_law =
    both_law (one (number_slot greatest)) (one gate_slot ▸ (one trap_slot ▸ one operand_slot)) (λ n. n ≤ greatest) (λ v. FitsGate v.0 × ((v.1.0.0 ≤ 255) × FitsOperand v.1.1))
    (one_law (number_slot greatest) (λ n. n ≤ greatest) (number_law greatest (omega arith)))
    (both_law (one gate_slot) (one trap_slot ▸ one operand_slot) FitsGate (λ v. (v.0.0 ≤ 255) × FitsOperand v.1) (one_law gate_slot FitsGate gate_law)
    (both_law (one trap_slot) (one operand_slot) (λ t. t.0 ≤ 255) FitsOperand (one_law trap_slot (λ t. t.0 ≤ 255) trap_law) (one_law operand_slot FitsOperand operand_law)))

zip_parts : (qs : List (Qubit × ℕ)) → zip (map (λ q. q.0) qs) (map (λ q. q.1) qs) ≡ qs
zip_parts [] = refl
zip_parts (q ∷ qs) = ap (λ (xs : List (Qubit × ℕ)). q ∷ xs) (zip_parts qs)

item_words : (head : Head) (tail : Tail) → op_words (item_op head tail) ≡ codes "item" ∷ (item_shape.words head ++ tail_words tail)
item_words head tail =
    ap (λ (qs : List (Qubit × ℕ)). codes "item" ∷ (item_shape.words head ++ ((map operand_text qs ++ map bit_text tail.bits) ++ cond_words tail.cond))) (zip_parts tail.second)

pub item_takes : (words : List (List ℕ)) (op : OpKind) (rest : List (List ℕ)) → item_at words ≡ Ok (op, rest) → (codes "item" ∷ words ≡ op_words op ++ rest) × FitsItem op
item_takes words op rest e =
    let h = bind_ok (item_shape.read words) (λ head. tail_at head.0.1.0.name head.1 >>= λ tail. Ok (item_op head.0 tail.0, tail.1)) (op, rest) e in
    let t = bind_ok (tail_at h.0.0.1.0.name h.0.1) (λ tail. Ok (item_op h.0.0 tail.0, tail.1)) (op, rest) h.2 in
    let a = head_law.takes words h.0.0 h.0.1 h.1 in
    let b = tail_takes h.0.0.1.0.name h.0.1 t.0.0 t.0.1 t.1 in
    let made : codes "item" ∷ words ≡ op_words (item_op h.0.0 t.0.0) ++ t.0.1 =
    ap (λ (ws : List (List ℕ)). codes "item" ∷ ws) (a.0 ∙ ap (λ (ws : List (List ℕ)). item_shape.words h.0.0 ++ ws) b.0)
    ∙ ap (λ (ws : List (List ℕ)). ws ++ t.0.1) (sym (item_words h.0.0 t.0.0)) in
    let fits : FitsItem (item_op h.0.0 t.0.0) = record { head = h.0.0; tail = t.0.0; is = refl; fits_head = a.1; fits_tail = b.1 } in
    subst (λ (p : OpKind × List (List ℕ)). (codes "item" ∷ words ≡ op_words p.0 ++ p.1) × FitsItem p.0) (ok_is (item_op h.0.0 t.0.0, t.0.1) (op, rest) t.2) (made, fits)

pub item_again : (op : OpKind) → FitsItem op → (words : List (List ℕ)) × ((op_words op ≡ codes "item" ∷ words) × (item_at words ≡ Ok (op, [])))
item_again op fits = (
  item_shape.words fits.head ++ tail_words fits.tail,
  (
    ap op_words (sym fits.is) ∙ item_words fits.head fits.tail,
    rw (head_law.again fits.head (tail_words fits.tail) fits.fits_head, tail_again fits.head.1.0.name fits.tail fits.fits_tail) (ap (λ (o : OpKind). Ok (o, [])) fits.is),
  ),
)

-- ---- fences

q_law : IsShape (one qubit_slot) FitsQubit
q_law = one_law qubit_slot FitsQubit qubit_law

t_law : IsShape (one trap_slot) FitsTrap
t_law = one_law trap_slot FitsTrap trap_law

n_law : IsShape (one (number_slot greatest)) (λ n. n ≤ greatest)
n_law = one_law (number_slot greatest) (λ n. n ≤ greatest) (number_law greatest (omega arith))

pub qubits_take : (ws : List (List ℕ)) (qs : List Qubit) (rest : List (List ℕ)) → qubits_at ws ≡ Ok (qs, rest) → (ws ≡ map qubit_text qs ++ rest) × (rest ≡ []) × AllByRecursion FitsQubit qs
qubits_take [] qs rest e =
    subst (λ (p : List Qubit × List (List ℕ)). ([] ≡ map qubit_text p.0 ++ p.1) × (p.1 ≡ []) × AllByRecursion FitsQubit p.0) (ok_is ([], []) (qs, rest) e) (refl, refl, tt)
qubits_take (word ∷ more) qs rest e =
    let q = bind_ok (read_one qubit_slot (word ∷ more)) (λ q. qubits_at more >>= λ qs. Ok (q.0 ∷ qs.0, qs.1)) (qs, rest) e in
    let m = bind_ok (qubits_at more) (λ qs. Ok (q.0.0 ∷ qs.0, qs.1)) (qs, rest) q.2 in
    let t = q_law.takes (word ∷ more) q.0.0 q.0.1 q.1 in
    let u = qubits_take more m.0.0 m.0.1 m.1 in
    let heads : word ≡ qubit_text q.0.0 = cc in
    let made : word ∷ more ≡ qubit_text q.0.0 ∷ (map qubit_text m.0.0 ++ m.0.1) = ap (λ (w : List ℕ). w ∷ more) heads ∙ ap (λ (ws : List (List ℕ)). qubit_text q.0.0 ∷ ws) u.0 in
    subst (λ (p : List Qubit × List (List ℕ)). (word ∷ more ≡ map qubit_text p.0 ++ p.1) × (p.1 ≡ []) × AllByRecursion FitsQubit p.0) (ok_is (q.0.0 ∷ m.0.0, m.0.1) (qs, rest) m.2) (made, u.1, (t.1, u.2))

qubits_again : (qs : List Qubit) → AllByRecursion FitsQubit qs → qubits_at (map qubit_text qs) ≡ Ok (qs, [])
qubits_again [] fits = refl
qubits_again (q ∷ qs) fits = rw (q_law.again q (map qubit_text qs) fits.0, qubits_again qs fits.1) refl

fits_some : (qs : List Qubit) → Type 0
fits_some qs = (0 < length qs) × AllByRecursion FitsQubit qs

some_qubit : (word : List ℕ) (more : List (List ℕ)) (qs : List Qubit) → word ∷ more ≡ map qubit_text qs ++ [] → 0 < length qs
some_qubit word more [] e = absurd cc
some_qubit word more (q ∷ qs) e = omega arith

pub record PartsAre (ws : List (List ℕ)) (ts : List TrapId) (qs : List Qubit) (rest : List (List ℕ)) : Type 0 where
  pub words : ws ≡ (map trap_text ts ++ map qubit_text qs) ++ rest
  pub none : rest ≡ []
  pub traps : AllByRecursion FitsTrap ts
  pub some : 0 < length qs
  pub qubits : AllByRecursion FitsQubit qs

parts_take : (ws : List (List ℕ)) (ts : List TrapId) (qs : List Qubit) (rest : List (List ℕ)) → parts_at ws ≡ Ok ((ts, qs), rest) → PartsAre ws ts qs rest
parts_take [] ts qs rest e = absurd cc
parts_take (word ∷ more) ts qs rest e = by_test (begins_with 84 word) (parts_take more) e
  where
    by_test : (t : Bool) → ((ts : List TrapId) (qs : List Qubit) (rest : List (List ℕ)) → parts_at more ≡ Ok ((ts, qs), rest) → PartsAre more ts qs rest)
        → cond {A = Reading (List TrapId × List Qubit)} t (read_one trap_slot (word ∷ more) >>= λ t. parts_at more >>= λ rest. Ok ((t.0 ∷ rest.0.0, rest.0.1), rest.1)) (qubits_at (word ∷ more) >>= λ qs. Ok (([], qs.0), qs.1)) ≡ Ok ((ts, qs), rest)
        → PartsAre (word ∷ more) ts qs rest
    by_test true later e =
        let t = bind_ok (read_one trap_slot (word ∷ more)) (λ t. parts_at more >>= λ rest. Ok ((t.0 ∷ rest.0.0, rest.0.1), rest.1)) ((ts, qs), rest) e in
        let m = bind_ok (parts_at more) (λ rest. Ok ((t.0.0 ∷ rest.0.0, rest.0.1), rest.1)) ((ts, qs), rest) t.2 in
        let a = t_law.takes (word ∷ more) t.0.0 t.0.1 t.1 in
        let b = later m.0.0.0 m.0.0.1 m.0.1 m.1 in
        let heads : word ≡ trap_text t.0.0 = cc in
        let made : word ∷ more ≡ trap_text t.0.0 ∷ ((map trap_text m.0.0.0 ++ map qubit_text m.0.0.1) ++ m.0.1) = ap (λ (w : List ℕ). w ∷ more) heads ∙ ap (λ (ws : List (List ℕ)). trap_text t.0.0 ∷ ws) b.words in
        subst (λ (p : (List TrapId × List Qubit) × List (List ℕ)). PartsAre (word ∷ more) p.0.0 p.0.1 p.1) (ok_is ((t.0.0 ∷ m.0.0.0, m.0.0.1), m.0.1) ((ts, qs), rest) m.2)
        (record { words = made; none = b.none; traps = (a.1, b.traps); some = b.some; qubits = b.qubits })
    by_test false later e =
        let q = bind_ok (qubits_at (word ∷ more)) (λ qs. Ok (([], qs.0), qs.1)) ((ts, qs), rest) e in
        let u = qubits_take (word ∷ more) q.0.0 q.0.1 q.1 in
        let some = some_qubit word more q.0.0 (u.0 ∙ ap (λ (r : List (List ℕ)). map qubit_text q.0.0 ++ r) u.1) in
        subst (λ (p : (List TrapId × List Qubit) × List (List ℕ)). PartsAre (word ∷ more) p.0.0 p.0.1 p.1) (ok_is (([], q.0.0), q.0.1) ((ts, qs), rest) q.2)
        (record { words = u.0; none = u.1; traps = tt; some = some; qubits = u.2 })

parts_again : (ts : List TrapId) (qs : List Qubit) → AllByRecursion FitsTrap ts → 0 < length qs → AllByRecursion FitsQubit qs → parts_at (map trap_text ts ++ map qubit_text qs) ≡ Ok ((ts, qs), [])
parts_again [] [] traps some qubits = absurd (omega arith)
parts_again [] (q ∷ qs) traps some qubits = rw (q_law.again q (map qubit_text qs) qubits.0, qubits_again qs qubits.1) refl
parts_again (t ∷ ts) qs traps some qubits = rw (t_law.again t (map trap_text ts ++ map qubit_text qs) traps.0, parts_again ts qs traps.1 some qubits) refl

pub fence_takes : (words : List (List ℕ)) (op : OpKind) (rest : List (List ℕ)) → fence_at words ≡ Ok (op, rest) → (codes "fence" ∷ words ≡ op_words op ++ rest) × FitsFence op
fence_takes words op rest e =
    let n = bind_ok (read_one (number_slot greatest) words) (λ n. read_one trap_slot n.1 >>= λ first. parts_at first.1 >>= λ parts. Ok (Fence n.0 (barrier_over parts.0.1) (first.0 ∷ parts.0.0), parts.1)) (op, rest) e in
    let f = bind_ok (read_one trap_slot n.0.1) (λ first. parts_at first.1 >>= λ parts. Ok (Fence n.0.0 (barrier_over parts.0.1) (first.0 ∷ parts.0.0), parts.1)) (op, rest) n.2 in
    let p = bind_ok (parts_at f.0.1) (λ parts. Ok (Fence n.0.0 (barrier_over parts.0.1) (f.0.0 ∷ parts.0.0), parts.1)) (op, rest) f.2 in
    let a = n_law.takes words n.0.0 n.0.1 n.1 in
    let b = t_law.takes n.0.1 f.0.0 f.0.1 f.1 in
    let c = parts_take f.0.1 p.0.0.0 p.0.0.1 p.0.1 p.1 in
    let made_op : OpKind = Fence n.0.0 (barrier_over p.0.0.1) (f.0.0 ∷ p.0.0.0) in
    let made : codes "fence" ∷ words ≡ op_words made_op ++ p.0.1 =
    ap (λ (ws : List (List ℕ)). codes "fence" ∷ ws) (a.0 ∙ ap (λ (ws : List (List ℕ)). decimal n.0.0 ∷ ws) (b.0 ∙ ap (λ (ws : List (List ℕ)). trap_text f.0.0 ∷ ws) c.words)) in
    let fits : FitsFence made_op = record { number = n.0.0; first = f.0.0; more = p.0.0.0; qubits = p.0.0.1; is = refl; small = a.1; fits_first = b.1; fits_more = c.traps; some = c.some; fits_qubits = c.qubits } in
    subst (λ (v : OpKind × List (List ℕ)). (codes "fence" ∷ words ≡ op_words v.0 ++ v.1) × FitsFence v.0) (ok_is (made_op, p.0.1) (op, rest) p.2) (made, fits)

pub fence_again : (op : OpKind) → FitsFence op → (words : List (List ℕ)) × ((op_words op ≡ codes "fence" ∷ words) × (fence_at words ≡ Ok (op, [])))
fence_again op fits = (
  decimal fits.number ∷ trap_text fits.first ∷ (map trap_text fits.more ++ map qubit_text fits.qubits),
  (
    ap op_words (sym fits.is),
    rw (n_law.again fits.number (trap_text fits.first ∷ (map trap_text fits.more ++ map qubit_text fits.qubits)) fits.small, t_law.again fits.first (map trap_text fits.more ++ map qubit_text fits.qubits) fits.fits_first, parts_again fits.more fits.qubits fits.fits_more fits.some fits.fits_qubits)
        (ap (λ (o : OpKind). Ok (o, [])) fits.is),
  ),
)

-- ---- plain words

EachPlain-append : (ws vs : List (List ℕ)) → EachPlain ws → EachPlain vs → EachPlain (ws ++ vs)
EachPlain-append [] vs f g = g
EachPlain-append (w ∷ ws) vs f g = (f.0, EachPlain-append ws vs f.1 g)

traps_plain : (ts : List TrapId) → AllByRecursion FitsTrap ts → EachPlain (map trap_text ts)
traps_plain [] fits = tt
traps_plain (t ∷ ts) fits = (trap_law.plain t fits.0, traps_plain ts fits.1)

qubits_plain : (qs : List Qubit) → AllByRecursion FitsQubit qs → EachPlain (map qubit_text qs)
qubits_plain [] fits = tt
qubits_plain (q ∷ qs) fits = (qubit_law.plain q fits.0, qubits_plain qs fits.1)

pub fence_plain : (op : OpKind) → FitsFence op → EachPlain (op_words op)
fence_plain op fits =
    subst (λ (o : OpKind). EachPlain (op_words o)) fits.is
    (refl, ((number_law greatest (omega arith)).plain fits.number fits.small, (trap_law.plain fits.first fits.fits_first, EachPlain-append (map trap_text fits.more) (map qubit_text fits.qubits) (traps_plain fits.more fits.fits_more) (qubits_plain fits.qubits fits.fits_qubits))))

under_plain : (name : List ℕ) (c : Option Cond) (tail : Tail) → FitsCond c → FitsUnder name c tail → EachPlain (tail_words tail)
under_plain name c tail fc (inl (is, (b, (fits, tail-is)))) = rw tail-is (bit_law.plain b fits, condition_plain c fc)
under_plain name c tail fc (inr (inl (is, (is', tail-is)))) = rw tail-is (condition_plain c fc)
under_plain name c tail fc (inr (inr (is, (is', inl tail-is)))) = rw tail-is (condition_plain c fc)
under_plain name c tail fc (inr (inr (is, (is', inr (q, (fits, tail-is)))))) = rw tail-is (operand_law.plain q fits, condition_plain c fc)

tail_plain : (name : List ℕ) (tail : Tail) → FitsTail name tail → EachPlain (tail_words tail)
tail_plain name tail fits = under_plain name fits.cond tail fits.fits_cond fits.under

pub item_plain : (op : OpKind) → FitsItem op → EachPlain (op_words op)
item_plain op fits =
    subst (λ (o : OpKind). EachPlain (op_words o)) fits.is
    (subst (λ (ws : List (List ℕ)). EachPlain ws) (sym (item_words fits.head fits.tail))
    (refl, EachPlain-append (item_shape.words fits.head) (tail_words fits.tail) (head_law.plain fits.head fits.fits_head) (tail_plain fits.head.1.0.name fits.tail fits.fits_tail)))
