-- No item of a circuit that is read is conditional.
use Rattle.std.proofs.Common.{◌≡◌, ℕ, Bool, true, false, if◌then◌else◌, List, [], ◌∷◌, ◌++◌, map, All, None, refl, sym, subst, codes}
use Rattle.std.specs.Prelude.{flat_map}
use Rattle.std.specs.Str.{bytes_eq}
use Rattle.std.specs.List.{AllByRecursion, range_with_len}
use Rattle.std.proofs.lemmas.List.Elements.{All-from_recursion}
use Rattle.qccd_base.specs.Names.{qubit}
use Rattle.qccd_base.specs.declared.names.Qubit.{Qubit}
use Rattle.qccd_circuit.specs.Circuit.{CircuitData}
use Rattle.qccd_circuit.specs.Item.{ItemData}
use Rattle.qasm_reader.specs.declared.kinds.RegisterKind.{RegisterKind}
use Rattle.qasm_reader.specs.declared.kinds.RegisterKind.TheVariants.{Quantum, Classical}
use Rattle.qasm_reader.specs.Expected.{Role, of_gate, of_left, of_right, of_reset, of_barrier, listed_items}
use Rattle.gate_defs.specs.Gates.{Gate}
use Rattle.gate_defs.specs.Items.{ccx_items, cswap_items, cx}
use Rattle.qasm_reader.specs.Gates.{applied}
use Rattle.qasm_reader.specs.Known.{Known, nothing, with_register, with_items}
use Rattle.qasm_reader.specs.Lexeme.{Lexeme}
use Rattle.qasm_reader.specs.Operand.{cell_of, times, measure_item, reset_item}
use Rattle.qasm_reader.specs.Reading.{IsCircuitOf}
use Rattle.qasm_reader.specs.Statement.{Statement, Statements}
use Rattle.qasm_reader.specs.Statement as row

abbrev AreFree : List ItemData → Type 0
AreFree items = AllByRecursion (λ d. d.cond ≡ None) items

both_free : (xs ys : List ItemData) → AreFree xs → AreFree ys → AreFree (xs ++ ys)
both_free [] ys first second = second
both_free (x ∷ xs) ys first second = (first.0, both_free xs ys first.1 second)

each_free : (f : ℕ → ItemData) → ((i : ℕ) → (f i).cond ≡ None) → (ns : List ℕ) → AreFree (map f ns)
each_free f each [] = tt
each_free f each (n ∷ ns) = (each n, each_free f each ns)

flat_free : (f : ℕ → List ItemData) → ((i : ℕ) → AreFree (f i)) → (ns : List ℕ) → AreFree (flat_map f ns)
flat_free f each [] = tt
flat_free f each (n ∷ ns) = both_free (f n) (flat_map f ns) (each n) (flat_free f each ns)

either_free : (b : Bool) (xs ys : List ItemData) → AreFree xs → AreFree ys → AreFree (if b then xs else ys)
either_free true xs ys first second = first
either_free false xs ys first second = second

ccx_free : (a b c : Qubit) → AreFree (ccx_items a b c None)
ccx_free a b c = (refl, (refl, (refl, (refl, (refl, (refl, (refl, (refl, (refl, (refl, (refl, (refl, (refl, (refl, (refl, tt)))))))))))))))

cswap_free : (a b c : Qubit) → AreFree (cswap_items a b c None)
cswap_free a b c = (refl, both_free (ccx_items a b c None) (cx c b None ∷ []) (ccx_free a b c) (refl, tt))

applied_free : (g : Gate) (angles : List (List ℕ)) (on : List ℕ) → AreFree (applied g angles on)
applied_free g angles [] = tt
applied_free g angles (a ∷ []) = (refl, tt)
applied_free g angles (a ∷ b ∷ []) = (refl, tt)
applied_free g angles (a ∷ b ∷ c ∷ []) = either_free (bytes_eq g.name (codes "ccx")) (ccx_items (qubit a) (qubit b) (qubit c) None) (cswap_items (qubit a) (qubit b) (qubit c) None) (ccx_free (qubit a) (qubit b) (qubit c))
    (cswap_free (qubit a) (qubit b) (qubit c))
applied_free g angles (a ∷ b ∷ c ∷ d ∷ on) = tt

listed_free : (role : Role) → AreFree (listed_items role)
listed_free (of_gate call) =
    flat_free (λ i. applied call.gate call.angles (map (cell_of i) call.operands)) (λ i. applied_free call.gate call.angles (map (cell_of i) call.operands))
    (range_with_len 0 (times call.operands))
listed_free of_left = tt
listed_free (of_right left) = tt
listed_free of_reset = tt
listed_free (of_barrier os) = (refl, tt)

register_free : (k : Known) (kind : RegisterKind) (name : List ℕ) (size : ℕ) → AreFree k.items → AreFree (with_register k kind name size).items
register_free k Quantum name size free = free
register_free k Classical name size free = free

more_free : (k after : Known) (items : List ItemData) → after ≡ with_items k items → AreFree k.items → AreFree items → AreFree after.items
more_free k after items leaves free more = subst (λ (x : Known). AreFree x.items) (sym leaves) (both_free k.items items free more)

statement_free : (k after : Known) (ls : List Lexeme) → AreFree k.items → Statement k ls after → AreFree after.items
statement_free k after ls free (row.include s) = subst (λ (x : Known). AreFree x.items) (sym s.leaves) free
statement_free k after ls free (row.register kind s) =
    subst (λ (x : Known). AreFree x.items) (sym s.leaves) (register_free k kind _ _ free)
statement_free k after ls free (row.gate s) = more_free k after _ s.leaves free (listed_free s.done)
statement_free k after ls free (row.measure s) =
    more_free k after _ s.leaves free (each_free (λ i. measure_item (cell_of i s.a) (cell_of i s.b)) (λ i. refl) (range_with_len 0 (times (s.a ∷ []))))
statement_free k after ls free (row.reset s) =
    more_free k after _ s.leaves free (each_free (λ i. reset_item (cell_of i s.a)) (λ i. refl) (range_with_len 0 (times (s.a ∷ []))))
statement_free k after ls free (row.barrier s) = more_free k after _ s.leaves free (listed_free s.done)

statements_free : (k last : Known) (ls : List Lexeme) → AreFree k.items → Statements k ls last → AreFree last.items
statements_free k _ _ free row.none = free
statements_free k last _ free (row.next {rest = rest} front after one others) =
    statements_free after last rest (statement_free k after front free one) others

pub no_conditions : (text : List ℕ) (c : CircuitData) → IsCircuitOf text c → All (λ d. d.cond ≡ None) c.items
no_conditions text c i =
    let free = subst (λ (d : CircuitData). AreFree d.items) (sym i.circuit_is) (statements_free nothing i.last i.rest tt i.statements) in
    All-from_recursion (λ (d : ItemData). d.cond ≡ None) c.items free
