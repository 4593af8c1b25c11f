-- A qubit of a chain is brought to its end.
use Rattle.std.proofs.Common.{arith, ◌≡◌, ℕ, ◌+◌, true, List, [], ◌∷◌, ◌++◌, length, refl, sym, ◌∙◌, ap, subst, length-append}
use Rattle.std.specs.Prelude.{◌==◌, count_by}
use Rattle.qccd_base.specs.declared.names.Qubit.{Qubit}
use Rattle.qccd_base.specs.declared.names.End.{End}
use Rattle.qccd_base.specs.declared.names.Mode.{Mode}
use Rattle.qccd_machine.specs.Machine.{MachineData}
use Rattle.op_table.specs.State.{State}
use Rattle.op_table.specs.Step.{has_trap}
use Rattle.chain_reorder.specs.Ends.{BringsToEnd}
use Rattle.chain_reorder.specs.Layout.{Lies, settled, with_at}
use Rattle.chain_reorder.specs.Reorder.{to_end}
use Rattle.chain_reorder.proofs.Reorder.{Ends, onto, to_end_ends}

abbrev backwards : List Qubit → List Qubit
backwards [] = []
backwards (x ∷ xs) = backwards xs ++ x ∷ []

onto_last : (xs ys : List Qubit) (x : Qubit) → onto (xs ++ x ∷ []) ys ≡ x ∷ onto xs ys
onto_last [] ys x = refl
onto_last (z ∷ xs) ys x = onto_last xs (z ∷ ys) x

onto_backwards : (xs ys : List Qubit) → onto (backwards xs) ys ≡ xs ++ ys
onto_backwards [] ys = refl
onto_backwards (x ∷ xs) ys = onto_last (backwards xs) ys x ∙ ap (λ (zs : List Qubit). x ∷ zs) (onto_backwards xs ys)

as_long : (xs : List Qubit) → length (backwards xs) ≡ length xs
as_long [] = refl
as_long (x ∷ xs) = omega (arith, length-append (backwards xs) (x ∷ []), as_long xs)

pub brings_to_end : (m : MachineData) (s : State) (chains : ℕ → List Qubit) (t : ℕ) (q : Qubit) (front back : List Qubit) (end : End) (mode : Mode) → has_trap m t ≡ true → Lies s (settled (with_at t (front ++ q ∷ back) chains))
    → BringsToEnd m s chains t end q (front ++ back) (to_end t (length front + 1 + length back) (length front) end mode)
brings_to_end m s chains t q front back end mode there lies =
    let ends : Ends m s chains t end q (to_end t (length front + 1 + length back) (length front) end mode) (onto (backwards front) back) =
    to_end_ends m s chains t end mode q (backwards front) back (length front) (length front + 1 + length back) there (sym (as_long front)) (omega (arith, as_long front))
    (subst (λ (c : List Qubit). Lies s (settled (with_at t c chains))) (sym (onto_backwards front (q ∷ back))) lies) in
    record {
      run = ends.run;
      rest = ends.rest;
      lies = ends.lies;
      same = λ n. ends.same n ∙ ap (count_by (λ (x : Qubit). x.0 == n)) (onto_backwards front back);
    }
