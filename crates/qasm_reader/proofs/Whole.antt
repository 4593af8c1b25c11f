-- A register's name that is the whole operand: what is told of it, and what stands behind it.
use Rattle.std.proofs.Common.{◌≡◌, ℕ, Bool, true, false, List, [], ◌∷◌, ◌++◌, Result, Ok, Err, refl, sym, ap, ◌∙◌}
use Rattle.std.specs.Prelude.{if◌then◌else◌}
use Rattle.qasm_reader.specs.declared.fault.QasmKind.TheVariants as kind
use Rattle.qasm_reader.specs.declared.kinds.Register.{Register}
use Rattle.qasm_reader.specs.Lexeme.{Lexeme}
use Rattle.qasm_reader.specs.Check.{Check, Fault, wrong, unless}
use Rattle.qasm_reader.specs.Known.{Known, circuit_of}
use Rattle.qasm_reader.specs.Expected.{Expected, Next, Role, behind, behind_name, index, behind_operand_at, operand_done, operand_last, whole_of}
use Rattle.qasm_reader.specs.Reading.{Answer, reads}
use Rattle.qasm_reader.proofs.Steps.{then_reads, reads_token, reads_end}
use Rattle.qasm_reader.proofs.Accepts.{begins_open, end_behind, step_behind}

abbrev bind : {A : Type 0} → Next → (Known × Expected → Result A Fault) → Result A Fault
bind {A = A} d go = elim d as (λ _. Result A Fault) [ Ok n ↦ go n | Err f ↦ Err f ]

-- the checks of two lists, one behind the other
ended :
    {A : Type 0} (checks more : List Check) (n : Known × Expected) (a : A) (go : Known × Expected → Result A Fault) → go n ≡ unless more a
    → unless (checks ++ more) a ≡ bind (unless checks n) go
ended [] more n a go same = sym same
ended {A = A} (c ∷ checks) more n a go same = by_test c.applies (ended checks more n a go same)
  where
    fault : Fault
    fault = record { at = c.at; kind = c.kind }

    by_test :
        (t : Bool) → unless (checks ++ more) a ≡ bind (unless checks n) go → elim t as (λ _. Result A Fault) [ true ↦ Err fault | false ↦ unless (checks ++ more) a ]
        ≡ bind (elim t as (λ _. Next) [ true ↦ Err fault | false ↦ unless checks n ]) go
    by_test true more_of = refl
    by_test false more_of = more_of

-- what comes behind where no check applies
settled :
    (checks : List Check) (n : Known × Expected) (one : Known × Expected → Next) (size : ℕ) (rest : List Lexeme) (go : Known × Expected → Answer) → then_reads size (one n) rest ≡ go n
    → then_reads size (bind (unless checks n) one) rest ≡ bind (unless checks n) go
settled [] n one size rest go same = same
settled (c ∷ checks) n one size rest go same = by_test c.applies (settled checks n one size rest go same)
  where
    fault : Fault
    fault = record { at = c.at; kind = c.kind }

    by_test :
        (t : Bool) → then_reads size (bind (unless checks n) one) rest ≡ bind (unless checks n) go → then_reads size (bind (elim t as (λ _. Next) [ true ↦ Err fault | false ↦ unless checks n ]) one) rest
        ≡ bind (elim t as (λ _. Next) [ true ↦ Err fault | false ↦ unless checks n ]) go
    by_test true more_of = refl
    by_test false more_of = more_of

-- behind a register's name, where no bracket follows, the register is the operand
pub whole_done :
    (size : ℕ) (k : Known) (role : Role) (at : ℕ) (r : Register) (rest : List Lexeme) → begins_open rest ≡ false
    → reads size k (behind_name role at r) rest ≡ then_reads size (operand_done k role at (whole_of r)) rest
whole_done size k role at r [] other =
    reads_end size k (behind_name role at r)
    ∙ ended (operand_last role at (whole_of r)) (wrong kind.Syntax size true ∷ []) (k, behind role (whole_of r)) (circuit_of k) (λ n. reads size n.0 n.1 [])
    (reads_end size k (behind role (whole_of r)) ∙ end_behind size k role (whole_of r))
whole_done size k role at r (l ∷ rest) other =
    reads_token size k (behind_name role at r) l rest
    ∙ ap (λ (b : Bool). then_reads size (if b then Ok (k, index role at r) else bind (operand_done k role at (whole_of r)) (λ n. behind_operand_at k role (whole_of r) l)) rest) other
    ∙ settled (operand_last role at (whole_of r)) (k, behind role (whole_of r)) (λ n. behind_operand_at k role (whole_of r) l) size rest (λ n. reads size n.0 n.1 (l ∷ rest))
    (ap (λ (d : Next). then_reads size d rest) (step_behind k role (whole_of r) l) ∙ sym (reads_token size k (behind role (whole_of r)) l rest))
