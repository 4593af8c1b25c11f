-- Each name is of one class, and the gates of its class are looked through.
use Rattle.std.proofs.Common.{◌≡◌, ℕ, cond, eqb, List, ◌++◌, length, true, sym, ap, ◌∙◌, arith}
use Rattle.std.specs.List.{filter}
use Rattle.std.proofs.lemmas.Bool.{cond-false, cond-true, eq-eqb, ne_eqb}
use Rattle.qasm_lex.specs.Runs.{begins}
use Rattle.gate_defs.specs.Gates.{always, gate_in, gate_of, included}
use Rattle.qasm_reader.proofs.GateRows.{in_class}
use Rattle.qasm_reader.proofs.gates.included_gate.Goals as goal

-- a name of one letter, one that begins with `c`, or another
abbrev class : List ℕ → ℕ
class name = cond (eqb (length name) 1) 0 (cond (begins (λ c. eqb c 99) name) 1 2)

among : (name : List ℕ) (n : ℕ) → class name ≡ n → gate_in (filter (λ g. eqb (class g.name) n) (always ++ included)) name ≡ gate_of true name
among name n is = ap (λ (m : ℕ). gate_in (filter (λ g. eqb (class g.name) m) (always ++ included)) name) (sym is)
    ∙ sym (in_class class (always ++ included) name)

pub returns-then-name-eq1 : goal.returns-then-name-eq1
returns-then-name-eq1 c =
    c.gate_in.ensures ∙ among c.args.name.now 0 (cond-true (eqb (length c.args.name.now) 1) 0 _ (eq-eqb _ _ (omega (arith, c.if-name-eq1.true))))

pub returns-then-begins_with_c : goal.returns-then-begins_with_c
returns-then-begins_with_c c =
    let name = c.args.name.now in
    c.gate_in-then-begins_with_c.ensures
    ∙ among name 1 (
    cond-false (eqb (length name) 1) 0 _ (ne_eqb _ _ (λ e. c.if-name-eq1.false (omega (arith, e))))
    ∙ cond-true (begins (λ c. eqb c 99) name) 1 2 (sym c.begins_with_c.ensures ∙ c.if-begins_with_c.true)
    )

pub returns-else-begins_with_c : goal.returns-else-begins_with_c
returns-else-begins_with_c c =
    let name = c.args.name.now in
    c.gate_in-else-begins_with_c.ensures
    ∙ among name 2 (
    cond-false (eqb (length name) 1) 0 _ (ne_eqb _ _ (λ e. c.if-name-eq1.false (omega (arith, e))))
    ∙ cond-false (begins (λ c. eqb c 99) name) 1 2 (sym c.begins_with_c.ensures ∙ c.if-begins_with_c.false)
    )
