-- One token of a reading.
use Rattle.std.proofs.Common.{◌≡◌, ℕ, Bool, true, false, not, List, [], ◌∷◌, Result, Ok, Err, refl, sym, ap, subst, ◌∙◌}
use Rattle.std.proofs.lemmas.Bool.{false≢true}
use Rattle.qccd_circuit.specs.Circuit.{CircuitData}
use Rattle.qasm_reader.specs.Lexeme.{Lexeme, is}
use Rattle.qasm_reader.specs.Check.{Check, Fault, unless}
use Rattle.qasm_reader.specs.Known.{Known}
use Rattle.qasm_reader.specs.Expected.{Expected, Next, step}
use Rattle.qasm_reader.specs.Statement.{NoneApplies}
use Rattle.qasm_reader.specs.Reading.{Answer, at_end, reads}

-- the answer behind a token
abbrev pub then_reads : ℕ → Next → List Lexeme → Answer
then_reads size r ls = elim r as (λ _. Answer) [ Ok n ↦ reads size n.0 n.1 ls | Err fault ↦ Err fault ]

pub reads_token : (size : ℕ) (k : Known) (p : Expected) (l : Lexeme) (ls : List Lexeme) → reads size k p (l ∷ ls) ≡ then_reads size (step k p l) ls
unfolding reads
reads_token size k p l ls = refl

pub reads_end : (size : ℕ) (k : Known) (p : Expected) → reads size k p [] ≡ at_end size k p
unfolding reads
reads_end size k p = refl

pub err_no_ok : {A B : Type 0} (e : B) (a : A) → Err e ≡ Ok a → ⊥
err_no_ok e a is = cc

-- where no check applies, the value comes; and where it comes, none applies
unless_one : {A : Type 0} (b : Bool) (f : Fault) (r s : Result A Fault) → b ≡ false → r ≡ s → elim b as (λ _. Result A Fault) [ true ↦ Err f | false ↦ r ] ≡ s
unless_one true f r s none is = absurd (false≢true (sym none))
unless_one false f r s none is = is

pub passes : {A : Type 0} (checks : List Check) (a : A) → NoneApplies checks → unless checks a ≡ Ok a
passes [] a none = refl
passes (c ∷ cs) a none = unless_one c.applies (record { at = c.at; kind = c.kind }) (unless cs a) (Ok a) none.0 (passes cs a none.1)

unless_was :
    {A : Type 0} (b : Bool) (f : Fault) (r : Result A Fault) (a : A) → elim b as (λ _. Result A Fault) [ true ↦ Err f | false ↦ r ] ≡ Ok a → (b ≡ false) × (r ≡ Ok a)
unless_was true f r a is = absurd (err_no_ok f a is)
unless_was false f r a is = (refl, is)

pub passed : {A : Type 0} (checks : List Check) (a b : A) → unless checks a ≡ Ok b → NoneApplies checks × (a ≡ b)
passed [] a b is = (tt, cc)
passed (c ∷ cs) a b is =
    let parts = unless_was c.applies (record { at = c.at; kind = c.kind }) (unless cs a) b is in
    let more = passed cs a b parts.1 in ((parts.0, more.0), more.1)

-- a token at which no check applies is gone past
pub goes_on :
    (size : ℕ) (k : Known) (p : Expected) (l : Lexeme) (ls : List Lexeme) (checks : List Check) (n : Known × Expected) → step k p l ≡ unless checks n → NoneApplies checks
    → reads size k p (l ∷ ls) ≡ reads size n.0 n.1 ls
goes_on size k p l ls checks n is none =
    reads_token size k p l ls ∙ ap (λ (r : Next). then_reads size r ls) (is ∙ passes checks n none)

-- and where a circuit was read, no check applied at the token
pub record Took (size : ℕ) (k : Known) (p : Expected) (ls : List Lexeme) (c : CircuitData) : Type 0 where
  pub l : Lexeme
  pub rest : List Lexeme
  pub is : ls ≡ l ∷ rest
  pub reads_so : then_reads size (step k p l) rest ≡ Ok c

pub took : (size : ℕ) (k : Known) (p : Expected) (ls : List Lexeme) (c : CircuitData) → (at_end size k p ≡ Ok c → ⊥) → reads size k p ls ≡ Ok c → Took size k p ls c
took size k p [] c no_end so = absurd (no_end (sym (reads_end size k p) ∙ so))
took size k p (l ∷ rest) c no_end so = record { l = l; rest = rest; is = refl; reads_so = sym (reads_token size k p l rest) ∙ so }

then_of : (size : ℕ) (r : Next) (ls : List Lexeme) (c : CircuitData) → then_reads size r ls ≡ Ok c → (n : Known × Expected) × (r ≡ Ok n) × (reads size n.0 n.1 ls ≡ Ok c)
then_of size (Ok n) ls c so = (n, refl, so)
then_of size (Err f) ls c so = absurd (err_no_ok f c so)

pub went_on :
    (size : ℕ) (r : Next) (ls : List Lexeme) (c : CircuitData) (checks : List Check) (n : Known × Expected) → r ≡ unless checks n → then_reads size r ls ≡ Ok c
    → NoneApplies checks × (reads size n.0 n.1 ls ≡ Ok c)
went_on size r ls c checks n is so =
    let parts = then_of size r ls c so in
    let none = passed checks n parts.0 (sym is ∙ parts.1) in
    (none.0, subst (λ (m : Known × Expected). reads size m.0 m.1 ls ≡ Ok c) (sym none.1) parts.2)

pub not_false : (b : Bool) → not b ≡ false → b ≡ true
not_false true is = refl
not_false false is = absurd (false≢true (sym is))

pub not_true : (b : Bool) → b ≡ true → not b ≡ false
not_true true is = refl
not_true false is = absurd (false≢true is)
