use Rattle.std.proofs.Common.{ℕ, ◌≤◌, Result, Ok, Err, IfErr, arith}
use Rattle.qccd_io.specs.declared.fetch.FetchFault.{FetchFault}
use Rattle.qccd_io.specs.declared.fetch.FetchFault.TheVariants.{ReadFault, TooLarge, NoMemory}
use Rattle.qccd_io.specs.Faults.{Rose}
use Rattle.qccd_io.specs.Fetch.{MatchFault}

-- a weaker fact for each fault
pub MatchFault-map :
    (e : FetchFault) (P R : Type 0) (Q S : ℕ → Type 0) → (P → R) → ((l : ℕ) → Q l → S l) → MatchFault e P Q
    → MatchFault e R S
MatchFault-map ReadFault P R Q S p q fact = p fact
MatchFault-map (TooLarge limit) P R Q S p q fact = q limit fact
MatchFault-map NoMemory P R Q S p q fact = tt

-- the same of a result
pub IfErr-map :
    {X : Type 0} (r : Result X FetchFault) (P R : Type 0) (Q S : ℕ → Type 0)
    → (P → R) → ((l : ℕ) → Q l → S l)
    → IfErr r (λ e. MatchFault e P Q) → IfErr r (λ e. MatchFault e R S)
IfErr-map (Ok x) P R Q S p q fact = tt
IfErr-map (Err e) P R Q S p q fact = MatchFault-map e P R Q S p q fact

-- a count that rose later rose from the start
pub Rose-from_later : (a b c : ℕ) → a ≤ b → b ≤ c → Rose b c → Rose a c
Rose-from_later a b c first second rose = λ below. grind (arith, rose)

-- the same of a fault
pub MatchFault-from_later :
    (e : FetchFault) (a b c : ℕ) (Q : ℕ → Type 0)
    → a ≤ b → b ≤ c → MatchFault e (Rose b c) (λ l. ⊥) → MatchFault e (Rose a c) Q
MatchFault-from_later ReadFault a b c Q first second rose = Rose-from_later a b c first second rose
MatchFault-from_later (TooLarge limit) a b c Q first second rose = absurd rose
MatchFault-from_later NoMemory a b c Q first second rose = tt
