-- Marks of the numbers that were mentioned.
use Rattle.std.proofs.Common.{◌≡◌, ℕ, ◌+◌, ◌-◌, ◌<◌, ◌==◌, Bool, true, false, ◌||◌, ◌⊎◌, inl, inr, List, [], ◌∷◌, ◌++◌, length, map, refl, sym, ap, ◌∙◌, arith}
use Rattle.std.specs.Prelude.{flat_map, get_or, if◌then◌else◌, suc}
use Rattle.std.specs.List.{list_any, range_with_len}
use Rattle.std.proofs.lemmas.Bool.{cases_eq, eq-eqb, ne_eqb, or_right}
use Rattle.std.proofs.lemmas.List.{append-nil, get_or-set_same, get_or-set_other}
use Rattle.std.proofs.lemmas.Grind.{flat_map-append}
use Rattle.qasm_reader.specs.declared.kinds.Operand.{Operand}
use Rattle.std.proofs.lemmas.List.Folds.{list_any-append}
use Rattle.std.proofs.Math.ListN.{set}
use Rattle.qccd_base.specs.Names.{qubit}
use Rattle.qccd_base.specs.declared.names.Qubit.{Qubit}
use Rattle.qasm_reader.specs.Operand.{with_mention, with_mentions}
use Rattle.qasm_reader.specs.Mentioned.{AreSeen, numbers}

-- with one more mark
pub marked : (marks : List Bool) (ns : List ℕ) (cell : ℕ) → cell < length marks → AreSeen marks ns → AreSeen (set marks cell true) (ns ++ cell ∷ [])
marked marks ns cell within seen n few = by_case (cases_eq n cell)
  where
    last : list_any (λ m. m == n) (ns ++ cell ∷ []) ≡ (list_any (λ m. m == n) ns || ((cell == n) || false))
    last = list_any-append (λ m. m == n) ns (cell ∷ [])

    by_case : (n ≡ cell) ⊎ (n ≡ cell → ⊥) → get_or (set marks cell true) n false ≡ list_any (λ m. m == n) (ns ++ cell ∷ [])
    by_case (inl same) =
        ap (λ (i : ℕ). get_or (set marks cell true) i false) same ∙ get_or-set_same marks cell true false within
        ∙ sym (last ∙ or_right _ _ (ap (λ (b : Bool). b || false) (eq-eqb cell n (sym same))))
    by_case (inr other) =
        get_or-set_other marks cell n true false other ∙ seen n few
        ∙ sym (last ∙ ap (λ (b : Bool). list_any (λ m. m == n) ns || (b || false)) (ne_eqb cell n (λ same. other (sym same))) ∙ or_nothing (list_any (λ m. m == n) ns))
      where
        or_nothing : (b : Bool) → (b || false) ≡ b
        or_nothing true = refl
        or_nothing false = refl

pub numbers_more : (qubits : List Qubit) (q : Qubit) → numbers (qubits ++ q ∷ []) ≡ numbers qubits ++ q.0 ∷ []
numbers_more [] q = refl
numbers_more (p ∷ qubits) q = ap (λ (ns : List ℕ). p.0 ∷ ns) (numbers_more qubits q)

-- mentions of two lists
pub mentions_append : (found xs ys : List ℕ) → with_mentions found (xs ++ ys) ≡ with_mentions (with_mentions found xs) ys
mentions_append found [] ys = refl
mentions_append found (x ∷ xs) ys = mentions_append (with_mention found x) xs ys

-- where a number is mentioned, and where not
pub mention_old : (found : List ℕ) (n : ℕ) → list_any (λ m. m == n) found ≡ true → with_mention found n ≡ found
mention_old found n is = ap (λ (b : Bool). if b then found else found ++ n ∷ []) is

pub mention_new : (found : List ℕ) (n : ℕ) → list_any (λ m. m == n) found ≡ false → with_mention found n ≡ found ++ n ∷ []
mention_new found n is = ap (λ (b : Bool). if b then found else found ++ n ∷ []) is

-- qubits by their numbers
pub qubits_of : (qubits : List Qubit) (ns : List ℕ) → numbers qubits ≡ ns → qubits ≡ map qubit ns
qubits_of qubits ns same = numbered qubits ∙ ap (map qubit) same
  where
    numbered : (qs : List Qubit) → qs ≡ map qubit (numbers qs)
    numbered [] = refl
    numbered (q ∷ qs) = ap (λ (more : List Qubit). q ∷ more) (numbered qs)

-- the first number of a range
pub range_next : (from to : ℕ) → from < to → range_with_len from (to - from) ≡ from ∷ range_with_len (from + 1) (to - (from + 1))
range_next from to below = ap (λ (n : ℕ). range_with_len from n) {x = to - from} {y = suc (to - (from + 1))} (omega (arith, below))

pub flat_map_more : (f : Operand → List ℕ) (os : List Operand) (o : Operand) → flat_map f (os ++ o ∷ []) ≡ flat_map f os ++ f o
flat_map_more f os o = flat_map-append f os (o ∷ []) ∙ ap (λ (ns : List ℕ). flat_map f os ++ ns) (append-nil (f o))
