-- A qubit goes to an end of its chain.
use Rattle.std.proofs.Common.{◌≡◌, ℕ, zero, suc, ◌+◌, ◌-◌, ◌<◌, ◌≤◌, true, false, eqb, ltb, List, [], ◌∷◌, ◌++◌, map, length, refl, sym, ◌∙◌, ap, arith, Option, Some, None, inl, inr, subst, ◌⊎◌, length-append, append-nil}
use Rattle.std.specs.Prelude.{◌==◌, count_by, filter, slice_get}
use Rattle.std.proofs.lemmas.Bool.{cases_Bool, eqb-true, lt-ltb}
use Rattle.std.proofs.lemmas.Bool.Decides.{nat_tests}
use Rattle.qccd_base.specs.Names.{trap}
use Rattle.qccd_base.specs.declared.names.Qubit.{Qubit}
use Rattle.qccd_base.specs.declared.names.End.{End}
use Rattle.qccd_base.specs.declared.names.End.TheVariants.{Left, Right}
use Rattle.qccd_base.specs.declared.names.Mode.{Mode}
use Rattle.qccd_base.specs.declared.names.Mode.TheVariants.{IonSwap, GateSwap}
use Rattle.qccd_machine.specs.Machine.{MachineData}
use Rattle.op_table.specs.declared.kinds.OpKind.{OpKind}
use Rattle.op_table.specs.declared.kinds.OpKind.TheVariants.{Rot, GSwap}
use Rattle.op_table.specs.State.{State}
use Rattle.op_table.specs.Step.{why, effect, exchanged, has_trap}
use Rattle.op_table.specs.Run.{IsRun, after}
use Rattle.chain_reorder.specs.Layout.{Layout, Lies, with_at, joined, settled}
use Rattle.chain_reorder.specs.Reorder.{to_end, rots_down, rots_up}
use Rattle.chain_reorder.proofs.Lists.{count_by-cons}
use Rattle.chain_reorder.proofs.Steps.{lies_rotated}
use Rattle.chain_reorder.proofs.Swapping.{lies_swapped}
use Rattle.chain_reorder.proofs.Lists.{found, counted}
use Rattle.chain_reorder.proofs.Carried.{Carried, op_carried, swap_carried, no_swap}
use Rattle.op_table.specs.State.{Stand, is_at}
use Rattle.chain_reorder.specs.Layout.{listed}
use Rattle.chain_reorder.proofs.Legs.{lies_as, again}
use Rattle.chain_reorder.proofs.Steps.{at_own, eqb_same}

-- a list behind another that is read backwards
abbrev pub onto : {X : Type 0} → List X → List X → List X
onto [] ys = ys
onto (x ∷ xs) ys = onto xs (x ∷ ys)

-- ---- an exchange of two elements

at_middle : {X : Type 0} (b c : List X) (x : X) (k : ℕ) → k ≡ length b → slice_get (b ++ x ∷ c) k ≡ Some x
at_middle [] c x k is = rw is refl
at_middle (y ∷ b) c x zero is = absurd (omega arith)
at_middle (y ∷ b) c x (suc k) is = at_middle b c x k (omega arith)

not_middle : {X : Type 0} (b c : List X) (x y : X) (k : ℕ) → eqb k (length b) ≡ false → slice_get (b ++ x ∷ c) k ≡ slice_get (b ++ y ∷ c) k
not_middle [] c x y zero apart = cc
not_middle [] c x y (suc k) apart = refl
not_middle (z ∷ b) c x y zero apart = refl
not_middle (z ∷ b) c x y (suc k) apart = not_middle b c x y k (grind (nat_tests, arith))

-- reading one list at k is reading another at the exchanged index
abbrev pub Exchanges : {X : Type 0} → ℕ → ℕ → List X → List X → Type 0
Exchanges i j new old = (k : ℕ) → slice_get new k ≡ slice_get old (exchanged i j k)

front_exchanges : {X : Type 0} (b c : List X) (x y : X) (j : ℕ) → j ≡ 1 + length b → Exchanges 0 j (y ∷ (b ++ x ∷ c)) (x ∷ (b ++ y ∷ c))
front_exchanges b c x y j is zero = let next : j ≡ suc (length b) = omega arith in rw next (sym (at_middle b c y (length b) refl))
front_exchanges b c x y j is (suc k) = elim (cases_Bool (eqb k (length b))) [
  | inl at ↦
      let same : k ≡ length b = eqb-true k (length b) at in
      let here : exchanged 0 j (suc k) ≡ 0 = grind (nat_tests, arith) in
      rw here (at_middle b c x k same)
  | inr off ↦
      let apart : exchanged 0 j (suc k) ≡ suc k = grind (nat_tests, arith) in
      rw apart (not_middle b c x y k off)
]

next_exchanged : (i j k : ℕ) → exchanged (suc i) (suc j) (suc k) ≡ suc (exchanged i j k)
next_exchanged i j k = grind (nat_tests, arith)

onto_exchanges : {X : Type 0} (ra new old : List X) (i j i' j' : ℕ) → i' ≡ length ra + i → j' ≡ length ra + j → Exchanges i j new old → Exchanges i' j' (onto ra new) (onto ra old)
onto_exchanges [] new old i j i' j' is js each = let same_i : i' ≡ i = omega arith in let same_j : j' ≡ j = omega arith in rw (same_i, same_j) each
onto_exchanges (z ∷ ra) new old i j i' j' is js each = onto_exchanges ra (z ∷ new) (z ∷ old) (suc i) (suc j) i' j' (omega arith) (omega arith) further
  where
    further : Exchanges (suc i) (suc j) (z ∷ new) (z ∷ old)
    further zero = let first : exchanged (suc i) (suc j) 0 ≡ 0 = grind (nat_tests, arith) in rw first refl
    further (suc k) = rw (next_exchanged i j k) (each k)

length_onto : {X : Type 0} (ra ys : List X) → length (onto ra ys) ≡ length ra + length ys
length_onto [] ys = omega arith
length_onto (x ∷ ra) ys = length_onto ra (x ∷ ys) ∙ next (length ra) (length ys)
  where
    next : (m n : ℕ) → m + suc n ≡ suc m + n
    next m n = omega arith

-- the qubits at two positions of a chain
abbrev pub with_two : List Qubit → Qubit → List Qubit → Qubit → List Qubit → List Qubit
with_two ra x b y c = onto ra (x ∷ (b ++ y ∷ c))

two_exchanged : (ra b c : List Qubit) (x y : Qubit) (i j : ℕ) → i ≡ length ra → j ≡ length ra + 1 + length b → Exchanges i j (with_two ra y b x c) (with_two ra x b y c)
two_exchanged ra b c x y i j is js = onto_exchanges ra (y ∷ (b ++ x ∷ c)) (x ∷ (b ++ y ∷ c)) 0 (1 + length b) i j (omega arith) (omega arith) (front_exchanges b c x y (1 + length b) refl)

two_long : (ra b c : List Qubit) (x y : Qubit) → length (with_two ra x b y c) ≡ length ra + 2 + length b + length c
two_long ra b c x y = length_onto ra (x ∷ (b ++ y ∷ c)) ∙ ap (λ n. length ra + suc n) (length-append b (y ∷ c)) ∙ sum (length ra) (length b) (length c)
  where
    sum : (a b c : ℕ) → a + suc (b + suc c) ≡ a + 2 + b + c
    sum a b c = omega arith

-- ---- one operation

-- nothing is outside the traps, and trap t has this chain; the other chains are those of cs
abbrev pub Stands : State → (ℕ → List Qubit) → ℕ → List Qubit → Type 0
Stands s cs t chain = Lies s (settled (with_at t chain cs))

restated : (s : State) (cs : ℕ → List Qubit) (t : ℕ) (old new : List Qubit) → Lies s (settled (with_at t new (with_at t old cs))) → Stands s cs t new
restated s cs t old new lies = lies_as s (settled (with_at t new (with_at t old cs))) (settled (with_at t new cs)) lies (λ u. again t new old cs u) (λ g. refl) (λ j. refl)

chain_long : (s : State) (cs : ℕ → List Qubit) (t : ℕ) (chain : List Qubit) → with_at t chain cs t ≡ chain
chain_long s cs t chain = at_own t t chain cs (eqb_same t)

rotates : (m : MachineData) (s : State) (cs : ℕ → List Qubit) (t : ℕ) (ra c : List Qubit) (x y : Qubit) (i : ℕ) → i ≡ length ra → has_trap m t ≡ true → Stands s cs t (onto ra (x ∷ y ∷ c))
    → (why m s (Rot (trap t) i) ≡ None) × Stands (effect m s (Rot (trap t) i)) cs t (onto ra (y ∷ x ∷ c))
rotates m s cs t ra c x y i is there lies =
    let l : Layout = settled (with_at t (onto ra (x ∷ y ∷ c)) cs) in
    let own : l.chains t ≡ onto ra (x ∷ y ∷ c) = chain_long s cs t (onto ra (x ∷ y ∷ c)) in
    let long : length (l.chains t) ≡ length ra + 2 + 0 + length c = ap length own ∙ two_long ra [] c x y in
    let within : ltb (i + 1) (length (l.chains t)) ≡ true = lt-ltb (i + 1) (length (l.chains t)) (omega arith) in (
      rw (there, lies.counts t, within) refl,
      restated (effect m s (Rot (trap t) i)) cs t (onto ra (x ∷ y ∷ c)) (onto ra (y ∷ x ∷ c)) (lies_rotated s (effect m s (Rot (trap t) i)) l t i (i + 1) (onto ra (y ∷ x ∷ c)) refl lies
          (omega (arith, two_long ra [] c y x))
          (λ k. two_exchanged ra [] c x y i (i + 1) is (omega arith) k ∙ ap (λ d. slice_get d (exchanged i (i + 1) k)) (sym own))),
    )

gate_swaps : (m : MachineData) (s : State) (cs : ℕ → List Qubit) (t : ℕ) (ra b c : List Qubit) (x y : Qubit) (i j : ℕ) → i ≡ length ra → j ≡ length ra + 1 + length b → has_trap m t ≡ true → Stands s cs t (with_two ra x b y c)
    → (why m s (GSwap (trap t) i j) ≡ None) × Stands (effect m s (GSwap (trap t) i j)) cs t (with_two ra y b x c) × Carried s (effect m s (GSwap (trap t) i j))
gate_swaps m s cs t ra b c x y i j is js there lies =
    let l : Layout = settled (with_at t (with_two ra x b y c) cs) in
    let own : l.chains t ≡ with_two ra x b y c = chain_long s cs t (with_two ra x b y c) in
    let long : length (l.chains t) ≡ length ra + 2 + length b + length c = ap length own ∙ two_long ra b c x y in
    let within : ltb j (length (l.chains t)) ≡ true = lt-ltb j (length (l.chains t)) (omega arith) in
    let first : slice_get (l.chains t) i ≡ Some x = ap (λ d. slice_get d i) own ∙ reads_first ra b c x y i is in
    let second : slice_get (l.chains t) j ≡ Some y = ap (λ d. slice_get d j) own ∙ reads_second ra b c x y j js in
    let low : map (λ (w : Stand). w.qubit) (filter (λ (w : Stand). is_at t i w.place) s.ions) ≡ listed (Some x) = lies.chains t i ∙ ap listed first in
    let high : map (λ (w : Stand). w.qubit) (filter (λ (w : Stand). is_at t j w.place) s.ions) ≡ listed (Some y) = lies.chains t j ∙ ap listed second in
    let apart : eqb i j ≡ false = grind (nat_tests, arith) in
    let carried : Carried s (effect m s (GSwap (trap t) i j)) = swap_carried s (effect m s (GSwap (trap t) i j)) t i j x y refl apart
    (found (λ (w : Stand). w.qubit) (λ (w : Stand). is_at t i w.place) s.ions (Some x) low) (found (λ (w : Stand). w.qubit) (λ (w : Stand). is_at t j w.place) s.ions (Some y) high) low high
    (counted (λ (w : Stand). w.qubit) (λ (w : Stand). is_at t i w.place) s.ions (Some x) low) (counted (λ (w : Stand). w.qubit) (λ (w : Stand). is_at t j w.place) s.ions (Some y) high) in (
      rw (there, lies.counts t, within) refl,
      restated (effect m s (GSwap (trap t) i j)) cs t (with_two ra x b y c) (with_two ra y b x c) (lies_swapped s (effect m s (GSwap (trap t) i j)) l t i j x y (with_two ra y b x c) refl (omega arith) lies
          (ap (λ d. slice_get d i) own ∙ reads_first ra b c x y i is) (ap (λ d. slice_get d j) own ∙ reads_second ra b c x y j js)
          (omega (arith, two_long ra b c y x))
          (λ k. two_exchanged ra b c x y i j is js k ∙ ap (λ d. slice_get d (exchanged i j k)) (sym own))),
      carried,
    )
  where
    reads_onto : (ra ys : List Qubit) (k n : ℕ) (o : Option Qubit) → n ≡ length ra + k → slice_get ys k ≡ o → slice_get (onto ra ys) n ≡ o
    reads_onto [] ys k n o is h = let same : n ≡ k = omega arith in rw same h
    reads_onto (z ∷ ra) ys k n o is h = reads_onto ra (z ∷ ys) (suc k) n o (omega arith) h

    reads_first : (ra b c : List Qubit) (x y : Qubit) (i : ℕ) → i ≡ length ra → slice_get (with_two ra x b y c) i ≡ Some x
    reads_first ra b c x y i is = reads_onto ra (x ∷ (b ++ y ∷ c)) 0 i (Some x) (omega arith) refl

    reads_second : (ra b c : List Qubit) (x y : Qubit) (j : ℕ) → j ≡ length ra + 1 + length b → slice_get (with_two ra x b y c) j ≡ Some y
    reads_second ra b c x y j js = reads_onto ra (x ∷ (b ++ y ∷ c)) (suc (length b)) j (Some y) (omega arith) (at_middle b c y (length b) refl)

-- ---- the whole list

-- how many qubits of a list have a number
abbrev pub times_in : List Qubit → ℕ → ℕ
times_in chain n = count_by (λ (q : Qubit). q.0 == n) chain

-- these operations run, and leave qubit q at the end with the others of the chain, in some order
pub record Ends (m : MachineData) (s : State) (cs : ℕ → List Qubit) (t : ℕ) (end : End) (q : Qubit) (ops : List OpKind) (others : List Qubit) : Type 0 where
  pub run : IsRun m s ops
  pub rest : List Qubit
  pub lies : Stands (after m s ops) cs t (joined end q rest)
  pub long : length rest ≡ length others
  pub same : (n : ℕ) → times_in rest n ≡ times_in others n
  pub carried : Carried s (after m s ops)

first_op : (m : MachineData) (s : State) (cs : ℕ → List Qubit) (t : ℕ) (end : End) (q : Qubit) (op : OpKind) (ops : List OpKind) (others more : List Qubit) → no_swap op ≡ true → why m s op ≡ None → length more ≡ length others → ((n : ℕ) → times_in more n ≡ times_in others n)
    → Ends m (effect m s op) cs t end q ops more → Ends m s cs t end q (op ∷ ops) others
first_op m s cs t end q op ops others more plain legal long same ends = record {
  run = (legal, ends.run);
  rest = ends.rest;
  lies = ends.lies;
  long = ends.long ∙ long;
  same = λ n. ends.same n ∙ same n;
  carried = λ n. ends.carried n ∙ op_carried m s op plain n;
}

pub goes_down : (m : MachineData) (t : ℕ) (q : Qubit) (cs : ℕ → List Qubit) → has_trap m t ≡ true → (ra c : List Qubit) (s : State) (p : ℕ) → p ≡ length ra → Stands s cs t (onto ra (q ∷ c))
    → Ends m s cs t Left q (rots_down t p) (onto ra c)
goes_down m t q cs there [] c s p is lies = let none : p ≡ 0 = is in rw none (record { run = tt; rest = c; lies = lies; long = refl; same = λ n. refl; carried = λ n. refl })
goes_down m t q cs there (x ∷ ra) c s zero is lies = absurd (omega arith)
goes_down m t q cs there (x ∷ ra) c s (suc p) is lies =
    let at : p ≡ length ra = omega arith in
    let one : (why m s (Rot (trap t) p) ≡ None) × Stands (effect m s (Rot (trap t) p)) cs t (onto ra (q ∷ x ∷ c)) = rotates m s cs t ra c x q p at there lies in
    first_op m s cs t Left q (Rot (trap t) p) (rots_down t p) (onto ra (x ∷ c)) (onto ra (x ∷ c)) refl one.0 refl (λ n. refl)
    (goes_down m t q cs there ra (x ∷ c) (effect m s (Rot (trap t) p)) p at one.1)

goes_up : (m : MachineData) (t : ℕ) (q : Qubit) (cs : ℕ → List Qubit) → has_trap m t ≡ true → (c ra : List Qubit) (s : State) (p n : ℕ) → p ≡ length ra → n ≡ length c → Stands s cs t (onto ra (q ∷ c))
    → Ends m s cs t Right q (rots_up t p n) (onto ra c)
goes_up m t q cs there [] ra s p n is ns lies = let none : n ≡ 0 = ns in rw none (record {
  run = tt;
  rest = onto ra [];
  lies = subst (Stands s cs t) (last ra []) lies;
  long = refl;
  same = λ n. refl;
  carried = λ n. refl;
})
  where
    last : (ra xs : List Qubit) → onto ra (xs ++ q ∷ []) ≡ onto ra xs ++ q ∷ []
    last [] xs = refl
    last (x ∷ ra) xs = last ra (x ∷ xs)
goes_up m t q cs there (x ∷ c) ra s p zero is ns lies = absurd (omega arith)
goes_up m t q cs there (x ∷ c) ra s p (suc n) is ns lies =
    let one : (why m s (Rot (trap t) p) ≡ None) × Stands (effect m s (Rot (trap t) p)) cs t (onto ra (x ∷ q ∷ c)) = rotates m s cs t ra c q x p is there lies in
    first_op m s cs t Right q (Rot (trap t) p) (rots_up t (p + 1) n) (onto ra (x ∷ c)) (onto (x ∷ ra) c) refl one.0 refl (λ k. refl)
    (goes_up m t q cs there c (x ∷ ra) (effect m s (Rot (trap t) p)) (p + 1) n (omega arith) (omega arith) one.1)

-- ---- by one exchange of qubits

times_middle : (b c : List Qubit) (x : Qubit) (n : ℕ) → times_in (b ++ x ∷ c) n ≡ times_in (x ∷ (b ++ c)) n
times_middle [] c x n = refl
times_middle (y ∷ b) c x n = omega (arith, times_middle b c x n, count_by-cons (λ (q : Qubit). q.0 == n) y (b ++ x ∷ c), count_by-cons (λ (q : Qubit). q.0 == n) x (y ∷ (b ++ c)), count_by-cons (λ (q : Qubit). q.0 == n) y (b ++ c), count_by-cons (λ (q : Qubit). q.0 == n) x (b ++ c))

times_onto : (ra xs ys : List Qubit) (n : ℕ) → times_in xs n ≡ times_in ys n → times_in (onto ra xs) n ≡ times_in (onto ra ys) n
times_onto [] xs ys n same = same
times_onto (x ∷ ra) xs ys n same = times_onto ra (x ∷ xs) (x ∷ ys) n (omega (arith, count_by-cons (λ (q : Qubit). q.0 == n) x xs, count_by-cons (λ (q : Qubit). q.0 == n) x ys))

onto_append : (ra xs ys : List Qubit) → onto ra (xs ++ ys) ≡ onto ra xs ++ ys
onto_append [] xs ys = refl
onto_append (x ∷ ra) xs ys = onto_append ra (x ∷ xs) ys

last_of : (c : List Qubit) → (c ≡ []) ⊎ ((b : List Qubit) × (y : Qubit) × (c ≡ b ++ y ∷ []))
last_of [] = inl refl
last_of (x ∷ c) = elim (last_of c) [
  | inl none ↦ inr ([], x, ap (λ d. x ∷ d) none)
  | inr (b, y, is) ↦ inr (x ∷ b, y, ap (λ d. x ∷ d) is)
]

swaps_down : (m : MachineData) (t : ℕ) (q : Qubit) (cs : ℕ → List Qubit) → has_trap m t ≡ true → (ra front c : List Qubit) (s : State) (p : ℕ) → onto ra [] ≡ front → p ≡ length front → Stands s cs t (onto ra (q ∷ c))
    → Ends m s cs t Left q (to_end t 0 p Left GateSwap) (onto ra c)
swaps_down m t q cs there ra [] c s p fronts is lies =
    let none : p ≡ 0 = is in
    let chain : (ys : List Qubit) → onto ra ys ≡ ys = λ ys. onto_append ra [] ys ∙ ap (λ d. d ++ ys) fronts in
    rw none (record { run = tt; rest = c; lies = subst (Stands s cs t) (chain (q ∷ c)) lies; long = ap length (sym (chain c)); same = λ n. ap (λ d. times_in d n) (sym (chain c)); carried = λ n. refl })
swaps_down m t q cs there ra (x ∷ b) c s p fronts is lies =
    let chain : (ys : List Qubit) → onto ra ys ≡ x ∷ (b ++ ys) = λ ys. onto_append ra [] ys ∙ ap (λ d. d ++ ys) fronts in
    let some : eqb p 0 ≡ false = grind (nat_tests, arith) in
    let one : (why m s (GSwap (trap t) 0 p) ≡ None) × Stands (effect m s (GSwap (trap t) 0 p)) cs t (q ∷ (b ++ x ∷ c)) × Carried s (effect m s (GSwap (trap t) 0 p)) =
    gate_swaps m s cs t [] b c x q 0 p refl (is ∙ add_front (length b)) there (subst (Stands s cs t) (chain (q ∷ c)) lies) in
    rw some (record {
      run = (one.0, tt);
      rest = b ++ x ∷ c;
      lies = one.1;
      long = long b x c ∙ ap length (sym (chain c));
      same = λ n. times_middle b c x n ∙ ap (λ d. times_in d n) (sym (chain c));
      carried = one.2;
    })
  where
    add_front : (n : ℕ) → suc n ≡ 0 + 1 + n
    add_front n = omega arith

    long : (b : List Qubit) (x : Qubit) (c : List Qubit) → length (b ++ x ∷ c) ≡ length (x ∷ (b ++ c))
    long b x c = omega (arith, length-append b (x ∷ c), length-append b c)

swaps_up : (m : MachineData) (t : ℕ) (q : Qubit) (cs : ℕ → List Qubit) → has_trap m t ≡ true → (ra c : List Qubit) (s : State) (p n : ℕ) → p ≡ length ra → n ≡ length ra + 1 + length c → Stands s cs t (onto ra (q ∷ c))
    → Ends m s cs t Right q (to_end t n p Right GateSwap) (onto ra c)
swaps_up m t q cs there ra c s p n is ns lies = elim (last_of c) [
  | inl none ↦
      let empty : length c ≡ 0 = ap length none in
      let last : eqb (p + 1) n ≡ true = grind (nat_tests, arith) in
      rw last (record {
        run = tt;
        rest = onto ra [];
        lies = subst (Stands s cs t) (ap (λ d. onto ra (q ∷ d)) none ∙ onto_append ra [] (q ∷ [])) lies;
        long = ap (λ d. length (onto ra d)) (sym none);
        same = λ k. ap (λ d. times_in (onto ra d) k) (sym none);
        carried = λ k. refl;
      })
  | inr (b, y, ends) ↦
      let long : length c ≡ length b + 1 = ap length ends ∙ length-append b (y ∷ []) in
      let more : eqb (p + 1) n ≡ false = grind (nat_tests, arith) in
      let one : (why m s (GSwap (trap t) p (n - 1)) ≡ None) × Stands (effect m s (GSwap (trap t) p (n - 1))) cs t (onto ra (y ∷ (b ++ q ∷ []))) × Carried s (effect m s (GSwap (trap t) p (n - 1))) =
      gate_swaps m s cs t ra b [] q y p (n - 1) is (omega arith) there (subst (λ d. Stands s cs t (onto ra (q ∷ d))) ends lies) in
      rw more (record {
        run = (one.0, tt);
        rest = onto ra (y ∷ b);
        lies = subst (Stands (effect m s (GSwap (trap t) p (n - 1))) cs t) (onto_append ra (y ∷ b) (q ∷ [])) one.1;
        long = omega (arith, length_onto ra (y ∷ b), length_onto ra c);
        same = λ k. times_onto ra (y ∷ b) (b ++ y ∷ []) k (sym (times_middle b [] y k ∙ ap (λ d. times_in (y ∷ d) k) (append-nil b))) ∙ ap (λ d. times_in (onto ra d) k) (sym ends);
        carried = one.2;
      })
]

-- the operations of a reordering run, and bring the qubit to the end
pub to_end_ends : (m : MachineData) (s : State) (cs : ℕ → List Qubit) (t : ℕ) (end : End) (mode : Mode) (q : Qubit) (ra c : List Qubit) (p n : ℕ) → has_trap m t ≡ true → p ≡ length ra → n ≡ length ra + 1 + length c → Stands s cs t (onto ra (q ∷ c))
    → Ends m s cs t end q (to_end t n p end mode) (onto ra c)
to_end_ends m s cs t Left IonSwap q ra c p n there is ns lies = goes_down m t q cs there ra c s p is lies
to_end_ends m s cs t Right IonSwap q ra c p n there is ns lies = goes_up m t q cs there c ra s p (n - 1 - p) is (omega arith) lies
to_end_ends m s cs t Left GateSwap q ra c p n there is ns lies = swaps_down m t q cs there ra (onto ra []) c s p refl (omega (arith, length_onto ra [])) lies
to_end_ends m s cs t Right GateSwap q ra c p n there is ns lies = swaps_up m t q cs there ra c s p n is ns lies

down_long : (t p : ℕ) → length (rots_down t p) ≡ p
down_long t zero = refl
down_long t (suc p) = ap suc (down_long t p)

up_long : (t p n : ℕ) → length (rots_up t p n) ≡ n
up_long t p zero = refl
up_long t p (suc n) = ap suc (up_long t (p + 1) n)

-- with fewer operations than there are ions in the trap
pub to_end_short : (t n p : ℕ) (end : End) (mode : Mode) → p < n → length (to_end t n p end mode) ≤ n - 1
to_end_short t n p Left IonSwap within = omega (arith, down_long t p)
to_end_short t n p Right IonSwap within = omega (arith, up_long t p (n - 1 - p))
to_end_short t n p Left GateSwap within = elim (cases_Bool (eqb p 0)) [ inl own ↦ rw own (omega arith) | inr other ↦ let some : 1 ≤ n - 1 = grind (nat_tests, arith) in rw other some ]
to_end_short t n p Right GateSwap within = elim (cases_Bool (eqb (p + 1) n)) [ inl own ↦ rw own (omega arith) | inr other ↦ let some : 1 ≤ n - 1 = grind (nat_tests, arith) in rw other some ]
