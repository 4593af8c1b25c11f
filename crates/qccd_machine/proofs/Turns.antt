-- The order of turns, and searches over some of them put together.
use Rattle.std.proofs.Common.{◌≡◌, ℕ, zero, suc, ◌+◌, ◌<◌, ◌⊎◌, inl, inr, cond, refl, sym, ◌∙◌, ap, subst, eqb, arith}
use Rattle.std.proofs.lemmas.Bool.{cases_lt, cases_order}
use Rattle.qccd_base.specs.declared.names.Res.TheVariants as res
use Rattle.qccd_machine.specs.declared.fault.PartKind.TheVariants.{Traps, Segments, Junctions}
use Rattle.qccd_machine.specs.declared.fault.MachineFault.{MachineFault}
use Rattle.qccd_machine.specs.declared.fault.MachineFault.TheVariants.{NoTrap, TooMany, Capacity, EndTaken, BadEnd, SelfJoined, JunctionDegree, NotConnected, TableRange, NoMemory}
use Rattle.qccd_machine.specs.Machine.{MachineData}
use Rattle.qccd_machine.specs.Fault.{Applies, Turn, turn, turn_of, IsEarlier, IsFirst}
use Rattle.qccd_machine.specs.Search.{at_counts, IsWithin, NoneWithin, IsFirstWithin}

-- a turn is earlier than another or it isn't
earlier_or_not : (a b : Turn) → IsEarlier a b ⊎ (IsEarlier a b → ⊥)
earlier_or_not a b =
    elim (cases_order a.check b.check) [
      | inl check_is ↦ elim (cases_order a.part b.part) [
        | inl part_is ↦ elim (cases_lt a.question b.question) [
          | inl less ↦ inl (inr (check_is, inr (part_is, less)))
          | inr more ↦ inr (λ e. omega arith)
        ]
        | inr parts ↦ elim parts [ inl less ↦ inl (inr (check_is, inl less)) | inr more ↦ inr (λ e. omega arith) ]
      ]
      | inr checks ↦ elim checks [ inl less ↦ inl (inl less) | inr more ↦ inr (λ e. omega arith) ]
    ]

-- what is earlier than a turn is earlier than what isn't earlier than that turn
earlier_still : (a b c : Turn) → IsEarlier a b → (IsEarlier c b → ⊥) → IsEarlier a c
earlier_still a b c first second = grind arith

-- one of some turns is one of more
widened : (from next last to this : Turn) → (IsEarlier next from → ⊥) → (IsEarlier to last → ⊥) → IsWithin next last this → IsWithin from to this
widened from next last to this in_front behind within = ((λ e. within.0 (earlier_still this from next e in_front)), earlier_still this last to within.1 behind)

-- nothing applies over two ranges of turns that meet
pub none_joined : (m : MachineData) (a b c : Turn) → NoneWithin m a b → NoneWithin m b c → NoneWithin m a c
none_joined m a b c before after fault within applies =
    elim (earlier_or_not (turn_of fault) b) [ inl e ↦ before fault (within.0, e) applies | inr later ↦ after fault (later, within.1) applies ]

-- the first of some turns is the first of more, where nothing applies at those before
pub first_widened : (m : MachineData) (from next last to : Turn) (fault : MachineFault) → (IsEarlier next from → ⊥) → (IsEarlier to last → ⊥)
    → NoneWithin m from next → IsFirstWithin m next last fault → IsFirstWithin m from to fault
first_widened m from next last to fault in_front behind before first = record {
  within = widened from next last to (turn_of fault) in_front behind first.within;
  applies = first.applies;
  none_earlier = none_joined m from next (turn_of fault) before first.none_earlier;
}

-- the first of some turns is the first of all, where nothing applies at those before
pub first_after : (m : MachineData) (from to : Turn) (fault : MachineFault) → NoneWithin m at_counts from → IsFirstWithin m from to fault → IsFirst m fault
first_after m from to fault before first = record {
  applies = first.applies;
  none_earlier = λ other earlier. none_joined m at_counts from (turn_of fault) before first.none_earlier other ((λ e. omega arith), earlier);
}

-- the fault of each question about a segment, and about a trap or a junction that may be out of reach
abbrev pub of_segment : ℕ → ℕ → MachineFault
of_segment zero s = BadEnd (record { 0 = s })
of_segment (suc zero) s = SelfJoined (record { 0 = s })
of_segment (suc (suc question)) s = EndTaken (record { 0 = s })

abbrev pub of_trap : ℕ → ℕ → MachineFault
of_trap zero t = NotConnected (res.Trap (record { 0 = t }))
of_trap (suc question) s = NotConnected (res.Seg (record { 0 = s }))

abbrev pub of_junction : ℕ → ℕ → MachineFault
of_junction zero j = NotConnected (res.Junc (record { 0 = j }))
of_junction (suc question) b = NotConnected (res.Bit (record { 0 = b }))

-- the fault of a turn
abbrev pub named : ℕ → ℕ → ℕ → MachineFault
named number part question =
    cond (eqb number 0) NoTrap
    (cond (eqb number 1) (TooMany Traps)
    (cond (eqb number 2) (TooMany Segments)
    (cond (eqb number 3) (TooMany Junctions)
    (cond (eqb number 4) (Capacity (record { 0 = part }))
    (cond (eqb number 5) (of_segment question part)
    (cond (eqb number 6) (JunctionDegree (record { 0 = part }))
    (cond (eqb number 7) (of_trap question part)
    (cond (eqb number 8) (of_junction question part)
    (cond (eqb number 9) (TableRange part) NoMemory)))))))))

-- each fault is that of its turn
pub named-turn_of : (fault : MachineFault) → named (turn_of fault).check (turn_of fault).part (turn_of fault).question ≡ fault
named-turn_of NoTrap = refl
named-turn_of (TooMany Traps) = refl
named-turn_of (TooMany Segments) = refl
named-turn_of (TooMany Junctions) = refl
named-turn_of (Capacity t) = refl
named-turn_of (BadEnd s) = refl
named-turn_of (SelfJoined s) = refl
named-turn_of (EndTaken s) = refl
named-turn_of (JunctionDegree j) = refl
named-turn_of (NotConnected (res.Trap t)) = refl
named-turn_of (NotConnected (res.Seg s)) = refl
named-turn_of (NotConnected (res.Junc j)) = refl
named-turn_of (NotConnected (res.Bit b)) = refl
named-turn_of (TableRange field) = refl
named-turn_of NoMemory = refl

pub applies_named : (m : MachineData) (fault : MachineFault) (number part : ℕ) → (turn_of fault).check ≡ number → (turn_of fault).part ≡ part → Applies m fault → Applies m (named number part (turn_of fault).question)
applies_named m fault number part check_is part_is applies =
    let e : fault ≡ named number part (turn_of fault).question = sym (named-turn_of fault) ∙ ap (λ c. named c (turn_of fault).part (turn_of fault).question) check_is ∙ ap (λ p. named number p (turn_of fault).question) part_is in
    subst (Applies m) e applies

-- no fault of one part applies
pub none_of_part : (m : MachineData) (number part : ℕ) → ((question : ℕ) → Applies m (named number part question) → ⊥) → NoneWithin m (turn number part 0) (turn number (part + 1) 0)
none_of_part m number part fails fault within applies =
    let check_is : (turn_of fault).check ≡ number = grind arith in
    let part_is : (turn_of fault).part ≡ part = grind arith in
    fails (turn_of fault).question (applies_named m fault number part check_is part_is applies)

-- no fault of the first questions about a part applies
pub none_of_questions : (m : MachineData) (number part count : ℕ) → ((question : ℕ) → question < count → Applies m (named number part question) → ⊥) → NoneWithin m (turn number part 0) (turn number part count)
none_of_questions m number part count fails fault within applies =
    let check_is : (turn_of fault).check ≡ number = grind arith in
    let part_is : (turn_of fault).part ≡ part = grind arith in
    let early : (turn_of fault).question < count = grind arith in
    fails (turn_of fault).question early (applies_named m fault number part check_is part_is applies)
