-- Whether segments lead from one trap or junction to another, decided by one segment after another.
use Rattle.std.proofs.Common.{◌≡◌, ℕ, zero, suc, ◌⊎◌, inl, inr, List, [], ◌∷◌, Some, refl, sym, subst}
use Rattle.std.specs.Prelude.{slice_get}
use Rattle.std.proofs.lemmas.Option.{none-some, same_Some}
use Rattle.qccd_base.specs.declared.names.Res.{Res}
use Rattle.qccd_machine.specs.declared.place.Place.{Place}
use Rattle.qccd_machine.specs.Machine.{MachineData, Joins, Leads, IsReached, first_trap, site}
use Rattle.qccd_machine.proofs.Decided.{Decided, decided_both, decided_one, decided_same}
use Rattle.qccd_machine.proofs.Paths.{reached_along, reached_back}

-- these segments lead from a to b, each being used once at most: the first of them isn't used, or is
-- used from its end A to its end B, or from B to A
abbrev pub Linked : List (Place × Place) → Res → Res → Type 0
Linked [] a b = a ≡ b
Linked (ends ∷ more) a b = Linked more a b
    ⊎ ((Linked more a (site ends.0) × Linked more (site ends.1) b) ⊎ (Linked more a (site ends.1) × Linked more (site ends.0) b))

linked_or_not : (segments : List (Place × Place)) (a b : Res) → Decided (Linked segments a b)
linked_or_not [] a b = decided_same a b
linked_or_not (ends ∷ more) a b =
    let forth = decided_both (Linked more a (site ends.0)) (Linked more (site ends.1) b) (linked_or_not more a (site ends.0)) (linked_or_not more (site ends.1) b) in
    let back = decided_both (Linked more a (site ends.1)) (Linked more (site ends.0) b) (linked_or_not more a (site ends.1)) (linked_or_not more (site ends.0) b) in
    decided_one (Linked more a b) _ (linked_or_not more a b)
    (decided_one (Linked more a (site ends.0) × Linked more (site ends.1) b) (Linked more a (site ends.1) × Linked more (site ends.0) b) forth back)

linked_own : (segments : List (Place × Place)) (a : Res) → Linked segments a a
linked_own [] a = refl
linked_own (ends ∷ more) a = inl (linked_own more a)

-- a segment more at the end, from its end A to its end B and back
linked_along : (segments : List (Place × Place)) (s : ℕ) (ends : Place × Place) (a : Res) → slice_get segments s ≡ Some ends
    → Linked segments a (site ends.0) → Linked segments a (site ends.1)
linked_along [] s ends a is linked = absurd (none-some ends is)
linked_along (own ∷ more) zero ends a is linked =
    let same : own ≡ ends = same_Some own ends is in
    subst (λ (e : Place × Place). Linked (own ∷ more) a (site e.1)) same
    (elim (subst (λ (e : Place × Place). Linked (own ∷ more) a (site e.0)) (sym same) linked) [
      | inl unused ↦ inr (inl (unused, linked_own more (site own.1)))
      | inr used ↦ elim used [
        | inl forth ↦ inr (inl (forth.0, linked_own more (site own.1)))
        | inr back ↦ inl back.0
      ]
    ])
linked_along (own ∷ more) (suc s) ends a is linked = elim linked [
  | inl unused ↦ inl (linked_along more s ends a is unused)
  | inr used ↦ elim used [
    | inl forth ↦ inr (inl (forth.0, linked_along more s ends (site own.1) is forth.1))
    | inr back ↦ inr (inr (back.0, linked_along more s ends (site own.0) is back.1))
  ]
]

linked_back : (segments : List (Place × Place)) (s : ℕ) (ends : Place × Place) (a : Res) → slice_get segments s ≡ Some ends
    → Linked segments a (site ends.1) → Linked segments a (site ends.0)
linked_back [] s ends a is linked = absurd (none-some ends is)
linked_back (own ∷ more) zero ends a is linked =
    let same : own ≡ ends = same_Some own ends is in
    subst (λ (e : Place × Place). Linked (own ∷ more) a (site e.0)) same
    (elim (subst (λ (e : Place × Place). Linked (own ∷ more) a (site e.1)) (sym same) linked) [
      | inl unused ↦ inr (inr (unused, linked_own more (site own.0)))
      | inr used ↦ elim used [
        | inl forth ↦ inl forth.0
        | inr back ↦ inr (inr (back.0, linked_own more (site own.0)))
      ]
    ])
linked_back (own ∷ more) (suc s) ends a is linked = elim linked [
  | inl unused ↦ inl (linked_back more s ends a is unused)
  | inr used ↦ elim used [
    | inl forth ↦ inr (inl (forth.0, linked_back more s ends (site own.1) is forth.1))
    | inr back ↦ inr (inr (back.0, linked_back more s ends (site own.0) is back.1))
  ]
]

-- along a path
linked_joined : (m : MachineData) (s : ℕ) (a b c : Res) → Joins m s b c → Linked m.segments a b → Linked m.segments a c
linked_joined m s a b c (ends, is, sites) linked = elim sites [
  | inl forth ↦ subst (Linked m.segments a) forth.1 (linked_along m.segments s ends a is (subst (Linked m.segments a) (sym forth.0) linked))
  | inr back ↦ subst (Linked m.segments a) back.0 (linked_back m.segments s ends a is (subst (Linked m.segments a) (sym back.1) linked))
]

linked_path : (m : MachineData) (a b c : Res) (path : List ℕ) → Leads m b path c → Linked m.segments a b → Linked m.segments a c
linked_path m a b c [] same linked = subst (Linked m.segments a) same linked
linked_path m a b c (s ∷ path) (mid, joins, rest) linked = linked_path m a mid c path rest (linked_joined m s a b mid joins linked)

-- where some segments of a machine lead from what is reached, that is reached
reached_linked : (m : MachineData) (segments : List (Place × Place)) (a b : Res)
    → ((s : ℕ) (ends : Place × Place) → slice_get segments s ≡ Some ends → (IsReached m (site ends.0) → IsReached m (site ends.1)) × (IsReached m (site ends.1) → IsReached m (site ends.0)))
    → Linked segments a b → IsReached m a → IsReached m b
reached_linked m [] a b go same reached = subst (IsReached m) same reached
reached_linked m (own ∷ more) a b go linked reached =
    let first = go zero own refl in
    let rest : (c d : Res) → Linked more c d → IsReached m c → IsReached m d = λ c d. reached_linked m more c d (λ s. go (suc s)) in
    elim linked [
      | inl unused ↦ rest a b unused reached
      | inr used ↦ elim used [
        | inl forth ↦ rest (site own.1) b forth.1 (first.0 (rest a (site own.0) forth.0 reached))
        | inr back ↦ rest (site own.0) b back.1 (first.1 (rest a (site own.1) back.0 reached))
      ]
    ]

pub reached_or_not : (m : MachineData) (r : Res) → Decided (IsReached m r)
reached_or_not m r = elim (linked_or_not m.segments first_trap r) [
  | inl linked ↦ inl (reached_linked m m.segments first_trap r (λ s ends is. (reached_along m s ends is, reached_back m s ends is)) linked ([], refl))
  | inr apart ↦ inr (λ reached. apart (linked_path m first_trap first_trap r reached.0 reached.1 (linked_own m.segments first_trap)))
]
