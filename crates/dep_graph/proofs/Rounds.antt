-- Items that are ready do not share, and those of one level are ready where the lower levels are taken.
use Rattle.std.proofs.Common.{◌≡◌, ℕ, ◌<◌, ◌≤◌, Bool, true, false, ltb, eqb, List, length, get_or, refl, sym, ◌∙◌, arith, Some, inl, inr}
use Rattle.std.specs.Prelude.{slice_get}
use Rattle.std.proofs.lemmas.Bool.{cases_eq, eq-eqb, ne_eqb, lt-ltb, le-ltb, ltb-true, ltb-false, false≢true, false_from_ne_true}
use Rattle.std.proofs.lemmas.Option.{slice_get_cases}
use Rattle.qccd_circuit.specs.Item.{ItemData}
use Rattle.qccd_circuit.specs.Sharing.{shares}
use Rattle.dep_graph.specs.Direct.{shares_at}
use Rattle.dep_graph.specs.Levels.{levels}
use Rattle.dep_graph.specs.Ready.{is_taken, is_ready}
use Rattle.dep_graph.proofs.LevelLemmas.{levels-rise, levels-reached}
use Rattle.dep_graph.proofs.Taking.{ReadyParts, ready_parts, is_ready_from}

pub ready-apart : (items : List ItemData) (taken : List Bool) (i j : ℕ) → i < j → is_ready items taken i ≡ true → is_ready items taken j ≡ true → shares_at items i j ≡ false
ready-apart items taken i j less first second =
    let one : ReadyParts items taken i = ready_parts items taken i first in
    let other : ReadyParts items taken j = ready_parts items taken j second in
    false_from_ne_true (shares_at items i j) (λ share. false≢true (sym one.fresh ∙ other.before i less share))

there : (items : List ItemData) (j : ℕ) → j < length items → (b : ItemData) × (slice_get items j ≡ Some b)
there items j within = elim (slice_get_cases items j).1 [
  | inl found ↦ (found.0, found.2)
  | inr past ↦ absurd (omega (arith, past.0))
]

shares_there : (items : List ItemData) (i j : ℕ) (a b : ItemData) → slice_get items i ≡ Some a → slice_get items j ≡ Some b → shares_at items i j ≡ shares a b
shares_there items i j a b at_i at_j = rw (at_i, at_j) refl

pub ready-level : (items : List ItemData) (taken : List Bool) (level : ℕ) → ((i : ℕ) → i < length items → is_taken taken i ≡ ltb (get_or (levels items) i 0) level)
    → (j : ℕ) → j < length items → is_ready items taken j ≡ eqb (get_or (levels items) j 0) level
ready-level items taken level all j within =
    let own = there items j within in
    elim (cases_eq (get_or (levels items) j 0) level) [
      | inl same ↦
          let fresh : is_taken taken j ≡ false = all j within ∙ le-ltb (get_or (levels items) j 0) level (omega arith) in
          let before : (i : ℕ) → i < j → shares_at items i j ≡ true → is_taken taken i ≡ true = λ i less share.
          let other = there items i (omega arith) in
          let rises : get_or (levels items) i 0 < get_or (levels items) j 0 =
          levels-rise items i j other.0 own.0 less other.1 own.1 (sym (shares_there items i j other.0 own.0 other.1 own.1) ∙ share) in
          all i (omega arith) ∙ lt-ltb (get_or (levels items) i 0) level (omega arith) in
          is_ready_from items taken j within fresh before ∙ sym (eq-eqb (get_or (levels items) j 0) level same)
      | inr apart ↦
          false_from_ne_true (is_ready items taken j) (λ ready.
          let parts : ReadyParts items taken j = ready_parts items taken j ready in
          let high : level ≤ get_or (levels items) j 0 = ltb-false (get_or (levels items) j 0) level (sym (all j within) ∙ parts.fresh) in
          let below = levels-reached items j own.0 own.1 (grind arith) in
          let share : shares_at items below.0 j ≡ true = shares_there items below.0 j below.1 own.0 below.3 own.1 ∙ below.4 in
          let low : get_or (levels items) below.0 0 < level =
          ltb-true (get_or (levels items) below.0 0) level (sym (all below.0 (omega (arith, below.2))) ∙ parts.before below.0 below.2 share) in
          apart (omega (arith, below.5)))
          ∙ sym (ne_eqb (get_or (levels items) j 0) level apart)
    ]
