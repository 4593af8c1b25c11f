-- What is past its turn, or at it and held, was begun.
use Rattle.std.proofs.Common.{◌≡◌, ◌≢◌, ℕ, zero, suc, ◌<◌, ◌⊎◌, inl, inr, true, List, [], ◌∷◌, length, sym, ◌∙◌, ap, arith, Option, Some, None}
use Rattle.std.proofs.lemmas.Bool.{cases_lt}
use Rattle.std.proofs.lemmas.Option.{none-some, same_Some}
use lib.ListN.{get_or-eq_default}
use Rattle.qccd_base.specs.declared.names.Res.{Res}
use Rattle.qccd_base.specs.Resource.{among}
use Rattle.op_table.specs.declared.kinds.OpKind.{OpKind}
use Rattle.op_table.specs.Touch.{nth}
use Rattle.qccd_program.specs.Legal.{IsLegalProgram}
use Rattle.qccd_program.specs.Program.{ProgramData}
use Rattle.claim_core.specs.Board.{BoardData, HandData, hand_at, holder_at, idle, turn_at}
use Rattle.claim_core.specs.Enabled.{IsFinished}
use Rattle.claim_core.specs.Event.{touched}
use Rattle.claim_core.specs.History.{IsBoardOf}
use Rattle.claim_core.proofs.Ends.{board-sound}
use Rattle.claim_core.proofs.Kept.{cases_ℕ}
use Rattle.claim_core.proofs.Turns.{nth_same}
use Rattle.claim_board.proofs.Words.{cases_Option}

is_this : (o : Option ℕ) (k : ℕ) → (o ≡ Some k) ⊎ (o ≢ Some k)
is_this None k = inr (λ e. none-some k e)
is_this (Some j) k = elim (cases_ℕ j k) [
  | inl e ↦ inl (ap Some e)
  | inr n ↦ inr (λ e. n (same_Some j k e))
]

-- a worker below n has the operation in hand, or none of them
some_hand : (b : BoardData) (k n : ℕ) → ((w : ℕ) × ((hand_at b w).op ≡ Some k)) ⊎ ((w : ℕ) → w < n → (hand_at b w).op ≢ Some k)
some_hand b k zero = inr (λ w less. absurd (omega arith))
some_hand b k (suc n) = elim (some_hand b k n) [
  | inl found ↦ inl found
  | inr none ↦ elim (is_this (hand_at b n).op k) [
    | inl here ↦ inl (n, here)
    | inr away ↦ inr (λ w less busy. elim (cases_ℕ w n) [
      | inl e ↦ away (ap (λ (m : ℕ). (hand_at b m).op) (sym e) ∙ busy)
      | inr other ↦ none w (omega (arith, less, other)) busy
    ])
  ]
]

in_hand : (b : BoardData) (k : ℕ) → ((w : ℕ) × ((hand_at b w).op ≡ Some k)) ⊎ ((w : ℕ) → (hand_at b w).op ≢ Some k)
in_hand b k = elim (some_hand b k (length b.hands)) [
  | inl found ↦ inl found
  | inr none ↦ inr (λ w busy. elim (cases_lt w (length b.hands)) [
    | inl less ↦ none w less busy
    | inr past ↦ none-some k (sym (ap (λ (h : HandData). h.op) (get_or-eq_default b.hands idle past)) ∙ busy)
  ])
]

pub gone-begun : (p : ProgramData) (b : BoardData) (k : ℕ) (r : Res) → IsLegalProgram p → IsBoardOf p b → k < length p.ops → among (touched p.ops k) r ≡ true
    → (nth p.ops k r < turn_at p b r) ⊎ ((turn_at p b r ≡ nth p.ops k r) × (holder_at p b r ≢ None)) → ((w : ℕ) × ((hand_at b w).op ≡ Some k)) ⊎ IsFinished p b k
gone-begun p b k r legal is there on gone =
    let sound = (board-sound p b legal is).sound in
    elim (in_hand b k) [
      | inl found ↦ inl found
      | inr none ↦ elim gone [
        | inl past ↦ elim (sound.rest k there none) [
          | inl u ↦ absurd (omega (arith, u r on, past))
          | inr f ↦ inr f
        ]
        | inr (at, taken) ↦ elim (cases_Option (holder_at p b r)) [
          | inl free ↦ absurd (taken free)
          | inr (w, h) ↦
              let held = sound.held r w h in
              let fits = sound.hands w held.op held.hand in
              inl (w, held.hand ∙ ap Some (nth_same p.ops held.op k r (fits.got r held.got) on (sym held.turn ∙ at)))
        ]
      ]
    ]

pub touched-below : (ops : List OpKind) (k : ℕ) (r : Res) → among (touched ops k) r ≡ true → k < length ops
touched-below [] k r on = absurd (Rattle.std.proofs.lemmas.Bool.false≢true on)
touched-below (o ∷ ops) zero r on = omega arith
touched-below (o ∷ ops) (suc k) r on = omega (arith, touched-below ops k r on)
