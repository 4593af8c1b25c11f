-- The least unfinished operation is enabled, and what holds where all are finished.
use Rattle.std.proofs.Common.{◌≡◌, ◌≢◌, ℕ, zero, suc, ◌<◌, ◌≤◌, ◌⊎◌, inl, inr, true, List, [], ◌∷◌, length, get_or, refl, sym, ◌∙◌, ap, subst, arith, Option, Some, None}
use Rattle.std.proofs.lemmas.Bool.{cases_Bool}
use Rattle.std.proofs.lemmas.Option.{same_Some, none-some}
use Rattle.qccd_base.specs.declared.names.Res.{Res}
use Rattle.qccd_base.specs.Resource.{among}
use Rattle.op_table.specs.State.{IsSafe}
use Rattle.op_table.specs.Touch.{nth, total}
use Rattle.op_table.specs.Run.{IsRun}
use Rattle.qccd_program.specs.Program.{ProgramData, opening_of, end_of}
use Rattle.qccd_program.specs.Legal.{IsLegalProgram}
use Rattle.qccd_program.specs.Faithful.{IsFaithful, turns_after}
use Rattle.qccd_program.proofs.Faithfully.{faithful-run, program-end, held-first}
use Rattle.claim_core.specs.declared.board.Slot.{Slot}
use Rattle.claim_core.specs.declared.event.Event.{Event}
use Rattle.claim_core.specs.Board.{HandData, BoardData, turn_at, holder_at, got_at, gave_at, idle, opening_board}
use Rattle.claim_core.specs.Event.{touched}
use Rattle.claim_core.specs.Sound.{HandFits, read, Sound, IsSound}
use Rattle.claim_core.specs.Enabled.{IsEnabled, IsLeastUnfinished, AllFinished}
use Rattle.claim_core.specs.Coded.{Claims}
use Rattle.claim_core.specs.History.{IsHistory, board_of, commits, moment, ops_of, IsBoardOf}
use Rattle.claim_core.proofs.Turns.{turn_found, nth_same, nth_all}
use Rattle.claim_core.proofs.Events.{history-sound, opening-sound, slot_opening}
use Rattle.claim_core.proofs.Faithful.{Counts, faithful-from}
use Rattle.claim_core.proofs.Legally.{claims-legal, start-safe}

same_or_not : (o : Option ℕ) (k : ℕ) → (o ≡ Some k) ⊎ (o ≢ Some k)
same_or_not None k = inr (λ e. none-some k e)
same_or_not (Some j) k = elim (Rattle.claim_core.proofs.Kept.cases_ℕ j k) [
  | inl e ↦ inl (ap Some e)
  | inr n ↦ inr (λ e. n (same_Some j k e))
]

in_a_hand : (hands : List HandData) (k : ℕ) → ((w : ℕ) × ((get_or hands w idle).op ≡ Some k)) ⊎ ((w : ℕ) → (get_or hands w idle).op ≢ Some k)
in_a_hand [] k = inr (λ w h. none-some k h)
in_a_hand (a ∷ hands) k = elim (same_or_not a.op k) [
  | inl e ↦ inl (0, e)
  | inr n ↦ elim (in_a_hand hands k) [
    | inl w ↦ inl (suc w.0, w.1)
    | inr none ↦ inr (in_none a hands k n none)
  ]
]
  where
    in_none : (a : HandData) (hands : List HandData) (k : ℕ) → a.op ≢ Some k → ((w : ℕ) → (get_or hands w idle).op ≢ Some k) → (w : ℕ) → (get_or (a ∷ hands) w idle).op ≢ Some k
    in_none a hands k n none zero = n
    in_none a hands k n none (suc w) = none w

at_or_below : (n m : ℕ) → n ≤ m → (n ≡ m) ⊎ (n < m)
at_or_below n m h = elim (Rattle.claim_core.proofs.Kept.cases_ℕ n m) [
  | inl e ↦ inl e
  | inr n ↦ inr (omega arith)
]

-- where all before it are finished and it is not, it is enabled
pub enabled : (p : ProgramData) (b : BoardData) (k : ℕ) → Sound p.ops (read p b) → IsLeastUnfinished p b k → IsEnabled p b k
enabled p b k s least r at = elim (in_a_hand b.hands k) [
  | inl w ↦
      let fits : HandFits p.ops (read p b) w.0 k = s.hands w.0 k w.1 in
      elim (cases_Bool (gave_at p b w.0 r)) [
        | inl gave ↦ inr (inr (fits.given r gave))
        | inr kept ↦ elim (cases_Bool (got_at p b w.0 r)) [
          | inl got ↦ inr (inl (w.0, w.1, fits.holds r got kept))
          | inr lacks ↦ inl (fits.wanted r at lacks)
        ]
      ]
  | inr none ↦ elim (s.rest k least.there none) [
    | inr done ↦ absurd (least.unfinished done)
    | inl unbegun ↦ elim (at_or_below (turn_at p b r) (nth p.ops k r) (unbegun r at)) [
      | inr below ↦
          let j = turn_found p.ops k r (turn_at p b r) below in
          absurd (omega (arith, least.before j.op j.early r j.at, j.turn))
      | inl turn ↦ elim (holder_cases (holder_at p b r)) [
        | inl free ↦ inl (free, turn)
        | inr w ↦
            let held = s.held r w.0 w.1 in
            let at_j : among (touched p.ops held.op) r ≡ true = (s.hands w.0 held.op held.hand).got r held.got in
            absurd (none w.0 (held.hand ∙ ap Some (nth_same p.ops held.op k r at_j at (sym held.turn ∙ turn))))
      ]
    ]
  ]
]
  where
    holder_cases : (o : Option ℕ) → (o ≡ None) ⊎ ((w : ℕ) × (o ≡ Some w))
    holder_cases None = inl refl
    holder_cases (Some w) = inr (w, refl)

-- where all are finished, nothing is held and each turn is the last
pub none_held : (p : ProgramData) (b : BoardData) → Sound p.ops (read p b) → AllFinished p b → (r : Res) → holder_at p b r ≡ None
none_held p b s all r = go (holder_at p b r) refl
  where
    go : (o : Option ℕ) → holder_at p b r ≡ o → holder_at p b r ≡ None
    go None h = h
    go (Some w) h =
        let held = s.held r w h in
        let fits : HandFits p.ops (read p b) w held.op = s.hands w held.op held.hand in
        let x : Res = fits.more.0 in
        let past : nth p.ops held.op x < turn_at p b x = all held.op fits.there x fits.more.1 in
        absurd (elim (cases_Bool (got_at p b w x)) [
          | inr lacks ↦ omega (arith, past, (fits.wanted x fits.more.1 lacks).1)
          | inl got ↦
              let own = s.held x w (fits.holds x got fits.more.2) in
              let is : own.op ≡ held.op = same_Some own.op held.op (sym own.hand ∙ held.hand) in
              let turn : turn_at p b x ≡ nth p.ops held.op x = own.turn ∙ ap (λ (j : ℕ). nth p.ops j x) is in
              omega (arith, past, turn)
        ])

pub last_turns : (p : ProgramData) (b : BoardData) → Sound p.ops (read p b) → AllFinished p b → (r : Res) → turn_at p b r ≡ total p.ops r
last_turns p b s all r = elim (at_or_below (turn_at p b r) (total p.ops r) (s.few r)) [
  | inl e ↦ e
  | inr below ↦
      let j = turn_found p.ops (length p.ops) r (turn_at p b r) (omega (arith, nth_all p.ops r)) in
      absurd (omega (arith, all j.op j.there r j.at, j.turn))
]

counts_opening : (p : ProgramData) (n : ℕ) → Counts (read p (opening_board p n)) (λ r. 0)
counts_opening p n = record {
  free = λ r h. sym (ap (λ (s : Slot). s.turn) (slot_opening p n r));
  fresh = λ r w h none. sym (ap (λ (s : Slot). s.turn) (slot_opening p n r));
  giving = λ r q w h gave. absurd (none-some w (sym (ap (λ (s : Slot). s.holder) (slot_opening p n r)) ∙ h));
}

pub faithful-commits : (p : ProgramData) (n : ℕ) (es : List Event) → Claims p → IsHistory p n es → IsFaithful p.ops (λ r. 0) (commits p n es) × Counts (read p (board_of p n es)) (turns_after (λ r. 0) (commits p n es))
faithful-commits p n es claims h = faithful-from p (opening_board p n) es (λ r. 0) claims (opening-sound p n) h (counts_opening p n)

pub sound-history : (p : ProgramData) (n : ℕ) (es : List Event) → Claims p → IsHistory p n es → Sound p.ops (read p (board_of p n es))
sound-history p n es claims h = (history-sound p (opening_board p n) es claims (opening-sound p n) h).sound

pub board-sound : (p : ProgramData) (b : BoardData) → IsLegalProgram p → IsBoardOf p b → IsSound p b
board-sound p b legal is =
    subst (λ (x : BoardData). IsSound p x) (sym is.board)
    (history-sound p (opening_board p is.workers) is.events (claims-legal p legal) (opening-sound p is.workers) is.history)

-- the committed operations are a run, and leave a safe state
pub commits-run : (p : ProgramData) (n : ℕ) (es : List Event) → IsLegalProgram p → IsHistory p n es → IsRun p.machine (opening_of p) (ops_of (commits p n es)) × IsSafe p.machine (moment p n es)
commits-run p n es legal h =
    let m = p.machine in
    let s = opening_of p in
    let safe : IsSafe m s = start-safe p legal in
    let faithful = faithful-commits p n es (claims-legal p legal) h in
    let whole = faithful-run m s p.ops (λ r. 0) s (commits p n es) safe legal.ops legal.run faithful.0 (record { safe = safe; bits = refl; holds = λ r. sym (held-first m s p.ops r) }) in
    (whole.0, whole.1.safe)

-- where all are finished, each resource was committed as often as it is touched
pub turns-last : (p : ProgramData) (n : ℕ) (es : List Event) → IsLegalProgram p → IsHistory p n es → AllFinished p (board_of p n es) → (r : Res) → turns_after (λ q. 0) (commits p n es) r ≡ total p.ops r
turns-last p n es legal h all r =
    let claims = claims-legal p legal in
    let b = board_of p n es in
    let sound = sound-history p n es claims h in
    (faithful-commits p n es claims h).1.free r (none_held p b sound all r) ∙ last_turns p b sound all r

pub ends-equal : (p : ProgramData) (n : ℕ) (es : List Event) → IsLegalProgram p → IsHistory p n es → AllFinished p (board_of p n es) → moment p n es ≡ end_of p
ends-equal p n es legal h all =
    program-end p (commits p n es) legal (faithful-commits p n es (claims-legal p legal) h).0 (turns-last p n es legal h all)
