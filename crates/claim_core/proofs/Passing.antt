-- A resource is past the turn of an operation exactly where the operation gave it.
use Rattle.std.proofs.Common.{◌≡◌, ℕ, zero, suc, ◌<◌, ◌≤◌, ◌⊎◌, inl, inr, true, false, List, [], ◌∷◌, sym, ◌∙◌, ap, subst, arith, Some, None}
use Rattle.std.specs.Prelude.{◌↔◌, slice_get}
use Rattle.std.proofs.lemmas.Bool.{cases_Bool}
use Rattle.std.proofs.lemmas.Option.{same_Some, none-some}
use Rattle.qccd_base.specs.declared.names.Res.{Res}
use Rattle.qccd_base.specs.Resource.{among, same_res}
use Rattle.qccd_base.proofs.Resources.{same_res-true}
use Rattle.op_table.specs.Touch.{nth}
use Rattle.qccd_program.specs.Legal.{IsLegalProgram}
use Rattle.qccd_program.specs.Program.{ProgramData}
use Rattle.claim_core.specs.declared.event.Event.{Event}
use Rattle.claim_core.specs.declared.event.Event.TheVariants.{Begin, Reach, Give}
use Rattle.claim_core.specs.declared.board.Slot.{Slot}
use Rattle.claim_core.specs.Board.{BoardData, holder_at, turn_at, opening_board}
use Rattle.claim_core.specs.Enabled.{HasGivenAll, IsFinished, IsGiven}
use Rattle.claim_core.specs.Event.{IsEvent, begun, fault, given, moved, reached, touched}
use Rattle.claim_core.specs.History.{IsHistory, IsHistoryFrom, board_from, board_of}
use Rattle.claim_core.specs.Sound.{IsSound, read}
use Rattle.claim_core.specs.Coded.{Claims}
use Rattle.claim_core.proofs.Events.{event-sound, opening-sound, slot_opening}
use Rattle.claim_core.proofs.Kept.{Moved, turn_kept}
use Rattle.claim_core.proofs.Legally.{claims-legal}
use Rattle.claim_core.proofs.Testing.{at_or_past}
use Rattle.claim_core.proofs.Turns.{nth_same}
use Rattle.claim_core.proofs.Written.{begins, reaches, gives, moved-both}

-- taking a resource keeps all turns
begin_keeps : (p : ProgramData) (b : BoardData) (w k : ℕ) (r : Res) → Claims p → IsSound p b → IsEvent p b (Begin w k) → fault p b (Begin w k) ≡ None → turn_at p (moved p b (Begin w k)) r ≡ turn_at p b r
begin_keeps p b w k r claims good there granted =
    let some = claims.some k there.1 in
    let facts = begins p b w k some.0 some.1 claims good.wide there granted some.2 in
    ap (λ (xs : List Res). turn_at p (begun p b w k xs) r) some.2
    ∙ turn_kept (read p b) (read p (begun p b w k (some.0 ∷ some.1))) w some.0 (moved-both p b some.0 _ w _ facts.0) facts.2.turn r

reach_keeps : (p : ProgramData) (b : BoardData) (w k : ℕ) (q r : Res) → Claims p → IsSound p b → IsEvent p b (Reach w k q) → fault p b (Reach w k q) ≡ None → turn_at p (moved p b (Reach w k q)) r ≡ turn_at p b r
reach_keeps p b w k q r claims good there granted =
    let facts = reaches p b w k q claims good.wide there granted in
    turn_kept (read p b) (read p (reached p b w q)) w q (moved-both p b q _ w _ facts.0) facts.2.turn r

-- what is given was at the operation's turn, and is past it
turn_given : (p : ProgramData) (b : BoardData) (w k : ℕ) (q : Res) → Claims p → IsSound p b → IsEvent p b (Give w k q) → fault p b (Give w k q) ≡ None → turn_at p b q ≡ nth p.ops k q
turn_given p b w k q claims good there granted =
    let facts = gives p b w k q claims good.wide there granted in
    let was = good.sound.hands w k facts.2.had in
    let mine : holder_at p b q ≡ Some w = was.holds q (facts.2.whole q facts.2.at) facts.2.kept in
    let held = good.sound.held q w mine in
    held.turn ∙ ap (λ (j : ℕ). nth p.ops j q) (same_Some held.op k (sym held.hand ∙ facts.2.had))

turn_after : (p : ProgramData) (b : BoardData) (w k : ℕ) (q : Res) → Claims p → IsSound p b → IsEvent p b (Give w k q) → fault p b (Give w k q) ≡ None → turn_at p (moved p b (Give w k q)) q ≡ suc (nth p.ops k q)
turn_after p b w k q claims good there granted =
    (gives p b w k q claims good.wide there granted).2.turn ∙ ap suc (turn_given p b w k q claims good there granted)

give_keeps : (p : ProgramData) (b : BoardData) (w k : ℕ) (q r : Res) → Claims p → IsSound p b → IsEvent p b (Give w k q) → fault p b (Give w k q) ≡ None → same_res q r ≡ false → turn_at p (moved p b (Give w k q)) r ≡ turn_at p b r
give_keeps p b w k q r claims good there granted apart =
    let facts = gives p b w k q claims good.wide there granted in
    let m : Moved (read p b) (read p (given p b w k q)) w q = moved-both p b q _ w _ facts.0 in
    m.turn r apart

-- an event lowers no turn
step_up : (n m k : ℕ) → n ≡ k → m ≡ suc k → n ≤ m
step_up n m k e f = omega (arith, e, f)

rises : (p : ProgramData) (b : BoardData) (e : Event) (n : ℕ) (r : Res) → Claims p → IsSound p b → IsEvent p b e → fault p b e ≡ None → n < turn_at p b r → n < turn_at p (moved p b e) r
rises p b (Begin w j) n r claims good there granted past = subst (λ (m : ℕ). n < m) (sym (begin_keeps p b w j r claims good there granted)) past
rises p b (Reach w j q) n r claims good there granted past = subst (λ (m : ℕ). n < m) (sym (reach_keeps p b w j q r claims good there granted)) past
rises p b (Give w j q) n r claims good there granted past = elim (cases_Bool (same_res q r)) [
  | inr apart ↦ subst (λ (m : ℕ). n < m) (sym (give_keeps p b w j q r claims good there granted apart)) past
  | inl is ↦
      let same = same_res-true q r is in
      more n (turn_at p b r) (turn_at p (moved p b (Give w j q)) r)
      (subst (λ (x : Res). turn_at p b x ≤ turn_at p (moved p b (Give w j q)) x) same (step_up _ _ _ (turn_given p b w j q claims good there granted) (turn_after p b w j q claims good there granted))) past
]
  where
    more : (n m k : ℕ) → m ≤ k → n < m → n < k
    more n m k up less = omega (arith, up, less)

-- where a resource comes past an operation's turn, the operation gives it
now_past : (p : ProgramData) (b : BoardData) (e : Event) (k : ℕ) (r : Res) → Claims p → IsSound p b → IsEvent p b e → fault p b e ≡ None → among (touched p.ops k) r ≡ true → nth p.ops k r < turn_at p (moved p b e) r
    → (nth p.ops k r < turn_at p b r) ⊎ ((w : ℕ) × (e ≡ Give w k r))
now_past p b (Begin w j) k r claims good there granted at past = inl (subst (λ (m : ℕ). nth p.ops k r < m) (begin_keeps p b w j r claims good there granted) past)
now_past p b (Reach w j q) k r claims good there granted at past = inl (subst (λ (m : ℕ). nth p.ops k r < m) (reach_keeps p b w j q r claims good there granted) past)
now_past p b (Give w j q) k r claims good there granted at past = elim (cases_Bool (same_res q r)) [
  | inr apart ↦ inl (subst (λ (m : ℕ). nth p.ops k r < m) (give_keeps p b w j q r claims good there granted apart) past)
  | inl is ↦
      let same = same_res-true q r is in
      let now : turn_at p (moved p b (Give w j q)) r ≡ suc (nth p.ops j r) = subst (λ (x : Res). turn_at p (moved p b (Give w j q)) x ≡ suc (nth p.ops j x)) same (turn_after p b w j q claims good there granted) in
      let was : turn_at p b r ≡ nth p.ops j r = subst (λ (x : Res). turn_at p b x ≡ nth p.ops j x) same (turn_given p b w j q claims good there granted) in
      let here : among (touched p.ops j) r ≡ true = subst (λ (x : Res). among (touched p.ops j) x ≡ true) same (gives p b w j q claims good.wide there granted).2.at in
      elim (at_or_past (nth p.ops k r) (nth p.ops j r) (at_most _ _ (subst (λ (m : ℕ). nth p.ops k r < m) now past))) [
        | inr less ↦ inl (subst (λ (m : ℕ). nth p.ops k r < m) (sym was) less)
        | inl own ↦ inr (w, ap (λ (x : Res). Give w j x) same ∙ ap (λ (i : ℕ). Give w i r) (nth_same p.ops j k r here at own))
      ]
]
  where
    at_most : (n m : ℕ) → n < suc m → n ≤ m
    at_most n m less = omega (arith, less)

past_given : (p : ProgramData) (b : BoardData) (es : List Event) (k : ℕ) (r : Res) → Claims p → IsSound p b → IsHistoryFrom p b es → among (touched p.ops k) r ≡ true → nth p.ops k r < turn_at p (board_from p b es) r
    → (nth p.ops k r < turn_at p b r) ⊎ IsGiven es k r
past_given p b [] k r claims good h at past = inl past
past_given p b (e ∷ es) k r claims good h at past = elim (past_given p (moved p b e) es k r claims (event-sound p b e claims good h.0.there h.0.granted) h.1 at past) [
  | inr later ↦ inr (record { at = suc later.at; worker = later.worker; event = later.event })
  | inl now ↦ elim (now_past p b e k r claims good h.0.there h.0.granted at now) [
    | inl before ↦ inl before
    | inr here ↦ inr (record { at = 0; worker = here.0; event = ap Some here.1 })
  ]
]

-- and what it gave stays past its turn
own_past : (p : ProgramData) (b : BoardData) (w k : ℕ) (r : Res) → Claims p → IsSound p b → IsEvent p b (Give w k r) → fault p b (Give w k r) ≡ None → nth p.ops k r < turn_at p (moved p b (Give w k r)) r
own_past p b w k r claims good there granted = above _ _ (turn_after p b w k r claims good there granted)
  where
    above : (n m : ℕ) → m ≡ suc n → n < m
    above n m is = omega (arith, is)

given_next : (p : ProgramData) (b : BoardData) (e : Event) (es : List Event) (k : ℕ) (r : Res) → Claims p → IsSound p b → IsEvent p b e → fault p b e ≡ None → (i w : ℕ) → slice_get (e ∷ es) i ≡ Some (Give w k r)
    → (nth p.ops k r < turn_at p (moved p b e) r) ⊎ IsGiven es k r
given_next p b e es k r claims good there granted zero w is =
    inl (subst (λ (x : Event). IsEvent p b x → fault p b x ≡ None → nth p.ops k r < turn_at p (moved p b x) r) (sym (same_Some e (Give w k r) is)) (own_past p b w k r claims good) there granted)
given_next p b e es k r claims good there granted (suc i) w is = inr (record { at = i; worker = w; event = is })

given_past : (p : ProgramData) (b : BoardData) (es : List Event) (k : ℕ) (r : Res) → Claims p → IsSound p b → IsHistoryFrom p b es → (nth p.ops k r < turn_at p b r) ⊎ IsGiven es k r → nth p.ops k r < turn_at p (board_from p b es) r
given_past p b [] k r claims good h either = elim either [
  | inl past ↦ past
  | inr given ↦ absurd (none-some _ given.event)
]
given_past p b (e ∷ es) k r claims good h either = given_past p (moved p b e) es k r claims (event-sound p b e claims good h.0.there h.0.granted) h.1 (elim either [
  | inl past ↦ inl (rises p b e (nth p.ops k r) r claims good h.0.there h.0.granted past)
  | inr given ↦ given_next p b e es k r claims good h.0.there h.0.granted given.at given.worker given.event
])

pub passed-given : (p : ProgramData) (workers : ℕ) (es : List Event) (k : ℕ) (r : Res) → IsLegalProgram p → IsHistory p workers es → among (touched p.ops k) r ≡ true → (nth p.ops k r < turn_at p (board_of p workers es) r) ↔ IsGiven es k r
passed-given p workers es k r legal h at =
    let claims = claims-legal p legal in
    let good = opening-sound p workers in (
      λ past. elim (past_given p (opening_board p workers) es k r claims good h at past) [
        | inl early ↦ absurd (below (nth p.ops k r) _ (ap (λ (s : Slot). s.turn) (slot_opening p workers r)) early)
        | inr given ↦ given
      ],
      λ given. given_past p (opening_board p workers) es k r claims good h (inr given),
    )
  where
    below : (n m : ℕ) → m ≡ 0 → n < m → ⊥
    below n m is less = omega (arith, is, less)

-- so an operation is finished exactly where it gave all
pub finished-given : (p : ProgramData) (workers : ℕ) (es : List Event) (k : ℕ) → IsLegalProgram p → IsHistory p workers es → IsFinished p (board_of p workers es) k ↔ HasGivenAll p es k
finished-given p workers es k legal h = (
  λ finished r at. (passed-given p workers es k r legal h at).0 (finished r at),
  λ given r at. (passed-given p workers es k r legal h at).1 (given r at),
)
