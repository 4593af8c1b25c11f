-- When an event may come on a sound board.
use Rattle.std.proofs.Common.{◌≡◌, ◌≢◌, ℕ, ◌<◌, ◌≤◌, inl, inr, Bool, true, false, not, ◌==◌, List, [], ◌∷◌, ◌++◌, length, map, is_none, refl, sym, ◌∙◌, ap, arith, Option, Some, None, length-set}
use Rattle.std.proofs.lemmas.Bool.{cases_Bool, false≢true, eq-eqb, and_from, or_cases}
use Rattle.std.proofs.lemmas.Option.{none-some}
use Rattle.std.proofs.lemmas.List.{length-replicate}
use Rattle.qccd_base.specs.declared.names.Res.{Res}
use Rattle.qccd_base.specs.FirstFailing.{first_failing}
use Rattle.qccd_base.specs.Resource.{among, same_res}
use Rattle.qccd_base.proofs.FirstFailing.{passes_first, first_failing-after}
use Rattle.qccd_base.proofs.Resources.{among-own}
use Rattle.op_table.specs.declared.kinds.OpKind.{OpKind}
use Rattle.op_table.specs.Touch.{nth, is_head}
use Rattle.qccd_program.specs.Legal.{IsLegalProgram}
use Rattle.qccd_program.specs.Program.{ProgramData}
use Rattle.claim_core.specs.declared.event.ActFault.{ActFault}
use Rattle.claim_core.specs.declared.event.ActFault.TheVariants.{NotYours, Untouched, Again, NotGot}
use Rattle.claim_core.specs.declared.event.Event.{Event}
use Rattle.claim_core.specs.declared.event.Event.TheVariants.{Begin, Reach, Give}
use Rattle.claim_core.specs.Board.{BoardData, turn_at, holder_at, hand_at, got_at, gave_at, empty_hand, opening_board}
use Rattle.claim_core.specs.Event.{touched, is_op, is_free, not_free, fault, begun, moved}
use Rattle.claim_core.specs.History.{board_of, board_from, IsHistory}
use Rattle.claim_core.specs.Sound.{Reading, Sound, IsSound, HandFits, Unbegun}
use Rattle.claim_core.proofs.Events.{history-sound, opening-sound}
use Rattle.claim_core.proofs.Kept.{first_among}
use Rattle.claim_core.proofs.Legally.{claims-legal}
use Rattle.claim_core.proofs.Turns.{nth_same}
use Rattle.claim_board.proofs.Words.{cases_Option}

-- the board of a history is sound
pub sound-of : (p : ProgramData) (workers : ℕ) (es : List Event) → IsLegalProgram p → IsHistory p workers es → IsSound p (board_of p workers es)
sound-of p workers es legal h = history-sound p (opening_board p workers) es (claims-legal p legal) (opening-sound p workers) h

-- it has a hand for each worker
begun_hands : (p : ProgramData) (b : BoardData) (w k : ℕ) (rs : List Res) → length (begun p b w k rs).hands ≡ length b.hands
begun_hands p b w k [] = refl
begun_hands p b w k (r ∷ rs) = length-set b.hands w _

moved_hands : (p : ProgramData) (b : BoardData) (e : Event) → length (moved p b e).hands ≡ length b.hands
moved_hands p b (Begin w k) = begun_hands p b w k (touched p.ops k)
moved_hands p b (Reach w k r) = length-set b.hands w _
moved_hands p b (Give w k r) = length-set b.hands w _

from_hands : (p : ProgramData) (b : BoardData) (es : List Event) → length (board_from p b es).hands ≡ length b.hands
from_hands p b [] = refl
from_hands p b (e ∷ es) = from_hands p (moved p b e) es ∙ moved_hands p b e

pub hands-of : (p : ProgramData) (workers : ℕ) (es : List Event) → length (board_of p workers es).hands ≡ workers
hands-of p workers es = from_hands p (opening_board p workers) es ∙ length-replicate workers (empty_hand p)

pub board-more : (p : ProgramData) (b : BoardData) (es : List Event) (e : Event) → board_from p b (es ++ e ∷ []) ≡ moved p (board_from p b es) e
board-more p b [] e = refl
board-more p b (x ∷ es) e = board-more p (moved p b x) es e

-- Where the first resource of an operation is free at its turn, nobody has the operation in hand and nobody has
-- begun it. So if no other turn is below the operation's, all its resources are free at their turns
unowned : (ops : List OpKind) (c : Reading) (k : ℕ) (r : Res) → Sound ops c → is_head (touched ops k) r ≡ true → c.holder r ≡ None → c.turn r ≡ nth ops k r → (w : ℕ) → c.hand w ≢ Some k
unowned ops c k r sound first free turn w h =
    let fits : HandFits ops c w k = sound.hands w k h in
    elim (cases_Bool (c.gave w r)) [
      | inl gave ↦ omega (arith, fits.given r gave)
      | inr kept ↦ none-some w (sym free ∙ fits.holds r (fits.first r first) kept)
    ]

pub all-free : (ops : List OpKind) (c : Reading) (k : ℕ) (r : Res) → Sound ops c → k < length ops → is_head (touched ops k) r ≡ true → c.holder r ≡ None → c.turn r ≡ nth ops k r
    → ((q : Res) → among (touched ops k) q ≡ true → nth ops k q ≤ c.turn q) → (q : Res) → among (touched ops k) q ≡ true → (c.holder q ≡ None) × (c.turn q ≡ nth ops k q)
all-free ops c k r sound there first free turn late q at =
    let none = unowned ops c k r sound first free turn in
    let early : Unbegun ops c k = elim (sound.rest k there none) [
      | inl u ↦ u
      | inr f ↦ absurd (omega (arith, f r (first_among (touched ops k) r first)))
    ] in
    let is : c.turn q ≡ nth ops k q = omega (arith, early q at, late q at) in (
      elim (cases_Option (c.holder q)) [
        | inl h ↦ h
        | inr (w, h) ↦
            let held = sound.held q w h in
            let fits : HandFits ops c w held.op = sound.hands w held.op held.hand in
            absurd (none w (held.hand ∙ ap Some (nth_same ops held.op k q (fits.got q held.got) at (sym held.turn ∙ is))))
      ],
      is,
    )

-- every test of the list passes
pub all-pass : (f : Res → ActFault) (test : Res → Bool) (rs : List Res) → ((r : Res) → among rs r ≡ true → test r ≡ true) → first_failing (map (λ r. (f r, test r)) rs) ≡ None
all-pass f test [] h = refl
all-pass f test (q ∷ rs) h =
    passes_first (f q) (test q) (map (λ r. (f r, test r)) rs) (h q (among-own q rs))
    ∙ all-pass f test rs (λ r at. h r (Rattle.std.proofs.lemmas.Bool.or_right (same_res q r) (among rs r) at))

-- the three events are granted
pub begin-granted : (p : ProgramData) (b : BoardData) (w k : ℕ) → (hand_at b w).op ≡ None → ((q : Res) → among (touched p.ops k) q ≡ true → (holder_at p b q ≡ None) × (turn_at p b q ≡ nth p.ops k q)) → fault p b (Begin w k) ≡ None
begin-granted p b w k empty free =
    passes_first (NotYours w (hand_at b w).op) (is_none (hand_at b w).op) (map (λ q. (not_free p b k q, is_free p b k q)) (touched p.ops k)) (ap (λ (o : Option ℕ). is_none o) empty)
    ∙ all-pass (not_free p b k) (is_free p b k) (touched p.ops k) (λ q at.
    let both = free q at in
    and_from (turn_at p b q == nth p.ops k q) (is_none (holder_at p b q)) (eq-eqb _ _ both.1) (ap (λ (o : Option ℕ). is_none o) both.0))

own_op : (o : Option ℕ) (k : ℕ) → o ≡ Some k → is_op o k ≡ true
own_op o k h = ap (λ (x : Option ℕ). is_op x k) h ∙ eq-eqb k k refl

pub reach-granted : (p : ProgramData) (b : BoardData) (w k : ℕ) (r : Res) → (hand_at b w).op ≡ Some k → among (touched p.ops k) r ≡ true → got_at p b w r ≡ false → fault p b (Reach w k r) ≡ None
reach-granted p b w k r mine at lacks =
    passes_first (NotYours w (hand_at b w).op) (is_op (hand_at b w).op k) ((Untouched r, among (touched p.ops k) r) ∷ (Again r, not (got_at p b w r)) ∷ []) (own_op (hand_at b w).op k mine)
    ∙ passes_first (Untouched r) (among (touched p.ops k) r) ((Again r, not (got_at p b w r)) ∷ []) at
    ∙ passes_first (Again r) (not (got_at p b w r)) [] (ap (λ (x : Bool). not x) lacks)

pub give-granted : (p : ProgramData) (b : BoardData) (w k : ℕ) (r : Res) → (hand_at b w).op ≡ Some k → among (touched p.ops k) r ≡ true → ((q : Res) → among (touched p.ops k) q ≡ true → got_at p b w q ≡ true) → gave_at p b w r ≡ false → fault p b (Give w k r) ≡ None
give-granted p b w k r mine at all kept =
    let tests : List (ActFault × Bool) = map (λ q. (NotGot q, got_at p b w q)) (touched p.ops k) in
    let last : List (ActFault × Bool) = (Again r, not (gave_at p b w r)) ∷ [] in
    passes_first (NotYours w (hand_at b w).op) (is_op (hand_at b w).op k) ((Untouched r, among (touched p.ops k) r) ∷ tests ++ last) (own_op (hand_at b w).op k mine)
    ∙ passes_first (Untouched r) (among (touched p.ops k) r) (tests ++ last) at
    ∙ first_failing-after tests last (all-pass NotGot (got_at p b w) (touched p.ops k) all)
    ∙ passes_first (Again r) (not (gave_at p b w r)) [] (ap (λ (x : Bool). not x) kept)
