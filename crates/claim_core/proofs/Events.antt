-- Along a history the board stays sound.
use Rattle.std.proofs.Common.{◌≡◌, ℕ, zero, suc, ◌<◌, inl, inr, Bool, false, if◌then◌else◌, List, [], ◌∷◌, length, replicate, get_or, take, ◌++◌, refl, sym, ◌∙◌, ap, subst, arith, None}
use Rattle.std.proofs.lemmas.List.{length-replicate}
use Rattle.std.proofs.lemmas.Bool.{cases_Bool}
use Rattle.std.proofs.lemmas.Option.{none-some}
use Rattle.qccd_base.specs.declared.names.Res.{Res}
use Rattle.qccd_program.specs.Program.{ProgramData}
use Rattle.claim_core.specs.declared.board.Slot.{Slot}
use Rattle.claim_core.specs.declared.event.Event.{Event}
use Rattle.claim_core.specs.declared.event.Event.TheVariants.{Begin, Reach, Give}
use Rattle.claim_core.specs.Board.{HandData, BoardData, is_there, width, free_slot, slot_at, turn_at, holder_at, idle, empty_hand, hand_at, opening_board}
use Rattle.op_cells.specs.Numbering.{index_of}
use Rattle.claim_core.specs.Event.{touched, begun, fault, moved, IsEvent, Allowed}
use Rattle.claim_core.specs.Sound.{IsSound}
use Rattle.claim_core.specs.Coded.{Claims}
use Rattle.claim_core.specs.History.{IsHistoryFrom, board_from}
use Rattle.claim_core.proofs.Kept.{sound-moved, begin-fair, reach-fair, give-fair}
use Rattle.claim_core.proofs.Written.{begins, reaches, gives, moved-both}

begin_sound : (p : ProgramData) (b : BoardData) (w k : ℕ) (q : Res) (rs : List Res) → Claims p → IsSound p b → IsEvent p b (Begin w k) → fault p b (Begin w k) ≡ None → touched p.ops k ≡ q ∷ rs → IsSound p (begun p b w k (q ∷ rs))
begin_sound p b w k q rs claims good there granted is =
    let facts = begins p b w k q rs claims good.wide there granted is in
    let m = moved-both p b q _ w _ facts.0 in
    record { wide = facts.1; sound = sound-moved p.ops _ _ w q good.sound m (begin-fair p.ops _ _ w k q good.sound m facts.2) }

pub event-sound : (p : ProgramData) (b : BoardData) (e : Event) → Claims p → IsSound p b → IsEvent p b e → fault p b e ≡ None → IsSound p (moved p b e)
event-sound p b (Begin w k) claims good there granted =
    let some = claims.some k there.1 in
    subst (λ (xs : List Res). IsSound p (begun p b w k xs)) (sym some.2) (begin_sound p b w k some.0 some.1 claims good there granted some.2)
event-sound p b (Reach w k q) claims good there granted =
    let facts = reaches p b w k q claims good.wide there granted in
    let m = moved-both p b q _ w _ facts.0 in
    record { wide = facts.1; sound = sound-moved p.ops _ _ w q good.sound m (reach-fair p.ops _ _ w k q good.sound m facts.2) }
event-sound p b (Give w k q) claims good there granted =
    let facts = gives p b w k q claims good.wide there granted in
    let m = moved-both p b q _ w _ facts.0 in
    record { wide = facts.1; sound = sound-moved p.ops _ _ w q good.sound m (give-fair p.ops _ _ w k q good.sound m facts.2) }

pub history-sound : (p : ProgramData) (b : BoardData) (es : List Event) → Claims p → IsSound p b → IsHistoryFrom p b es → IsSound p (board_from p b es)
history-sound p b [] claims good h = good
history-sound p b (e ∷ es) claims good h = history-sound p (moved p b e) es claims (event-sound p b e claims good h.0.there h.0.granted) h.1

-- a front of a history is one, and an allowed event may follow
pub history-front : (p : ProgramData) (b : BoardData) (es : List Event) (k : ℕ) → IsHistoryFrom p b es → IsHistoryFrom p b (take k es)
history-front p b es zero h = tt
history-front p b [] (suc k) h = tt
history-front p b (e ∷ es) (suc k) h = (h.0, history-front p (moved p b e) es k h.1)

pub history-more : (p : ProgramData) (b : BoardData) (es : List Event) (e : Event) → IsHistoryFrom p b es → Allowed p (board_from p b es) e (moved p (board_from p b es) e) → IsHistoryFrom p b (es ++ e ∷ [])
history-more p b [] e h allowed = (allowed, tt)
history-more p b (x ∷ es) e h allowed = (h.0, history-more p (moved p b x) es e h.1 allowed)

-- at the opening
get_repeated : {X : Type 0} (n i : ℕ) (x : X) → get_or (replicate n x) i x ≡ x
get_repeated zero i x = refl
get_repeated (suc n) zero x = refl
get_repeated (suc n) (suc i) x = get_repeated n i x

pub slot_opening : (p : ProgramData) (n : ℕ) (r : Res) → slot_at p (opening_board p n) r ≡ free_slot
slot_opening p n r = elim (cases_Bool (is_there p r)) [
  | inl h ↦ ap (λ (b : Bool). if b then get_or (replicate (width p) free_slot) (index_of p.machine r) free_slot else free_slot) h ∙ get_repeated (width p) (index_of p.machine r) free_slot
  | inr h ↦ ap (λ (b : Bool). if b then get_or (replicate (width p) free_slot) (index_of p.machine r) free_slot else free_slot) h
]

hand_empty : (n w : ℕ) (h : HandData) → h.op ≡ None → (get_or (replicate n h) w idle).op ≡ None
hand_empty zero w h e = refl
hand_empty (suc n) zero h e = e
hand_empty (suc n) (suc w) h e = hand_empty n w h e

pub hand_opening : (p : ProgramData) (n w : ℕ) → (hand_at (opening_board p n) w).op ≡ None
hand_opening p n w = hand_empty n w (empty_hand p) refl

hand_there : (n w : ℕ) (h : HandData) → w < n → get_or (replicate n h) w idle ≡ h
hand_there zero w h l = absurd (omega arith)
hand_there (suc n) zero h l = refl
hand_there (suc n) (suc w) h l = hand_there n w h (omega arith)

pub opening-sound : (p : ProgramData) (n : ℕ) → IsSound p (opening_board p n)
opening-sound p n =
    let turn : (r : Res) → turn_at p (opening_board p n) r ≡ 0 = λ r. ap (λ (s : Slot). s.turn) (slot_opening p n r) in
    let holder : (r : Res) → holder_at p (opening_board p n) r ≡ None = λ r. ap (λ (s : Slot). s.holder) (slot_opening p n r) in
    let hand : HandData = empty_hand p in
    let count : length (opening_board p n).hands ≡ n = length-replicate n hand in
    record {
      wide = record {
        slots = length-replicate (width p) free_slot;
        flags = λ w there.
            let is : hand_at (opening_board p n) w ≡ hand = hand_there n w hand (omega (arith, count)) in
            (ap (λ (h : HandData). length h.got) is ∙ length-replicate (width p) false, ap (λ (h : HandData). length h.gave) is ∙ length-replicate (width p) false);
      };
      sound = record {
        few = λ r. omega (arith, turn r);
        held = λ r w h. absurd (none-some w (sym (holder r) ∙ h));
        hands = λ w k h. absurd (none-some k (sym (hand_opening p n w) ∙ h));
        apart = λ w v k h i. absurd (none-some k (sym (hand_opening p n w) ∙ h));
        rest = λ k there none. inl (λ r at. omega (arith, turn r));
      };
    }
