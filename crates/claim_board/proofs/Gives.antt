-- A Give keeps the rule.
use Rattle.std.proofs.Common.{◌≡◌, ℕ, suc, ◌+◌, ◌*◌, ◌<◌, true, false, List, ◌∷◌, length, set, refl, sym, ◌∙◌, ap, subst, arith, Option, Some, None, length-set}
use mathlib.Core.Option.{some, none}
use lib.ListN.{get_elem?}
use Rattle.std.proofs.lemmas.Bool.{false≢true}
use Rattle.std.proofs.lemmas.Option.{same_Some}
use Rattle.qccd_base.specs.declared.names.Res.{Res}
use Rattle.qccd_base.specs.Resource.{among}
use Rattle.op_table.specs.Touch.{nth}
use Rattle.op_cells.specs.declared.cells.Cell.{Cell}
use Rattle.op_cells.specs.Numbering.{index_of}
use Rattle.atomic_table.specs.Table.{step, Allows, Act, Valid, stepped, carried_after, gives}
use Rattle.atomic_table.proofs.Lists.{set_else, set_here}
use Rattle.qccd_program.specs.CellOfRun.{IsCell}
use Rattle.qccd_program.specs.Program.{ProgramData}
use Rattle.claim_core.specs.declared.board.Slot.{Slot}
use Rattle.claim_core.specs.declared.event.Event.TheVariants.{Give}
use Rattle.claim_core.specs.Board.{BoardData, HandData, is_there, turn_at, hand_at, flag_at}
use Rattle.claim_core.specs.Event.{Allowed, moved, touched, with_both, with_flag, left_in_hand}
use Rattle.claim_core.proofs.Written.{index_apart, index_below}
use Rattle.claim_board.specs.declared.view.Key.{Key}
use Rattle.claim_board.specs.declared.view.View.{View}
use Rattle.claim_board.specs.Plays.{MayGive, after_give, gave}
use Rattle.claim_board.specs.View.{hand_of}
use Rattle.claim_board.specs.Rule.{Ruled}
use Rattle.claim_board.specs.Stepping.{Happens}
use Rattle.claim_board.proofs.Begins.{on, on-same, touched-there, one-word}
use Rattle.claim_board.proofs.Boards.{give-granted, hands-of}
use Rattle.claim_board.proofs.Looks.{same-program, seen-here, seen-else, seen-long}
use Rattle.claim_board.proofs.Moves.{St, board, happens, sound-rule, number-below, moves, Turns}

module _ (key : Key) (s : St) (rule : Ruled key s) (id : ℕ) (u : View) (at : get_elem? s.views id ≡ some (on key.program.value u)) (k : ℕ) (q : Res) (may : MayGive (on key.program.value u) k q) (c : Cell) (cell : IsCell key.program.value q (nth key.program.value.ops k q + 1) c) where
  abbrev P : ProgramData
  P = key.program.value

  abbrev B : BoardData
  B = board key s rule

  abbrev V : View
  V = on P u

  abbrev Left : Slot
  Left = record { turn = suc (turn_at P B q); holder = None }

  within : is_there P q ≡ true
  within = touched-there key s rule k q may.touches

  mine : (hand_at B u.number).op ≡ Some k
  mine = (rule.shown.passes id V at may.live).op ∙ may.busy

  hand : hand_at B u.number ≡ hand_of V
  hand = (rule.shown.passes id V at may.live).hand k may.busy

  got_b : (r : Res) → among (touched P.ops k) r ≡ true → flag_at P (hand_at B u.number).got r ≡ true
  got_b r on = ap (λ (h : HandData). flag_at P h.got r) hand ∙ may.all r on

  kept_b : flag_at P (hand_at B u.number).gave q ≡ false
  kept_b = ap (λ (h : HandData). flag_at P h.gave q) hand ∙ may.kept

  turn : turn_at P B q ≡ nth P.ops k q
  turn =
      let sound = (sound-rule key s rule).sound in
      let held = sound.held q u.number ((sound.hands u.number k mine).holds q (got_b q may.touches) kept_b) in
      held.turn ∙ ap (λ (j : ℕ). nth P.ops j q) (same_Some held.op k (sym held.hand ∙ mine))

  allowed : Allowed P B (Give u.number k q) (moved P B (Give u.number k q))
  allowed = record {
    there = (omega (arith, number-below key s rule id V at may.live, hands-of P key.workers rule.events), ((sound-rule key s rule).sound.hands u.number k mine).there);
    granted = give-granted P B u.number k q mine may.touches got_b kept_b;
    leaves = refl;
  }

  leaves : moved P B (Give u.number k q) ≡ with_both P B q Left u.number (hand_of (after_give k q V))
  leaves = ap (λ (h : HandData). with_both P B q Left u.number (record { op = left_in_hand P k (with_flag P h.gave q); got = h.got; gave = with_flag P h.gave q })) hand

  given_turns : Turns key B (Give u.number k q) V (after_give k q V) q Left (32 * (nth P.ops k q + 1)) s.homes (set s.homes (index_of P.machine q) (some (Some c)))
  given_turns =
      let old = rule.shown.passes id V at may.live in
      let here : index_of P.machine q < length s.homes = omega (arith, rule.deep, index_below P q within) in
      record {
        there = within;
        allowed = allowed;
        leaves = leaves;
        rises = omega arith;
        word = omega (arith, turn);
        same = refl;
        program = refl;
        workers = refl;
        begun = omega arith;
        long = seen-long u.seen (index_of P.machine q) (nth P.ops k q + 1);
        seen = λ r there apart. seen-else u.seen (index_of P.machine q) (index_of P.machine r) (nth P.ops k q + 1) (λ e. false≢true (sym apart ∙ index_apart P q r within there (sym e)));
        seen_here = seen-here u.seen (index_of P.machine q) (nth P.ops k q + 1) (suc (turn_at P B q)) (omega (arith, old.long, index_below P q within)) (omega (arith, old.seen q within)) (omega (arith, turn));
        deep = length-set s.homes (index_of P.machine q) (some (Some c));
        others = λ i other. set_else s.homes (index_of P.machine q) i (some (Some c)) other;
        home = λ free. record {
          cell = c;
          home = set_here s.homes (index_of P.machine q) (some (Some c)) here;
          is = subst (λ (m : ℕ). IsCell P q m c) (omega (arith, turn)) cell;
        };
      }

  pub give-keeps : Ruled key (record { words = set s.words (index_of P.machine q) (32 * (nth P.ops k q + 1)); homes = set s.homes (index_of P.machine q) (some (Some c)); views = set s.views id (after_give k q V) })
  give-keeps = moves key s rule id V (after_give k q V) (Give u.number k q) q _ _ _ at may.live given_turns

  give_happens : Happens key (Give u.number k q) s (record { words = set s.words (index_of P.machine q) (32 * (nth P.ops k q + 1)); homes = set s.homes (index_of P.machine q) (some (Some c)); views = set s.views id (after_give k q V) })
  give_happens = happens key s rule id V (after_give k q V) (Give u.number k q) q _ _ _ at may.live given_turns

  pub give-tells : (slots : ℕ) (held : List (ℕ × Option Cell)) → gave (step slots (index_of P.machine q) (32 * (nth P.ops k q + 1)) 0 none) (V, (index_of P.machine q, Some c) ∷ held) (32 * (nth P.ops k q + 1)) (after_give k q V, held)
  give-tells slots held j r is that =
      let j_is : k ≡ j = same_Some k j (sym may.busy ∙ is) in
      let r_is : q ≡ r = one-word P q r within (touched-there key s rule j r that.touches) (sym that.word) in
      (λ i. (after_give (j_is i) (r_is i) V, held))

pub give-allows : (key : Key) (slots id : ℕ) (v : View) (held : List (ℕ × Option Cell)) (k : ℕ) (q : Res) (c : Cell) → MayGive v k q → IsCell v.program q (nth v.program.ops k q + 1) c
    → Allows (Ruled key) slots id (v, (index_of v.program.machine q, Some c) ∷ held) (index_of v.program.machine q) (λ _. 32 * (nth v.program.ops k q + 1))
    (λ _. gave (step slots (index_of v.program.machine q) (32 * (nth v.program.ops k q + 1)) 0 none) (v, (index_of v.program.machine q, Some c) ∷ held) (32 * (nth v.program.ops k q + 1)))
give-allows key slots id v held k q c may cell s rule deep at less =
    let p : ProgramData = key.program.value in
    let same : on p v ≡ v = on-same p v (same-program key s rule id v at may.live) in
    subst (λ (u : View). get_elem? s.views id ≡ some u → MayGive u k q → IsCell u.program q (nth u.program.ops k q + 1) c
    → (w : View) × (a : Act (Option Cell)) × Valid s.homes ((index_of u.program.machine q, Some c) ∷ held) a × Ruled key (stepped s (index_of u.program.machine q) (32 * (nth u.program.ops k q + 1)) id ((index_of u.program.machine q, Some c) ∷ held) w a)
    × gave (step slots (index_of u.program.machine q) (32 * (nth u.program.ops k q + 1)) 0 none) (u, (index_of u.program.machine q, Some c) ∷ held) (32 * (nth u.program.ops k q + 1)) (w, carried_after ((index_of u.program.machine q, Some c) ∷ held) a)) same
    (λ here asks is. (after_give k q (on p v), gives, tt, give-keeps key s rule id v here k q asks c is, give-tells key s rule id v here k q asks c is slots held)) at may cell

-- it is an event on the board that is shown
pub give-happens : (key : Key) (s : St) (id : ℕ) (v : View) (held : List (ℕ × Option Cell)) (k : ℕ) (q : Res) (c : Cell) → Ruled key s → get_elem? s.views id ≡ some v → MayGive v k q → IsCell v.program q (nth v.program.ops k q + 1) c
    → Happens key (Give v.number k q) s (stepped s (index_of v.program.machine q) (32 * (nth v.program.ops k q + 1)) id ((index_of v.program.machine q, Some c) ∷ held) (after_give k q v) gives)
give-happens key s id v held k q c rule at may is =
    subst (λ (u : View). get_elem? s.views id ≡ some u → MayGive u k q → IsCell u.program q (nth u.program.ops k q + 1) c
    → Happens key (Give u.number k q) s (stepped s (index_of u.program.machine q) (32 * (nth u.program.ops k q + 1)) id ((index_of u.program.machine q, Some c) ∷ held) (after_give k q u) gives))
    (on-same key.program.value v (same-program key s rule id v at may.live))
    (λ here asks cell. give_happens key s rule id v here k q asks c cell) at may is
