-- What a hand-back makes of a pass, step by step.
use Rattle.std.proofs.Common.{◌≡◌, ◌≢◌, ℕ, zero, suc, ◌+◌, ◌*◌, ◌<◌, ◌≤◌, ◌⊎◌, inl, inr, Bool, true, false, ◌||◌, if◌then◌else◌, max, List, [], ◌∷◌, ◌++◌, length, map, take, drop, set, get_or, refl, sym, ◌∙◌, ap, subst, arith, Option, Some, None, length-set}
use Rattle.std.specs.Prelude.{slice_get, All}
use mathlib.Core.List.{map-append}
use lib.ListN.{get_or-append}
use Rattle.std.proofs.lemmas.Bool.{false≢true, or_cases, or_left, or_right, or_from}
use Rattle.std.proofs.lemmas.Option.{same_Some, none-some}
use Rattle.qccd_base.specs.declared.names.Res.{Res}
use Rattle.qccd_base.specs.Resource.{same_res, among}
use Rattle.qccd_base.proofs.Resources.{same_res-true, among-own}
use Rattle.op_table.specs.Touch.{nth}
use Rattle.op_cells.specs.declared.cells.Cell.{Cell}
use Rattle.op_cells.specs.declared.cells.Held.{Held}
use Rattle.op_cells.specs.Numbering.{index_of}
use Rattle.atomic_table.specs.Table.{rest}
use Rattle.qccd_program.specs.CellOfRun.{IsCell}
use Rattle.qccd_program.specs.Program.{ProgramData}
use Rattle.claim_core.specs.Board.{is_there, width, flag_at}
use Rattle.claim_core.specs.Event.{touched, with_flag, left_in_hand}
use Rattle.claim_core.proofs.Written.{all_or_one, flag_set}
use Rattle.claim_board.specs.declared.view.View.{View}
use Rattle.claim_board.specs.Pass.{AreCells, HasFlags, IsWhole, empty_slots, Kept, HasGiven, next_turn}
use Rattle.claim_board.specs.Plays.{Knows, MayGive, after_give}
use Rattle.claim_board.specs.View.{seen_of, seen_also}
use Rattle.claim_board.proofs.Claims.{IsOnce, touched-once, get-among, not-after, taken-next, slots-push, seen-rises, seen-new, kept-own, kept-more}

pub map-long : {A B : Type 0} (f : A → B) (xs : List A) → length (map f xs) ≡ length xs
map-long f [] = refl
map-long f (x ∷ xs) = ap suc (map-long f xs)

-- the slot of the next resource stands first
pub next-slot : (p : ProgramData) (v : View) (me : Knows) (held : List Held) (k n i : ℕ) (r : Res) → v.program ≡ p → slice_get (touched p.ops k) n ≡ Some r → i ≡ index_of p.machine r → HasGiven v me held k (n + 1) → me.1 ≡ (i, None) ∷ rest me.1
next-slot p v me held k n i r v_p at is h =
    let slots : me.1 ≡ (index_of p.machine r, None) ∷ empty_slots p (take n (touched p.ops k)) [] =
    h.slots ∙ ap (λ (q : ProgramData). empty_slots q (take (n + 1) (touched q.ops k)) []) v_p ∙ ap (λ (xs : List Res). empty_slots p xs []) (taken-next (touched p.ops k) n r at) ∙ slots-push p (take n (touched p.ops k)) r [] in
    slots ∙ (λ j. (sym is j, None) ∷ rest (sym slots j))

-- the pass may give it
pub may-give : (p : ProgramData) (v : View) (w : View) (me : Knows) (held : List Held) (k n : ℕ) (r : Res) → v.program ≡ p → w ≡ me.0 → me.0.program ≡ p → me.0.live ≡ true → slice_get (touched p.ops k) n ≡ Some r → HasGiven v me held k (n + 1) → MayGive w k r
may-give p v w me held k n r v_p w_is me_p live at h = subst (λ (z : View). MayGive z k r) (sym w_is) (record {
  live = live;
  busy = h.busy (omega arith);
  touches = subst (λ (q : ProgramData). among (touched q.ops k) r ≡ true) (sym me_p) (get-among (touched p.ops k) n r at);
  all = λ q on.
      subst (λ (z : ProgramData). flag_at z me.0.got q ≡ true) (v_p ∙ sym me_p)
      (h.got.set q ∙ ap (λ (z : ProgramData). among (touched z.ops k) q) (v_p ∙ sym me_p) ∙ on);
  kept =
      subst (λ (z : ProgramData). flag_at z me.0.gave r ≡ false) (v_p ∙ sym me_p)
      (h.gave.set r ∙ ap (λ (z : ProgramData). among (drop (n + 1) (touched z.ops k)) r) v_p ∙ not-after (touched p.ops k) n r (touched-once p.ops k) at);
})

drop-next : (rs : List Res) (n : ℕ) (r : Res) → slice_get rs n ≡ Some r → drop n rs ≡ r ∷ drop (n + 1) rs
drop-next rs n r at = next rs n r at ∙ ap (λ (m : ℕ). r ∷ drop m rs) (one n)
  where
    one : (n : ℕ) → suc n ≡ n + 1
    one n = omega arith

    next : (rs : List Res) (n : ℕ) (r : Res) → slice_get rs n ≡ Some r → drop n rs ≡ r ∷ drop (suc n) rs
    next [] n r at = absurd (none-some r at)
    next (q ∷ rs) zero r at = ap (λ (x : Res). x ∷ rs) (same_Some q r at)
    next (q ∷ rs) (suc n) r at = next rs n r at

drop_lacks : (rs : List Res) (n : ℕ) (r : Res) → among rs r ≡ false → among (drop n rs) r ≡ false
drop_lacks rs zero r out = out
drop_lacks [] (suc n) r out = refl
drop_lacks (q ∷ rs) (suc n) r out = drop_lacks rs n r (Rattle.std.proofs.lemmas.Bool.or_parts (same_res q r) (among rs r) out).1

-- while the first is not given, something is left; at last nothing is
first_left : (rs : List Res) (n : ℕ) → IsOnce rs → 0 < n → 0 < length rs → (r : Res) × (among rs r ≡ true) × (among (drop n rs) r ≡ false)
first_left rs zero once more some = absurd (omega arith)
first_left [] (suc n) once more some = absurd (omega arith)
first_left (r ∷ rs) (suc n) once more some = (r, among-own r rs, drop_lacks rs n r once.0)

left-busy : (p : ProgramData) (k n : ℕ) (gave : List Bool) → 0 < n → 0 < length (touched p.ops k) → HasFlags p gave (drop n (touched p.ops k)) → left_in_hand p k gave ≡ Some k
left-busy p k n gave more some h = elim (all_or_one (flag_at p gave) (touched p.ops k)) [
  | inl all ↦
      let one = first_left (touched p.ops k) n (touched-once p.ops k) more some in
      absurd (false≢true (sym one.2 ∙ sym (h.set one.0) ∙ all.1 one.0 one.1))
  | inr one ↦ ap (λ (b : Bool). if b then None else Some k) one.0
]

left-empty : (p : ProgramData) (k n : ℕ) (gave : List Bool) → n ≡ 0 → HasFlags p gave (drop n (touched p.ops k)) → left_in_hand p k gave ≡ None
left-empty p k n gave none h = elim (all_or_one (flag_at p gave) (touched p.ops k)) [
  | inl all ↦ ap (λ (b : Bool). if b then None else Some k) all.0
  | inr one ↦ absurd (false≢true (sym one.1.2 ∙ h.set one.1.0 ∙ ap (λ (m : ℕ). among (drop m (touched p.ops k)) one.1.0) none ∙ one.1.1))
]

-- the resource was given
pub given-one : (p : ProgramData) (v : View) (me after : Knows) (w : View) (held later : List Held) (k n : ℕ) (r : Res) → v.program ≡ p → is_there p r ≡ true → slice_get (touched p.ops k) n ≡ Some r → length v.seen ≡ width p
    → HasGiven v me held k (n + 1) → w ≡ me.0 → after ≡ (after_give k r w, rest me.1) → AreCells p (next_turn p k) (take n (touched p.ops k)) later → HasGiven v after later k n
given-one p v me after w held later k n r v_p there at long h w_is given cells =
    let P = v.program in
    let me_p : me.0.program ≡ P = h.kept.program in
    let at_v : slice_get (touched P.ops k) n ≡ Some r = subst (λ (q : ProgramData). slice_get (touched q.ops k) n ≡ Some r) (sym v_p) at in
    let there_v : is_there P r ≡ true = subst (λ (q : ProgramData). is_there q r ≡ true) (sym v_p) there in
    let view : after.0 ≡ after_give k r me.0 = ap (λ (z : Knows). z.0) given ∙ ap (after_give k r) w_is in
    let gave : List Bool = with_flag P me.0.gave r in
    let gave_is : after.0.gave ≡ gave = ap (λ (z : View). z.gave) view ∙ ap (λ (q : ProgramData). with_flag q me.0.gave r) me_p in
    let flags : HasFlags P gave (drop n (touched P.ops k)) = record {
      long = length-set me.0.gave (index_of P.machine r) true ∙ h.gave.long;
      set = λ q. flag_set P r q me.0.gave there_v h.gave.long ∙ ap (λ (b : Bool). same_res r q || b) (h.gave.set q) ∙ ap (λ (xs : List Res). among xs q) (sym (drop-next (touched P.ops k) n r at_v));
    } in
    let op_is : after.0.op ≡ left_in_hand P k gave = ap (λ (z : View). z.op) view ∙ ap (λ (q : ProgramData). left_in_hand q k (with_flag q me.0.gave r)) me_p in
    let some : 0 < length (touched P.ops k) = omega (arith, Rattle.claim_board.proofs.Claims.get-long (touched P.ops k) n r at_v) in
    let slots : me.1 ≡ (index_of P.machine r, None) ∷ empty_slots P (take n (touched P.ops k)) [] =
    h.slots ∙ ap (λ (xs : List Res). empty_slots P xs []) (taken-next (touched P.ops k) n r at_v) ∙ slots-push P (take n (touched P.ops k)) r [] in
    let step : Kept me.0 after.0 0 = subst (λ (z : View). Kept me.0 z 0) (sym view) (record {
      program = refl;
      workers = refl;
      live = refl;
      number = refl;
      made = refl;
      ended = refl;
      long = length-set me.0.seen (index_of me.0.program.machine r) (max (get_or me.0.seen (index_of me.0.program.machine r) 0) (nth me.0.program.ops k r + 1));
      looks = omega arith;
      few = omega arith;
      seen = λ q _. seen-rises me.0.seen (index_of me.0.program.machine r) (nth me.0.program.ops k r + 1) (index_of me.0.program.machine q);
    }) in
    let less : index_of P.machine r < length me.0.seen = omega (arith, h.kept.long, long, Rattle.claim_core.proofs.Written.index_below p r there, ap (λ (q : ProgramData). index_of q.machine r) v_p) in
    let seen_here : next_turn P k r ≤ seen_of after.0 r =
    subst (λ (z : View). next_turn P k r ≤ seen_of z r) (sym view)
    (subst (λ (q : ProgramData). next_turn P k r ≤ get_or (seen_also me.0.seen (index_of q.machine r) (nth q.ops k r + 1)) (index_of q.machine r) 0) (sym me_p) (seen-new me.0.seen (index_of P.machine r) (nth P.ops k r + 1) less)) in
    record {
      busy = λ more. op_is ∙ left-busy P k n gave more some flags;
      empty = λ none. op_is ∙ left-empty P k n gave none flags;
      got = subst (λ (fs : List Bool). HasFlags P fs (touched P.ops k)) (sym (ap (λ (z : View). z.got) view)) h.got;
      gave = subst (λ (fs : List Bool). HasFlags P fs (drop n (touched P.ops k))) (sym gave_is) flags;
      slots = ap (λ (z : Knows). z.1) given ∙ ap rest slots;
      cells = subst (λ (q : ProgramData). AreCells q (next_turn q k) (take n (touched q.ops k)) later) (sym v_p) cells;
      begun = ap (λ (z : View). z.begun) view ∙ h.begun;
      kept = kept-more v me.0 after.0 0 0 h.kept step;
      seen = λ q on. elim (or_cases (same_res r q) (among (drop (n + 1) (touched P.ops k)) q) (ap (λ (xs : List Res). among xs q) (sym (drop-next (touched P.ops k) n r at_v)) ∙ on)) [
        | inl own ↦ subst (λ (y : Res). next_turn P k y ≤ seen_of after.0 y) (same_res-true r q own) seen_here
        | inr before ↦
            let was = h.seen q before in
            let rises : seen_of me.0 q ≤ seen_of after.0 q = subst (λ (z : View). seen_of me.0 q ≤ seen_of z q) (sym view) (seen-rises me.0.seen (index_of me.0.program.machine r) (nth me.0.program.ops k r + 1) (index_of me.0.program.machine q)) in
            omega (arith, was, rises)
      ];
    }

-- at the start nothing was given
pub given-none : (v : View) (slots : List (ℕ × Option Cell)) (held : List Held) (k n : ℕ) → v.op ≡ Some k → IsWhole v slots k → n ≡ length (touched v.program.ops k) → AreCells v.program (next_turn v.program k) (touched v.program.ops k) held → 0 < n → HasGiven v (v, slots) held k n
given-none v slots held k n busy whole is cells more =
    let all : take n (touched v.program.ops k) ≡ touched v.program.ops k = Rattle.claim_board.proofs.Claims.take-end (touched v.program.ops k) n (omega (arith, is)) in
    let none : drop n (touched v.program.ops k) ≡ [] = drop-end (touched v.program.ops k) n (omega (arith, is)) in
    record {
      busy = λ _. busy;
      empty = λ e. absurd (omega arith);
      got = whole.got;
      gave = subst (HasFlags v.program v.gave) (sym none) whole.gave;
      slots = whole.slots ∙ ap (λ (xs : List Res). empty_slots v.program xs []) (sym all);
      cells = subst (λ (xs : List Res). AreCells v.program (next_turn v.program k) xs held) (sym all) cells;
      begun = refl;
      kept = kept-own v;
      seen = λ r on. absurd (false≢true (ap (λ (xs : List Res). among xs r) (sym none) ∙ on));
    }
  where
    drop-end : (rs : List Res) (n : ℕ) → length rs ≤ n → drop n rs ≡ []
    drop-end [] zero le = refl
    drop-end [] (suc n) le = refl
    drop-end (r ∷ rs) zero le = absurd (omega arith)
    drop-end (r ∷ rs) (suc n) le = drop-end rs n (omega arith)

-- the last cell of a list
last_name : (qs : List Res) (r : Res) (rs : List Res) (m : ℕ) → length qs ≡ m → qs ++ r ∷ [] ≡ take (suc m) rs → (slice_get rs m ≡ Some r) × (qs ≡ take m rs)
last_name [] r [] m long same = absurd (no_list zero (ap (λ (xs : List Res). length xs) same))
  where
    no_list : (n : ℕ) → suc n ≡ zero → ⊥
    no_list n h = omega arith
last_name [] r (q ∷ rs) zero long same = (ap (λ (xs : List Res). Some (get_or xs 0 r)) (sym same), refl)
last_name [] r (q ∷ rs) (suc m) long same = absurd (omega arith)
last_name (a ∷ qs) r [] m long same = absurd (no_list (length (qs ++ r ∷ [])) (ap (λ (xs : List Res). length xs) same))
  where
    no_list : (n : ℕ) → suc n ≡ zero → ⊥
    no_list n h = omega arith
last_name (a ∷ qs) r (q ∷ rs) zero long same = absurd (omega arith)
last_name (a ∷ qs) r (q ∷ rs) (suc m) long same =
    let rest = last_name qs r rs m (omega arith) (ap (drop 1) same) in
    (rest.0, (λ i. get_or (same i) 0 a ∷ rest.1 i))

last_at : {A : Type 0} (xs : List A) (x d : A) → get_or (xs ++ x ∷ []) (length xs) d ≡ x
last_at [] x d = refl
last_at (y ∷ xs) x d = last_at xs x d

pub cells-last : (p : ProgramData) (turn : Res → ℕ) (rs : List Res) (held rest : List Held) (x : Held) (n : ℕ) → AreCells p turn (take (length held) rs) held → held ≡ rest ++ x ∷ [] → n ≡ length rest
    → (slice_get rs n ≡ Some x.res) × IsCell p x.res (turn x.res) x.cell × AreCells p turn (take n rs) rest
cells-last p turn rs held rest x n h is count =
    let long : length held ≡ suc (length rest) = ap (λ (xs : List Held). length xs) is ∙ one (length rest) (length (rest ++ x ∷ [])) (Rattle.std.proofs.Common.length-append rest (x ∷ [])) in
    let names : map (λ (y : Held). y.res) rest ++ x.res ∷ [] ≡ take (suc (length rest)) rs =
    sym (map-append (λ (y : Held). y.res) rest (x ∷ [])) ∙ ap (map (λ (y : Held). y.res)) (sym is) ∙ h.names ∙ ap (λ (m : ℕ). take m rs) long in
    let last = last_name (map (λ (y : Held). y.res) rest) x.res rs (length rest) (map-long (λ (y : Held). y.res) rest) names in
    let all : All (λ (y : Held). IsCell p y.res (turn y.res) y.cell) (rest ++ x ∷ []) = subst (All (λ (y : Held). IsCell p y.res (turn y.res) y.cell)) is h.cells in (
      ap (slice_get rs) count ∙ last.0,
      subst (λ (y : Held). IsCell p y.res (turn y.res) y.cell) (last_at rest x x) (all (length rest) x (omega (arith, Rattle.std.proofs.Common.length-append rest (x ∷ [])))),
      record {
        names = last.1 ∙ ap (λ (m : ℕ). take m rs) (sym count);
        cells = λ i d less. subst (λ (y : Held). IsCell p y.res (turn y.res) y.cell) (get_or-append rest (x ∷ []) d i less) (all i d (omega (arith, less, Rattle.std.proofs.Common.length-append rest (x ∷ []))));
      },
    )
  where
    one : (m n : ℕ) → n ≡ m + 1 → n ≡ suc m
    one m n h = omega arith
