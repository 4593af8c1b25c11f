-- What the code of a board needs.
use Rattle.std.proofs.Common.{◌≡◌, ◌<◌, ◌≤◌, ◌+◌, zero, suc, None, Some, inl, inr, [], ◌∷◌, arith, ℕ, Bool, true, false, if◌then◌else◌, ◌&&◌, List, get_or, length, map, drop, not, is_some, Option, ap, subst, slice_index_or, replicate, ◌++◌, ◌∙◌, sym, refl}
use Rattle.std.specs.Prelude.{slice_get, IsTrue, ◌↔◌}
use Rattle.std.proofs.lemmas.Bool.{cases_Bool, false≢true, or_left, or_right}
use Rattle.std.proofs.lemmas.Option.{same_Some, none-some}
use Rattle.qccd_base.specs.declared.names.Res.{Res}
use Rattle.qccd_base.specs.Resource.{among, same_res}
use Rattle.qccd_base.proofs.Resources.{among-own, same_res-own}
use Rattle.qccd_base.specs.FirstFailing.{first_failing}
use Rattle.qccd_base.proofs.FirstFailing.{first_failing-at, first_failing-after, fails_first, passes_first}
use Rattle.std.proofs.lemmas.List.{at_drop_more}
use Rattle.op_table.specs.declared.kinds.OpKind.{OpKind}
use Rattle.op_table.specs.Touch.{touches, nth}
use Rattle.op_cells.specs.Numbering.{index_of}
use Rattle.qccd_program.specs.Legal.{IsLegalProgram}
use Rattle.qccd_program.specs.Program.{ProgramData}
use Rattle.qccd_program.proofs.Turning.{nth-next}
use Rattle.claim_core.specs.declared.event.ActFault.{ActFault}
use Rattle.claim_core.specs.declared.event.ActFault.TheVariants.{NotYours, Untouched, NotGot, Again}
use Rattle.claim_core.specs.declared.event.Event.{Event}
use Rattle.claim_core.specs.declared.event.Event.TheVariants.{Reach, Give}
use Rattle.claim_core.specs.Board.{BoardData, is_there, width, slot_at, flag_at, free_slot, hand_at, turn_at, got_at, gave_at, opening_board}
use Rattle.claim_core.specs.Event.{touched, is_op, begun, fault, moved, IsEvent, Allowed}
use Rattle.claim_core.specs.History.{IsBoardOf, board_of, board_from}
use Rattle.claim_core.specs.Sound.{IsWide}
use Rattle.claim_core.specs.Coded.{Claims, Suits, is_finished, is_enabled}
use Rattle.claim_core.specs.Enabled.{AllFinished, IsEnabled, IsLeastUnfinished}
use Rattle.claim_core.proofs.Testing.{finished-from, finished-true, enabled-from, enabled-true}
use Rattle.claim_core.proofs.Ends.{board-sound}
use Rattle.claim_core.proofs.Events.{event-sound, history-more}
use Rattle.claim_core.proofs.Legally.{claims-legal, touched_at}
use Rattle.claim_core.proofs.Turns.{one_true, one_false, nth_all}
use Rattle.claim_core.proofs.Written.{index_below, reaches, gives}

pub slot-there : (p : ProgramData) (b : BoardData) (r : Res) → is_there p r ≡ true → slot_at p b r ≡ get_or b.slots (index_of p.machine r) free_slot
slot-there p b r h = ap (λ (c : Bool). if c then get_or b.slots (index_of p.machine r) free_slot else free_slot) h

pub flag-there : (p : ProgramData) (flags : List Bool) (r : Res) → is_there p r ≡ true → flag_at p flags r ≡ get_or flags (index_of p.machine r) false
flag-there p flags r h = ap (λ (c : Bool). c && get_or flags (index_of p.machine r) false) h

pub wide-slots : (p : ProgramData) (b : BoardData) → IsWide p b → length b.slots ≡ width p
wide-slots p b w = w.slots

pub wide-got : (p : ProgramData) (b : BoardData) (w : ℕ) → IsWide p b → w < length b.hands → length (hand_at b w).got ≡ width p
wide-got p b w h there = (h.flags w there).0

pub wide-gave : (p : ProgramData) (b : BoardData) (w : ℕ) → IsWide p b → w < length b.hands → length (hand_at b w).gave ≡ width p
wide-gave p b w h there = (h.flags w there).1

pub there-among : (p : ProgramData) (k : ℕ) (r : Res) → Claims p → among (touched p.ops k) r ≡ true → is_there p r ≡ true
there-among p k r c at = c.there k r at

pub nth-le : (ops : List OpKind) (k : ℕ) (r : Res) → nth ops k r ≤ k
nth-le ops zero r = omega arith
nth-le [] (suc k) r = omega arith
nth-le (o ∷ ops) (suc k) r = elim (cases_Bool (among (touches o) r)) [
  | inl h ↦ omega (arith, nth-next o ops k r, one_true o r h, nth-le ops k r)
  | inr h ↦ omega (arith, nth-next o ops k r, one_false o r h, nth-le ops k r)
]

pub ruleset listed = (touched_at)

get_among : (rs : List Res) (i : ℕ) (r : Res) → slice_get rs i ≡ Some r → among rs r ≡ true
get_among [] i r is = absurd (none-some r is)
get_among (q ∷ rs) zero r is = or_left (same_res q r) (among rs r) (ap (λ (x : Res). same_res x r) (same_Some q r is) ∙ same_res-own r)
get_among (q ∷ rs) (suc i) r is = or_right (same_res q r) (among rs r) (get_among rs i r is)

-- what stands in the list of an operation is there
pub get-there : (p : ProgramData) (k i : ℕ) (r : Res) → Claims p → slice_get (touched p.ops k) i ≡ Some r → is_there p r ≡ true
get-there p k i r c is = c.there k r (get_among (touched p.ops k) i r is)

pub begun-first : (p : ProgramData) (b : BoardData) (w k : ℕ) (r : Res) (rs xs : List Res) → xs ≡ r ∷ rs → begun p b w k (r ∷ []) ≡ begun p b w k xs
begun-first p b w k r rs xs is = sym (ap (begun p b w k) is)

pub reach-there : (p : ProgramData) (b : BoardData) (w k : ℕ) (r : Res) → Claims p → IsWide p b → IsEvent p b (Reach w k r) → fault p b (Reach w k r) ≡ None → is_there p r ≡ true
reach-there p b w k r claims wide there granted = (reaches p b w k r claims wide there granted).0

pub give-there : (p : ProgramData) (b : BoardData) (w k : ℕ) (r : Res) → Claims p → IsWide p b → IsEvent p b (Give w k r) → fault p b (Give w k r) ≡ None → is_there p r ≡ true
give-there p b w k r claims wide there granted = (gives p b w k r claims wide there granted).0

pub give-few : (p : ProgramData) (b : BoardData) (w k : ℕ) (r : Res) → Suits p b → IsEvent p b (Give w k r) → fault p b (Give w k r) ≡ None → turn_at p b r < 4194304
give-few p b w k r suits there granted =
    let facts = gives p b w k r suits.claims suits.sound.wide there granted in
    let next = event-sound p b (Give w k r) suits.claims suits.sound there granted in
    let few : length p.ops ≤ 4194304 = suits.claims.few in
    omega (arith, next.sound.few r, facts.2.turn, nth-le p.ops (length p.ops) r, nth_all p.ops r, few)

pub head-there : (p : ProgramData) (k : ℕ) (xs : List Res) (d : Res) → Claims p → k < length p.ops → xs ≡ touched p.ops k → is_there p (slice_index_or xs 0 d) ≡ true
head-there p k xs d c there is =
    let some = c.some k there in
    ap (λ (ys : List Res). is_there p (slice_index_or ys 0 d)) (is ∙ some.2) ∙ c.there k some.0 (ap (λ (ys : List Res). among ys some.0) some.2 ∙ among-own some.0 some.1)

pub head-begun : (p : ProgramData) (b : BoardData) (w k : ℕ) (xs : List Res) (d : Res) → Claims p → k < length p.ops → xs ≡ touched p.ops k → begun p b w k (slice_index_or xs 0 d ∷ []) ≡ begun p b w k (touched p.ops k)
head-begun p b w k xs d c there is =
    let some = c.some k there in
    ap (λ (ys : List Res). begun p b w k (slice_index_or ys 0 d ∷ [])) (is ∙ some.2) ∙ sym (ap (begun p b w k) some.2)

pub not-empty : (p : ProgramData) (k : ℕ) (xs : List Res) → Claims p → k < length p.ops → xs ≡ touched p.ops k → 0 < length xs
not-empty p k xs c there is = let some = c.some k there in omega (arith, ap (λ (ys : List Res). length ys) (is ∙ some.2))

pub repeated-more : {X : Type 0} (n : ℕ) (x : X) → replicate n x ++ x ∷ [] ≡ replicate (n + 1) x
repeated-more n x = more n ∙ ap (λ (k : ℕ). replicate k x) (one n)
  where
    one : (n : ℕ) → suc n ≡ n + 1
    one n = omega arith

    more : (n : ℕ) → replicate n x ++ x ∷ [] ≡ replicate (suc n) x
    more zero = refl
    more (suc n) = ap (λ (xs : List _). x ∷ xs) (more n)

-- the program and the board of a history suit each other
pub suits-board : (p : ProgramData) (b : BoardData) → IsLegalProgram p → IsBoardOf p b → Suits p b
suits-board p b legal is = record { claims = claims-legal p legal; sound = board-sound p b legal is }

pub suits-claims : (p : ProgramData) (b : BoardData) → Suits p b → Claims p
suits-claims p b suits = suits.claims

pub suits-wide : (p : ProgramData) (b : BoardData) → Suits p b → IsWide p b
suits-wide p b suits = suits.sound.wide

-- an allowed event leads to a board of a history
pub board-next : (p : ProgramData) (b c : BoardData) (e : Event) → IsBoardOf p b → Allowed p b e c → IsBoardOf p c
board-next p b c e is allowed =
    let now : Allowed p (board_of p is.workers is.events) e (moved p (board_of p is.workers is.events) e) =
    subst (λ (x : BoardData). Allowed p x e (moved p x e)) is.board (record { there = allowed.there; granted = allowed.granted; leaves = refl }) in
    record {
      workers = is.workers;
      events = is.events ++ e ∷ [];
      history = history-more p (opening_board p is.workers) is.events e is.history now;
      board = allowed.leaves ∙ ap (λ (x : BoardData). moved p x e) is.board ∙ sym (board_more p (opening_board p is.workers) is.events e);
    }
  where
    board_more : (p : ProgramData) (b : BoardData) (es : List Event) (e : Event) → board_from p b (es ++ e ∷ []) ≡ moved p (board_from p b es) e
    board_more p b [] e = refl
    board_more p b (x ∷ es) e = board_more p (moved p b x) es e

-- what the tests tell
pub least-from : (p : ProgramData) (b : BoardData) (k : ℕ) → k < length p.ops → ((j : ℕ) → j < k → is_finished p b j ≡ true) → is_finished p b k ≡ false → IsLeastUnfinished p b k
least-from p b k there before unfinished = record {
  there = there;
  unfinished = λ done. false≢true (sym unfinished ∙ finished-true p b k done);
  before = λ j less. finished-from p b j (before j less);
}

pub all-from : (p : ProgramData) (b : BoardData) (n : ℕ) → length p.ops ≤ n → ((j : ℕ) → j < n → is_finished p b j ≡ true) → AllFinished p b
all-from p b n all before k there = finished-from p b k (before k (omega arith))

pub enabled-both : (p : ProgramData) (b : BoardData) (k : ℕ) (answer : Bool) → IsLegalProgram p → IsBoardOf p b → answer ≡ is_enabled p b k → IsTrue answer ↔ IsEnabled p b k
enabled-both p b k answer legal is same =
    let sound = (board-sound p b legal is).sound in
    (λ h. enabled-from p b k sound (sym same ∙ h), λ h. same ∙ enabled-true p b k sound h)

-- what a loop over the resources of an operation reads
pub index-at : (p : ProgramData) (k i : ℕ) (xs : List Res) (d : Res) → xs ≡ touched p.ops k → i < length xs → slice_get (touched p.ops k) i ≡ Some (slice_index_or xs i d)
index-at p k i xs d same less = ap (λ (rs : List Res). slice_get rs i) (sym same) ∙ get_at xs i d less
  where
    get_at : (xs : List Res) (i : ℕ) (d : Res) → i < length xs → slice_get xs i ≡ Some (slice_index_or xs i d)
    get_at [] i d less = absurd (omega (arith, less))
    get_at (x ∷ xs) zero d less = refl
    get_at (x ∷ xs) (suc i) d less = get_at xs i d (omega (arith, less))

pub index-there : (p : ProgramData) (k i : ℕ) (xs : List Res) (d : Res) → Claims p → xs ≡ touched p.ops k → i < length xs → is_there p (slice_index_or xs i d) ≡ true
index-there p k i xs d claims same less = get-there p k i (slice_index_or xs i d) claims (index-at p k i xs d same less)

-- the first test that fails is the one that was found
pub first-found : (f : Res → ActFault) (test : Res → Bool) (xs ys : List Res) (i : ℕ) (d : Res) (why : Option ActFault) → xs ≡ ys → i < length xs
    → first_failing (map (λ r. (f r, test r)) xs) ≡ first_failing (map (λ r. (f r, test r)) (drop i xs))
    → why ≡ (if test (slice_index_or xs i d) then None else Some (f (slice_index_or xs i d))) → is_some why ≡ true → why ≡ first_failing (map (λ r. (f r, test r)) ys)
first-found f test xs ys i d why same less so_far told some = elim (cases_Bool (test x)) [
  | inl passes ↦ absurd (false≢true (sym (ap (λ (o : Option ActFault). is_some o) (told ∙ ap (λ (b : Bool). if b then None else Some (f x)) passes)) ∙ some))
  | inr fails ↦
      told ∙ ap (λ (b : Bool). if b then None else Some (f x)) fails ∙ sym (fails_first (f x) (test x) (map (λ r. (f r, test r)) (drop (i + 1) xs)) fails)
      ∙ sym (at_drop_more (λ (rs : List Res). first_failing (map (λ r. (f r, test r)) rs)) xs i d less) ∙ sym so_far
      ∙ ap (λ (rs : List Res). first_failing (map (λ r. (f r, test r)) rs)) same
]
  where
    x : Res
    x = slice_index_or xs i d

-- why a give is refused, where the operation is the worker's and touches the resource
give_told : (p : ProgramData) (b : BoardData) (w k : ℕ) (r : Res) → is_op (hand_at b w).op k ≡ true → among (touched p.ops k) r ≡ true
    → fault p b (Give w k r) ≡ first_failing (map (λ q. (NotGot q, got_at p b w q)) (touched p.ops k) ++ (Again r, not (gave_at p b w r)) ∷ [])
give_told p b w k r mine at =
    let last = map (λ q. (NotGot q, got_at p b w q)) (touched p.ops k) ++ (Again r, not (gave_at p b w r)) ∷ [] in
    passes_first (NotYours w (hand_at b w).op) (is_op (hand_at b w).op k) ((Untouched r, among (touched p.ops k) r) ∷ last) mine
    ∙ passes_first (Untouched r) (among (touched p.ops k) r) last at

some_is : (o : Option ActFault) → is_some o ≡ true → (f : ActFault) × (o ≡ Some f)
some_is None h = absurd (false≢true h)
some_is (Some f) h = (f, refl)

none_left : (o : Option ActFault) → is_some o ≡ false → o ≡ None
none_left None h = refl
none_left (Some f) h = absurd (false≢true (sym h))

pub give-missing : (p : ProgramData) (b : BoardData) (w k : ℕ) (r : Res) (why : Option ActFault) → is_op (hand_at b w).op k ≡ true → among (touched p.ops k) r ≡ true
    → why ≡ first_failing (map (λ q. (NotGot q, got_at p b w q)) (touched p.ops k)) → is_some why ≡ true → why ≡ fault p b (Give w k r)
give-missing p b w k r why mine at told some =
    let one = some_is why some in
    one.1
    ∙ sym (first_failing-at (map (λ q. (NotGot q, got_at p b w q)) (touched p.ops k)) ((Again r, not (gave_at p b w r)) ∷ []) one.0 (sym told ∙ one.1))
    ∙ sym (give_told p b w k r mine at)

give_behind : (p : ProgramData) (b : BoardData) (w k : ℕ) (r : Res) (why : Option ActFault) → is_op (hand_at b w).op k ≡ true → among (touched p.ops k) r ≡ true
    → why ≡ first_failing (map (λ q. (NotGot q, got_at p b w q)) (touched p.ops k)) → is_some why ≡ false → fault p b (Give w k r) ≡ first_failing ((Again r, not (gave_at p b w r)) ∷ [])
give_behind p b w k r why mine at told none =
    give_told p b w k r mine at
    ∙ first_failing-after (map (λ q. (NotGot q, got_at p b w q)) (touched p.ops k)) ((Again r, not (gave_at p b w r)) ∷ []) (sym told ∙ none_left why none)

pub give-again : (p : ProgramData) (b : BoardData) (w k : ℕ) (r : Res) (why : Option ActFault) → is_op (hand_at b w).op k ≡ true → among (touched p.ops k) r ≡ true
    → why ≡ first_failing (map (λ q. (NotGot q, got_at p b w q)) (touched p.ops k)) → is_some why ≡ false → gave_at p b w r ≡ true → Some (Again r) ≡ fault p b (Give w k r)
give-again p b w k r why mine at told none gave =
    sym (fails_first (Again r) (not (gave_at p b w r)) [] (ap (λ (x : Bool). not x) gave)) ∙ sym (give_behind p b w k r why mine at told none)

pub give-granted : (p : ProgramData) (b : BoardData) (w k : ℕ) (r : Res) (why : Option ActFault) → is_op (hand_at b w).op k ≡ true → among (touched p.ops k) r ≡ true
    → why ≡ first_failing (map (λ q. (NotGot q, got_at p b w q)) (touched p.ops k)) → is_some why ≡ false → gave_at p b w r ≡ false → None ≡ fault p b (Give w k r)
give-granted p b w k r why mine at told none kept =
    sym (passes_first (Again r) (not (gave_at p b w r)) [] (ap (λ (x : Bool). not x) kept)) ∙ sym (give_behind p b w k r why mine at told none)

pub ruleset boards = (suits-board, suits-claims, suits-wide, claims-legal, reach-there, give-there)

pub ruleset coded = (index_below, slot-there, flag-there, wide-slots, wide-got, wide-gave, there-among, get-there, repeated-more)
