-- What a claim makes of a pass, step by step.
use Rattle.std.proofs.Common.{◌≡◌, ◌≢◌, ℕ, zero, suc, ◌+◌, ◌*◌, ◌/◌, ◌%◌, ◌<◌, ◌≤◌, ◌⊎◌, inl, inr, Bool, true, false, ◌||◌, ◌==◌, nat_lt, if◌then◌else◌, max, List, [], ◌∷◌, ◌++◌, length, take, drop, get_or, is_some, refl, sym, ◌∙◌, ap, subst, arith, Option, Some, None, length-set}
use Rattle.std.specs.Prelude.{slice_get}
use Rattle.std.proofs.lemmas.Bool.{cases_Bool, false≢true, or_cases, or_left, or_right, lt-ltb, ltb-true, ltb-false, eq-eqb, eqb-true, false_from_ne_true, or_from}
use Rattle.std.proofs.lemmas.Option.{same_Some, none-some}
use Rattle.qccd_base.specs.declared.names.Res.{Res}
use Rattle.std.proofs.lemmas.List.Elements.{All-push}
use mathlib.Core.List.{map-append}
use Rattle.qccd_base.specs.Resource.{same_res, among, IsAscending}
use Rattle.qccd_base.proofs.Resources.{same_res-true, same_res-own, among-earlier, IsAscending-ascending}
use Rattle.op_table.specs.declared.kinds.OpKind.{OpKind}
use Rattle.op_table.specs.Touch.{touches, named, nth, is_head}
use Rattle.atomic_table.specs.Table.{rest}
use Rattle.op_cells.specs.declared.cells.Cell.{Cell}
use Rattle.op_cells.specs.declared.cells.Held.{Held}
use Rattle.op_cells.specs.Numbering.{index_of}
use Rattle.qccd_program.specs.CellOfRun.{IsCell}
use Rattle.qccd_program.specs.Program.{ProgramData}
use Rattle.claim_core.specs.Board.{HandData, is_there, width, flag_at, no_flags}
use Rattle.claim_core.specs.Event.{touched, with_flag}
use Rattle.claim_core.proofs.Written.{index_below, flag_set, flag_none}
use Rattle.claim_board.specs.declared.claimed.Claimed.{Claimed}
use Rattle.claim_board.specs.declared.claimed.Claimed.TheVariants.{Got, NotNow, Gone}
use Rattle.claim_board.specs.declared.view.View.{View}
use Rattle.claim_board.specs.Pass.{AreCells, HasFlags, empty_slots, Kept, HasRead, Answered, why_not, told, Looked, Sits, HasTaken}
use Rattle.claim_board.specs.Plays.{Knows, MayBegin, MayReach, Takes, after_look, after_begin, after_reach}
use Rattle.claim_board.specs.View.{turn_in, held_in, seen_of, seen_also}

-- what was seen rises
pub seen-rises : (seen : List ℕ) (i n j : ℕ) → get_or seen j 0 ≤ get_or (seen_also seen i n) j 0
seen-rises [] i n j = omega arith
seen-rises (x ∷ xs) zero n zero = omega arith
seen-rises (x ∷ xs) zero n (suc j) = omega arith
seen-rises (x ∷ xs) (suc i) n zero = omega arith
seen-rises (x ∷ xs) (suc i) n (suc j) = seen-rises xs i n j

pub seen-new : (seen : List ℕ) (i n : ℕ) → i < length seen → n ≤ get_or (seen_also seen i n) i 0
seen-new [] i n less = absurd (omega arith)
seen-new (x ∷ xs) zero n less = omega arith
seen-new (x ∷ xs) (suc i) n less = seen-new xs i n (omega arith)

-- what is kept
pub kept-own : (v : View) → Kept v v 0
kept-own v = record { program = refl; workers = refl; live = refl; number = refl; made = refl; ended = refl; long = refl; looks = omega arith; few = omega arith; seen = λ r there. omega arith }

pub kept-more : (u v w : View) (m n : ℕ) → Kept u v m → Kept v w n → Kept u w (m + n)
kept-more u v w m n a b = record {
  program = b.program ∙ a.program;
  workers = b.workers ∙ a.workers;
  live = b.live ∙ a.live;
  number = b.number ∙ a.number;
  made = b.made ∙ a.made;
  ended = b.ended ∙ a.ended;
  long = b.long ∙ a.long;
  looks = omega (arith, a.looks, b.looks);
  few = omega (arith, a.few, b.few);
  seen = λ r there. omega (arith, a.seen r there, b.seen r (subst (λ (p : ProgramData). is_there p r ≡ true) (sym a.program) there));
}

pub kept-wider : (v w : View) (m n : ℕ) → m ≤ n → Kept v w m → Kept v w n
kept-wider v w m n le k = record { program = k.program; workers = k.workers; live = k.live; number = k.number; made = k.made; ended = k.ended; long = k.long; looks = k.looks; few = omega (arith, k.few, le); seen = k.seen }

pub looked-own : (v : View) → Looked v v 0
looked-own v = record { kept = kept-own v; hand = refl; begun = refl }

pub looked-more : (u v w : View) (m n : ℕ) → Looked u v m → Looked v w n → Looked u w (m + n)
looked-more u v w m n a b = record { kept = kept-more u v w m n a.kept b.kept; hand = b.hand ∙ a.hand; begun = b.begun ∙ a.begun }

pub looked-wider : (v w : View) (m n : ℕ) → m ≤ n → Looked v w m → Looked v w n
looked-wider v w m n le k = record { kept = kept-wider v w m n le k.kept; hand = k.hand; begun = k.begun }

pub looked-one : (v : View) (i x : ℕ) → Looked v (after_look i x v) 1
looked-one v i x = record {
  kept = record {
    program = refl;
    workers = refl;
    live = refl;
    number = refl;
    made = refl;
    ended = refl;
    long = length-set v.seen i (max (get_or v.seen i 0) (turn_in x));
    looks = omega arith;
    few = omega arith;
    seen = λ r there. seen-rises v.seen i (turn_in x) (index_of v.program.machine r);
  };
  hand = refl;
  begun = refl;
}

-- where the seat is after a look
pub sits-look : (p : ProgramData) (size n : ℕ) (v w : View) (turns later : List ℕ) (i x t : ℕ) → Sits p size v turns → n ≡ size → w ≡ after_look i x v → later ≡ seen_also turns i t → t ≡ turn_in x → Sits p n w later
sits-look p size n v w turns later i x t s same is noted turn = record {
  words = same ∙ s.words;
  live = ap (λ (z : View). z.live) is ∙ s.live;
  program = ap (λ (z : View). z.program) is ∙ s.program;
  seen = ap (λ (z : View). z.seen) is ∙ (λ k. seen_also (s.seen k) i (sym turn k)) ∙ sym noted;
  long = ap (λ (z : List ℕ). length z) noted ∙ length-set turns i (max (get_or turns i 0) t) ∙ s.long;
}

pub sits-more : (p : ProgramData) (size n : ℕ) (v w : View) (turns later : List ℕ) (i t : ℕ) → Sits p size v turns → n ≡ size → w.live ≡ v.live → w.program ≡ v.program → w.seen ≡ seen_also v.seen i t → later ≡ seen_also turns i t → Sits p n w later
sits-more p size n v w turns later i t s same live program seen noted = record {
  words = same ∙ s.words;
  live = live ∙ s.live;
  program = program ∙ s.program;
  seen = seen ∙ ap (λ (z : List ℕ). seen_also z i t) s.seen ∙ sym noted;
  long = ap (λ (z : List ℕ). length z) noted ∙ length-set turns i (max (get_or turns i 0) t) ∙ s.long;
}

-- a word of the program is one of the table's, and of the turns'
pub word-in : (p : ProgramData) (size i : ℕ) (v : View) (turns : List ℕ) (r : Res) → Sits p size v turns → is_there p r ≡ true → i ≡ index_of p.machine r → (i < size) × (i < length turns)
word-in p size i v turns r s there at = (omega (arith, s.words, index_below p r there, at), omega (arith, s.long, index_below p r there, at))

-- a word that is not free at the turn needed
not-free : (n m : ℕ) → n ≢ 32 * m → m ≤ n / 32 → (m < n / 32) ⊎ ((n / 32 ≡ m) × (0 < n % 32))
not-free n m other le = elim (Rattle.claim_core.proofs.Kept.cases_ℕ (n / 32) m) [
  | inl is ↦ inr (is, omega arith)
  | inr apart ↦ inl (omega arith)
]

pub answered-look : (v w : View) (k i x needed : ℕ) (r : Res) → v.op ≡ None → w ≡ after_look i x v → i ≡ index_of v.program.machine r → i < length v.seen → among (touched v.program.ops k) r ≡ true → needed ≡ nth v.program.ops k r
    → x ≢ 32 * needed → Answered v w k [] (why_not r x needed)
answered-look v w k i x needed r empty is at less on need other = elim (cases_Bool (nat_lt (turn_in x) needed)) [
  | inl low ↦
      subst (Answered v w k []) (sym (ap (λ (b : Bool). if b then NotNow r (turn_in x) needed else Gone r (turn_in x) (held_in x)) low))
      ((held_in x, read), need, ltb-true (turn_in x) needed low)
  | inr high ↦
      subst (Answered v w k []) (sym (ap (λ (b : Bool). if b then NotNow r (turn_in x) needed else Gone r (turn_in x) (held_in x)) high)) (
        read,
        elim (not-free x needed other (ltb-false (turn_in x) needed high)) [
          | inl past ↦ inl (omega (arith, past, need))
          | inr (same, some) ↦ inr (same ∙ need, lt-ltb 0 (x % 32) some)
        ],
      )
]
  where
    read : HasRead v w k [] r (turn_in x) (held_in x)
    read = record {
      hand = ap (λ (z : View). z.op) is ∙ empty;
      cells = refl;
      begun = ap (λ (z : View). z.begun) is;
      touches = on;
      looked = omega (arith, ap (λ (z : View). z.looks) is);
      last = ap (λ (z : View). z.last) is ∙ ap (λ (j : ℕ). (j, turn_in x, held_in x)) at;
      seen = subst (λ (m : ℕ). turn_in x ≤ m) (sym (ap (λ (z : View). seen_of z r) is)) (subst (λ (j : ℕ). turn_in x ≤ get_or (seen_also v.seen i (turn_in x)) j 0) at (seen-new v.seen i (turn_in x) less));
    }

-- an answer after further looks before it
read-later : (u v w : View) (m k : ℕ) (held : List Held) (r : Res) (turn : ℕ) (taken : Bool) → Looked u v m → HasRead v w k held r turn taken → HasRead u w k held r turn taken
read-later u v w m k held r turn taken l h = record {
  hand = h.hand;
  cells = h.cells;
  begun = h.begun ∙ l.begun;
  touches = subst (λ (p : ProgramData). among (touched p.ops k) r ≡ true) l.kept.program h.touches;
  looked = omega (arith, h.looked, l.kept.looks);
  last = h.last ∙ ap (λ (p : ProgramData). (index_of p.machine r, turn, taken)) l.kept.program;
  seen = h.seen;
}

pub answered-later : (u v w : View) (m k : ℕ) (a : Claimed) → Looked u v m → Answered v w k [] a → Answered u w k [] a
answered-later u v w m k Got l h = record {
  hand = h.hand;
  cells = subst (λ (p : ProgramData). AreCells p (nth p.ops k) (touched p.ops k) []) l.kept.program h.cells;
  begun = omega (arith, h.begun, l.begun);
}
answered-later u v w m k (NotNow r turn needed) l h =
    ((h.0.0, read-later u v w m k [] r turn h.0.0 l h.0.1), h.1 ∙ ap (λ (p : ProgramData). nth p.ops k r) l.kept.program, h.2)
answered-later u v w m k (Gone r turn taken) l h = (
  read-later u v w m k [] r turn taken l h.0,
  subst (λ (p : ProgramData). (nth p.ops k r < turn) ⊎ ((turn ≡ nth p.ops k r) × (taken ≡ true))) l.kept.program h.1,
)

-- the first n entries of a list, and the next
pub taken-next : (rs : List Res) (n : ℕ) (r : Res) → slice_get rs n ≡ Some r → take (n + 1) rs ≡ take n rs ++ r ∷ []
taken-next rs n r at = ap (λ (m : ℕ). take m rs) (one n) ∙ next rs n r at
  where
    one : (n : ℕ) → n + 1 ≡ suc n
    one n = omega arith

    next : (rs : List Res) (n : ℕ) (r : Res) → slice_get rs n ≡ Some r → take (suc n) rs ≡ take n rs ++ r ∷ []
    next [] n r at = absurd (none-some r at)
    next (q ∷ rs) zero r at = ap (λ (x : Res). x ∷ []) (same_Some q r at)
    next (q ∷ rs) (suc n) r at = ap (λ (xs : List Res). q ∷ xs) (next rs n r at)

pub get-among : (rs : List Res) (i : ℕ) (r : Res) → slice_get rs i ≡ Some r → among rs r ≡ true
get-among [] i r is = absurd (none-some r is)
get-among (q ∷ rs) zero r is = or_left (same_res q r) (among rs r) (ap (λ (x : Res). same_res x r) (same_Some q r is) ∙ same_res-own r)
get-among (q ∷ rs) (suc i) r is = or_right (same_res q r) (among rs r) (get-among rs i r is)

pub among-push : (rs : List Res) (q r : Res) → among (rs ++ q ∷ []) r ≡ (same_res q r || among rs r)
among-push [] q r = refl
among-push (x ∷ rs) q r = ap (λ (b : Bool). same_res x r || b) (among-push rs q r) ∙ swap (same_res x r) (same_res q r) (among rs r)
  where
    swap : (a b c : Bool) → (a || (b || c)) ≡ (b || (a || c))
    swap true true c = refl
    swap true false c = refl
    swap false true c = refl
    swap false false c = refl

pub slots-push : (p : ProgramData) (rs : List Res) (q : Res) (c : List (ℕ × Option Cell)) → empty_slots p (rs ++ q ∷ []) c ≡ (index_of p.machine q, None) ∷ empty_slots p rs c
slots-push p [] q c = refl
slots-push p (r ∷ rs) q c = slots-push p rs q ((index_of p.machine r, None) ∷ c)

-- each resource stands once in the list
abbrev pub IsOnce : List Res → Type 0
IsOnce [] = Unit {0}
IsOnce (r ∷ rs) = (among rs r ≡ false) × IsOnce rs

once-ascending : (rs : List Res) → IsAscending rs → IsOnce rs
once-ascending [] up = tt
once-ascending (r ∷ rs) up = (among-earlier r rs up.0, once-ascending rs up.1)

pub touched-once : (ops : List OpKind) (k : ℕ) → IsOnce (touched ops k)
touched-once [] k = tt
touched-once (op ∷ ops) zero = once-ascending (touches op) (IsAscending-ascending (named op))
touched-once (op ∷ ops) (suc k) = touched-once ops k

not_other : (rs : List Res) (q r : Res) → among rs q ≡ false → among rs r ≡ true → same_res q r ≡ false
not_other rs q r out at = false_from_ne_true (same_res q r) (λ is. false≢true (sym out ∙ ap (among rs) (same_res-true q r is) ∙ at))

pub not-before : (rs : List Res) (n : ℕ) (r : Res) → IsOnce rs → slice_get rs n ≡ Some r → among (take n rs) r ≡ false
not-before rs zero r once at = refl
not-before [] (suc n) r once at = refl
not-before (q ∷ rs) (suc n) r once at = or_from (same_res q r) (among (take n rs) r) (not_other rs q r once.0 (get-among rs n r at)) (not-before rs n r once.1 at)

pub not-after : (rs : List Res) (n : ℕ) (r : Res) → IsOnce rs → slice_get rs n ≡ Some r → among (drop (n + 1) rs) r ≡ false
not-after rs n r once at = ap (λ (m : ℕ). among (drop m rs) r) (one n) ∙ after rs n r once at
  where
    one : (n : ℕ) → n + 1 ≡ suc n
    one n = omega arith

    after : (rs : List Res) (n : ℕ) (r : Res) → IsOnce rs → slice_get rs n ≡ Some r → among (drop (suc n) rs) r ≡ false
    after [] n r once at = refl
    after (q ∷ rs) zero r once at = ap (among rs) (sym (same_Some q r at)) ∙ once.0
    after (q ∷ rs) (suc n) r once at = after rs n r once.1 at

-- the cell at the front
cell_or : Cell → List (ℕ × Option Cell) → Cell
cell_or d [] = d
cell_or d ((i, None) ∷ c) = d
cell_or d ((i, Some x) ∷ c) = x

one_cell : (i j : ℕ) (x y : Cell) (c d : List (ℕ × Option Cell)) → (i, Some x) ∷ c ≡ (j, Some y) ∷ d → x ≡ y
unfolding cell_or
one_cell i j x y c d same = ap (cell_or x) same

-- what one more resource makes of the flags, the slots and the cells
flags-next : (p : ProgramData) (flags : List Bool) (rs : List Res) (n : ℕ) (r : Res) → HasFlags p flags (take n rs) → is_there p r ≡ true → slice_get rs n ≡ Some r → HasFlags p (with_flag p flags r) (take (n + 1) rs)
flags-next p flags rs n r h there at = record {
  long = length-set flags (index_of p.machine r) true ∙ h.long;
  set = λ q. flag_set p r q flags there h.long ∙ ap (λ (b : Bool). same_res r q || b) (h.set q) ∙ sym (among-push (take n rs) r q) ∙ ap (λ (xs : List Res). among xs q) (sym (taken-next rs n r at));
}

cells-next : (p : ProgramData) (turn : Res → ℕ) (rs : List Res) (n : ℕ) (r : Res) (held : List Held) (c : Cell) → AreCells p turn (take n rs) held → IsCell p r (turn r) c → slice_get rs n ≡ Some r → AreCells p turn (take (n + 1) rs) (held ++ record { res = r; cell = c } ∷ [])
cells-next p turn rs n r held c h is at = record {
  names = map-append (λ (x : Held). x.res) held (record { res = r; cell = c } ∷ []) ∙ ap (λ (xs : List Res). xs ++ r ∷ []) h.names ∙ sym (taken-next rs n r at);
  cells = All-push (λ (x : Held). IsCell p x.res (turn x.res) x.cell) held (record { res = r; cell = c }) h.cells is;
}

-- a resource was taken: the step, and then its cell
pub taken-one : (p : ProgramData) (v : View) (me taken after : Knows) (held later : List Held) (k n : ℕ) (r : Res) → v.program ≡ p → is_there p r ≡ true → slice_get (touched p.ops k) n ≡ Some r
    → HasTaken v me held k n → Takes me.0.program r (nth me.0.program.ops k r) me (after_reach k r me.0) taken → after ≡ (taken.0, (index_of p.machine r, None) ∷ rest taken.1)
    → (c : Cell) × (taken.1 ≡ (index_of p.machine r, Some c) ∷ rest taken.1) × (later ≡ held ++ record { res = r; cell = c } ∷ []) → HasTaken v after later k (n + 1)
taken-one p v me taken after held later k n r is there at h t out put =
    let P = v.program in
    let me_p : me.0.program ≡ P = h.kept.program in
    let there_v : is_there P r ≡ true = subst (λ (q : ProgramData). is_there q r ≡ true) (sym is) there in
    let at_v : slice_get (touched P.ops k) n ≡ Some r = subst (λ (q : ProgramData). slice_get (touched q.ops k) n ≡ Some r) (sym is) at in
    let view : after.0 ≡ after_reach k r me.0 = ap (λ (z : Knows). z.0) out ∙ ap (λ (z : Knows). z.0) t.knows in
    let slots : after.1 ≡ (index_of P.machine r, None) ∷ me.1 =
    ap (λ (z : Knows). z.1) out ∙ ap (λ (z : Knows). (index_of p.machine r, None) ∷ rest z.1) t.knows ∙ ap (λ (q : ProgramData). (index_of q.machine r, None) ∷ me.1) (sym is) in
    let cell_is : put.0 ≡ t.cell = one_cell (index_of p.machine r) (index_of me.0.program.machine r) put.0 t.cell (rest taken.1) me.1 (sym put.1 ∙ ap (λ (z : Knows). z.1) t.knows) in
    let cell : IsCell P r (nth P.ops k r) put.0 = subst (λ (c : Cell). IsCell P r (nth P.ops k r) c) (sym cell_is) (subst (λ (q : ProgramData). IsCell q r (nth q.ops k r) t.cell) me_p t.is) in
    record {
      busy = ap (λ (z : View). z.op) view ∙ h.busy;
      got = subst (λ (fs : List Bool). HasFlags P fs (take (n + 1) (touched P.ops k))) (sym (ap (λ (z : View). z.got) view ∙ ap (λ (q : ProgramData). with_flag q me.0.got r) me_p))
          (flags-next P me.0.got (touched P.ops k) n r h.got there_v at_v);
      gave = subst (λ (fs : List Bool). HasFlags P fs []) (sym (ap (λ (z : View). z.gave) view)) h.gave;
      slots = slots ∙ ap (λ (c : List (ℕ × Option Cell)). (index_of P.machine r, None) ∷ c) h.slots ∙ sym (slots-push P (take n (touched P.ops k)) r []) ∙ ap (λ (xs : List Res). empty_slots P xs []) (sym (taken-next (touched P.ops k) n r at_v));
      cells = subst (AreCells P (nth P.ops k) (take (n + 1) (touched P.ops k))) (sym put.2) (cells-next P (nth P.ops k) (touched P.ops k) n r held put.0 h.cells cell at_v);
      begun = ap (λ (z : View). z.begun) view ∙ h.begun;
      kept = kept-more v me.0 after.0 0 0 h.kept
          (subst (λ (z : View). Kept me.0 z 0) (sym view) (record {
            program = refl;
            workers = refl;
            live = refl;
            number = refl;
            made = refl;
            ended = refl;
            long = length-set me.0.seen (index_of me.0.program.machine r) (max (get_or me.0.seen (index_of me.0.program.machine r) 0) (nth me.0.program.ops k r));
            looks = omega arith;
            few = omega arith;
            seen = λ q _. seen-rises me.0.seen (index_of me.0.program.machine r) (nth me.0.program.ops k r) (index_of me.0.program.machine q);
          }));
    }

-- the first resource was taken
pub taken-first : (p : ProgramData) (v : View) (c : List (ℕ × Option Cell)) (taken after : Knows) (later : List Held) (k : ℕ) (r : Res) → v.program ≡ p → is_there p r ≡ true → slice_get (touched p.ops k) 0 ≡ Some r → c ≡ []
    → Takes p r (nth p.ops k r) (v, c) (after_begin k r v) taken → after ≡ (taken.0, (index_of p.machine r, None) ∷ rest taken.1)
    → (x : Cell) × (taken.1 ≡ (index_of p.machine r, Some x) ∷ rest taken.1) × (later ≡ record { res = r; cell = x } ∷ []) → HasTaken v after later k 1
taken-first p v c taken after later k r is there at none t out put =
    let P = v.program in
    let there_v : is_there P r ≡ true = subst (λ (q : ProgramData). is_there q r ≡ true) (sym is) there in
    let at_v : slice_get (touched P.ops k) 0 ≡ Some r = subst (λ (q : ProgramData). slice_get (touched q.ops k) 0 ≡ Some r) (sym is) at in
    let view : after.0 ≡ after_begin k r v = ap (λ (z : Knows). z.0) out ∙ ap (λ (z : Knows). z.0) t.knows in
    let slots : after.1 ≡ (index_of P.machine r, None) ∷ [] =
    ap (λ (z : Knows). z.1) out ∙ ap (λ (z : Knows). (index_of p.machine r, None) ∷ rest z.1) t.knows ∙ (λ i. (index_of (sym is i).machine r, None) ∷ none i) in
    let cell_is : put.0 ≡ t.cell = one_cell (index_of p.machine r) (index_of p.machine r) put.0 t.cell (rest taken.1) c (sym put.1 ∙ ap (λ (z : Knows). z.1) t.knows) in
    let cell : IsCell P r (nth P.ops k r) put.0 = subst (λ (x : Cell). IsCell P r (nth P.ops k r) x) (sym cell_is) (subst (λ (q : ProgramData). IsCell q r (nth q.ops k r) t.cell) (sym is) t.is) in
    let none_long : length (no_flags P) ≡ width P = Rattle.std.proofs.lemmas.List.length-replicate (width P) false in
    let none_set : HasFlags P (no_flags P) [] = record { long = none_long; set = λ q. flag_none P q } in
    record {
      busy = ap (λ (z : View). z.op) view;
      got = subst (λ (fs : List Bool). HasFlags P fs (take 1 (touched P.ops k))) (sym (ap (λ (z : View). z.got) view)) (flags-next P (no_flags P) (touched P.ops k) 0 r none_set there_v at_v);
      gave = subst (λ (fs : List Bool). HasFlags P fs []) (sym (ap (λ (z : View). z.gave) view)) none_set;
      slots = slots ∙ ap (λ (xs : List Res). empty_slots P xs []) (sym (taken-next (touched P.ops k) 0 r at_v));
      cells = subst (AreCells P (nth P.ops k) (take 1 (touched P.ops k))) (sym put.2) (cells-next P (nth P.ops k) (touched P.ops k) 0 r [] put.0 (record { names = refl; cells = λ i d less. absurd (omega arith) }) cell at_v);
      begun = ap (λ (z : View). z.begun) view;
      kept = subst (λ (z : View). Kept v z 0) (sym view) (record {
        program = refl;
        workers = refl;
        live = refl;
        number = refl;
        made = refl;
        ended = refl;
        long = length-set v.seen (index_of v.program.machine r) (max (get_or v.seen (index_of v.program.machine r) 0) (nth v.program.ops k r));
        looks = omega arith;
        few = omega arith;
        seen = λ q _. seen-rises v.seen (index_of v.program.machine r) (nth v.program.ops k r) (index_of v.program.machine q);
      });
    }

-- the slot that was taken
pub takes-slot : (p : ProgramData) (r : Res) (n : ℕ) (m : Knows) (w : View) (m' : Knows) (i : ℕ) → Takes p r n m w m' → i ≡ index_of p.machine r → (c : Cell) × (m'.1 ≡ (i, Some c) ∷ rest m'.1)
takes-slot p r n m w m' i t at = (
  t.cell,
  ap (λ (z : Knows). z.1) t.knows ∙ (λ j. (sym at j, Some t.cell) ∷ rest (sym t.knows j).1),
)

-- the pass may reach the next resource
pub may-reach : (p : ProgramData) (v : View) (me : Knows) (held : List Held) (k j : ℕ) (r : Res) → v.program ≡ p → me.0.program ≡ p → me.0.live ≡ true → slice_get (touched p.ops k) j ≡ Some r → HasTaken v me held k j → MayReach me.0 k r
may-reach p v me held k j r v_p me_p live at h = record {
  live = live;
  busy = h.busy;
  touches = subst (λ (q : ProgramData). among (touched q.ops k) r ≡ true) (sym me_p) (get-among (touched p.ops k) j r at);
  lacks =
      subst (λ (q : ProgramData). flag_at q me.0.got r ≡ false) (v_p ∙ sym me_p)
      (h.got.set r ∙ ap (λ (q : ProgramData). among (take j (touched q.ops k)) r) v_p ∙ not-before (touched p.ops k) j r (touched-once p.ops k) at);
}

-- looks at all resources of an operation, one after another
pub looked-next : (p : ProgramData) (u v w : View) (k i x turn : ℕ) (r : Res) → v.program ≡ p → length v.seen ≡ width p → is_there p r ≡ true → slice_get (touched p.ops k) i ≡ Some r → turn ≡ nth p.ops k r
    → Looked u v i → ((q : Res) → among (take i (touched p.ops k)) q ≡ true → nth p.ops k q ≤ seen_of v q) → w ≡ after_look (index_of p.machine r) x v → told r x turn ≡ None
    → Looked u w (i + 1) × ((q : Res) → among (take (i + 1) (touched p.ops k)) q ≡ true → nth p.ops k q ≤ seen_of w q)
looked-next p u v w k i x turn r v_p long there at need l free is none = elim (cases_Bool (x == 32 * turn)) [
  | inr other ↦ absurd (Rattle.std.proofs.lemmas.Option.none-some (why_not r x turn) (sym none ∙ ap (λ (b : Bool). if b then None else Some (why_not r x turn)) other))
  | inl same ↦
      let one : Looked v w 1 = subst (λ (z : View). Looked v z 1) (sym is) (looked-one v (index_of p.machine r) x) in
      let read : turn_in x ≡ turn = at_free x turn (eqb-true x (32 * turn) same) in
      let less : index_of p.machine r < length v.seen = omega (arith, long, index_below p r there) in
      let here : turn ≤ seen_of w r =
      subst (λ (n : ℕ). turn ≤ n) (sym (ap (λ (z : View). seen_of z r) is ∙ ap (λ (q : ProgramData). get_or (seen_also v.seen (index_of p.machine r) (turn_in x)) (index_of q.machine r) 0) v_p))
      (omega (arith, seen-new v.seen (index_of p.machine r) (turn_in x) less, read)) in (
        looked-more u v w i 1 l one,
        λ q on. elim (or_cases (same_res r q) (among (take i (touched p.ops k)) q) (sym (among-push (take i (touched p.ops k)) r q) ∙ ap (λ (xs : List Res). among xs q) (sym (taken-next (touched p.ops k) i r at)) ∙ on)) [
          | inl own ↦ subst (λ (y : Res). nth p.ops k y ≤ seen_of w y) (same_res-true r q own) (omega (arith, need, here))
          | inr before ↦ omega (arith, free q before, subst (λ (z : View). seen_of v q ≤ seen_of z q) (sym is) (seen-rises v.seen (index_of p.machine r) (turn_in x) (index_of v.program.machine q)))
        ],
      )
]
  where
    at_free : (x turn : ℕ) → x ≡ 32 * turn → x / 32 ≡ turn
    at_free x turn h = omega arith

pub told-looked : (p : ProgramData) (u v w : View) (k i x turn : ℕ) (r : Res) (why : Option Claimed) → v.program ≡ p → length v.seen ≡ width p → is_there p r ≡ true → slice_get (touched p.ops k) i ≡ Some r → turn ≡ nth p.ops k r
    → u.op ≡ None → Looked u v i → w ≡ after_look (index_of p.machine r) x v → why ≡ told r x turn → is_some why ≡ true
    → Looked u w (i + 1) × ((a : Claimed) × (why ≡ Some a) × Answered u w k [] a)
told-looked p u v w k i x turn r why v_p long there at need empty l is tells some = elim (cases_Bool (x == 32 * turn)) [
  | inl same ↦ absurd (false≢true (sym (ap (λ (o : Option Claimed). is_some o) (tells ∙ ap (λ (b : Bool). if b then None else Some (why_not r x turn)) same)) ∙ some))
  | inr other ↦
      let one : Looked v w 1 = subst (λ (z : View). Looked v z 1) (sym is) (looked-one v (index_of p.machine r) x) in (
        looked-more u v w i 1 l one,
        (
          why_not r x turn,
          tells ∙ ap (λ (b : Bool). if b then None else Some (why_not r x turn)) other,
          answered-later u v w i k (why_not r x turn) l (answered-look v w k (index_of p.machine r) x turn r (ap (λ (h : HandData). h.op) l.hand ∙ empty) is
              (ap (λ (q : ProgramData). index_of q.machine r) (sym v_p)) (omega (arith, long, index_below p r there))
              (subst (λ (q : ProgramData). among (touched q.ops k) r ≡ true) (sym v_p) (get-among (touched p.ops k) i r at)) (need ∙ ap (λ (q : ProgramData). nth q.ops k r) (sym v_p))
              (λ e. false≢true (sym other ∙ eq-eqb x (32 * turn) e))),
        ),
      )
]

pub get-long : {A : Type 0} (rs : List A) (i : ℕ) (r : A) → slice_get rs i ≡ Some r → i + 1 ≤ length rs
get-long [] i r at = absurd (none-some r at)
get-long (q ∷ rs) zero r at = omega arith
get-long (q ∷ rs) (suc i) r at = omega (arith, get-long rs i r at)

pub take-end : {A : Type 0} (rs : List A) (n : ℕ) → length rs ≤ n → take n rs ≡ rs
take-end [] zero le = refl
take-end [] (suc n) le = refl
take-end (r ∷ rs) zero le = absurd (omega arith)
take-end (r ∷ rs) (suc n) le = ap (λ (xs : List _). r ∷ xs) (take-end rs n (omega arith))

pub none-told : (o : Option Claimed) → is_some o ≡ false → o ≡ None
none-told None h = refl
none-told (Some a) h = absurd (false≢true (sym h))

pub head-get : (rs : List Res) (r : Res) → slice_get rs 0 ≡ Some r → is_head rs r ≡ true
head-get [] r at = absurd (none-some r at)
head-get (q ∷ rs) r at = ap (λ (x : Res). same_res x r) (same_Some q r at) ∙ same_res-own r

-- a pass that has seen all of an operation's resources may begin it
pub may-begin : (p : ProgramData) (v : View) (k : ℕ) (r : Res) → v.program ≡ p → v.live ≡ true → v.op ≡ None → k < length p.ops → slice_get (touched p.ops k) 0 ≡ Some r → ((q : Res) → among (touched p.ops k) q ≡ true → nth p.ops k q ≤ seen_of v q) → MayBegin v k r
may-begin p v k r same live empty there at seen =
    let first : is_head (touched p.ops k) r ≡ true = head-get (touched p.ops k) r at in
    record {
      live = live;
      empty = empty;
      there = subst (λ (z : ProgramData). k < length z.ops) (sym same) there;
      first = subst (λ (z : ProgramData). is_head (touched z.ops k) r ≡ true) (sym same) first;
      seen = subst (λ (z : ProgramData). (q : Res) → among (touched z.ops k) q ≡ true → nth z.ops k q ≤ seen_of v q) (sym same) seen;
    }

pub sits-same : (p : ProgramData) (size n : ℕ) (v w : View) (turns : List ℕ) → Sits p size v turns → n ≡ size → w ≡ v → Sits p n w turns
sits-same p size n v w turns s same is = record {
  words = same ∙ s.words;
  live = ap (λ (z : View). z.live) is ∙ s.live;
  program = ap (λ (z : View). z.program) is ∙ s.program;
  seen = ap (λ (z : View). z.seen) is ∙ s.seen;
  long = s.long;
}

-- looks, and then what was taken
pub kept-taken : (u v w : View) (m : ℕ) → Looked u v m → Kept v w 0 → Kept u w (m + 1)
kept-taken u v w m l k = kept-wider u w (m + 0) (m + 1) (omega arith) (kept-more u v w m 0 l.kept k)
