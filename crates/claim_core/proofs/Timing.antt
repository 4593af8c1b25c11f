-- The commits have the times of the program, and where all are finished each operation is committed.
use Rattle.std.proofs.Common.{◌≡◌, ℕ, zero, suc, max, ◌+◌, ◌<◌, ◌≤◌, inl, inr, Bool, true, false, if◌then◌else◌, List, [], ◌∷◌, map, take, refl, sym, ◌∙◌, ap, ap₂, arith, Some}
use Rattle.std.specs.Prelude.{slice_get}
use Rattle.std.proofs.lemmas.Bool.{cases_Bool}
use Rattle.std.proofs.lemmas.Option.{same_Some, none-some}
use Rattle.qccd_base.specs.Greatest.{greatest}
use Rattle.qccd_base.specs.Resource.{among}
use Rattle.qccd_base.specs.declared.names.Res.{Res}
use Rattle.qccd_base.proofs.Resources.{among-own, map-among}
use Rattle.qccd_machine.specs.Machine.{MachineData}
use Rattle.op_table.specs.declared.kinds.OpKind.{OpKind}
use Rattle.op_table.specs.Clock.{Timed, start_after, timed_after, timed_from, timed, duration}
use Rattle.op_table.specs.Touch.{touches, nth, total}
use Rattle.qccd_program.specs.Faithful.{one_of, IsFaithful, turns_after}
use Rattle.qccd_program.specs.Legal.{IsLegalProgram}
use Rattle.qccd_program.specs.Program.{ProgramData}
use Rattle.qccd_program.specs.Turn.{at_turn}
use Rattle.qccd_program.proofs.Clocks.{clock_after, start-clocks}
use Rattle.qccd_program.proofs.Turning.{stepped, Others, turn-first, turn-own, turn-next}
use Rattle.claim_core.specs.declared.event.Event.{Event}
use Rattle.claim_core.specs.Enabled.{AllFinished}
use Rattle.claim_core.specs.End.{HasItsTimes}
use Rattle.claim_core.specs.Event.{touched}
use Rattle.claim_core.specs.History.{IsHistory, board_of, commits}
use Rattle.claim_core.proofs.Ends.{faithful-commits, sound-history, none_held, last_turns}
use Rattle.claim_core.proofs.Kept.{cases_ℕ}
use Rattle.claim_core.proofs.Legally.{claims-legal, touched_at}
use Rattle.claim_core.proofs.Turns.{one_true, one_false, nth_same, nth_below_total}

-- what was timed, the last one first, with one more
abbrev with_next : MachineData → List Timed → OpKind → List Timed
with_next m es op = timed_after m es op ∷ es

-- the clock of a resource at a turn
abbrev clock_at : MachineData → List OpKind → Res → ℕ → ℕ
clock_at m ops r n = at_turn clock_after (with_next m) [] ops r n

clock_untouched : (x : Timed) (es : List Timed) (r : Res) → among (touches x.op) r ≡ false → clock_after (x ∷ es) r ≡ clock_after es r
clock_untouched x es r h = ap (λ (b : Bool). if b then max x.finish (clock_after es r) else clock_after es r) h

clock_touched : (x : Timed) (es : List Timed) (r : Res) → among (touches x.op) r ≡ true → clock_after (x ∷ es) r ≡ max x.finish (clock_after es r)
clock_touched x es r h = ap (λ (b : Bool). if b then max x.finish (clock_after es r) else clock_after es r) h

others : (m : MachineData) → Others clock_after (with_next m)
others m es op r out = clock_untouched (timed_after m es op) es r out

timed_own : (m : MachineData) (es : List Timed) (ops : List OpKind) (k : ℕ) (op : OpKind) → slice_get ops k ≡ Some op → slice_get (timed_from m es ops) k ≡ Some (timed_after m (stepped (with_next m) es (take k ops)) op)
timed_own m es [] k op is = absurd (none-some op is)
timed_own m es (o ∷ ops) zero op is = ap (λ (x : OpKind). Some (timed_after m es x)) (same_Some o op is)
timed_own m es (o ∷ ops) (suc k) op is = timed_own m (timed_after m es o ∷ es) ops k op is

-- where the clocks of what it touches are the same, an operation has the same times
timed_same : (m : MachineData) (cs bs : List Timed) (op : OpKind) → ((r : Res) → among (touches op) r ≡ true → clock_after cs r ≡ clock_after bs r) → timed_after m cs op ≡ timed_after m bs op
timed_same m cs bs op h =
    let start : start_after cs op ≡ start_after bs op = start-clocks cs op ∙ ap greatest (map-among (touches op) (clock_after cs) (clock_after bs) h) ∙ sym (start-clocks bs op) in
    ap (λ (n : ℕ). record { op = op; start = n; finish = n + duration m op }) start

-- at its turns an operation has its times
agree : (m : MachineData) (ops : List OpKind) (turn : Res → ℕ) (cs : List Timed) (x : ℕ × OpKind) → ((r : Res) → among (touches x.1) r ≡ true → turn r ≡ nth ops x.0 r) → ((r : Res) → clock_after cs r ≡ clock_at m ops r (turn r))
    → (r : Res) → among (touches x.1) r ≡ true → clock_after cs r ≡ clock_after (stepped (with_next m) [] (take x.0 ops)) r
agree m ops turn cs x turns clocks r at = clocks r ∙ ap (clock_at m ops r) (turns r at) ∙ turn-own clock_after (with_next m) (others m) [] ops x.0 r

plus_none : (n k : ℕ) → k ≡ 0 → n ≡ n + k
plus_none n k h = omega (arith, h)

plus_one : (n k : ℕ) → k ≡ 1 → n + 1 ≡ n + k
plus_one n k h = omega (arith, h)

next : (m : MachineData) (ops : List OpKind) (turn : Res → ℕ) (cs : List Timed) (x : ℕ × OpKind) → slice_get ops x.0 ≡ Some x.1 → ((r : Res) → among (touches x.1) r ≡ true → turn r ≡ nth ops x.0 r) → ((r : Res) → clock_after cs r ≡ clock_at m ops r (turn r))
    → (r : Res) → clock_after (timed_after m cs x.1 ∷ cs) r ≡ clock_at m ops r (turn r + one_of x.1 r)
next m ops turn cs x is turns clocks r =
    let bs : List Timed = stepped (with_next m) [] (take x.0 ops) in
    let own : timed_after m cs x.1 ≡ timed_after m bs x.1 = timed_same m cs bs x.1 (agree m ops turn cs x turns clocks) in
    elim (cases_Bool (among (touches x.1) r)) [
      | inr out ↦ clock_untouched (timed_after m cs x.1) cs r out ∙ clocks r ∙ ap (clock_at m ops r) (plus_none (turn r) (one_of x.1 r) (one_false x.1 r out))
      | inl at ↦
          clock_touched (timed_after m cs x.1) cs r at
          ∙ ap₂ (λ (t : Timed) (n : ℕ). max t.finish n) own (agree m ops turn cs x turns clocks r at)
          ∙ sym (clock_touched (timed_after m bs x.1) bs r at)
          ∙ sym (turn-next clock_after (with_next m) (others m) [] ops x.0 x.1 r is at)
          ∙ ap (clock_at m ops r) (ap (λ (n : ℕ). n + 1) (sym (turns r at)) ∙ plus_one (turn r) (one_of x.1 r) (one_true x.1 r at))
    ]

pub faithful-times : (m : MachineData) (ops : List OpKind) (turn : Res → ℕ) (cs : List Timed) (v : List (ℕ × OpKind)) (i : ℕ) (e : ℕ × OpKind) → IsFaithful ops turn v → ((r : Res) → clock_after cs r ≡ clock_at m ops r (turn r)) → slice_get v i ≡ Some e
    → slice_get (timed_from m cs (map (λ x. x.1) v)) i ≡ slice_get (timed m ops) e.0
faithful-times m ops turn cs [] i e f clocks is = absurd (none-some e is)
faithful-times m ops turn cs (x ∷ v) zero e f clocks is =
    ap Some (timed_same m cs (stepped (with_next m) [] (take x.0 ops)) x.1 (agree m ops turn cs x f.1 clocks))
    ∙ sym (timed_own m [] ops x.0 x.1 f.0) ∙ ap (λ (z : ℕ × OpKind). slice_get (timed m ops) z.0) (same_Some x e is)
faithful-times m ops turn cs (x ∷ v) (suc i) e f clocks is =
    faithful-times m ops (λ r. turn r + one_of x.1 r) (timed_after m cs x.1 ∷ cs) v i e f.2 (next m ops turn cs x f.0 f.1 clocks) is

-- in a faithful list each turn below the last has its operation
record Stands (ops : List OpKind) (v : List (ℕ × OpKind)) (r : Res) (n : ℕ) : Type 0 where
  pub at : ℕ
  pub entry : ℕ × OpKind
  pub is : slice_get v at ≡ Some entry
  pub same : slice_get ops entry.0 ≡ Some entry.1
  pub touches : among (touches entry.1) r ≡ true
  pub turn : nth ops entry.0 r ≡ n

stands_next : (ops : List OpKind) (e : ℕ × OpKind) (v : List (ℕ × OpKind)) (r : Res) (n : ℕ) → Stands ops v r n → Stands ops (e ∷ v) r n
stands_next ops e v r n b = record { at = suc b.at; entry = b.entry; is = b.is; same = b.same; touches = b.touches; turn = b.turn }

covered : (ops : List OpKind) (turn : Res → ℕ) (v : List (ℕ × OpKind)) (r : Res) (n : ℕ) → IsFaithful ops turn v → turn r ≤ n → n < turns_after turn v r → Stands ops v r n
covered ops turn [] r n f low high = absurd (omega (arith, low, high))
covered ops turn (x ∷ v) r n f low high = elim (cases_Bool (among (touches x.1) r)) [
  | inr out ↦ stands_next ops x v r n (covered ops (λ q. turn q + one_of x.1 q) v r n f.2 (omega (arith, low, one_false x.1 r out)) high)
  | inl on ↦ elim (cases_ℕ (turn r) n) [
    | inl own ↦ record { at = 0; entry = x; is = refl; same = f.0; touches = on; turn = sym (f.1 r on) ∙ own }
    | inr more ↦ stands_next ops x v r n (covered ops (λ q. turn q + one_of x.1 q) v r n f.2 (omega (arith, low, more, one_true x.1 r on)) high)
  ]
]

-- where all are finished, each operation is committed, and has its times
pub all-timed : (p : ProgramData) (n : ℕ) (es : List Event) (k : ℕ) → IsLegalProgram p → IsHistory p n es → AllFinished p (board_of p n es) → k < Rattle.std.specs.Prelude.length p.ops → HasItsTimes p (commits p n es) k
all-timed p n es k legal h all there =
    let claims = claims-legal p legal in
    let faithful = faithful-commits p n es claims h in
    let sound = sound-history p n es claims h in
    let some = claims.some k there in
    let r : Res = some.0 in
    let at : among (touched p.ops k) r ≡ true = ap (λ (rs : List Res). among rs r) some.2 ∙ among-own r some.1 in
    let last : turns_after (λ q. 0) (commits p n es) r ≡ total p.ops r = faithful.1.free r (none_held p (board_of p n es) sound all r) ∙ last_turns p (board_of p n es) sound all r in
    let w = covered p.ops (λ q. 0) (commits p n es) r (nth p.ops k r) faithful.0 (omega arith) (omega (arith, last, nth_below_total p.ops k r at)) in
    let number : w.entry.0 ≡ k = nth_same p.ops w.entry.0 k r (ap (λ (rs : List Res). among rs r) (touched_at p.ops w.entry.0 w.entry.1 w.same) ∙ w.touches) at w.turn in
    let clocks : (q : Res) → clock_after [] q ≡ clock_at p.machine p.ops q 0 = λ q. sym (turn-first clock_after (with_next p.machine) (others p.machine) [] p.ops q) in
    let times = faithful-times p.machine p.ops (λ q. 0) [] (commits p n es) w.at w.entry faithful.0 clocks w.is in
    record {
      at = w.at;
      op = w.entry.1;
      stands = w.is ∙ ap (λ (j : ℕ). Some (j, w.entry.1)) number;
      same = times ∙ ap (slice_get (timed p.machine p.ops)) number;
    }
