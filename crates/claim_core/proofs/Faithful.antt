-- The commits of a history are faithful.
use Rattle.std.proofs.Common.{◌≡◌, ◌≢◌, ℕ, suc, ◌+◌, ◌⊎◌, inl, inr, Bool, true, false, not, if◌then◌else◌, List, [], ◌∷◌, ◌++◌, refl, sym, ◌∙◌, ap, subst, arith, Option, Some, None}
use Rattle.std.specs.Prelude.{slice_get}
use Rattle.std.proofs.lemmas.Bool.{cases_Bool, false≢true, or_left, not-true, not-false}
use Rattle.std.proofs.lemmas.Option.{same_Some, none-some}
use Rattle.qccd_base.specs.declared.names.Res.{Res}
use Rattle.qccd_base.specs.Resource.{among, same_res}
use Rattle.op_table.specs.declared.kinds.OpKind.{OpKind}
use Rattle.op_table.specs.Touch.{touches, nth}
use Rattle.qccd_program.specs.Program.{ProgramData}
use Rattle.qccd_program.specs.Faithful.{one_of, IsFaithful, turns_after}
use Rattle.qccd_base.proofs.Resources.{same_res-true}
use Rattle.claim_core.specs.declared.event.Event.{Event}
use Rattle.claim_core.specs.declared.event.Event.TheVariants.{Begin, Reach, Give}
use Rattle.claim_core.specs.Board.{BoardData, gave_at}
use Rattle.claim_core.specs.Event.{touched, touches_of, begun, fault, moved, IsEvent}
use Rattle.claim_core.specs.Sound.{Reading, HandFits, read, Sound, IsSound}
use Rattle.claim_core.specs.Coded.{Claims}
use Rattle.claim_core.specs.History.{IsHistoryFrom, board_from, numbered, committed, commits_from}
use Rattle.claim_core.proofs.Legally.{op_there}
use Rattle.claim_core.proofs.Turns.{one_true, one_false}
use Rattle.claim_core.proofs.Kept.{Moved, Begins, Reaches, Gives, cases_ℕ, same_own, first_among}
use Rattle.claim_core.proofs.Written.{begins, reaches, gives, moved-both, all_or_one}
use Rattle.claim_core.proofs.Events.{event-sound}

-- how often each resource was committed: its turn, and once more where its holder has committed
pub record Counts (c : Reading) (turn : Res → ℕ) : Type 0 where
  pub free : (r : Res) → c.holder r ≡ None → turn r ≡ c.turn r
  pub fresh : (r : Res) (w : ℕ) → c.holder r ≡ Some w → ((q : Res) → c.gave w q ≡ false) → turn r ≡ c.turn r
  pub giving : (r q : Res) (w : ℕ) → c.holder r ≡ Some w → c.gave w q ≡ true → turn r ≡ suc (c.turn r)

-- what others hold is counted as before
record Same (c d : Reading) (w : ℕ) (q : Res) (turn now : Res → ℕ) : Type 0 where
  pub moved : Moved c d w q
  pub counts : Counts c turn
  pub turns : (r : Res) → same_res q r ≡ false → (c.holder r ≡ None) ⊎ ((v : ℕ) × (c.holder r ≡ Some v) × (v ≢ w)) → now r ≡ turn r

other_free : (c d : Reading) (w : ℕ) (q : Res) (turn now : Res → ℕ) → Same c d w q turn now → (r : Res) → same_res q r ≡ false → d.holder r ≡ None → now r ≡ d.turn r
other_free c d w q turn now s r apart h =
    let free : c.holder r ≡ None = sym (s.moved.holder r apart) ∙ h in
    s.turns r apart (inl free) ∙ s.counts.free r free ∙ sym (s.moved.turn r apart)

other_fresh : (c d : Reading) (w : ℕ) (q : Res) (turn now : Res → ℕ) → Same c d w q turn now → (r : Res) (v : ℕ) → same_res q r ≡ false → v ≢ w → d.holder r ≡ Some v → ((x : Res) → d.gave v x ≡ false) → now r ≡ d.turn r
other_fresh c d w q turn now s r v apart other h none =
    let was : c.holder r ≡ Some v = sym (s.moved.holder r apart) ∙ h in
    s.turns r apart (inr (v, was, other)) ∙ s.counts.fresh r v was (λ x. sym (s.moved.gave v x other) ∙ none x) ∙ sym (s.moved.turn r apart)

other_giving : (c d : Reading) (w : ℕ) (q : Res) (turn now : Res → ℕ) → Same c d w q turn now → (r x : Res) (v : ℕ) → same_res q r ≡ false → v ≢ w → d.holder r ≡ Some v → d.gave v x ≡ true → now r ≡ suc (d.turn r)
other_giving c d w q turn now s r x v apart other h gave =
    let was : c.holder r ≡ Some v = sym (s.moved.holder r apart) ∙ h in
    s.turns r apart (inr (v, was, other)) ∙ s.counts.giving r x v was (sym (s.moved.gave v x other) ∙ gave) ∙ ap suc (sym (s.moved.turn r apart))

-- a resource that was free is taken
counts_begin : (ops : List OpKind) (c d : Reading) (w k : ℕ) (q : Res) (turn : Res → ℕ) → Sound ops c → Moved c d w q → Begins ops c d w k q → Counts c turn → Counts d turn
counts_begin ops c d w k q turn s m b counts =
    let same : Same c d w q turn turn = record { moved = m; counts = counts; turns = λ r apart h. refl } in
    let at : among (touched ops k) q ≡ true = first_among (touched ops k) q (b.first q ∙ same_own q) in
    let own : turn q ≡ d.turn q = counts.free q (b.free q at).0 ∙ sym b.turn in
    let not_w : (r : Res) (v : ℕ) → same_res q r ≡ false → d.holder r ≡ Some v → v ≢ w = λ r v apart h e.
    let old = s.held r v (sym (m.holder r apart) ∙ h) in
    none-some old.op (sym b.empty ∙ sym (ap c.hand e) ∙ old.hand) in
    record {
      free = λ r h. elim (cases_Bool (same_res q r)) [
        | inl is ↦ absurd (none-some w (sym h ∙ sym (ap d.holder (same_res-true q r is)) ∙ b.holder))
        | inr apart ↦ other_free c d w q turn turn same r apart h
      ];
      fresh = λ r v h none. elim (cases_Bool (same_res q r)) [
        | inl is ↦ subst (λ (x : Res). turn x ≡ d.turn x) (same_res-true q r is) own
        | inr apart ↦ other_fresh c d w q turn turn same r v apart (not_w r v apart h) h none
      ];
      giving = λ r x v h gave. elim (cases_Bool (same_res q r)) [
        | inl is ↦
            let v_is : v ≡ w = same_Some v w (sym h ∙ sym (ap d.holder (same_res-true q r is)) ∙ b.holder) in
            absurd (false≢true (sym (b.gave x) ∙ ap (λ (y : ℕ). d.gave y x) (sym v_is) ∙ gave))
        | inr apart ↦ other_giving c d w q turn turn same r x v apart (not_w r v apart h) h gave
      ];
    }

counts_reach : (ops : List OpKind) (c d : Reading) (w k : ℕ) (q : Res) (turn : Res → ℕ) → Sound ops c → Moved c d w q → Reaches ops c d w k q → Counts c turn → Counts d turn
counts_reach ops c d w k q turn s m b counts =
    let same : Same c d w q turn turn = record { moved = m; counts = counts; turns = λ r apart h. refl } in
    let was : HandFits ops c w k = s.hands w k b.had in
    let own : turn q ≡ d.turn q = counts.free q (was.wanted q b.at b.lacks).0 ∙ sym b.turn in
    let none_given : (x : Res) → d.gave w x ≡ true → ⊥ = λ x h. false≢true (sym b.lacks ∙ was.after_all x q (sym (b.gave x) ∙ h) b.at) in
    record {
      free = λ r h. elim (cases_Bool (same_res q r)) [
        | inl is ↦ absurd (none-some w (sym h ∙ sym (ap d.holder (same_res-true q r is)) ∙ b.holder))
        | inr apart ↦ other_free c d w q turn turn same r apart h
      ];
      fresh = λ r v h none. elim (cases_Bool (same_res q r)) [
        | inl is ↦ subst (λ (x : Res). turn x ≡ d.turn x) (same_res-true q r is) own
        | inr apart ↦ elim (cases_ℕ v w) [
          | inr other ↦ other_fresh c d w q turn turn same r v apart other h none
          | inl e ↦ counts.fresh r w (sym (m.holder r apart) ∙ h ∙ ap Some e) (λ x. sym (b.gave x) ∙ sym (ap (λ (y : ℕ). d.gave y x) e) ∙ none x) ∙ sym (m.turn r apart)
        ]
      ];
      giving = λ r x v h gave. elim (cases_ℕ v w) [
        | inl e ↦ absurd (none_given x (sym (ap (λ (y : ℕ). d.gave y x) e) ∙ gave))
        | inr other ↦ elim (cases_Bool (same_res q r)) [
          | inl is ↦ absurd (other (same_Some v w (sym h ∙ sym (ap d.holder (same_res-true q r is)) ∙ b.holder)))
          | inr apart ↦ other_giving c d w q turn turn same r x v apart other h gave
        ]
      ];
    }

-- a give after the first
counts_give : (ops : List OpKind) (c d : Reading) (w k : ℕ) (q z : Res) (turn : Res → ℕ) → Sound ops c → Moved c d w q → Gives ops c d w k q → Counts c turn → c.gave w z ≡ true → Counts d turn
counts_give ops c d w k q z turn s m b counts gave_z =
    let same : Same c d w q turn turn = record { moved = m; counts = counts; turns = λ r apart h. refl } in
    let was : HandFits ops c w k = s.hands w k b.had in
    let mine : c.holder q ≡ Some w = was.holds q (b.whole q b.at) b.kept in
    let own : turn q ≡ d.turn q = counts.giving q z w mine gave_z ∙ sym b.turn in
    let gave_q : d.gave w q ≡ true = b.gave q ∙ or_left (same_res q q) (c.gave w q) (same_own q) in
    record {
      free = λ r h. elim (cases_Bool (same_res q r)) [
        | inl is ↦ subst (λ (x : Res). turn x ≡ d.turn x) (same_res-true q r is) own
        | inr apart ↦ other_free c d w q turn turn same r apart h
      ];
      fresh = λ r v h none. elim (cases_ℕ v w) [
        | inl e ↦ absurd (false≢true (sym (none q) ∙ ap (λ (y : ℕ). d.gave y q) e ∙ gave_q))
        | inr other ↦ elim (cases_Bool (same_res q r)) [
          | inl is ↦ absurd (none-some v (sym b.holder ∙ ap d.holder (same_res-true q r is) ∙ h))
          | inr apart ↦ other_fresh c d w q turn turn same r v apart other h none
        ]
      ];
      giving = λ r x v h gave. elim (cases_Bool (same_res q r)) [
        | inl is ↦ absurd (none-some v (sym b.holder ∙ ap d.holder (same_res-true q r is) ∙ h))
        | inr apart ↦ elim (cases_ℕ v w) [
          | inl e ↦ counts.giving r z w (sym (m.holder r apart) ∙ h ∙ ap Some e) gave_z ∙ ap suc (sym (m.turn r apart))
          | inr other ↦ other_giving c d w q turn turn same r x v apart other h gave
        ]
      ];
    }

plus_one : (n m : ℕ) → m ≡ 1 → n + m ≡ suc n
plus_one n m h = omega (arith, h)

plus_none : (n m : ℕ) → m ≡ 0 → n + m ≡ n
plus_none n m h = omega (arith, h)

-- the first give of an operation, at which it commits
pub record Commit (ops : List OpKind) (c d : Reading) (k : ℕ) (op : OpKind) (turn : Res → ℕ) : Type 0 where
  pub turns : (r : Res) → among (touches op) r ≡ true → turn r ≡ nth ops k r
  pub counts : Counts d (λ r. turn r + one_of op r)

counts_commit : (ops : List OpKind) (c d : Reading) (w k : ℕ) (q : Res) (op : OpKind) (turn : Res → ℕ) → Sound ops c → Moved c d w q → Gives ops c d w k q → Counts c turn → slice_get ops k ≡ Some op → ((r : Res) → c.gave w r ≡ false) → Commit ops c d k op turn
counts_commit ops c d w k q op turn s m b counts is none =
    let on : (r : Res) → among (touches op) r ≡ among (touched ops k) r = λ r. ap (λ (o : Option OpKind). among (touches_of o) r) (sym is) in
    let was : HandFits ops c w k = s.hands w k b.had in
    let mine : (r : Res) → among (touched ops k) r ≡ true → c.holder r ≡ Some w = λ r at. was.holds r (b.whole r at) (none r) in
    let at_turn : (r : Res) → among (touched ops k) r ≡ true → turn r ≡ c.turn r = λ r at. counts.fresh r w (mine r at) none in
    let now : Res → ℕ = λ r. turn r + one_of op r in
    let now_in : (r : Res) → among (touched ops k) r ≡ true → now r ≡ suc (c.turn r) = λ r at. plus_one (turn r) (one_of op r) (one_true op r (on r ∙ at)) ∙ ap suc (at_turn r at) in
    let now_out : (r : Res) → among (touched ops k) r ≡ false → now r ≡ turn r = λ r out. plus_none (turn r) (one_of op r) (one_false op r (on r ∙ out)) in
    let gave_q : d.gave w q ≡ true = b.gave q ∙ or_left (same_res q q) (c.gave w q) (same_own q) in
    let same : Same c d w q turn now = record {
      moved = m;
      counts = counts;
      turns = λ r apart h. elim (cases_Bool (among (touched ops k) r)) [
        | inr out ↦ now_out r out
        | inl at ↦ elim h [
          | inl free ↦ absurd (none-some w (sym free ∙ mine r at))
          | inr v ↦ absurd (v.2 (same_Some v.0 w (sym v.1 ∙ mine r at)))
        ]
      ];
    } in
    record {
      turns = λ r at.
          let at_k : among (touched ops k) r ≡ true = sym (on r) ∙ at in
          let old = s.held r w (mine r at_k) in
          at_turn r at_k ∙ old.turn ∙ ap (λ (j : ℕ). nth ops j r) (same_Some old.op k (sym old.hand ∙ b.had));
      counts = record {
        free = λ r h. elim (cases_Bool (same_res q r)) [
          | inl is ↦ subst (λ (x : Res). now x ≡ d.turn x) (same_res-true q r is) (now_in q b.at ∙ sym b.turn)
          | inr apart ↦ other_free c d w q turn now same r apart h
        ];
        fresh = λ r v h none. elim (cases_ℕ v w) [
          | inl e ↦ absurd (false≢true (sym (none q) ∙ ap (λ (y : ℕ). d.gave y q) e ∙ gave_q))
          | inr other ↦ elim (cases_Bool (same_res q r)) [
            | inl is ↦ absurd (none-some v (sym b.holder ∙ ap d.holder (same_res-true q r is) ∙ h))
            | inr apart ↦ other_fresh c d w q turn now same r v apart other h none
          ]
        ];
        giving = λ r x v h gave. elim (cases_Bool (same_res q r)) [
          | inl is ↦ absurd (none-some v (sym b.holder ∙ ap d.holder (same_res-true q r is) ∙ h))
          | inr apart ↦ elim (cases_ℕ v w) [
            | inl e ↦
                let old = s.held r w (sym (m.holder r apart) ∙ h ∙ ap Some e) in
                let at : among (touched ops k) r ≡ true = was.got r old.got in
                now_in r at ∙ ap suc (sym (m.turn r apart))
            | inr other ↦ other_giving c d w q turn now same r x v apart other h gave
          ]
        ];
      };
    }

-- an event commits an operation at its turns, or commits none
abbrev pub Next : ProgramData → BoardData → Event → (Res → ℕ) → Type 0
Next p b e turn = ((committed p b e ≡ []) × Counts (read p (moved p b e)) turn)
    ⊎ ((k : ℕ) × (op : OpKind) × (committed p b e ≡ (k, op) ∷ []) × (slice_get p.ops k ≡ Some op) × Commit p.ops (read p b) (read p (moved p b e)) k op turn)

next_begin : (p : ProgramData) (b : BoardData) (w k : ℕ) (q : Res) (rs : List Res) (turn : Res → ℕ) → Claims p → IsSound p b → IsEvent p b (Begin w k) → fault p b (Begin w k) ≡ None → touched p.ops k ≡ q ∷ rs → Counts (read p b) turn → Counts (read p (begun p b w k (q ∷ rs))) turn
next_begin p b w k q rs turn claims good there granted is counts =
    let facts = begins p b w k q rs claims good.wide there granted is in
    counts_begin p.ops _ _ w k q turn good.sound (moved-both p b q _ w _ facts.0) facts.2 counts

pub next : (p : ProgramData) (b : BoardData) (e : Event) (turn : Res → ℕ) → Claims p → IsSound p b → IsEvent p b e → fault p b e ≡ None → Counts (read p b) turn → Next p b e turn
next p b (Begin w k) turn claims good there granted counts =
    let some = claims.some k there.1 in
    inl (refl, subst (λ (xs : List Res). Counts (read p (begun p b w k xs)) turn) (sym some.2) (next_begin p b w k some.0 some.1 turn claims good there granted some.2 counts))
next p b (Reach w k q) turn claims good there granted counts =
    let facts = reaches p b w k q claims good.wide there granted in
    inl (refl, counts_reach p.ops _ _ w k q turn good.sound (moved-both p b q _ w _ facts.0) facts.2 counts)
next p b (Give w k q) turn claims good there granted counts =
    let facts = gives p b w k q claims good.wide there granted in
    let m = moved-both p b q _ w _ facts.0 in
    let had = facts.2.had in
    let op = op_there p.ops k there.1 in
    elim (all_or_one (λ r. not (gave_at p b w r)) (touched p.ops k)) [
      | inl all ↦
          let none : (r : Res) → gave_at p b w r ≡ false = λ r. elim (cases_Bool (gave_at p b w r)) [
            | inr h ↦ h
            | inl h ↦ not-true (gave_at p b w r) (all.1 r ((good.sound.hands w k had).gave r h))
          ] in
          inr (
            k,
            op.0,
            ap (λ (z : Bool). if z then numbered k (slice_get p.ops k) else []) all.0 ∙ ap (numbered k) op.1,
            op.1,
            counts_commit p.ops _ _ w k q op.0 turn good.sound m facts.2 counts op.1 none,
          )
      | inr one ↦
          inl (
            ap (λ (z : Bool). if z then numbered k (slice_get p.ops k) else []) one.0,
            counts_give p.ops _ _ w k q one.1.0 turn good.sound m facts.2 counts (not-false (gave_at p b w one.1.0) one.1.2),
          )
    ]

-- so the commits of a history are faithful, and at its end the counts are those of its board
pub faithful-from : (p : ProgramData) (b : BoardData) (es : List Event) (turn : Res → ℕ) → Claims p → IsSound p b → IsHistoryFrom p b es → Counts (read p b) turn
    → IsFaithful p.ops turn (commits_from p b es) × Counts (read p (board_from p b es)) (turns_after turn (commits_from p b es))
faithful-from p b [] turn claims good h counts = (tt, counts)
faithful-from p b (e ∷ es) turn claims good h counts = elim (next p b e turn claims good h.0.there h.0.granted counts) [
  | inl none ↦
      subst (λ (v : List (ℕ × OpKind)). IsFaithful p.ops turn (v ++ commits_from p (moved p b e) es) × Counts (read p (board_from p (moved p b e) es)) (turns_after turn (v ++ commits_from p (moved p b e) es))) (sym none.0)
      (faithful-from p (moved p b e) es turn claims (event-sound p b e claims good h.0.there h.0.granted) h.1 none.1)
  | inr some ↦
      let rest = faithful-from p (moved p b e) es (λ r. turn r + one_of some.1 r) claims (event-sound p b e claims good h.0.there h.0.granted) h.1 some.4.counts in
      subst (λ (v : List (ℕ × OpKind)). IsFaithful p.ops turn (v ++ commits_from p (moved p b e) es) × Counts (read p (board_from p (moved p b e) es)) (turns_after turn (v ++ commits_from p (moved p b e) es))) (sym some.2)
      ((some.3, some.4.turns, rest.0), rest.1)
]
