-- Each event keeps a board sound.
use Rattle.std.proofs.Common.{◌≡◌, ◌≢◌, ℕ, zero, suc, ◌<◌, ◌≤◌, ◌⊎◌, inl, inr, true, false, ◌||◌, List, [], ◌∷◌, length, refl, sym, ◌∙◌, ap, subst, arith, Some, None}
use Rattle.std.proofs.lemmas.Bool.{cases_Bool, false≢true, true≢false, or_cases, or_parts}
use Rattle.std.proofs.lemmas.Option.{same_Some, none-some}
use Rattle.qccd_base.specs.declared.names.Res.{Res}
use Rattle.qccd_base.specs.Resource.{among, same_res}
use Rattle.op_table.specs.declared.kinds.OpKind.{OpKind}
use Rattle.op_table.specs.Touch.{nth, total, is_head}
use Rattle.qccd_base.proofs.Resources.{same_res-true, among-own}
use Rattle.claim_core.specs.Event.{touched}
use Rattle.claim_core.specs.Sound.{Reading, HandFits, IsHeld, Unbegun, Finished, Sound}
use Rattle.claim_core.proofs.Turns.{nth_same, nth_below_total}

-- a number is another or not
pub cases_ℕ : (v w : ℕ) → (v ≡ w) ⊎ (v ≢ w)
cases_ℕ zero zero = inl refl
cases_ℕ zero (suc w) = inr (λ e. omega arith)
cases_ℕ (suc v) zero = inr (λ e. omega arith)
cases_ℕ (suc v) (suc w) = elim (cases_ℕ v w) [
  | inl e ↦ inl (ap suc e)
  | inr n ↦ inr (λ e. n (omega arith))
]

-- an event changes what is read of one worker and one resource
pub record Moved (c d : Reading) (w : ℕ) (q : Res) : Type 0 where
  pub turn : (r : Res) → same_res q r ≡ false → d.turn r ≡ c.turn r
  pub holder : (r : Res) → same_res q r ≡ false → d.holder r ≡ c.holder r
  pub hand : (v : ℕ) → v ≢ w → d.hand v ≡ c.hand v
  pub got : (v : ℕ) (r : Res) → v ≢ w → d.got v r ≡ c.got v r
  pub gave : (v : ℕ) (r : Res) → v ≢ w → d.gave v r ≡ c.gave v r

-- what it has to keep beside
pub record Fair (ops : List OpKind) (c d : Reading) (w : ℕ) (q : Res) : Type 0 where
  pub passed : (v j : ℕ) → v ≢ w → c.hand v ≡ Some j → among (touched ops j) q ≡ true → c.gave v q ≡ true
  pub rises : c.turn q ≤ d.turn q
  pub few : d.turn q ≤ total ops q
  pub holder : (v : ℕ) → d.holder q ≡ Some v → v ≡ w
  pub held : (r : Res) → d.holder r ≡ Some w → IsHeld ops d r w
  pub hand : (k : ℕ) → d.hand w ≡ Some k → HandFits ops d w k
  pub apart : (v k : ℕ) → v ≢ w → d.hand w ≡ Some k → c.hand v ≡ Some k → ⊥
  pub rest : (k : ℕ) → k < length ops → ((v : ℕ) → d.hand v ≢ Some k) → Unbegun ops d k ⊎ Finished ops d k

rises_all : (ops : List OpKind) (c d : Reading) (w : ℕ) (q : Res) → Moved c d w q → c.turn q ≤ d.turn q → (r : Res) → c.turn r ≤ d.turn r
rises_all ops c d w q m rises r = elim (cases_Bool (same_res q r)) [
  | inl h ↦ subst (λ (x : Res). c.turn x ≤ d.turn x) (same_res-true q r h) rises
  | inr h ↦ omega (arith, m.turn r h)
]

-- the hand of another worker still fits
other_fits : (ops : List OpKind) (c d : Reading) (w : ℕ) (q : Res) → Moved c d w q → Fair ops c d w q → (v j : ℕ) → v ≢ w → c.hand v ≡ Some j → HandFits ops c v j → HandFits ops d v j
other_fits ops c d w q m f v j other hand fits =
    let passed : among (touched ops j) q ≡ true → c.gave v q ≡ true = f.passed v j other hand in
    record {
      there = fits.there;
      got = λ r h. fits.got r (sym (m.got v r other) ∙ h);
      gave = λ r h. fits.gave r (sym (m.gave v r other) ∙ h);
      first = λ r h. m.got v r other ∙ fits.first r h;
      after_all = λ r x h at. m.got v x other ∙ fits.after_all r x (sym (m.gave v r other) ∙ h) at;
      more = (fits.more.0, fits.more.1, m.gave v fits.more.0 other ∙ fits.more.2);
      holds = λ r got kept.
          let was_got : c.got v r ≡ true = sym (m.got v r other) ∙ got in
          let was_kept : c.gave v r ≡ false = sym (m.gave v r other) ∙ kept in
          elim (cases_Bool (same_res q r)) [
            | inl h ↦
                let is : q ≡ r = same_res-true q r h in
                absurd (false≢true (sym was_kept ∙ sym (ap (c.gave v) is) ∙ passed (ap (among (touched ops j)) is ∙ fits.got r was_got)))
            | inr h ↦ m.holder r h ∙ fits.holds r was_got was_kept
          ];
      wanted = λ r at not_got.
          let was_not : c.got v r ≡ false = sym (m.got v r other) ∙ not_got in
          elim (cases_Bool (same_res q r)) [
            | inl h ↦
                let is : q ≡ r = same_res-true q r h in
                absurd (false≢true (sym was_not ∙ fits.after_all q r (passed (ap (among (touched ops j)) is ∙ at)) at))
            | inr h ↦ let w = fits.wanted r at was_not in (m.holder r h ∙ w.0, m.turn r h ∙ w.1)
          ];
      given = λ r h. omega (arith, fits.given r (sym (m.gave v r other) ∙ h), rises_all ops c d w q m f.rises r);
    }

other_held : (ops : List OpKind) (c d : Reading) (w : ℕ) (q r : Res) (v : ℕ) → Moved c d w q → same_res q r ≡ false → v ≢ w → IsHeld ops c r v → IsHeld ops d r v
other_held ops c d w q r v m apart other h = record {
  op = h.op;
  hand = m.hand v other ∙ h.hand;
  got = m.got v r other ∙ h.got;
  kept = m.gave v r other ∙ h.kept;
  turn = m.turn r apart ∙ h.turn;
}

pub sound-moved : (ops : List OpKind) (c d : Reading) (w : ℕ) (q : Res) → Sound ops c → Moved c d w q → Fair ops c d w q → Sound ops d
sound-moved ops c d w q s m f = record {
  few = λ r. elim (cases_Bool (same_res q r)) [
    | inl h ↦ subst (λ (x : Res). d.turn x ≤ total ops x) (same_res-true q r h) f.few
    | inr h ↦ omega (arith, m.turn r h, s.few r)
  ];
  held = λ r v h. elim (cases_ℕ v w) [
    | inl e ↦ subst (λ (x : ℕ). IsHeld ops d r x) (sym e) (f.held r (h ∙ ap Some e))
    | inr other ↦ elim (cases_Bool (same_res q r)) [
      | inl is ↦ absurd (other (f.holder v (ap d.holder (same_res-true q r is) ∙ h)))
      | inr apart ↦ other_held ops c d w q r v m apart other (s.held r v (sym (m.holder r apart) ∙ h))
    ]
  ];
  hands = λ v k h. elim (cases_ℕ v w) [
    | inl e ↦ subst (λ (x : ℕ). HandFits ops d x k) (sym e) (f.hand k (sym (ap d.hand e) ∙ h))
    | inr other ↦ let was : c.hand v ≡ Some k = sym (m.hand v other) ∙ h in other_fits ops c d w q m f v k other was (s.hands v k was)
  ];
  apart = λ u v k hu hv. elim (cases_ℕ u w) [
    | inl e ↦ elim (cases_ℕ v w) [
      | inl i ↦ e ∙ sym i
      | inr other ↦ absurd (f.apart v k other (sym (ap d.hand e) ∙ hu) (sym (m.hand v other) ∙ hv))
    ]
    | inr away ↦ elim (cases_ℕ v w) [
      | inl i ↦ absurd (f.apart u k away (sym (ap d.hand i) ∙ hv) (sym (m.hand u away) ∙ hu))
      | inr other ↦ s.apart u v k (sym (m.hand u away) ∙ hu) (sym (m.hand v other) ∙ hv)
    ]
  ];
  rest = f.rest;
}

-- who has not passed a resource that is free at k's turn has k in hand, and has not got it
free_passed : (ops : List OpKind) (c : Reading) (v j k : ℕ) (q : Res) → Sound ops c → c.hand v ≡ Some j → among (touched ops j) q ≡ true → among (touched ops k) q ≡ true → c.holder q ≡ None → c.turn q ≡ nth ops k q
    → (c.gave v q ≡ true) ⊎ ((c.got v q ≡ false) × (j ≡ k))
free_passed ops c v j k q s hand at_j at_k free turn =
    let fits : HandFits ops c v j = s.hands v j hand in
    elim (cases_Bool (c.gave v q)) [
      | inl h ↦ inl h
      | inr kept ↦ elim (cases_Bool (c.got v q)) [
        | inl got ↦ absurd (none-some v (sym free ∙ fits.holds q got kept))
        | inr lacks ↦ inr (lacks, nth_same ops j k q at_j at_k (sym (fits.wanted q at_j lacks).1 ∙ turn))
      ]
    ]

pub first_among : (xs : List Res) (r : Res) → is_head xs r ≡ true → among xs r ≡ true
first_among [] r h = absurd (false≢true h)
first_among (x ∷ xs) r h = Rattle.std.proofs.lemmas.Bool.or_left (same_res x r) (among xs r) h

pub same_own : (r : Res) → same_res r r ≡ true
same_own r = elim (or_cases (same_res r r) false (among-own r [])) [
  | inl h ↦ h
  | inr h ↦ absurd (false≢true h)
]

-- what a Begin leaves
pub record Begins (ops : List OpKind) (c d : Reading) (w k : ℕ) (q : Res) : Type 0 where
  pub empty : c.hand w ≡ None
  pub there : k < length ops
  pub first : (r : Res) → is_head (touched ops k) r ≡ same_res q r
  pub free : (r : Res) → among (touched ops k) r ≡ true → (c.holder r ≡ None) × (c.turn r ≡ nth ops k r)
  pub turn : d.turn q ≡ c.turn q
  pub holder : d.holder q ≡ Some w
  pub hand : d.hand w ≡ Some k
  pub got : (r : Res) → d.got w r ≡ same_res q r
  pub gave : (r : Res) → d.gave w r ≡ false

pub turn_kept : (c d : Reading) (w : ℕ) (q : Res) → Moved c d w q → d.turn q ≡ c.turn q → (r : Res) → d.turn r ≡ c.turn r
turn_kept c d w q m own r = elim (cases_Bool (same_res q r)) [
  | inl h ↦ subst (λ (x : Res). d.turn x ≡ c.turn x) (same_res-true q r h) own
  | inr h ↦ m.turn r h
]

rest_kept : (ops : List OpKind) (c d : Reading) (k : ℕ) → ((r : Res) → d.turn r ≡ c.turn r) → Unbegun ops c k ⊎ Finished ops c k → Unbegun ops d k ⊎ Finished ops d k
rest_kept ops c d k same h = elim h [
  | inl u ↦ inl (λ r at. omega (arith, same r, u r at))
  | inr f ↦ inr (λ r at. omega (arith, same r, f r at))
]

pub begin-fair : (ops : List OpKind) (c d : Reading) (w k : ℕ) (q : Res) → Sound ops c → Moved c d w q → Begins ops c d w k q → Fair ops c d w q
begin-fair ops c d w k q s m b =
    let first : is_head (touched ops k) q ≡ true = b.first q ∙ same_own q in
    let at_q : among (touched ops k) q ≡ true = first_among (touched ops k) q first in
    let free_q = b.free q at_q in
    let turns : (r : Res) → d.turn r ≡ c.turn r = turn_kept c d w q m b.turn in
    let same_k : (j : ℕ) → d.hand w ≡ Some j → k ≡ j = λ j h. same_Some k j (sym b.hand ∙ h) in
    let fits : HandFits ops d w k = record {
      there = b.there;
      got = λ r h. ap (among (touched ops k)) (sym (same_res-true q r (sym (b.got r) ∙ h))) ∙ at_q;
      gave = λ r h. absurd (false≢true (sym (b.gave r) ∙ h));
      first = λ r h. b.got r ∙ sym (b.first r) ∙ h;
      after_all = λ r x h at. absurd (false≢true (sym (b.gave r) ∙ h));
      more = (q, at_q, b.gave q);
      holds = λ r got kept. ap d.holder (sym (same_res-true q r (sym (b.got r) ∙ got))) ∙ b.holder;
      wanted = λ r at lacks.
          let apart : same_res q r ≡ false = sym (b.got r) ∙ lacks in
          (m.holder r apart ∙ (b.free r at).0, m.turn r apart ∙ (b.free r at).1);
      given = λ r h. absurd (false≢true (sym (b.gave r) ∙ h));
    } in
    let lacks_k : (v : ℕ) → c.hand v ≡ Some k → ⊥ = λ v h. elim (free_passed ops c v k k q s h at_q at_q free_q.0 free_q.1) [
      | inl gave ↦ omega (arith, (s.hands v k h).given q gave, free_q.1)
      | inr both ↦ false≢true (sym both.0 ∙ (s.hands v k h).first q first)
    ] in
    record {
      passed = λ v j other hand at. elim (free_passed ops c v j k q s hand at at_q free_q.0 free_q.1) [
        | inl gave ↦ gave
        | inr both ↦ absurd (lacks_k v (hand ∙ ap Some both.1))
      ];
      rises = omega (arith, b.turn);
      few = omega (arith, b.turn, s.few q);
      holder = λ v h. same_Some v w (sym h ∙ b.holder);
      held = λ r h. elim (cases_Bool (same_res q r)) [
        | inl is ↦ record { op = k; hand = b.hand; got = b.got r ∙ is; kept = b.gave r; turn = turns r ∙ subst (λ (x : Res). c.turn x ≡ nth ops k x) (same_res-true q r is) free_q.1 }
        | inr apart ↦ let was = s.held r w (sym (m.holder r apart) ∙ h) in absurd (none-some was.op (sym b.empty ∙ was.hand))
      ];
      hand = λ j h. subst (HandFits ops d w) (same_k j h) fits;
      apart = λ v j other h hv. lacks_k v (hv ∙ ap Some (sym (same_k j h)));
      rest = λ j there none. rest_kept ops c d j turns (s.rest j there (λ v h. elim (cases_ℕ v w) [
        | inl e ↦ none-some j (sym b.empty ∙ sym (ap c.hand e) ∙ h)
        | inr other ↦ none v (m.hand v other ∙ h)
      ]));
    }

-- what a Reach leaves
pub record Reaches (ops : List OpKind) (c d : Reading) (w k : ℕ) (q : Res) : Type 0 where
  pub had : c.hand w ≡ Some k
  pub at : among (touched ops k) q ≡ true
  pub lacks : c.got w q ≡ false
  pub turn : d.turn q ≡ c.turn q
  pub holder : d.holder q ≡ Some w
  pub hand : d.hand w ≡ Some k
  pub got : (r : Res) → d.got w r ≡ (same_res q r || c.got w r)
  pub gave : (r : Res) → d.gave w r ≡ c.gave w r

pub reach-fair : (ops : List OpKind) (c d : Reading) (w k : ℕ) (q : Res) → Sound ops c → Moved c d w q → Reaches ops c d w k q → Fair ops c d w q
reach-fair ops c d w k q s m b =
    let was : HandFits ops c w k = s.hands w k b.had in
    let free_q = was.wanted q b.at b.lacks in
    let turns : (r : Res) → d.turn r ≡ c.turn r = turn_kept c d w q m b.turn in
    let same_k : (j : ℕ) → d.hand w ≡ Some j → k ≡ j = λ j h. same_Some k j (sym b.hand ∙ h) in
    let none_given : (r : Res) → c.gave w r ≡ true → ⊥ = λ r h. false≢true (sym b.lacks ∙ was.after_all r q h b.at) in
    let got_more : (r : Res) → c.got w r ≡ true → d.got w r ≡ true = λ r h. b.got r ∙ Rattle.std.proofs.lemmas.Bool.or_right (same_res q r) (c.got w r) h in
    let fits : HandFits ops d w k = record {
      there = was.there;
      got = λ r h. elim (or_cases (same_res q r) (c.got w r) (sym (b.got r) ∙ h)) [
        | inl is ↦ ap (among (touched ops k)) (sym (same_res-true q r is)) ∙ b.at
        | inr got ↦ was.got r got
      ];
      gave = λ r h. was.gave r (sym (b.gave r) ∙ h);
      first = λ r h. got_more r (was.first r h);
      after_all = λ r x h at. absurd (none_given r (sym (b.gave r) ∙ h));
      more = (was.more.0, was.more.1, b.gave was.more.0 ∙ was.more.2);
      holds = λ r got kept. elim (cases_Bool (same_res q r)) [
        | inl is ↦ ap d.holder (sym (same_res-true q r is)) ∙ b.holder
        | inr apart ↦ elim (or_cases (same_res q r) (c.got w r) (sym (b.got r) ∙ got)) [
          | inl is ↦ absurd (false≢true (sym apart ∙ is))
          | inr had ↦ m.holder r apart ∙ was.holds r had (sym (b.gave r) ∙ kept)
        ]
      ];
      wanted = λ r at lacks.
          let parts = or_parts (same_res q r) (c.got w r) (sym (b.got r) ∙ lacks) in
          let w = was.wanted r at parts.1 in
          (m.holder r parts.0 ∙ w.0, m.turn r parts.0 ∙ w.1);
      given = λ r h. absurd (none_given r (sym (b.gave r) ∙ h));
    } in
    record {
      passed = λ v j other hand at. elim (free_passed ops c v j k q s hand at b.at free_q.0 free_q.1) [
        | inl gave ↦ gave
        | inr both ↦ absurd (other (s.apart v w k (hand ∙ ap Some both.1) b.had))
      ];
      rises = omega (arith, b.turn);
      few = omega (arith, b.turn, s.few q);
      holder = λ v h. same_Some v w (sym h ∙ b.holder);
      held = λ r h. elim (cases_Bool (same_res q r)) [
        | inl is ↦
            let r_is : q ≡ r = same_res-true q r is in
            record {
              op = k;
              hand = b.hand;
              got = b.got r ∙ Rattle.std.proofs.lemmas.Bool.or_left (same_res q r) (c.got w r) is;
              kept = b.gave r ∙ Rattle.std.proofs.lemmas.Bool.false_from_ne_true (c.gave w r) (λ g. none_given r g);
              turn = turns r ∙ subst (λ (x : Res). c.turn x ≡ nth ops k x) r_is free_q.1;
            }
        | inr apart ↦
            let old = s.held r w (sym (m.holder r apart) ∙ h) in
            record { op = k; hand = b.hand; got = got_more r old.got; kept = b.gave r ∙ old.kept; turn = turns r ∙ old.turn ∙ ap (λ (j : ℕ). nth ops j r) (same_Some old.op k (sym old.hand ∙ b.had)) }
      ];
      hand = λ j h. subst (HandFits ops d w) (same_k j h) fits;
      apart = λ v j other h hv. other (s.apart v w k (hv ∙ ap Some (sym (same_k j h))) b.had);
      rest = λ j there none. rest_kept ops c d j turns (s.rest j there (λ v h. elim (cases_ℕ v w) [
        | inl e ↦ none w (b.hand ∙ sym b.had ∙ sym (ap c.hand e) ∙ h)
        | inr other ↦ none v (m.hand v other ∙ h)
      ]));
    }

-- what a Give leaves
pub record Gives (ops : List OpKind) (c d : Reading) (w k : ℕ) (q : Res) : Type 0 where
  pub had : c.hand w ≡ Some k
  pub at : among (touched ops k) q ≡ true
  pub whole : (r : Res) → among (touched ops k) r ≡ true → c.got w r ≡ true
  pub kept : c.gave w q ≡ false
  pub turn : d.turn q ≡ suc (c.turn q)
  pub holder : d.holder q ≡ None
  pub got : (r : Res) → d.got w r ≡ c.got w r
  pub gave : (r : Res) → d.gave w r ≡ (same_res q r || c.gave w r)
  pub hand : ((d.hand w ≡ Some k) × ((r : Res) × (among (touched ops k) r ≡ true) × (d.gave w r ≡ false))) ⊎ ((d.hand w ≡ None) × ((r : Res) → among (touched ops k) r ≡ true → d.gave w r ≡ true))

pub give-fair : (ops : List OpKind) (c d : Reading) (w k : ℕ) (q : Res) → Sound ops c → Moved c d w q → Gives ops c d w k q → Fair ops c d w q
give-fair ops c d w k q s m b =
    let was : HandFits ops c w k = s.hands w k b.had in
    let mine : c.holder q ≡ Some w = was.holds q (b.whole q b.at) b.kept in
    let old = s.held q w mine in
    let turn_q : c.turn q ≡ nth ops k q = old.turn ∙ ap (λ (j : ℕ). nth ops j q) (same_Some old.op k (sym old.hand ∙ b.had)) in
    let rises : (r : Res) → c.turn r ≤ d.turn r = rises_all ops c d w q m (omega (arith, b.turn)) in
    let is_k : (j : ℕ) → d.hand w ≡ Some j → k ≡ j = λ j h. elim b.hand [
      | inl more ↦ same_Some k j (sym more.0 ∙ h)
      | inr all ↦ absurd (none-some j (sym all.0 ∙ h))
    ] in
    let past : (r : Res) → d.gave w r ≡ true → nth ops k r < d.turn r = λ r h. elim (or_cases (same_res q r) (c.gave w r) (sym (b.gave r) ∙ h)) [
      | inl is ↦ subst (λ (x : Res). nth ops k x < d.turn x) (same_res-true q r is) (omega (arith, b.turn, turn_q))
      | inr gave ↦ omega (arith, was.given r gave, rises r)
    ] in
    let fits : (r : Res) → among (touched ops k) r ≡ true → d.gave w r ≡ false → HandFits ops d w k = λ z at_z left. record {
      there = was.there;
      got = λ r h. was.got r (sym (b.got r) ∙ h);
      gave = λ r h. elim (or_cases (same_res q r) (c.gave w r) (sym (b.gave r) ∙ h)) [
        | inl is ↦ ap (among (touched ops k)) (sym (same_res-true q r is)) ∙ b.at
        | inr gave ↦ was.gave r gave
      ];
      first = λ r h. b.got r ∙ was.first r h;
      after_all = λ r x h at. b.got x ∙ b.whole x at;
      more = (z, at_z, left);
      holds = λ r got kept.
          let parts = or_parts (same_res q r) (c.gave w r) (sym (b.gave r) ∙ kept) in
          m.holder r parts.0 ∙ was.holds r (sym (b.got r) ∙ got) parts.1;
      wanted = λ r at lacks. absurd (false≢true (sym lacks ∙ b.got r ∙ b.whole r at));
      given = past;
    } in
    record {
      passed = λ v j other hand at.
          let fits : HandFits ops c v j = s.hands v j hand in
          elim (cases_Bool (c.gave v q)) [
            | inl h ↦ h
            | inr kept ↦ elim (cases_Bool (c.got v q)) [
              | inl got ↦ absurd (other (same_Some v w (sym (fits.holds q got kept) ∙ mine)))
              | inr lacks ↦ absurd (none-some w (sym (fits.wanted q at lacks).0 ∙ mine))
            ]
          ];
      rises = omega (arith, b.turn);
      few = omega (arith, b.turn, turn_q, nth_below_total ops k q b.at);
      holder = λ v h. absurd (none-some v (sym b.holder ∙ h));
      held = λ r h. elim (cases_Bool (same_res q r)) [
        | inl is ↦ absurd (none-some w (sym b.holder ∙ ap d.holder (same_res-true q r is) ∙ h))
        | inr apart ↦
            let old = s.held r w (sym (m.holder r apart) ∙ h) in
            let op_is : old.op ≡ k = same_Some old.op k (sym old.hand ∙ b.had) in
            let kept : d.gave w r ≡ false = b.gave r ∙ Rattle.std.proofs.lemmas.Bool.or_from (same_res q r) (c.gave w r) apart old.kept in
            elim b.hand [
              | inl more ↦ record { op = k; hand = more.0; got = b.got r ∙ old.got; kept = kept; turn = m.turn r apart ∙ old.turn ∙ ap (λ (j : ℕ). nth ops j r) op_is }
              | inr all ↦ absurd (false≢true (sym kept ∙ all.1 r (was.got r old.got)))
            ]
      ];
      hand = λ j h. subst (HandFits ops d w) (is_k j h) (elim b.hand [
        | inl more ↦ fits more.1.0 more.1.1 more.1.2
        | inr all ↦ absurd (none-some j (sym all.0 ∙ h))
      ]);
      apart = λ v j other h hv. other (s.apart v w k (hv ∙ ap Some (sym (is_k j h))) b.had);
      rest = λ j there none. elim (cases_ℕ j k) [
        | inl e ↦ elim b.hand [
          | inl more ↦ absurd (none w (more.0 ∙ ap Some (sym e)))
          | inr all ↦ inr (subst (Finished ops d) (sym e) (λ r at. past r (all.1 r at)))
        ]
        | inr other ↦
            let free : (v : ℕ) → c.hand v ≢ Some j = λ v h. elim (cases_ℕ v w) [
              | inl e ↦ other (same_Some j k (sym h ∙ ap c.hand e ∙ b.had))
              | inr away ↦ none v (m.hand v away ∙ h)
            ] in
            elim (s.rest j there free) [
              | inr done ↦ inr (λ r at. omega (arith, done r at, rises r))
              | inl u ↦ inl (λ r at. elim (cases_Bool (same_res q r)) [
                | inr apart ↦ omega (arith, m.turn r apart, u r at)
                | inl is ↦
                    let r_is : q ≡ r = same_res-true q r is in
                    let at_q : among (touched ops j) q ≡ true = ap (among (touched ops j)) r_is ∙ at in
                    let less : c.turn q ≤ nth ops j q = u q at_q in
                    subst (λ (x : Res). d.turn x ≤ nth ops j x) r_is (apart_turn (nth ops j q) (nth ops k q) (c.turn q) (d.turn q) b.turn turn_q less (λ e. other (nth_same ops j k q at_q b.at e)))
              ])
            ]
      ];
    }
  where
    apart_turn : (j k c d : ℕ) → d ≡ suc c → c ≡ k → c ≤ j → j ≢ k → d ≤ j
    apart_turn j k c d h i l n = omega arith
