-- Cells that show a state stand in the order of the resources.
use Rattle.std.proofs.Common.{◌≡◌, ℕ, zero, suc, ◌+◌, ◌-◌, ◌<◌, ◌≤◌, Bool, true, false, cond, inl, inr, List, [], ◌∷◌, length, get_or, refl, ◌∙◌, ap, arith}
use Rattle.std.specs.List.{prefix_len}
use Rattle.std.proofs.lemmas.Bool.{cases_lt}
use Rattle.std.proofs.lemmas.Option.{get_or_from_slice_get}
use Rattle.qccd_base.specs.Names.{trap, segment, junction, bit}
use Rattle.qccd_base.specs.declared.names.Res.{Res}
use Rattle.qccd_base.specs.declared.names.Res.TheVariants as res
use Rattle.qccd_machine.specs.Machine.{MachineData}
use Rattle.op_table.specs.State.{State}
use Rattle.op_table.specs.Contents.{content}
use Rattle.op_table.specs.declared.contents.Content.{Content}
use Rattle.op_cells.specs.declared.cells.Cell.{Cell}
use Rattle.op_cells.specs.Kinds.{is_trap, is_up_to_segment, is_up_to_junction, traps_end, segments_end, junctions_end, place_of}
use Rattle.op_cells.specs.Numbering.{index_of, IsThere}
use Rattle.op_cells.specs.Shows.{Shows}

-- the length of the front that passes a test
front_is : (p : Cell → Bool) (cells : List Cell) (n : ℕ) (d : Cell) → n ≤ length cells → ((k : ℕ) → k < n → p (get_or cells k d) ≡ true) → (n < length cells → p (get_or cells n d) ≡ false) → prefix_len p cells ≡ n
front_is p [] zero d within pass stop = refl
front_is p [] (suc n) d within pass stop = absurd (omega arith)
front_is p (c ∷ cells) zero d within pass stop = ap (λ (b : Bool). cond b (1 + prefix_len p cells) 0) (stop (omega arith))
front_is p (c ∷ cells) (suc n) d within pass stop =
    ap (λ (b : Bool). cond b (1 + prefix_len p cells) 0) (pass 0 (omega arith))
    ∙ longer (prefix_len p cells) n (front_is p cells n d (omega arith) (λ k less. pass (suc k) (omega arith)) (λ less. stop (omega arith)))
  where
    longer : (a b : ℕ) → a ≡ b → cond true (1 + a) 0 ≡ suc b
    longer a b e = let more : 1 + a ≡ suc b = omega (arith, e) in more

-- the test of what a resource holds, at its place
at_place : (m : MachineData) (s : State) (cells : List Cell) (q : Content → Bool) (r : Res) (k : ℕ) (d : Cell) → Shows m s cells → IsThere m s.bits r → k ≡ index_of m r → q (get_or cells k d).content ≡ q (content s r)
at_place m s cells q r k d shows there is =
    let here = shows.each r there in
    ap (λ (n : ℕ). q (get_or cells n d).content) is ∙ ap (λ (c : Cell). q c.content) (get_or_from_slice_get cells (index_of m r) here.0 d here.1) ∙ ap q here.2

abbrev traps : MachineData → ℕ
traps m = length m.capacities

abbrev segments : MachineData → ℕ
segments m = length m.capacities + length m.segments

abbrev junctions : MachineData → ℕ
junctions m = length m.capacities + length m.segments + m.junctions

-- a test that the kinds pass or fail
bits_from : (m : MachineData) (s : State) (cells : List Cell) (q : Content → Bool) (k : ℕ) (d : Cell) (b : Bool) → Shows m s cells → ((r : ℕ) → q (content s (res.Bit (bit r))) ≡ b) → junctions m ≤ k → k < length cells → q (get_or cells k d).content ≡ b
bits_from m s cells q k d b shows bits low high =
    at_place m s cells q (res.Bit (bit (k - junctions m))) k d shows (omega (arith, shows.long, low, high)) (omega (arith, low)) ∙ bits (k - junctions m)

junctions_from : (m : MachineData) (s : State) (cells : List Cell) (q : Content → Bool) (k : ℕ) (d : Cell) (b : Bool) → Shows m s cells → ((r : ℕ) → q (content s (res.Junc (junction r))) ≡ b) → segments m ≤ k → k < junctions m → q (get_or cells k d).content ≡ b
junctions_from m s cells q k d b shows juncs low high =
    at_place m s cells q (res.Junc (junction (k - segments m))) k d shows (omega (arith, low, high)) (omega (arith, low)) ∙ juncs (k - segments m)

segments_from : (m : MachineData) (s : State) (cells : List Cell) (q : Content → Bool) (k : ℕ) (d : Cell) (b : Bool) → Shows m s cells → ((r : ℕ) → q (content s (res.Seg (segment r))) ≡ b) → traps m ≤ k → k < segments m → q (get_or cells k d).content ≡ b
segments_from m s cells q k d b shows segs low high =
    at_place m s cells q (res.Seg (segment (k - traps m))) k d shows (omega (arith, low, high)) (omega (arith, low)) ∙ segs (k - traps m)

traps_from : (m : MachineData) (s : State) (cells : List Cell) (q : Content → Bool) (k : ℕ) (d : Cell) (b : Bool) → Shows m s cells → ((r : ℕ) → q (content s (res.Trap (trap r))) ≡ b) → k < traps m → q (get_or cells k d).content ≡ b
traps_from m s cells q k d b shows all high = at_place m s cells q (res.Trap (trap k)) k d shows high refl ∙ all k

ends_of_traps : (m : MachineData) (s : State) (cells : List Cell) → Shows m s cells → (d : Cell) → traps_end cells ≡ traps m
ends_of_traps m s cells shows d = front_is (λ c. is_trap c.content) cells (traps m) d (omega (arith, shows.long)) (λ k less. traps_from m s cells is_trap k d true shows (λ r. refl) less) (λ less. stop less)
  where
    stop : traps m < length cells → is_trap (get_or cells (traps m) d).content ≡ false
    stop less = elim (cases_lt (traps m) (segments m)) [
      | inl segs ↦ segments_from m s cells is_trap (traps m) d false shows (λ r. refl) (omega arith) segs
      | inr none ↦ elim (cases_lt (traps m) (junctions m)) [
        | inl juncs ↦ junctions_from m s cells is_trap (traps m) d false shows (λ r. refl) none juncs
        | inr bits ↦ bits_from m s cells is_trap (traps m) d false shows (λ r. refl) bits less
      ]
    ]

ends_of_segments : (m : MachineData) (s : State) (cells : List Cell) → Shows m s cells → (d : Cell) → segments_end cells ≡ segments m
ends_of_segments m s cells shows d = front_is (λ c. is_up_to_segment c.content) cells (segments m) d (omega (arith, shows.long)) (λ k less. pass k less) (λ less. stop less)
  where
    pass : (k : ℕ) → k < segments m → is_up_to_segment (get_or cells k d).content ≡ true
    pass k less = elim (cases_lt k (traps m)) [
      | inl low ↦ traps_from m s cells is_up_to_segment k d true shows (λ r. refl) low
      | inr high ↦ segments_from m s cells is_up_to_segment k d true shows (λ r. refl) high less
    ]

    stop : segments m < length cells → is_up_to_segment (get_or cells (segments m) d).content ≡ false
    stop less = elim (cases_lt (segments m) (junctions m)) [
      | inl juncs ↦ junctions_from m s cells is_up_to_segment (segments m) d false shows (λ r. refl) (omega arith) juncs
      | inr bits ↦ bits_from m s cells is_up_to_segment (segments m) d false shows (λ r. refl) bits less
    ]

ends_of_junctions : (m : MachineData) (s : State) (cells : List Cell) → Shows m s cells → (d : Cell) → junctions_end cells ≡ junctions m
ends_of_junctions m s cells shows d = front_is (λ c. is_up_to_junction c.content) cells (junctions m) d (omega (arith, shows.long)) (λ k less. pass k less) (λ less. bits_from m s cells is_up_to_junction (junctions m) d false shows (λ r. refl) (omega arith) less)
  where
    pass : (k : ℕ) → k < junctions m → is_up_to_junction (get_or cells k d).content ≡ true
    pass k less = elim (cases_lt k (traps m)) [
      | inl low ↦ traps_from m s cells is_up_to_junction k d true shows (λ r. refl) low
      | inr high ↦ elim (cases_lt k (segments m)) [
        | inl low ↦ segments_from m s cells is_up_to_junction k d true shows (λ r. refl) high low
        | inr higher ↦ junctions_from m s cells is_up_to_junction k d true shows (λ r. refl) higher less
      ]
    ]

blank : Cell
blank = record { content = Rattle.op_table.specs.declared.contents.Content.TheVariants.Bit; free_at = 0; log = record { entries = []; spare = 0 } }

pub in-order : (m : MachineData) (s : State) (cells : List Cell) (r : Res) → Shows m s cells → place_of cells r ≡ index_of m r
in-order m s cells (res.Trap t) shows = refl
in-order m s cells (res.Seg g) shows = ap (λ (n : ℕ). n + g.0) (ends_of_traps m s cells shows blank)
in-order m s cells (res.Junc j) shows = ap (λ (n : ℕ). n + j.0) (ends_of_segments m s cells shows blank)
in-order m s cells (res.Bit b) shows = ap (λ (n : ℕ). n + b.0) (ends_of_junctions m s cells shows blank)
