-- Which operations are finished, by the turns of their first resources.
use Rattle.std.proofs.Common.{◌≡◌, ℕ, ◌<◌, ◌≤◌, inl, inr, true, false, nat_lt, List, length, get_or, refl, sym, ◌∙◌, ap, arith, Some}
use Rattle.std.specs.Prelude.{slice_get, slice_index_or}
use Rattle.std.proofs.lemmas.Bool.{cases_lt, false≢true, lt-ltb, ltb-true}
use Rattle.std.proofs.lemmas.Option.{slice_get_read}
use Rattle.qccd_base.specs.declared.names.Res.{Res}
use Rattle.qccd_base.specs.Resource.{among}
use Rattle.qccd_machine.specs.Machine.{MachineData}
use Rattle.op_table.specs.declared.kinds.OpKind.{OpKind}
use Rattle.op_table.specs.Touch.{touches, nth}
use Rattle.op_cells.specs.Numbering.{index_of}
use Rattle.qccd_program.specs.Legal.{IsLegalProgram}
use Rattle.qccd_program.specs.Program.{ProgramData}
use Rattle.claim_core.specs.Event.{touched}
use Rattle.claim_core.specs.Board.{is_there, width}
use Rattle.claim_core.proofs.Coded.{not-empty}
use Rattle.claim_core.proofs.Legally.{claims-legal, touched_at}
use Rattle.claim_core.proofs.Written.{index_below}
use Rattle.workers.proofs.Reading.{Reads, reads-at}
use Rattle.claim_board.specs.Close.{IsAtRest, NotBegun, Past, turn_of}

-- the first resource of operation k, as it is read off the program
some-first : (p : ProgramData) (ops : List OpKind) (rs : List Res) (k : ℕ) (op : OpKind) → IsLegalProgram p → ops ≡ p.ops → k < length p.ops → op ≡ get_or ops k op → rs ≡ touches op → 0 < length rs
some-first p ops rs k op legal listed there at same =
    let op_is : slice_get p.ops k ≡ Some op = slice_get_read p.ops (length p.ops) k op refl there (at ∙ ap (λ (os : List OpKind). get_or os k op) listed) in
    not-empty p k rs (claims-legal p legal) there (same ∙ sym (touched_at p.ops k op op_is))

-- what is read of operation k and its first resource
pub record ReadsFirst (p : ProgramData) (k : ℕ) (op : OpKind) (rs : List Res) (d : Res) : Type 0 where
  pub some : 0 < length rs
  pub reads : Reads p k 0 op (slice_index_or rs 0 d)

pub reads-first : (p : ProgramData) (ops : List OpKind) (rs : List Res) (k : ℕ) (op : OpKind) (d : Res) → IsLegalProgram p → ops ≡ p.ops → k < length p.ops → op ≡ get_or ops k op → rs ≡ touches op → ReadsFirst p k op rs d
reads-first p ops rs k op d legal listed there at same = let some = some-first p ops rs k op legal listed there at same in record { some = some; reads = reads-at p ops rs k 0 op d legal listed there at same some }

-- by the turn of a resource that it touches an operation is finished or not begun
pub one-past : (p : ProgramData) (turn : Res → ℕ) (k n : ℕ) (r : Res) → IsAtRest p.ops turn n → k < length p.ops → among (touched p.ops k) r ≡ true → nth p.ops k r < turn r → Past p.ops turn k
one-past p turn k n r rest less touches h = elim (rest.whole k less) [
  | inl none ↦ absurd (omega (arith, h, none r touches))
  | inr all ↦ all
]

pub one-rests : (p : ProgramData) (turn : Res → ℕ) (k n : ℕ) (r : Res) → IsAtRest p.ops turn n → k < length p.ops → among (touched p.ops k) r ≡ true → turn r ≤ nth p.ops k r → NotBegun p.ops turn k
one-rests p turn k n r rest less touches h = elim (rest.whole k less) [
  | inl none ↦ none
  | inr all ↦ absurd (omega (arith, h, all r touches))
]

-- the number of a resource, and what the comparison of turns says
pub number-below : (p : ProgramData) (m : MachineData) (i : ℕ) (r : Res) (turns : List ℕ) → m ≡ p.machine → i ≡ index_of m r → is_there p r ≡ true → length turns ≡ width p → i < length turns
number-below p m i r turns same is there long = let number : i ≡ index_of p.machine r = is ∙ ap (λ (x : MachineData). index_of x r) same in omega (arith, number, index_below p r there, long)

at_number : (p : ProgramData) (m : MachineData) (i : ℕ) (r : Res) (turns : List ℕ) → m ≡ p.machine → i ≡ index_of m r → get_or turns i 0 ≡ turn_of p turns r
at_number p m i r turns same is = ap (λ (n : ℕ). get_or turns n 0) (is ∙ ap (λ (x : MachineData). index_of x r) same)

pub less-true : (p : ProgramData) (m : MachineData) (k turn i : ℕ) (r : Res) (turns : List ℕ) → m ≡ p.machine → i ≡ index_of m r → turn ≡ nth p.ops k r → nat_lt turn (get_or turns i 0) ≡ true → nth p.ops k r < turn_of p turns r
less-true p m k turn i r turns same is needed h = let at = at_number p m i r turns same is in let less = ltb-true turn (get_or turns i 0) h in omega (arith, at, needed, less)

pub less-false : (p : ProgramData) (m : MachineData) (k turn i : ℕ) (r : Res) (turns : List ℕ) → m ≡ p.machine → i ≡ index_of m r → turn ≡ nth p.ops k r → nat_lt turn (get_or turns i 0) ≡ false → turn_of p turns r ≤ nth p.ops k r
less-false p m k turn i r turns same is needed h = elim (cases_lt turn (get_or turns i 0)) [
  | inl less ↦ absurd (false≢true (sym h ∙ lt-ltb turn (get_or turns i 0) less))
  | inr more ↦ let at = at_number p m i r turns same is in omega (arith, at, needed, more)
]
