-- Operations that are done without some others finish no later.
use Rattle.std.proofs.Common.{arith, ◌≡◌, ℕ, zero, suc, max, ◌+◌, ◌≤◌, Bool, true, false, if◌then◌else◌, List, [], ◌∷◌, ◌++◌, map, reverse, refl, sym, ◌∙◌, ap, subst, Option, Some, None, slice_get, unwrap_or}
use Rattle.std.specs.List.{enumerate_from}
use Rattle.std.proofs.lemmas.List.{append-nil}
use Rattle.std.proofs.lemmas.Option.{same_Some, none-some}
use Rattle.qccd_base.specs.Greatest.{greatest}
use Rattle.qccd_base.specs.Resource.{among}
use Rattle.qccd_base.specs.declared.names.Res.{Res}
use Rattle.qccd_machine.specs.Machine.{MachineData}
use Rattle.op_table.specs.declared.kinds.OpKind.{OpKind}
use Rattle.op_table.specs.Clock.{Timed, timed, timed_from, timed_after}
use Rattle.op_table.specs.Touch.{touches}
use Rattle.qccd_program.proofs.Clocks.{clock_after, start-clocks}
use Rattle.qccd_program.specs.Program.{ProgramData}
use Rattle.passes.specs.Tidy.{Numbered, kinds, left_by, staying, tidied}
use Rattle.passes.specs.Swept.{swept}
use Rattle.passes.specs.Kept.{FinishNoLater}
use Rattle.passes.proofs.Parts.{IsPart, ends, stays, goes, part_staying}

-- ---- clocks

-- each of the new ones finishes no later than the old one with its number
abbrev EachLater : List Timed → List Numbered → List Timed → Type 0
EachLater old kept [] = Unit {0}
EachLater old [] (new ∷ news) = Unit {0}
EachLater old (e ∷ kept) (new ∷ news) =
    ((was : Timed) → slice_get old e.0 ≡ Some was → new.finish ≤ was.finish) × EachLater old kept news

read_later : (old : List Timed) (kept : List Numbered) (news : List Timed) (k : ℕ) (e : Numbered) (now was : Timed) → EachLater old kept news
    → slice_get kept k ≡ Some e → slice_get news k ≡ Some now → slice_get old e.0 ≡ Some was → now.finish ≤ was.finish
read_later old [] news k e now was all at is there = absurd (none-some e at)
read_later old (f ∷ kept) [] k e now was all at is there = absurd (none-some now is)
read_later old (f ∷ kept) (new ∷ news) zero e now was all at is there =
    subst (λ (x : Timed). x.finish ≤ was.finish) (same_Some new now is) (all.0 was (ap (λ (x : Numbered). slice_get old x.0) (same_Some f e at) ∙ there))
read_later old (f ∷ kept) (new ∷ news) (suc k) e now was all at is there = read_later old kept news k e now was all.1 at is there

-- no clock of the one is later than that of the other
abbrev pub NoLater : List Timed → List Timed → Type 0
NoLater new old = (r : Res) → clock_after new r ≤ clock_after old r

greatest_less : (f g : Res → ℕ) (rs : List Res) → ((r : Res) → f r ≤ g r) → greatest (map f rs) ≤ greatest (map g rs)
greatest_less f g [] less = omega arith
greatest_less f g (r ∷ rs) less = omega (arith, less r, greatest_less f g rs less)

finish_less : (m : MachineData) (new old : List Timed) (op : OpKind) → NoLater new old → (timed_after m new op).finish ≤ (timed_after m old op).finish
finish_less m new old op less =
    omega (arith, start-clocks new op, start-clocks old op, greatest_less (clock_after new) (clock_after old) (touches op) less)

step_less : (b : Bool) (x y c d : ℕ) → x ≤ y → c ≤ d → (if b then max x c else c) ≤ (if b then max y d else d)
step_less true x y c d h k = omega (arith, h, k)
step_less false x y c d h k = k

more_less : (b : Bool) (y c d : ℕ) → c ≤ d → c ≤ (if b then max y d else d)
more_less true y c d k = omega (arith, k)
more_less false y c d k = k

-- old k j stands for the j-th of the earlier list's times from number k on
no_later : (m : MachineData) (old : List Timed) (k : ℕ) (now was : List Timed) (some : List Numbered) (ops : List OpKind) → NoLater now was → IsPart some (enumerate_from k ops)
    → ((j : ℕ) → slice_get old (k + j) ≡ slice_get (timed_from m was ops) j) → EachLater old some (timed_from m now (kinds some))
no_later m old k now was some [] less part there = none some part
  where
    none : (some : List Numbered) → IsPart some [] → EachLater old some (timed_from m now (kinds some))
    none some ends = tt
no_later m old k now was some (op ∷ ops) less part there = by_part (λ n w xs l p t. no_later m old (k + 1) n w xs ops l p t) some part
  where
    next : (j : ℕ) → slice_get old (k + 1 + j) ≡ slice_get (timed_from m (timed_after m was op ∷ was) ops) j
    next j = ap (slice_get old) (plus k j) ∙ there (suc j)
      where
        plus : (k j : ℕ) → k + 1 + j ≡ k + suc j
        plus k j = omega arith

    first : slice_get old k ≡ Some (timed_after m was op)
    first = ap (slice_get old) (zero_more k) ∙ there 0
      where
        zero_more : (k : ℕ) → k ≡ k + 0
        zero_more k = omega arith

    by_part : ((now was : List Timed) (some : List Numbered) → NoLater now was → IsPart some (enumerate_from (k + 1) ops) → ((j : ℕ) → slice_get old (k + 1 + j) ≡ slice_get (timed_from m was ops) j) → EachLater old some (timed_from m now (kinds some))) → (some : List Numbered) → IsPart some ((k, op) ∷ enumerate_from (k + 1) ops) → EachLater old some (timed_from m now (kinds some))
    by_part later some (goes e more all p) = later now (timed_after m was op ∷ was) some (λ r. more_less (among (touches op) r) (timed_after m was op).finish (clock_after now r) (clock_after was r) (less r)) p next
    by_part later some (stays e more all p) =
        let mine : (timed_after m now op).finish ≤ (timed_after m was op).finish = finish_less m now was op less in (
          λ (t : Timed) (is : slice_get old k ≡ Some t). subst (λ (x : Timed). (timed_after m now op).finish ≤ x.finish) (same_Some (timed_after m was op) t (sym first ∙ is)) mine,
          later (timed_after m now op ∷ now) (timed_after m was op ∷ was) more
              (λ r. step_less (among (touches op) r) (timed_after m now op).finish (timed_after m was op).finish (clock_after now r) (clock_after was r) mine (less r)) p next,
        )

pub tidied_no_later : (p : ProgramData) → FinishNoLater p
tidied_no_later p k e now was =
    read_later (timed p.machine p.ops) (staying p.ops) (timed p.machine (tidied p).ops) k e now was
    (no_later p.machine (timed p.machine p.ops) 0 [] [] (staying p.ops) p.ops (λ r. omega arith) (part_staying p.ops) (λ j. ap (slice_get (timed p.machine p.ops)) (zero_plus j)))
  where
    zero_plus : (j : ℕ) → 0 + j ≡ j
    zero_plus j = omega arith
