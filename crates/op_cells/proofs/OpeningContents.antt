-- What each resource holds at the opening of start chains.
use Rattle.std.proofs.Common.{◌≡◌, ℕ, zero, suc, ◌+◌, ◌<◌, ◌≤◌, inl, inr, Bool, false, cond, List, [], ◌∷◌, map, length, get_or, refl, sym, ◌∙◌, ap, ap₂, arith, Option, Some, None, option_map, eqb}
use Rattle.std.specs.Prelude.{slice_get, find, replicate}
use Rattle.std.specs.List.{enumerate_from, range_with_len}
use Rattle.std.proofs.lemmas.Bool.{cases_eq, eq-eqb, ne_eqb, lt-ltb}
use Rattle.qccd_base.specs.declared.names.Ion.{Ion}
use Rattle.qccd_base.specs.declared.names.Res.TheVariants as res
use Rattle.qccd_machine.specs.Machine.{MachineData}
use Rattle.op_table.specs.State.{IonPlace, Stand, is_at, is_on_segment, is_in_junction, place_from, opening}
use Rattle.op_table.specs.Start.{IsStart}
use Rattle.op_table.specs.declared.contents.Entry.{Entry}
use Rattle.op_table.specs.declared.contents.Content.TheVariants as holds
use Rattle.op_table.specs.Contents.{seek, entry_of, entry_at, chain, rider_of, carry_of, content}
use Rattle.op_table.specs.Act.{trap_content}
use Rattle.op_table.proofs.Counts.{find-map, same_gets}
use Rattle.op_table.proofs.Chains.{chain-get}
use Rattle.op_table.proofs.Openings.{is_ion, place_in, in_trap_only, opening-safe, ion_below}
use Rattle.op_cells.specs.Opening.{start_entry}

numbered : (f : ℕ → Stand) (a n : ℕ) → enumerate_from a (map f (range_with_len a n)) ≡ map (λ i. (i, f i)) (range_with_len a n)
numbered f a zero = refl
numbered f a (suc n) = ap (λ (xs : List (ℕ × Stand)). (a, f a) ∷ xs) (numbered f (a + 1) n)

find_one : (p : ℕ → Bool) (x a n : ℕ) → ((i : ℕ) → a ≤ i → i < a + n → p i ≡ eqb x i) → a ≤ x → x < a + n → find p (range_with_len a n) ≡ Some x
find_one p x a zero each low high = absurd (omega arith)
find_one p x a (suc n) each low high = elim (cases_eq x a) [
  | inl h ↦ ap (λ (b : Bool). cond b (Some a) (find p (range_with_len (a + 1) n))) (each a (omega arith) (omega arith) ∙ eq-eqb x a h) ∙ ap Some (sym h)
  | inr h ↦ ap (λ (b : Bool). cond b (Some a) (find p (range_with_len (a + 1) n))) (each a (omega arith) (omega arith) ∙ ne_eqb x a h)
      ∙ find_one p x (a + 1) n (λ i down up. each i (omega arith) (omega arith)) (grind arith) (omega arith)
]

find_no : (p : ℕ → Bool) (a n : ℕ) → ((i : ℕ) → a ≤ i → i < a + n → p i ≡ false) → find p (range_with_len a n) ≡ None
find_no p a zero each = refl
find_no p a (suc n) each = ap (λ (b : Bool). cond b (Some a) (find p (range_with_len (a + 1) n))) (each a (omega arith) (omega arith)) ∙ find_no p (a + 1) n (λ i down up. each i (omega arith) (omega arith))

seek_range : (p : IonPlace → Bool) (f : ℕ → Stand) (n : ℕ) → seek (λ w. p w.place) (map f (range_with_len 0 n)) ≡ option_map (λ i. (i, f i)) (find (λ i. p (f i).place) (range_with_len 0 n))
seek_range p f n = ap (find (λ (e : ℕ × Stand). p e.1.place)) (numbered f 0 n) ∙ find-map (λ (e : ℕ × Stand). p e.1.place) (λ i. (i, f i)) (range_with_len 0 n)

entry_start : (m : MachineData) (n bits : ℕ) (chains : List (List Ion)) → IsStart m n chains → (t k : ℕ) (o : Option Ion) → slice_get (get_or chains t []) k ≡ o → entry_at (opening n bits chains) t k ≡ option_map start_entry o
entry_start m n bits chains start t k None is =
    let st : ℕ → Stand = λ i. record { place = place_from 0 chains i; qubit = record { 0 = i } } in
    ap (option_map entry_of) (seek_range (is_at t k) st n ∙ ap (option_map (λ i. (i, st i))) (find_no (λ i. is_at t k (place_from 0 chains i)) 0 n
    (λ i down up. place_in chains 0 i t t k (omega arith) (start.once i ∙ rw (lt-ltb i n (omega arith)) refl) ∙ ap (is_ion i) is)))
entry_start m n bits chains start t k (Some x) is =
    let st : ℕ → Stand = λ i. record { place = place_from 0 chains i; qubit = record { 0 = i } } in
    let low : x.0 < n = ion_below m n chains start t k x is in
    ap (option_map entry_of) (seek_range (is_at t k) st n ∙ ap (option_map (λ i. (i, st i))) (find_one (λ i. is_at t k (place_from 0 chains i)) x.0 0 n
    (λ i down up. place_in chains 0 i t t k (omega arith) (start.once i ∙ rw (lt-ltb i n (omega arith)) refl) ∙ ap (is_ion i) is) (omega arith) (omega (arith, low))))

mapped_get : {X Y : Type 0} (f : X → Y) (xs : List X) (k : ℕ) → slice_get (map f xs) k ≡ option_map f (slice_get xs k)
mapped_get f [] k = refl
mapped_get f (x ∷ xs) zero = refl
mapped_get f (x ∷ xs) (suc k) = mapped_get f xs k

cold_get : (n t : ℕ) → get_or {A = ℕ} (replicate n 0) t 0 ≡ 0
cold_get zero t = refl
cold_get (suc n) zero = refl
cold_get (suc n) (suc t) = cold_get n t

pub trap-start : (m : MachineData) (n bits : ℕ) (chains : List (List Ion)) (t : _) → IsStart m n chains → content (opening n bits chains) (res.Trap t) ≡ trap_content (map start_entry (get_or chains t.0 [])) 0
trap-start m n bits chains t start =
    ap₂ (λ (es : List Entry) (h : ℕ). trap_content es h)
    (same_gets (chain (opening n bits chains) t.0) (map start_entry (get_or chains t.0 [])) (λ k.
    chain-get m (opening n bits chains) t.0 k (opening-safe m n bits chains start) ∙ entry_start m n bits chains start t.0 k (slice_get (get_or chains t.0 []) k) refl ∙ sym (mapped_get start_entry (get_or chains t.0 []) k)))
    (cold_get (length chains) t.0)

pub seg-start : (n bits : ℕ) (chains : List (List Ion)) (g : _) → content (opening n bits chains) (res.Seg g) ≡ holds.Seg None
seg-start n bits chains g =
    let st : ℕ → Stand = λ i. record { place = place_from 0 chains i; qubit = record { 0 = i } } in
    ap (λ (o : Option (ℕ × Stand)). holds.Seg (option_map rider_of o)) (seek_range (is_on_segment g.0) st n ∙ ap (option_map (λ i. (i, st i))) (find_no (λ i. is_on_segment g.0 (place_from 0 chains i)) 0 n (λ i down up. (in_trap_only chains 0 i g.0).0)))

pub junc-start : (n bits : ℕ) (chains : List (List Ion)) (j : _) → content (opening n bits chains) (res.Junc j) ≡ holds.Junc None
junc-start n bits chains j =
    let st : ℕ → Stand = λ i. record { place = place_from 0 chains i; qubit = record { 0 = i } } in
    ap (λ (o : Option (ℕ × Stand)). holds.Junc (option_map carry_of o)) (seek_range (is_in_junction j.0) st n ∙ ap (option_map (λ i. (i, st i))) (find_no (λ i. is_in_junction j.0 (place_from 0 chains i)) 0 n (λ i down up. (in_trap_only chains 0 i j.0).1)))
