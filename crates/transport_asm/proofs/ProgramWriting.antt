-- A program's text in the pieces in which it is sent.
use Rattle.std.proofs.Common.{◌≡◌, ℕ, zero, suc, ◌+◌, ◌<◌, List, [], ◌∷◌, ◌++◌, map, codes, decimal, length, take, drop, get_or, Option, Some, None, Ok, Err, IsErrAnd, Result, refl, sym, ap, ◌∙◌, subst, arith, append_assoc}
use Rattle.std.specs.List.{join_with_byte}
use Rattle.std.proofs.lemmas.Grind.{flat_map-append}
use Rattle.std.proofs.lemmas.List.{append-nil}
use Rattle.std.proofs.lemmas.List.Folds.{flat_map-map}
use Rattle.qccd_base.specs.Names.{trap}
use Rattle.qccd_base.specs.declared.names.Ion.{Ion}
use Rattle.qccd_base.specs.declared.names.Mode.{Mode}
use Rattle.qccd_base.specs.declared.names.Mode.TheVariants.{IonSwap, GateSwap}
use Rattle.qccd_io.specs.Sends.{Sends}
use Rattle.qccd_io.specs.Sink.{Behind}
use Rattle.qccd_io.proofs.Sent.{sent_next, sent_short}
use Rattle.op_table.specs.declared.kinds.OpKind.{OpKind}
use Rattle.op_table.specs.declared.kinds.OpKind.TheVariants.{Split, Move, Enter, Leave, Merge, Rot, GSwap, Item, Fence}
use Rattle.qccd_program.specs.Program.{ProgramData}
use Rattle.op_text.specs.OpText.{op_text, trap_text}
use Rattle.op_text.specs.Operations.{op_words}
use Rattle.transport_asm.specs.Lines.{line_text, lines_text, numbered_lines}
use Rattle.transport_asm.specs.Texts.{chain_words, op_line_words, size_words, end_words, head_lines, raw_text}
use Rattle.transport_asm.specs.ProgramText.{program_text, front_text, back_text, numbered_texts, head_text, counts_text, traps_head, chain_text, ops_head, op_line_text}
use Rattle.transport_asm.proofs.Answered.{op_text-line}
use Rattle.op_text.proofs.Sending.{join_rest}

-- ---- texts with numbers

-- the text of one more
numbered_more : {A : Type 0} (text : ℕ → A → List ℕ) (k : ℕ) (xs : List A) (i : ℕ) (d : A) → i < length xs
    → numbered_texts text k (take (suc i) xs) ≡ numbered_texts text k (take i xs) ++ text (k + i) (get_or xs i d)
numbered_more text k [] i d within = absurd (omega arith)
numbered_more text k (x ∷ xs) zero d within =
    let n : k ≡ k + 0 = omega arith in
    append-nil (text k x) ∙ ap (λ (j : ℕ). text j x) n
numbered_more text k (x ∷ xs) (suc i) d within =
    let n : (k + 1) + i ≡ k + suc i = omega arith in
    ap (λ (rest : List ℕ). text k x ++ rest) (numbered_more text (k + 1) xs i d (omega arith) ∙ ap (λ (j : ℕ). numbered_texts text (k + 1) (take i xs) ++ text j (get_or xs i d)) n)
    ∙ sym (append_assoc (text k x) (numbered_texts text (k + 1) (take i xs)) (text (k + suc i) (get_or xs i d)))

-- those in front, and the others
numbered_cut : {A : Type 0} (text : ℕ → A → List ℕ) (k : ℕ) (xs : List A) (i : ℕ) → numbered_texts text k xs ≡ numbered_texts text k (take i xs) ++ numbered_texts text (k + i) (drop i xs)
numbered_cut text k xs zero =
    let n : k ≡ k + 0 = omega arith in
    ap (λ (j : ℕ). numbered_texts text j xs) n
numbered_cut text k [] (suc i) = refl
numbered_cut text k (x ∷ xs) (suc i) =
    let n : (k + 1) + i ≡ k + suc i = omega arith in
    ap (λ (rest : List ℕ). text k x ++ rest) (numbered_cut text (k + 1) xs i ∙ ap (λ (j : ℕ). numbered_texts text (k + 1) (take i xs) ++ numbered_texts text j (drop i xs)) n)
    ∙ sym (append_assoc (text k x) (numbered_texts text (k + 1) (take i xs)) (numbered_texts text (k + suc i) (drop i xs)))

next_texts : {A : Type 0} (text : ℕ → A → List ℕ) (xs : List A) (i : ℕ) (d : A) → i < length xs
    → numbered_texts text 0 (take i xs) ++ text i (get_or xs i d) ≡ numbered_texts text 0 (take (i + 1) xs)
next_texts text xs i d within =
    let n : i + 1 ≡ suc i = omega arith in
    let here : 0 + i ≡ i = omega arith in
    sym (ap (λ (j : ℕ). numbered_texts text 0 (take j xs)) n ∙ numbered_more text 0 xs i d within ∙ ap (λ (j : ℕ). numbered_texts text 0 (take i xs) ++ text j (get_or xs i d)) here)

pub numbered_sent : {X A T U E : Type 0} {taken : X → Option (List ℕ)} {faults : X → ℕ} {behind : X → Behind} {old mid new : X} {t : T} {u : U} (text : ℕ → A → List ℕ) (xs : List A) (i : ℕ) (d : A) → i < length xs
    → Sends {E = E} taken faults behind old mid (Ok t) (numbered_texts text 0 (take i xs)) → Sends {E = E} taken faults behind mid new (Ok u) (text i (get_or xs i d))
    → Sends {E = E} taken faults behind old new (Ok u) (numbered_texts text 0 (take (i + 1) xs))
numbered_sent {E = E} {taken = taken} {faults = faults} {behind = behind} {old = old} {new = new} {u = u} text xs i d within first next =
    subst (λ (bytes : List ℕ). Sends {E = E} taken faults behind old new (Ok u) bytes) (next_texts text xs i d within) (sent_next (Ok u) (numbered_texts text 0 (take i xs)) (text i (get_or xs i d)) first next)

pub numbered_short : {X A T U V E : Type 0} {taken : X → Option (List ℕ)} {faults : X → ℕ} {behind : X → Behind} {old mid new : X} {t : T} {e : E} (text : ℕ → A → List ℕ) (xs : List A) (i : ℕ) (d : A) (r : Result V E) → i < length xs
    → Sends {E = E} taken faults behind old mid (Ok t) (numbered_texts text 0 (take i xs)) → Sends {T = U} taken faults behind mid new (Err e) (text i (get_or xs i d))
    → IsErrAnd r (λ y. y ≡ e) → Sends taken faults behind old new r (numbered_texts text 0 xs)
numbered_short {U = U} {taken = taken} {faults = faults} {behind = behind} {old = old} {new = new} {e = e} text xs i d r within first next same =
    let part = subst (λ (bytes : List ℕ). Sends {T = U} taken faults behind old new (Err e) bytes) (next_texts text xs i d within) (sent_next (Err e) (numbered_texts text 0 (take i xs)) (text i (get_or xs i d)) first next) in
    subst (λ (bytes : List ℕ). Sends taken faults behind old new r bytes) (sym (numbered_cut text 0 xs (i + 1))) (sent_short r (numbered_texts text 0 (take (i + 1) xs)) (numbered_texts text (0 + (i + 1)) (drop (i + 1) xs)) part same)

-- ---- lines

same_texts : {A : Type 0} (f g : ℕ → A → List ℕ) → ((k : ℕ) (x : A) → f k x ≡ g k x) → (k : ℕ) (xs : List A) → numbered_texts f k xs ≡ numbered_texts g k xs
same_texts f g same k [] = refl
same_texts f g same k (x ∷ xs) = ap (λ (t : List ℕ). t ++ numbered_texts f (k + 1) xs) (same k x) ∙ ap (λ (rest : List ℕ). g k x ++ rest) (same_texts f g same (k + 1) xs)

lines_numbered : {A : Type 0} (words : ℕ → A → List (List ℕ)) (k : ℕ) (xs : List A) → lines_text (numbered_lines words k xs) ≡ numbered_texts (λ k x. line_text (words k x) ++ 10 ∷ []) k xs
lines_numbered words k [] = refl
lines_numbered words k (x ∷ xs) = ap (λ (rest : List ℕ). (line_text (words k x) ++ 10 ∷ []) ++ rest) (lines_numbered words (k + 1) xs)

chain_line_is : (t : ℕ) (ions : List Ion) → line_text (chain_words t ions) ++ 10 ∷ [] ≡ chain_text t ions
chain_line_is t ions =
    ap (λ (line : List ℕ). line ++ 10 ∷ []) (join_rest 32 (trap_text (trap t)) (map (λ i. decimal i.0) ions)
    ∙ ap (λ (rest : List ℕ). trap_text (trap t) ++ rest) (flat_map-map (λ (text : List ℕ). 32 ∷ text) (λ (i : Ion). decimal i.0) ions))

-- an operation has a word
join_op : (first : List ℕ) (op : OpKind) → join_with_byte 32 (first ∷ op_words op) ≡ first ++ 32 ∷ join_with_byte 32 (op_words op)
join_op first (Split t e g) = refl
join_op first (Move g) = refl
join_op first (Enter g j) = refl
join_op first (Leave j g) = refl
join_op first (Merge g t e) = refl
join_op first (Rot t p) = refl
join_op first (GSwap t low high) = refl
join_op first (Item number t item at) = refl
join_op first (Fence number item traps) = refl

op_line_is : (k : ℕ) (op : OpKind) → line_text (op_line_words k op) ++ 10 ∷ [] ≡ op_line_text k op
op_line_is k op =
    ap (λ (line : List ℕ). line ++ 10 ∷ []) (join_op (decimal k) op ∙ ap (λ (text : List ℕ). decimal k ++ 32 ∷ text) (sym (op_text-line op)) ∙ sym (append_assoc (decimal k) (32 ∷ []) (op_text op)))

-- ---- the whole text

sizes_shape : (head q b t feed : List ℕ) (qubits bits traps : List ℕ) (rest : List ℕ)
    → head ++ (((q ++ qubits) ++ feed) ++ (((b ++ bits) ++ feed) ++ (((t ++ traps) ++ feed) ++ rest))) ≡ ((head ++ ((q ++ qubits) ++ ((feed ++ b) ++ bits))) ++ (((feed ++ t) ++ traps) ++ feed)) ++ rest
sizes_shape head q b t feed qubits bits traps rest = simp append_assoc

whole_shape : (a b c d e : List ℕ) → a ++ (b ++ (c ++ (d ++ e))) ≡ (a ++ b) ++ ((c ++ d) ++ e)
whole_shape a b c d e = simp append_assoc

abbrev line_feed : List ℕ
line_feed = codes "\n"

tail_is : (p : ProgramData) → lines_text (numbered_lines chain_words 0 p.start ++ (size_words (codes "ops") (length p.ops) ∷ (numbered_lines op_line_words 0 p.ops ++ (end_words tt ∷ []))))
    ≡ numbered_texts chain_text 0 p.start ++ (ops_head (length p.ops) ++ (numbered_texts op_line_text 0 p.ops ++ codes "end\n"))
tail_is p =
    flat_map-append (λ words. line_text words ++ 10 ∷ []) (numbered_lines chain_words 0 p.start) (size_words (codes "ops") (length p.ops) ∷ (numbered_lines op_line_words 0 p.ops ++ (end_words tt ∷ [])))
    ∙ ap (λ (text : List ℕ). text ++ lines_text (size_words (codes "ops") (length p.ops) ∷ (numbered_lines op_line_words 0 p.ops ++ (end_words tt ∷ [])))) (lines_numbered chain_words 0 p.start ∙ same_texts (λ k x. line_text (chain_words k x) ++ 10 ∷ []) chain_text chain_line_is 0 p.start)
    ∙ ap (λ (text : List ℕ). numbered_texts chain_text 0 p.start ++ (ops_head (length p.ops) ++ text))
    (flat_map-append (λ words. line_text words ++ 10 ∷ []) (numbered_lines op_line_words 0 p.ops) (end_words tt ∷ [])
    ∙ ap (λ (text : List ℕ). text ++ codes "end\n") (lines_numbered op_line_words 0 p.ops ∙ same_texts (λ k x. line_text (op_line_words k x) ++ 10 ∷ []) op_line_text op_line_is 0 p.ops))

head_is : (mode : Option Mode) (lines : List (List (List ℕ))) → lines_text (head_lines mode ++ lines) ≡ head_text mode ++ lines_text lines
head_is None lines = refl
head_is (Some IonSwap) lines = refl
head_is (Some GateSwap) lines = refl

pub text_is : (p : ProgramData) → front_text p ++ back_text p.ops ≡ program_text p
unfolding program_text raw_text
text_is p = sym (
    head_is p.mode _
    ∙ ap (λ (rest : List ℕ). head_text p.mode ++ (((codes "qubits " ++ decimal p.qubits) ++ line_feed) ++ (((codes "bits " ++ decimal p.bits) ++ line_feed) ++ (((codes "traps " ++ decimal (length p.start)) ++ line_feed) ++ rest)))) (tail_is p)
    ∙ sizes_shape (head_text p.mode) (codes "qubits ") (codes "bits ") (codes "traps ") line_feed (decimal p.qubits) (decimal p.bits) (decimal (length p.start)) (numbered_texts chain_text 0 p.start ++ (ops_head (length p.ops) ++ (numbered_texts op_line_text 0 p.ops ++ codes "end\n")))
    ∙ whole_shape (head_text p.mode ++ counts_text p.qubits p.bits ++ traps_head (length p.start)) (numbered_texts chain_text 0 p.start) (ops_head (length p.ops)) (numbered_texts op_line_text 0 p.ops) (codes "end\n"))
