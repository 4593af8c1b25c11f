-- Each text has one answer.
use Rattle.std.proofs.Common.{◌≡◌, ℕ, ◌⊎◌, inl, inr, List, [], ◌∷◌, ◌++◌, map, zip, codes, decimal, Option, Some, None, Result, Ok, Err, refl, sym, ap, ◌∙◌, append_assoc}
use Rattle.std.specs.Prelude.{flat_map}
use Rattle.std.specs.List.{join_with_byte}
use Rattle.std.proofs.lemmas.List.{append-nil}
use Rattle.qccd_circuit.specs.declared.kinds.Cond.{Cond}
use Rattle.op_table.specs.declared.kinds.OpKind.{OpKind}
use Rattle.op_table.specs.declared.kinds.OpKind.TheVariants.{Split, Move, Enter, Leave, Merge, Rot, GSwap, Item, Fence}
use Rattle.op_text.specs.OpText.{op_text, next_word, trap_text, qubit_text, bit_text, cond_text, operand_text, segment_text, end_text, angles_text}
use Rattle.transport_asm.specs.Lines.{Refusal, words_of, line_text}
use Rattle.op_text.specs.Operations.{read_op, op_words, cond_words}
use Rattle.transport_asm.specs.Texts.{RawData, Spells, IsRefusedAt, read_text}
use Rattle.transport_asm.proofs.Fitting.{FitsOp}
use Rattle.transport_asm.proofs.LineLaws.{read_is, cut_again, line_text-words_of}
use Rattle.transport_asm.proofs.OpLaws.{op_law}

abbrev Answer : List ℕ → Type 0
Answer text = ((raw : RawData) × Spells text raw) ⊎ ((refusal : Refusal) × IsRefusedAt text refusal)

by_result : (text : List ℕ) (r : Result RawData Refusal) → read_text text ≡ r → Answer text
by_result text (Ok raw) is = inl (raw, is)
by_result text (Err refusal) is = inr (refusal, is)

pub every_text : (text : List ℕ) → Answer text
every_text text = by_result text (read_text text) refl

pub one_raw : (text : List ℕ) (a b : RawData) → Spells text a → Spells text b → a ≡ b
one_raw text a b first second = read_is a b (sym first ∙ second)

abbrev refused_so : Refusal → Result RawData Refusal
refused_so r = Err r

same_refusal : (a b : Refusal) → refused_so a ≡ refused_so b → a ≡ b
same_refusal a b e = cc

pub one_refusal : (text : List ℕ) (a b : Refusal) → IsRefusedAt text a → IsRefusedAt text b → a ≡ b
one_refusal text a b first second = same_refusal a b (sym first ∙ second)

apart : (raw : RawData) (refusal : Refusal) → Ok raw ≡ refused_so refusal → ⊥
apart raw refusal e = cc

pub not_both : (text : List ℕ) (raw : RawData) (refusal : Refusal) → Spells text raw → IsRefusedAt text refusal → ⊥
not_both text raw refusal first second = apart raw refusal (sym first ∙ second)

-- ---- the text of an operation is its words, joined

join_flat : (word : List ℕ) (words : List (List ℕ)) → join_with_byte 32 (word ∷ words) ≡ word ++ flat_map next_word words
join_flat word [] = sym (append-nil word)
join_flat word (next ∷ words) = ap (λ (w : List ℕ). word ++ 32 ∷ w) (join_flat next words)

flat_words : {A : Type 0} (f : A → List ℕ) (xs : List A) → flat_map (λ x. next_word (f x)) xs ≡ flat_map next_word (map f xs)
flat_words f [] = refl
flat_words f (x ∷ xs) = ap (λ (w : List ℕ). next_word (f x) ++ w) (flat_words f xs)

flat_both : (ws vs : List (List ℕ)) → flat_map next_word (ws ++ vs) ≡ flat_map next_word ws ++ flat_map next_word vs
flat_both [] vs = refl
flat_both (w ∷ ws) vs = ap (λ (x : List ℕ). next_word w ++ x) (flat_both ws vs) ∙ sym (append_assoc (next_word w) (flat_map next_word ws) (flat_map next_word vs))

-- two lists of words behind a front
two_lists : {A B : Type 0} (f : A → List ℕ) (g : B → List ℕ) (xs : List A) (ys : List B) (front : List ℕ)
    → (front ++ flat_map (λ x. next_word (f x)) xs) ++ flat_map (λ y. next_word (g y)) ys ≡ front ++ flat_map next_word (map f xs ++ map g ys)
two_lists f g xs ys front =
    append_assoc front (flat_map (λ x. next_word (f x)) xs) (flat_map (λ y. next_word (g y)) ys)
    ∙ ap (λ (w : List ℕ). front ++ (w ++ flat_map (λ y. next_word (g y)) ys)) (flat_words f xs)
    ∙ ap (λ (w : List ℕ). front ++ (flat_map next_word (map f xs) ++ w)) (flat_words g ys)
    ∙ ap (λ (w : List ℕ). front ++ w) (sym (flat_both (map f xs) (map g ys)))

three : (a b c : List ℕ) → (a ++ 32 ∷ b) ++ 32 ∷ c ≡ a ++ 32 ∷ (b ++ 32 ∷ c)
three a b c = append_assoc a (32 ∷ b) (32 ∷ c)

four : (a b c d : List ℕ) → ((a ++ 32 ∷ b) ++ 32 ∷ c) ++ d ≡ a ++ 32 ∷ (b ++ 32 ∷ (c ++ d))
four a b c d = append_assoc (a ++ 32 ∷ b) (32 ∷ c) d ∙ append_assoc a (32 ∷ b) (32 ∷ (c ++ d))

cond_flat : (c : Option Cond) → cond_text c ≡ flat_map next_word (cond_words c)
cond_flat None = refl
cond_flat (Some c) = regroup (bit_text c.first) (decimal c.count) (decimal c.value)
  where
    regroup : (a b c : List ℕ) → codes " if" ++ next_word a ++ next_word b ++ next_word c ≡ codes " if" ++ (next_word a ++ (next_word b ++ (next_word c ++ [])))
    regroup a b c = simp (append_assoc, append-nil)

pub op_text-line : (op : OpKind) → op_text op ≡ line_text (op_words op)
op_text-line (Split t e g) = three (codes "split " ++ trap_text t) (end_text e) (segment_text g)
op_text-line (Move g) = refl
op_text-line (Enter g j) = refl
op_text-line (Leave j g) = refl
op_text-line (Merge g t e) = three (codes "merge " ++ segment_text g) (trap_text t) (end_text e)
op_text-line (Rot t p) = refl
op_text-line (GSwap t low high) = three (codes "gswap " ++ trap_text t) (decimal low) (decimal high)
op_text-line (Item number t item at) =
    let gate = item.name ++ angles_text item.angles in
    let front = ((codes "item " ++ decimal number) ++ 32 ∷ gate) ++ 32 ∷ trap_text t in
    let operands = map operand_text (zip item.qubits at) ++ map bit_text item.bits in
    let words = operands ++ cond_words item.cond in
    ap (λ (w : List ℕ). w ++ cond_text item.cond) (two_lists operand_text bit_text (zip item.qubits at) item.bits front)
    ∙ append_assoc front (flat_map next_word operands) (cond_text item.cond)
    ∙ ap (λ (w : List ℕ). front ++ w) (ap (λ (w : List ℕ). flat_map next_word operands ++ w) (cond_flat item.cond) ∙ sym (flat_both operands (cond_words item.cond)))
    ∙ ap (λ (w : List ℕ). codes "item " ++ w) (four (decimal number) gate (trap_text t) (flat_map next_word words))
    ∙ ap (λ (w : List ℕ). codes "item " ++ (decimal number ++ 32 ∷ (gate ++ 32 ∷ w))) (sym (join_flat (trap_text t) words))
op_text-line (Fence number item traps) =
    two_lists trap_text qubit_text traps item.qubits (codes "fence " ++ decimal number)
    ∙ ap (λ (w : List ℕ). codes "fence " ++ w) (sym (join_flat (decimal number) (map trap_text traps ++ map qubit_text item.qubits)))

pub op_read_back : (op : OpKind) → FitsOp op → read_op (words_of (op_text op)) ≡ Ok op
op_read_back op fits =
    ap (λ (text : List ℕ). read_op (words_of text)) (op_text-line op)
    ∙ ap read_op (cut_again (op_words op) (op_law.some op) (op_law.plain op fits))
    ∙ op_law.again op fits

pub op_one_text : (text : List ℕ) (op : OpKind) → read_op (words_of text) ≡ Ok op → (text ≡ op_text op) × FitsOp op
op_one_text text op e =
    let t = op_law.takes (words_of text) op e in
    (sym (line_text-words_of text) ∙ ap line_text t.0 ∙ sym (op_text-line op), t.1)
