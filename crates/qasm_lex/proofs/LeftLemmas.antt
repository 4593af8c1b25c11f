-- What is left of a text from a place on, as a function of both: each text is read in one way, so there is one answer.
use Rattle.std.proofs.Common.{◌≡◌, ℕ, List, [], ◌∷◌, drop, Option, Some, None, subst, ◌∙◌}
use Rattle.qasm_lex.specs.declared.tokens.Token.{Token}
use Rattle.qasm_lex.specs.declared.fault.LexFault.{LexFault}
use Rattle.qasm_lex.specs.declared.fault.LexFault.TheVariants.{BadByte, OpenString, NoMemory}
use Rattle.qasm_lex.specs.Gaps.{IsGap}
use Rattle.qasm_lex.specs.Reading.{IsFirstFault, IsStuckAt, Reads}
use Rattle.qasm_lex.specs.Fronts.{IsFaultFrom, IsNextIn}
use Rattle.qasm_lex.proofs.ReadingLemmas.{read_at, reads-unique}

-- the tokens up to the end of the text, or up to the byte at which it is stuck
unfoldable pub tokens_left : List ℕ → ℕ → List Token
tokens_left text place = (read_at text place).ts

-- that byte, if there is one
unfoldable pub stuck_left : List ℕ → ℕ → Option ℕ
stuck_left text place = (read_at text place).stuck

-- the text is read so from the place on
pub reads_left : (text : List ℕ) (place : ℕ) → Reads (drop place text) place (tokens_left text place) (stuck_left text place)
unfolding tokens_left stuck_left
reads_left text place = (read_at text place).reads

-- and in no other way
pub left_is :
    (text : List ℕ) (place : ℕ) (ts : List Token) (stuck : Option ℕ) → Reads (drop place text) place ts stuck
    → (tokens_left text place ≡ ts) × (stuck_left text place ≡ stuck)
left_is text place ts stuck reads =
    reads-unique (drop place text) place (tokens_left text place) ts (stuck_left text place) stuck (reads_left text place) reads

-- the next token, and what is left behind it
pub next_left :
    (text : List ℕ) (place : ℕ) (t : Token) → IsNextIn text place t
    → (tokens_left text place ≡ t ∷ tokens_left text t.end) × (stuck_left text place ≡ stuck_left text t.end)
next_left text place t next =
    left_is text place (t ∷ tokens_left text t.end) (stuck_left text t.end) (drop t.end text, next.is_next, reads_left text t.end)

-- the end
pub end_left : (text : List ℕ) (place : ℕ) → IsGap (drop place text) [] → (tokens_left text place ≡ []) × (stuck_left text place ≡ None)
end_left text place gap = left_is text place [] None gap

-- a byte at which the text is stuck
pub fault_left :
    (text : List ℕ) (place : ℕ) (e : LexFault) → IsFaultFrom text place e
    → (at : ℕ) × (tokens_left text place ≡ []) × (stuck_left text place ≡ Some at)
fault_left text place (BadByte at) is = let so = left_is text place [] (Some at) is.0 in (at, so.0, so.1)
fault_left text place (OpenString at) is = let so = left_is text place [] (Some at) is.0 in (at, so.0, so.1)
fault_left text place NoMemory is = absurd is

-- where the whole text is stuck as from a place on
stuck_at : (text : List ℕ) (place at : ℕ) → stuck_left text 0 ≡ stuck_left text place → Reads (drop place text) place [] (Some at) → IsStuckAt text at
stuck_at text place at same reads =
    let is : stuck_left text 0 ≡ Some at = same ∙ (left_is text place [] (Some at) reads).1 in
    (tokens_left text 0, subst (λ (stuck : Option ℕ). Reads text 0 (tokens_left text 0) stuck) is (reads_left text 0))

-- the fault at a place is that of the text, which is as stuck as from there on
pub first_fault :
    (text : List ℕ) (place : ℕ) (e : LexFault) → stuck_left text 0 ≡ stuck_left text place → IsFaultFrom text place e → IsFirstFault text e
first_fault text place (BadByte at) same is = (stuck_at text place at same is.0, is.1)
first_fault text place (OpenString at) same is = (stuck_at text place at same is.0, is.1)
first_fault text place NoMemory same is = absurd is
