-- An angle of too many opening parentheses.
use Rattle.std.proofs.Common.{◌≡◌, ℕ, zero, suc, ◌+◌, Bool, true, false, List, [], ◌∷◌, ◌++◌, length, codes, Ok, Err, refl, ap, ◌∙◌, arith}
use Rattle.std.specs.Prelude.{replicate}
use Rattle.std.proofs.lemmas.Bool.{le-ltb, lt-ltb}
use Rattle.std.proofs.lemmas.List.{length-append}
use Rattle.qasm_lex.specs.declared.tokens.TokenKind.TheVariants as token
use Rattle.qasm_reader.specs.declared.fault.Many.TheVariants.{AngleBytes}
use Rattle.qasm_reader.specs.declared.fault.QasmKind.TheVariants as kind
use Rattle.qasm_reader.specs.declared.angle.Phase.TheVariants.{Part}
use Rattle.qasm_reader.specs.declared.kinds.RegisterKind.TheVariants.{Quantum}
use Rattle.qasm_reader.specs.Lexeme.{Lexeme}
use Rattle.qasm_reader.specs.Known.{Known, nothing, with_include, with_register}
use Rattle.qasm_reader.specs.Angle.{angle_state}
use Rattle.qasm_reader.specs.Expected.{Next, Call, within_angle, too_long}
use Rattle.qasm_reader.specs.Reading.{reads}
use Rattle.qasm_reader.specs.Example.{answer_to, cut_from, long_text, refused}
use Rattle.qasm_reader.proofs.Steps.{then_reads, reads_token, goes_on}

abbrev open_at : ℕ → Lexeme
open_at at = record { kind = token.LParen; at = at; bytes = 40 ∷ [] }

-- with n bytes to spare, the parenthesis behind n further ones is too much
pub long_angle : (n size : ℕ) (k : Known) (c : Call) (d : ℕ) (text : List ℕ) (at : ℕ) → length text + n ≡ 1024
    → reads size k (within_angle c (angle_state Part d) text) (cut_from 0 at (replicate (suc n) 40)) ≡ refused (at + n) (kind.TooMany AngleBytes 1024)
long_angle zero size k c d text at full =
    reads_token size k (within_angle c (angle_state Part d) text) (open_at at) []
    ∙ ap (λ (b : Bool). then_reads size (elim b as (λ _. Next) [ true ↦ Err (record { at = at; kind = kind.TooMany AngleBytes 1024 }) | false ↦ Ok (k, within_angle c (angle_state Part (d + 1)) (text ++ 40 ∷ [])) ]) [])
    (lt-ltb 1024 (length (text ++ 40 ∷ [])) (omega (arith, full, length-append text (40 ∷ []))))
    ∙ ap (λ (n : ℕ). refused n (kind.TooMany AngleBytes 1024)) (omega arith)
long_angle (suc n) size k c d text at full =
    goes_on size k (within_angle c (angle_state Part d) text) (open_at at) (cut_from 0 (at + 1) (replicate (suc n) 40)) (too_long (text ++ 40 ∷ []) (open_at at))
    (k, within_angle c (angle_state Part (d + 1)) (text ++ 40 ∷ [])) refl (le-ltb 1024 (length (text ++ 40 ∷ [])) (omega (arith, full, length-append text (40 ∷ []))), tt)
    ∙ long_angle n size k c (d + 1) (text ++ 40 ∷ []) (at + 1) (omega (arith, full, length-append text (40 ∷ [])))
    ∙ ap (λ (m : ℕ). refused m (kind.TooMany AngleBytes 1024)) (omega arith)

-- one register of one qubit
abbrev one_qubit : Known
one_qubit = with_register (with_include nothing) Quantum (codes "q") 1

abbrev rx : Call
rx = record { gate = record { name = codes "rx"; angles = 1; qubits = 1 }; angles = []; missing = false; operands = [] }

up_to_there : (n : ℕ) → answer_to (long_text (suc (suc n))) ≡ reads (length (long_text (suc (suc n)))) one_qubit (within_angle rx (angle_state Part 1) (40 ∷ [])) (cut_from 0 51 (replicate (suc n) 40))
unfolding reads long_text
up_to_there n = refl

pub refused_there : answer_to (long_text 1025) ≡ refused 1074 (kind.TooMany AngleBytes 1024)
refused_there = up_to_there 1023 ∙ long_angle 1023 (length (long_text 1025)) one_qubit rx 1 (40 ∷ []) 51 refl
