use Rattle.std.proofs.Common.{◌≡◌, ℕ, ◌+◌, ◌-◌, ◌≤◌, List, ◌++◌, length, take, drop, sym, ◌∙◌, ap, arith, length-drop}
use Rattle.std.proofs.lemmas.List.{take-append-le, take-append-drop, drop-drop, length-take-le}
use Rattle.std.proofs.Math.Seq.{take-length}

-- what was copied to the front of a buffer comes first of what was left
pub drop-from_copied :
    (bytes buffer part : List ℕ) (read count : ℕ)
    → part ≡ take count (take (length bytes - read) (drop read bytes)) → read + count ≤ length bytes
    → drop read bytes ≡ take count (part ++ buffer) ++ drop (read + count) bytes
drop-from_copied bytes buffer part read count copied fits =
    sym (take-append-drop count (drop read bytes)) ∙ ap (λ l. l ++ drop count (drop read bytes)) (sym front)
    ∙ ap (λ l. take count (part ++ buffer) ++ l) (drop-drop count read bytes)
  where
    rest_len : length (drop read bytes) ≡ length bytes - read
    rest_len = length-drop read bytes

    whole : take (length bytes - read) (drop read bytes) ≡ drop read bytes
    whole = rw (← rest_len) (take-length (drop read bytes))

    is_part : part ≡ take count (drop read bytes)
    is_part = copied ∙ ap (take count) whole

    part_len : length part ≡ count
    part_len =
        let fits_rest : count ≤ length (drop read bytes) = omega (arith, length-drop read bytes, fits) in
        ap length is_part ∙ length-take-le count (drop read bytes) fits_rest

    front : take count (part ++ buffer) ≡ take count (drop read bytes)
    front =
        let all : count ≤ length part = omega (arith, part_len) in
        let e : take count part ≡ part = rw (← part_len) (take-length part) in
        take-append-le count part buffer all ∙ e ∙ is_part
