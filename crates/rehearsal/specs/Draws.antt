-- Numbers that look random: a linear congruential generator.
use Rattle.std.specs.Prelude.{ℕ, ◌+◌, ◌*◌, ◌/◌, ◌%◌}

-- the number that follows
abbrev pub next : ℕ → ℕ
next x = (x * 1103515245 + 12345) % 2147483648

-- the draw below a bound from x on: x makes way for the next number, whose low 16 bits are left out
abbrev pub draw : ℕ → ℕ → ℕ
draw bound x = (next x / 65536) % bound
