-- A sink over memory, and what a write to it does.
use Rattle.std.specs.Prelude.{ℕ, ◌+◌, ◌-◌, ◌^◌, min, Bool, ◌&&◌, ◌||◌, ◌==◌, nat_lt, List, ◌++◌, length, take, if◌then◌else◌}
use Rattle.std.specs.List.{list_any}

-- what it took and will take
pub record Memory : Type 0 where
  -- all that it took
  pub bytes : List ℕ
  -- how many bytes it has room for yet
  pub room : ℕ
  -- how many bytes it takes in one write at most
  pub most : ℕ
  -- the numbers of the writes that fail, from 0 on
  pub failing : List ℕ
  -- the number of the next write
  pub next : ℕ
  -- how many writes failed
  pub faults : ℕ

-- one more, as far as a count goes
abbrev pub counted : ℕ → ℕ
counted n = min (n + 1) (2 ^ 64 - 1)

-- the next write fails: it is listed, or there is no room for a piece that has bytes
abbrev pub refuses : Memory → List ℕ → Bool
refuses m piece = list_any (λ n. n == m.next) m.failing || (m.room == 0 && nat_lt 0 (length piece))

-- how many bytes the next write takes, if it does not fail
abbrev pub taking : Memory → List ℕ → ℕ
taking m piece = min (min (length piece) m.room) m.most

abbrev pub after_refusal : Memory → Memory
after_refusal m = record m { next = counted m.next; faults = counted m.faults }

abbrev pub after_taking : Memory → List ℕ → Memory
after_taking m piece = record m {
  bytes = m.bytes ++ take (taking m piece) piece;
  room = m.room - taking m piece;
  next = counted m.next;
}

-- what is left of it after the next write
abbrev pub after_write : Memory → List ℕ → Memory
after_write m piece = if refuses m piece then after_refusal m else after_taking m piece
