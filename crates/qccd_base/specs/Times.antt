use Rattle.std.specs.Prelude.{ℕ, List, [], ◌∷◌}
use Rattle.qccd_base.specs.declared.times.Times.{Times}

-- the times of a machine where none are given, in microseconds
abbrev pub usual : Times
usual = record {
  split = 80;
  merge = 80;
  shift = 5;
  cross2 = 50;
  cross3 = 50;
  cross4 = 60;
  rot = 200;
  gate1 = 5;
  measure = 100;
  reset = 100;
  gate2 = 100;
  between = 10;
}

-- the times in the order of their fields
abbrev pub times_of : Times → List ℕ
times_of t = t.split ∷ t.merge ∷ t.shift ∷ t.cross2 ∷ t.cross3 ∷ t.cross4 ∷ t.rot ∷ t.gate1 ∷ t.measure ∷ t.reset ∷ t.gate2 ∷ t.between ∷ []
