-- What the words of the command line ask for.
use Rattle.std.specs.Prelude.{ℕ, ◌≤◌, Bool, false, ◌&&◌, ◌==◌, nat_le, List, [], ◌∷◌, ◌++◌, Option, None, Some, option_map, option_and_then, unwrap_or, find, codes, decimal, if◌then◌else◌}
use Rattle.std.specs.List.{range_with_len}
use Rattle.std.specs.Str.{bytes_eq}
use Rattle.std.specs.Str.Parse.{digits_value}
use Rattle.qccd_base.specs.declared.names.Mode.{Mode}
use Rattle.qccd_base.specs.declared.names.Mode.TheVariants.{IonSwap, GateSwap}
use Rattle.qccd_machine.specs.declared.place.Preset.{Preset}
use Rattle.qccd_machine.specs.declared.place.Preset.TheVariants.{L6, G2x3, Single}
use Rattle.qccd_words.specs.declared.words.MachineWord.{MachineWord}
use Rattle.qccd_words.specs.declared.words.MachineWord.TheVariants as word
use Rattle.qccd_words.specs.declared.words.Command.{Command}
use Rattle.qccd_words.specs.declared.words.Command.TheVariants as command

-- a machine that is known by name, with the capacity of its traps, or the one of a file
pub data AskedMachine : Type 0 where
  OfPreset : (preset : Preset) (capacity : ℕ) → AskedMachine
  OfFile : (name : List ℕ) → AskedMachine

-- a command on a machine: the run of the circuit in a file, its program's text, the run of the program in a file, a
-- program compared with a circuit, the run of the circuit that is made from a number, or the text of a program without
-- operations that undo each other
pub data Asked : Type 0 where
  AskedRun : (machine : AskedMachine) (circuit : List ℕ) (workers : ℕ) (mode : Mode) → Asked
  AskedCompile : (machine : AskedMachine) (circuit : List ℕ) (mode : Mode) → Asked
  AskedExec : (machine : AskedMachine) (program : List ℕ) (workers : ℕ) → Asked
  AskedCheck : (machine : AskedMachine) (circuit program : List ℕ) → Asked
  AskedRehearse : (number qubits items : ℕ) (machine : AskedMachine) (workers : ℕ) → Asked
  AskedTidy : (machine : AskedMachine) (program : List ℕ) → Asked

-- the capacities that a word may give, from 2 to 32
unfoldable pub capacities : List ℕ
capacities = range_with_len 2 31

-- the capacity of a preset with this name: 16 where the word is the name alone, and else the one
-- whose text stands after the name and a colon
abbrev pub capacity_after : List ℕ → List ℕ → Option ℕ
capacity_after name word =
    if bytes_eq word name then Some 16
    else find (λ capacity. bytes_eq word (name ++ (codes ":" ++ decimal capacity))) capacities

-- the first of two that is there
abbrev pub first_of : {A : Type 0} → Option A → Option A → Option A
first_of (Some a) other = Some a
first_of None other = other

-- the machine that is known by this word
abbrev pub preset_named : List ℕ → Option AskedMachine
preset_named word =
    first_of (option_map (OfPreset L6) (capacity_after (codes "@L6") word))
    (first_of (option_map (OfPreset G2x3) (capacity_after (codes "@G2x3") word))
    (option_map (OfPreset Single) (capacity_after (codes "@single") word)))

-- the word begins with @
abbrev pub begins_with_at : List ℕ → Bool
begins_with_at [] = false
begins_with_at (b ∷ bs) = b == 64

-- the machine that a word names: any word that does not begin with @ is the name of a file
abbrev pub machine_of : List ℕ → Option AskedMachine
machine_of word = if begins_with_at word then preset_named word else Some (OfFile word)

-- how two ions change places: by an exchange of neighbours, or by a gate on the qubits that they carry
abbrev pub mode_named : List ℕ → Option Mode
mode_named word =
    if bytes_eq word (codes "ion") then Some IonSwap
    else if bytes_eq word (codes "gate") then Some GateSwap
    else None

-- the number from low to high whose text the word is, with no leading zero and no sign
abbrev pub number_named : (low high : ℕ) → List ℕ → Option ℕ
number_named low high word =
    let number = digits_value 10 word in
    if bytes_eq word (decimal number) && (nat_le low number && nat_le number high) then Some number else None

-- an option's value, if it was not given before
abbrev pub once : {A : Type 0} → Option A → Option A → Option A
once None value = value
once (Some given) value = None

-- How many workers run a program and how two ions change places: by the options in these words, each at most once, and
-- by what was given of them before. Usually there are 4 workers, and neighbours are exchanged.
abbrev pub options_of : List (List ℕ) → Option ℕ → Option Mode → Option (ℕ × Mode)
options_of [] workers mode = Some (unwrap_or workers 4, unwrap_or mode IonSwap)
options_of (name ∷ value ∷ words) workers mode =
    if bytes_eq name (codes "--workers") then option_and_then (λ n. options_of words (Some n) mode) (once workers (number_named 1 16 value))
    else if bytes_eq name (codes "--swap") then option_and_then (λ m. options_of words workers (Some m)) (once mode (mode_named value))
    else None
options_of (name ∷ []) workers mode = None

-- what is asked for of this machine with these options
abbrev pub with_options : (AskedMachine → ℕ → Mode → Asked) → Option AskedMachine → Option (ℕ × Mode) → Option Asked
with_options make (Some machine) (Some (workers, mode)) = Some (make machine workers mode)
with_options make machine None = None
with_options make None (Some options) = None

-- An option that a command does not take stands as given before, so it cannot be given.

-- what the words after `run` ask for
abbrev pub run_of : List (List ℕ) → Option Asked
run_of (machine ∷ circuit ∷ options) = with_options (λ m workers mode. AskedRun m circuit workers mode) (machine_of machine) (options_of options None None)
run_of _ = None

-- what the words after `compile` ask for
abbrev pub compile_of : List (List ℕ) → Option Asked
compile_of (machine ∷ circuit ∷ options) = with_options (λ m workers mode. AskedCompile m circuit mode) (machine_of machine) (options_of options (Some 4) None)
compile_of _ = None

-- what the words after `exec` ask for
abbrev pub exec_of : List (List ℕ) → Option Asked
exec_of (machine ∷ program ∷ options) = with_options (λ m workers mode. AskedExec m program workers) (machine_of machine) (options_of options None (Some IonSwap))
exec_of _ = None

-- what the words after `check` ask for
abbrev pub check_of : List (List ℕ) → Option Asked
check_of (machine ∷ circuit ∷ program ∷ []) = option_map (λ m. AskedCheck m circuit program) (machine_of machine)
check_of _ = None

-- the run of the circuit that is made from a number, if all of its parts are there
abbrev pub rehearse_asked : (number qubits items : Option ℕ) → Option AskedMachine → Option (ℕ × Mode) → Option Asked
rehearse_asked (Some number) (Some qubits) (Some items) machine options =
    with_options (λ m workers mode. AskedRehearse number qubits items m workers) machine options
rehearse_asked (Some number) (Some qubits) None machine options = None
rehearse_asked (Some number) None items machine options = None
rehearse_asked None qubits items machine options = None

-- what the words after `rehearse` ask for
abbrev pub rehearse_of : List (List ℕ) → Option Asked
rehearse_of (number ∷ qubits ∷ items ∷ machine ∷ options) =
    rehearse_asked (number_named 0 2147483647 number) (number_named 1 256 qubits) (number_named 0 65536 items) (machine_of machine)
    (options_of options None (Some IonSwap))
rehearse_of _ = None

-- what the words after `tidy` ask for
abbrev pub tidy_of : List (List ℕ) → Option Asked
tidy_of (machine ∷ program ∷ []) = option_map (λ m. AskedTidy m program) (machine_of machine)
tidy_of _ = None

-- what the words ask for, by the first of them
abbrev pub request_of : List (List ℕ) → Option Asked
request_of [] = None
request_of (command ∷ words) =
    if bytes_eq command (codes "run") then run_of words
    else if bytes_eq command (codes "compile") then compile_of words
    else if bytes_eq command (codes "exec") then exec_of words
    else if bytes_eq command (codes "check") then check_of words
    else if bytes_eq command (codes "rehearse") then rehearse_of words
    else if bytes_eq command (codes "tidy") then tidy_of words
    else None

-- what a command of the code asks for
abbrev pub machine_asked : MachineWord → AskedMachine
machine_asked (word.Preset preset capacity) = OfPreset preset capacity
machine_asked (word.File name) = OfFile name.now

abbrev pub asked : Command → Asked
asked (command.Run machine circuit workers mode) = AskedRun (machine_asked machine) circuit.now workers mode
asked (command.Compile machine circuit mode) = AskedCompile (machine_asked machine) circuit.now mode
asked (command.Exec machine program workers) = AskedExec (machine_asked machine) program.now workers
asked (command.Check machine circuit program) = AskedCheck (machine_asked machine) circuit.now program.now
asked (command.Rehearse number qubits items machine workers) = AskedRehearse number qubits items (machine_asked machine) workers
asked (command.Tidy machine program) = AskedTidy (machine_asked machine) program.now

-- a capacity that is asked for is from 2 to 32
abbrev pub HasCapacity : AskedMachine → Type 0
HasCapacity (OfPreset preset capacity) = (2 ≤ capacity) × (capacity ≤ 32)
HasCapacity (OfFile name) = Unit {0}

-- a circuit is made from a number up to a limit, and has 1 to 256 qubits and at most 65,536 items
abbrev pub AreFew : (number qubits items : ℕ) → Type 0
AreFew number qubits items = (number ≤ 2147483647) × (1 ≤ qubits) × (qubits ≤ 256) × (items ≤ 65536)

-- a program is run by 1 to 16 workers
abbrev pub AreWorkers : ℕ → Type 0
AreWorkers workers = (1 ≤ workers) × (workers ≤ 16)

-- what is asked for is within these limits
abbrev pub IsWithinLimits : Asked → Type 0
IsWithinLimits (AskedRun machine circuit workers mode) = HasCapacity machine × AreWorkers workers
IsWithinLimits (AskedCompile machine circuit mode) = HasCapacity machine
IsWithinLimits (AskedExec machine program workers) = HasCapacity machine × AreWorkers workers
IsWithinLimits (AskedCheck machine circuit program) = HasCapacity machine
IsWithinLimits (AskedRehearse number qubits items machine workers) = HasCapacity machine × AreWorkers workers × AreFew number qubits items
IsWithinLimits (AskedTidy machine program) = HasCapacity machine
