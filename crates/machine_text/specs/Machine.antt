-- Which machine a text is that of, and for what a text is refused.
use Rattle.std.specs.Prelude.{◌≡◌, ℕ, List, map, Some, IsUtf8}
use Rattle.toml.specs.Data.{Members}
use Rattle.toml.specs.Parse.{parse_document}
use Rattle.qccd_base.specs.declared.times.Times.{Times}
use Rattle.qccd_base.specs.Times.{usual}
use Rattle.qccd_machine.specs.declared.fault.MachineFault.{MachineFault}
use Rattle.qccd_machine.specs.declared.fault.MachineFault.TheVariants as machine
use Rattle.qccd_machine.specs.declared.place.Place.{Place}
use Rattle.qccd_machine.specs.Machine.{MachineData, IsValid}
use Rattle.qccd_machine.specs.Fault.{IsFirst}
use Rattle.machine_text.specs.declared.fault.TextFault.{TextFault}
use Rattle.machine_text.specs.declared.fault.TextFault.TheVariants.{NotToml, MissingField, WrongValue, UnknownField, Machine, NoMemory}
use Rattle.machine_text.specs.Field.{Found, given, given_or}
use Rattle.qccd_base.specs.FirstFailing.{NoneFails, IsFirstFailing}
use Rattle.machine_text.specs.Checks.{capacity_in, trap_rows, ends_in, segment_rows, time_in, time_table, junctions_in, document_checks}

-- the text is TOML, and this is its table
abbrev pub IsTableOf : List ℕ → Members → Type 0
IsTableOf text fields = IsUtf8 text × (parse_document text ≡ Some fields)

abbrev pub given_ends : Place × Place → Found Place × Found Place
given_ends ends = (given ends.0, given ends.1)

-- the times of a machine, where this is the table of those that are given
abbrev pub described_times : Members → Times
described_times times = record {
  split = given_or usual.split (time_in 0 times);
  merge = given_or usual.merge (time_in 1 times);
  shift = given_or usual.shift (time_in 2 times);
  cross2 = given_or usual.cross2 (time_in 3 times);
  cross3 = given_or usual.cross3 (time_in 4 times);
  cross4 = given_or usual.cross4 (time_in 5 times);
  rot = given_or usual.rot (time_in 6 times);
  gate1 = given_or usual.gate1 (time_in 7 times);
  measure = given_or usual.measure (time_in 8 times);
  reset = given_or usual.reset (time_in 9 times);
  gate2 = given_or usual.gate2 (time_in 10 times);
  between = given_or usual.between (time_in 11 times);
}

-- the table describes these parts: each trap gives its capacity and each segment its two ends. Where
-- nothing is said of them there is no junction and no segment, and the times are the usual ones.
pub record Describes (fields : Members) (m : MachineData) : Type 0 where
  pub capacities : map capacity_in (trap_rows fields) ≡ map given m.capacities
  pub junctions : given_or 0 (junctions_in fields) ≡ m.junctions
  pub segments : map ends_in (segment_rows fields) ≡ map given_ends m.segments
  pub times : described_times (time_table fields) ≡ m.times

-- the text describes these parts: it is TOML, and nothing is wrong with its table
pub record IsDescription (text : List ℕ) (parts : MachineData) : Type 0 where
  pub fields : Members
  pub is_table : IsTableOf text fields
  pub none_wrong : NoneFails (document_checks fields)
  pub describes : Describes fields parts

-- the text is that of a machine: the parts that it describes make one
pub record IsMachineOf (text : List ℕ) (m : MachineData) : Type 0 where
  pub description : IsDescription text m
  pub valid : IsValid m

-- the text is refused for the parts that it describes, which make no machine
pub record IsRefusedParts (text : List ℕ) (fault : MachineFault) : Type 0 where
  pub parts : MachineData
  pub description : IsDescription text parts
  pub first : IsFirst parts fault

-- the text is refused for a field: this is the first check of its table that fails
pub record IsRefusedField (text : List ℕ) (fault : TextFault) : Type 0 where
  pub fields : Members
  pub is_table : IsTableOf text fields
  pub first : IsFirstFailing (document_checks fields) fault

-- the text is refused for this
abbrev pub IsRefusalOf : List ℕ → TextFault → Type 0
IsRefusalOf text NotToml = (fields : Members) → IsTableOf text fields → ⊥
IsRefusalOf text (MissingField at) = IsRefusedField text (MissingField at)
IsRefusalOf text (WrongValue at) = IsRefusedField text (WrongValue at)
IsRefusalOf text (UnknownField at) = IsRefusedField text (UnknownField at)
IsRefusalOf text (Machine fault) = IsRefusedParts text fault
IsRefusalOf text NoMemory = ⊥

-- a fault of the parts as one of the text
abbrev pub text_fault_of : MachineFault → TextFault
text_fault_of machine.NoMemory = NoMemory
text_fault_of fault = Machine fault
