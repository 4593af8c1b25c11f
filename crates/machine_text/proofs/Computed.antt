-- Answers on a literal text, from what computes on it.
use Rattle.std.proofs.Common.{◌≡◌, ℕ, true, List, Option, Some, None, option_and_then, encode_utf8_all, refl, sym, ◌∙◌}
use Rattle.std.proofs.lemmas.Option.{none-some}
use Rattle.toml.specs.Data.{Members}
use Rattle.toml.specs.Parse.{parse_document}
use Rattle.machine_text.specs.declared.fault.TextFault.{TextFault}
use Rattle.machine_text.specs.declared.fault.TextFault.TheVariants.{NotToml}
use Rattle.qccd_machine.specs.Machine.{MachineData}
use Rattle.qccd_base.specs.FirstFailing.{first_failing, NoneFails}
use Rattle.machine_text.specs.Checks.{document_checks}
use Rattle.machine_text.specs.Machine.{Describes, IsDescription, IsRefusedField, IsRefusalOf}
use lib.Utf8.{scalars}

at : (text : List ℕ) (fault : TextFault) (there : Option Members) → parse_document text ≡ there → scalars text ≡ true → encode_utf8_all text ≡ text
    → option_and_then (λ fields. first_failing (document_checks fields)) there ≡ Some fault → IsRefusedField text fault
at text fault None is characters bytes first = cc
at text fault (Some fields) is characters bytes first = record {
  fields = fields;
  is_table = ((text, (characters, bytes)), is);
  first = first;
}

-- a text of characters below 128 that is refused for a field
pub refused : (text : List ℕ) (fault : TextFault) → scalars text ≡ true → encode_utf8_all text ≡ text
    → option_and_then (λ fields. first_failing (document_checks fields)) (parse_document text) ≡ Some fault → IsRefusedField text fault
refused text fault characters bytes first = at text fault (parse_document text) refl characters bytes first

-- a text that is refused for not being TOML
pub not_toml : (text : List ℕ) → parse_document text ≡ None → IsRefusalOf text NotToml
not_toml text none = λ fields is_table. none-some fields (sym none ∙ is_table.1)

-- the table that there is describes these parts
abbrev pub DescribesThere : Option Members → MachineData → Type 0
DescribesThere None m = ⊥
DescribesThere (Some fields) m = NoneFails (document_checks fields) × Describes fields m

describing_at : (text : List ℕ) (m : MachineData) (there : Option Members) → parse_document text ≡ there → scalars text ≡ true → encode_utf8_all text ≡ text
    → DescribesThere there m → IsDescription text m
describing_at text m None is characters bytes describes = absurd describes
describing_at text m (Some fields) is characters bytes describes = record {
  fields = fields;
  is_table = ((text, (characters, bytes)), is);
  none_wrong = describes.0;
  describes = describes.1;
}

-- a text of characters below 128 that describes these parts
pub describing : (text : List ℕ) (m : MachineData) → scalars text ≡ true → encode_utf8_all text ≡ text → DescribesThere (parse_document text) m → IsDescription text m
describing text m characters bytes describes = describing_at text m (parse_document text) refl characters bytes describes
