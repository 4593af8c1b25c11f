-- What is wrong with a program text, in words.
use Rattle.std.specs.Prelude.{ℕ, List, codes}
use Rattle.op_text.specs.declared.kind.AsmKind.{AsmKind}
use Rattle.op_text.specs.declared.kind.AsmKind.TheVariants.{Header, Word, Number, Count, NotBuilt, TooMany}

abbrev pub asm_kind_text : AsmKind → List ℕ
asm_kind_text Header = codes "header"
asm_kind_text Word = codes "word"
asm_kind_text Number = codes "number"
asm_kind_text Count = codes "count"
asm_kind_text NotBuilt = codes "not built"
asm_kind_text TooMany = codes "too many"
