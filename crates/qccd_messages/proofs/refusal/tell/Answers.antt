-- In each arm the pieces are those of the message.
use Rattle.std.proofs.Common.{◌∙◌}
use Rattle.qccd_messages.proofs.refusal.tell.Goals as goal

pub returns-in-Words : goal.returns-in-Words
returns-in-Words g c =
    rw c.in-Words.is c.send.ensures

pub returns-in-Read : goal.returns-in-Read
returns-in-Read g c =
    rw c.in-Read.is c.tell_text.ensures

pub returns-in-Write : goal.returns-in-Write
returns-in-Write g c =
    rw c.in-Write.is c.send-in-Write.ensures

pub returns-in-TooLarge : goal.returns-in-TooLarge
returns-in-TooLarge g c =
    rw c.in-TooLarge.is c.tell_too_large.ensures

pub returns-in-Machine : goal.returns-in-Machine
returns-in-Machine g c =
    let first = c.as_str.ensures.value ∙ c.text.ensures in
    rw (c.in-Machine.is, ← first) c.tell_text-in-Machine.ensures

pub returns-in-Circuit : goal.returns-in-Circuit
returns-in-Circuit g c =
    rw (c.in-Circuit.is, ← c.text-in-Circuit.ensures) c.tell_at.ensures

pub returns-in-Shortage : goal.returns-in-Shortage
returns-in-Shortage g c =
    rw c.in-Shortage.is c.tell_shortage.ensures

pub returns-in-TooLong : goal.returns-in-TooLong
returns-in-TooLong g c =
    rw c.in-TooLong.is c.tell_too_long.ensures

pub returns-in-Asm : goal.returns-in-Asm
returns-in-Asm g c =
    rw (c.in-Asm.is, ← c.text-in-Asm.ensures) c.tell_at-in-Asm.ensures

pub returns-in-Load : goal.returns-in-Load
returns-in-Load g c =
    let first = c.as_str-in-Load.ensures.value ∙ c.text-in-Load.ensures in
    rw (c.in-Load.is, ← first) c.tell_text-in-Load.ensures

pub returns-in-NotSame : goal.returns-in-NotSame
returns-in-NotSame g c =
    let first = c.as_str-in-NotSame.ensures.value ∙ c.text-in-NotSame.ensures in
    rw (c.in-NotSame.is, ← first) c.tell_text-in-NotSame.ensures

pub returns-in-NoMemory : goal.returns-in-NoMemory
returns-in-NoMemory g c =
    rw c.in-NoMemory.is c.send-in-NoMemory.ensures
