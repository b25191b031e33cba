-- What the code has checked. Nobody has to believe this.
use Rattle.code.specs.declared.section_code.SectionCode.{SectionCode}
use Rattle.c_language.specs.InC.{AreShort}

-- the numbers that the code of a section pushes have 64 bits
abbrev pub IsShortCode : SectionCode → Type 0
IsShortCode made = AreShort made.instructions.items
