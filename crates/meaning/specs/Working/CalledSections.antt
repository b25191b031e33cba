-- The section that a call runs. Only proofs need it.
use Rattle.std.proofs.Common.{◌≡◌, ℕ, ◌<◌, List, length, get_or, refl, sym, ap}
use Rattle.std.proofs.lemmas.Option.{slice_get_within, slice_get_read}
use Rattle.core_lang.specs.declared.value.Value.{Value}
use Rattle.core_lang.specs.declared.tree.Section.{Section}
use Rattle.core_lang.specs.declared.typed.Typed.{Typed}
use Rattle.core_lang.specs.Whole.{run_of}
use Rattle.core_lang.specs.Serial.{run_section, run_call}
use Rattle.core_lang.specs.WellFormed.{CanCall}

pub within_sections : (program : Typed) (number : ℕ) (arguments : List Value) → CanCall program number arguments →
    number < length program.sections.items
unfolding CanCall
within_sections program number arguments can = slice_get_within program.sections.items number can.0 can.1

pub section_run : (program : Typed) (number n : ℕ) (arguments heap : List Value) (section : Section) →
    CanCall program number arguments → section ≡ get_or program.sections.items number section →
    run_of section program.shape n arguments heap
    ≡ run_call program n (record { section = number; arguments = arguments }) heap
section_run program number n arguments heap section can is =
    ap (λ r. run_section r program n arguments heap)
    (sym (slice_get_read program.sections.items (length program.sections.items) number section refl
    (within_sections program number arguments can) is))
