-- What a printer writes.
use Rattle.std.specs.Prelude.{◌≡◌, ℕ, List, ◌++◌, false, string_bytes}
use Rattle.syntax.specs.declared.printer.Printer.{Printer}

-- if no allocation failed up to the end, none had failed before; the printer's text is then the former one, followed by
-- this one
pub record Adds (before after : Printer) (text : List ℕ) : Type 0 where
  pub unrefused : after.is_refused ≡ false → before.is_refused ≡ false
  pub bytes : after.is_refused ≡ false → string_bytes after.text ≡ string_bytes before.text ++ text
