use Rattle.std.proofs.Common.{◌≡◌, None}
use Rattle.std.specs.Str.{bytes_eq}
use Rattle.locks.specs.Texts.{class_name}
use Rattle.lsp_texts.specs.Declarations.{first}
use Rattle.language_server.proofs.class_lines.class_number.Given as goal

-- no class before this one has this name
abbrev pub invariant-loop-number : goal.invariant-loop-number
invariant-loop-number l = first (λ c. bytes_eq (class_name l.program c) l.class) l.number ≡ None
