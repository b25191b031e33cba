use Rattle.std.proofs.Common.{◌≡◌, ◌++◌, string_bytes, take}
use Rattle.language_server.specs.Working.Sets.{listed_text}
use Rattle.language_server.proofs.named_section.NamedSection.push_paths.Given as goal

abbrev pub invariant-loop-number : goal.invariant-loop-number
invariant-loop-number l = string_bytes l.out ≡ string_bytes l.initial.out ++ listed_text l.self (take l.number-index l.list)
