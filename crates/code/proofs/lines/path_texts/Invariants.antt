use Rattle.std.proofs.Common.{◌≡◌, map, take, string_bytes}
use Rattle.locks.specs.LockPaths.{lock_path_of}
use Rattle.locks.specs.Texts.{path_text}
use Rattle.code.proofs.lines.path_texts.Given as goal

abbrev pub invariant-loop-path : goal.invariant-loop-path
invariant-loop-path l =
    map string_bytes l.texts.items
    ≡ map (path_text l.program l.section) (map lock_path_of (take l.path-index l.paths))
