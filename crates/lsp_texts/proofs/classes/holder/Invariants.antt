use Rattle.std.proofs.Common.{◌≡◌, drop, fold, None}
use Rattle.lsp_texts.specs.Classes.{later}
use Rattle.lsp_texts.proofs.classes.holder.Given as goal

-- the class found so far, and the remaining names, give the class of the whole
abbrev pub invariant-loop-symbol : goal.invariant-loop-symbol
invariant-loop-symbol l = fold (later l.at) l.found (drop l.symbol-index l.symbols) ≡ fold (later l.fn.at) None l.symbols
