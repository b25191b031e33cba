use Rattle.std.proofs.Common.{◌≡◌, ◌++◌, ℕ, List, [], ◌∷◌, None, drop, refl, sym, ap, ◌∙◌, append-nil, string_bytes}
use Rattle.core_lang.specs.declared.typed.Typed.{Typed}
use Rattle.c_statements.specs.Acquires.{finals_text}
use Rattle.c_statements.proofs.acquires.Acquires.push_finals.Goals as goal

from_none : (program : Typed) (finals : List ℕ) → finals_text program None finals ≡ []
from_none program [] = refl
from_none program (f ∷ fs) = refl

pub returns-in-None : goal.returns-in-None
returns-in-None c =
    let program = c.args.self.now.scope.program.now in
    let rest = drop c.loop-number.number-index c.args.finals.now in
    sym (append-nil (string_bytes c.loop-number.out)) ∙ ap (λ xs. string_bytes c.loop-number.out ++ xs) (sym (from_none program rest))
    ∙ ap (λ from. string_bytes c.loop-number.out ++ finals_text program from rest) (sym c.in-None.is) ∙ c.loop-number.invariant
