use Rattle.std.proofs.Common.{◌≡◌, ◌∙◌, ℕ, ◌≤◌, List, [], ◌∷◌, ◌++◌, length, drop, false, nat_lt, string_bytes, refl}
use Rattle.std.proofs.Common.{sym, ap, append-nil, arith}
use Rattle.std.proofs.lemmas.List.{drop_all}
use Rattle.core_lang.specs.declared.typed.Cell.{Cell}
use Rattle.core_lang.specs.declared.typed.Typed.{Typed}
use Rattle.core_lang.specs.declared.value.Value.{Value}
use Rattle.report.specs.History.{cell_texts}
use Rattle.report.proofs.histories.push_cells.Goals as goal

-- cells after the last value have no line
none_left : (program : Typed) (cells : List Cell) (values : List Value) → values ≡ [] →
    cell_texts program cells values ≡ []
none_left program [] values none = refl
none_left program (c ∷ cells) values none = ap (λ (vs : List Value). cell_texts program (c ∷ cells) vs) none

not_within : (i n : ℕ) → false ≡ nat_lt i n → n ≤ i
not_within i n is = grind arith

pub returns-in_default : goal.returns-in_default
returns-in_default c =
    let values = c.args.values.now in
    let few : length values ≤ c.loop-i.i = not_within c.loop-i.i (length values) c.in_default.ensures.lookup.0 in
    let none = none_left c.args.program.now (drop c.loop-i.i c.args.cells.now) (drop c.loop-i.i values) (drop_all c.loop-i.i values few) in
    sym (append-nil (string_bytes c.loop-i.out)) ∙ ap (λ (bs : List ℕ). string_bytes c.loop-i.out ++ bs) (sym none) ∙ c.loop-i.invariant
