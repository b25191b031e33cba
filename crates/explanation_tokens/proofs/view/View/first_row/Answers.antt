use Rattle.std.proofs.Common.{◌≡◌, ◌∙◌, List, [], ◌∷◌, ◌++◌, Bool, true, false, Some, None, if◌then◌else◌, refl, sym}
use Rattle.std.specs.Prelude.{find}
use Rattle.explanation_tokens.specs.Advice.{foreign_rows, usual_rows}
use Rattle.explanation_tokens.specs.Working.Seen.{fitting}
use Rattle.explanation_tokens.specs.declared.rows.Row.{Row}
use Rattle.explanation_tokens.proofs.view.View.first_row.Goals as goal

-- a row that is found in the first list is found in both lists appended
found_by : (b : Bool) (p : Row → Bool) (r x : Row) (a c : List Row) → (find p a ≡ Some r → find p (a ++ c) ≡ Some r) →
    (if b then Some x else find p a) ≡ Some r → (if b then Some x else find p (a ++ c)) ≡ Some r
found_by true p r x a c rest e = e
found_by false p r x a c rest e = rest e

found_first : (p : Row → Bool) (r : Row) (a c : List Row) → find p a ≡ Some r → find p (a ++ c) ≡ Some r
found_first p r [] c e = cc
found_first p r (x ∷ a) c e = found_by (p x) p r x a c (found_first p r a c) e

else_by : (b : Bool) (p : Row → Bool) (x : Row) (a c : List Row) → (find p a ≡ None → find p (a ++ c) ≡ find p c) →
    (if b then Some x else find p a) ≡ None → (if b then Some x else find p (a ++ c)) ≡ find p c
else_by true p x a c rest e = cc
else_by false p x a c rest e = rest e

found_behind : (p : Row → Bool) (a c : List Row) → find p a ≡ None → find p (a ++ c) ≡ find p c
found_behind p [] c e = refl
found_behind p (x ∷ a) c e = else_by (p x) p x a c (found_behind p a c) e

pub returns-in-Some : goal.returns-in-Some
unfolding foreign_rows
returns-in-Some c = sym (found_first (fitting c.args.self.now) c.in-Some.row foreign_rows usual_rows (sym c.first_of.ensures ∙ c.in-Some.is))

pub returns-in-None : goal.returns-in-None
unfolding foreign_rows usual_rows
returns-in-None c = c.first_of-in-None.ensures ∙ sym (found_behind (fitting c.args.self.now) foreign_rows usual_rows (sym c.first_of.ensures ∙ c.in-None.is))
