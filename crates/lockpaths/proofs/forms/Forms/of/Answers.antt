use Rattle.std.proofs.Common.{◌≡◌, ◌∙◌, ℕ, ◌+◌, ◌<◌, List, [], ◌∷◌, ◌++◌, length, map, drop, get_or, Option, Some}
use Rattle.std.proofs.Common.{None, refl, sym, ap, append_assoc}
use Rattle.std.specs.List.{cons_option, filter_map}
use Rattle.std.proofs.lemmas.List.{drop_more}
use Rattle.core_lang.specs.declared.tree.Section.{Section}
use Rattle.flow.specs.Points.{Point}
use Rattle.flow.specs.Working.PointList.{point_at}
use Rattle.locks.specs.LockPaths.{Binding, binding_at}
use Rattle.lockpaths.specs.Working.Forms.{Replacement, of_binding, replacements_at}
use Rattle.lockpaths.proofs.forms.Forms.of.Goals as goal

first_of : (section : Section) (o : Option Binding) (bs : List Binding) →
    map (of_binding section) (cons_option o []) ++ map (of_binding section) bs ≡ map (of_binding section) (cons_option o bs)
first_of section None bs = refl
first_of section (Some b) bs = refl

one_point : {A : Type 0} (section : Section) (at : A →
    Point) (xs : List A) (i : ℕ) (x : A) (before after all : List Replacement) → i < length xs → x ≡ get_or xs i x →
    after ≡ before ++ replacements_at section (at x ∷ []) → before ++ replacements_at section (map at (drop i xs)) ≡ all →
    after ++ replacements_at section (map at (drop (i + 1) xs)) ≡ all
one_point {A} section at xs i x before after all lt is one rest =
    let others = filter_map binding_at (map at (drop (i + 1) xs)) in
    ap (λ (l : List Replacement). l ++ replacements_at section (map at (drop (i + 1) xs))) one
    ∙ append_assoc before (replacements_at section (at x ∷ [])) (replacements_at section (map at (drop (i + 1) xs)))
    ∙ ap (λ (l : List Replacement). before ++ l) (first_of section (binding_at (at x)) others)
    ∙ sym (ap (λ (ys : List A). before ++ replacements_at section (map at ys)) (drop_more xs i x lt ∙ ap (λ (y : A). y ∷ drop (i + 1) xs) (sym is)))
    ∙ rest

pub loop-point-preserved : goal.loop-point-preserved
loop-point-preserved c =
    one_point c.args.section.now point_at c.args.points.now c.loop-point.point-index c.point-item.result c.loop-point.forms.table c.in_ok-forms.forms.table _ c.loop-point-test.true c.point-item.is
    c.in_ok-forms.ensures c.loop-point.invariant
