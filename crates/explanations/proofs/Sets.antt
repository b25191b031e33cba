-- Names that are in a set.
use Rattle.std.proofs.Common.{◌≡◌, Bool, true, List, [], ◌∷◌, refl, sym, ap₂}
use Rattle.std.specs.List.{list_any}
use Rattle.std.specs.Prelude.{◌||◌}
use Rattle.std.specs.Str.{bytes_eq}
use Rattle.std.proofs.lemmas.Slice.Eq.{bytes_eq-Decides}
use denote.Ref.{Bor}
use Rattle.syntax.specs.Trees.{Ident}
use Rattle.syntax.specs.declared.tree.Name.{Name}
use Rattle.explanations.specs.Warnings.{IsNamed}
use Rattle.explanations.specs.Working.Found.{is_named}
use Rattle.explanations.specs.Working.Values.{IsSetOf, has, ident_at, idents}
use Rattle.explanations.specs.declared.name_set.NameSet.{NameSet}
use Rattle.explanations.proofs.Members.{any_has, has_any, same_bools}

pub named_if : (names : List Ident) (x : Ident) → is_named names x ≡ true → IsNamed names x
named_if names x e =
    let s = any_has (λ (y : Ident). bytes_eq x.text y.text) names e in
    record { name = s.x; listed = s.listed; same = (bytes_eq-Decides x.text s.x.text).0 s.passes }

pub named_so : (names : List Ident) (x : Ident) → IsNamed names x → is_named names x ≡ true
named_so names x is =
    has_any (λ (y : Ident). bytes_eq x.text y.text) names is.name is.listed ((bytes_eq-Decides x.text is.name.text).1 is.same)

-- two lists have a name in common, seen from one and from the other
one_way : (xs ys : List Ident) → list_any (is_named xs) ys ≡ true → list_any (is_named ys) xs ≡ true
one_way xs ys e =
    let s = any_has (is_named xs) ys e in
    let is = named_if xs s.x s.passes in
    has_any (is_named ys) xs is.name is.listed (named_so ys is.name (record { name = s.x; listed = s.listed; same = sym is.same }))

pub swapped : (xs ys : List Ident) → list_any (is_named xs) ys ≡ list_any (is_named ys) xs
swapped xs ys = same_bools (list_any (is_named xs) ys) (list_any (is_named ys) xs) (one_way xs ys) (one_way ys xs)

pub any_in_set : (names : List Ident) (set : NameSet) → IsSetOf names set → (xs : List (Bor Name)) →
    list_any (λ (x : Bor Name). has set (ident_at x).text) xs ≡ list_any (is_named names) (idents xs)
any_in_set names set are [] = refl
any_in_set names set are (x ∷ xs) = ap₂ (λ (a b : Bool). a || b) (are (ident_at x).text) (any_in_set names set are xs)
