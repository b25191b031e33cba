-- Names with an index agree with the definitions, which go by what the name refers to.
use Rattle.std.proofs.Common.{◌≡◌, ℕ, List, ◌++◌, Option, Some, None, refl, sym, ap, ◌∙◌, append_assoc}
use Rattle.resolution.specs.declared.finding.Finding.{Finding}
use Rattle.syntax.specs.Trees.{Decl, array, pool}
use Rattle.core_lang.specs.declared.value.ValueType.{ValueType}
use Rattle.core_lang.specs.declared.value.ValueType.TheVariants.{Reference}
use Rattle.resolution.specs.Core as core
use Rattle.resolution.specs.Scopes.{◌>>=◌, outside, Meaning, a_decl, number_at, type_of, struct_named}
use Rattle.resolution.specs.Working.TypedExpressions.{member_value, value_of, element_value}
use Rattle.resolution.specs.Working.FaultLists.{no_elements}
use Rattle.resolution.specs.Working.Findings.{Firsts, found_in}
use Rattle.types_symbols.specs.Theory.Steps.{noted_one}
use Rattle.types_bodies.specs.Working.Indexing.{of_type, indexed_by, element_by}
use Rattle.types_bodies.specs.declared.place.Indexed.{Indexed}
use Rattle.types_bodies.specs.declared.place.Indexed.TheVariants.{Array, Pool}

array_is : (start n : ℕ) (t : Option ValueType) (e : core.Expr) → element_by start (of_type (Array n) t) (Some e) ≡ value_of (core.element start n e) t
array_is start n (Some t) e = refl
array_is start n None e = refl

pool_is : (start n : ℕ) (s : Option ℕ) (e : core.Expr) → element_by start (of_type (Pool n) (s >>= λ k. Some (Reference k))) (Some e) ≡ member_value n e s
pool_is start n (Some s) e = refl
pool_is start n None e = refl

no_element : (start : ℕ) (x : Option Indexed) → element_by start x None ≡ None
no_element start (Some x) = refl
no_element start None = refl

pub element_is : (decls : List Decl) (start : ℕ) (m : Meaning) (e : Option core.Expr) → element_by start (indexed_by decls m) e ≡ element_value decls start m e
element_is decls start m None = no_element start (indexed_by decls m)
element_is decls start (a_decl i (array a)) (Some e) = array_is start (number_at decls i (array a)) (type_of (outside decls) a.value_type) e
element_is decls start (a_decl i (pool p)) (Some e) = pool_is start (number_at decls i (pool p)) (struct_named decls p.target) e
element_is decls start _ (Some e) = refl

-- by what each part is
pub element_seen : (decls : List Decl) (start : ℕ) (m n : Meaning) (x : Option Indexed) (e f : Option core.Expr) → m ≡ n → x ≡ indexed_by decls m → e ≡ f → element_by start x e ≡ element_value decls start n f
element_seen decls start m n x e f hm hx he =
    ap (λ (y : Option Indexed). element_by start y e) hx ∙ ap (λ (k : Meaning). element_by start (indexed_by decls k) e) hm
    ∙ ap (element_by start (indexed_by decls n)) he ∙ element_is decls start n f

pub index_blamed : (decls : List Decl) (start : ℕ) (m n : Meaning) (f g : Firsts) (a b : List Finding) → m ≡ n → g ≡ found_in f (no_elements decls start m) → found_in g (a ++ b) ≡ found_in f (no_elements decls start n ++ a ++ b)
index_blamed decls start m n f g a b hm hg =
    noted_one f g (no_elements decls start n) (a ++ b) (hg ∙ ap (λ (k : Meaning). found_in f (no_elements decls start k)) hm)
    ∙ ap (found_in f) (sym (append_assoc (no_elements decls start n) a b))
