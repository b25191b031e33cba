-- Elements on the left of assignments agree with the definitions, which go by what their name refers to.
use Rattle.std.proofs.Common.{◌≡◌, ℕ, List, ◌++◌, Option, Some, None, refl, ap, ◌∙◌}
use Rattle.resolution.specs.declared.finding.Finding.{Finding}
use Rattle.syntax.specs.Trees.{Decl, array, pool}
use Rattle.core_lang.specs.declared.value.ValueType.{ValueType}
use Rattle.core_lang.specs.declared.value.ValueType.TheVariants.{Reference}
use Rattle.resolution.specs.Core as core
use Rattle.resolution.specs.Scopes.{◌>>=◌, outside, Meaning, a_decl, number_at, type_of, struct_named}
use Rattle.resolution.specs.Working.TypedStatements.{assignee, to_element, assignee_at_element}
use Rattle.resolution.specs.Working.FaultLists.{no_array, no_elements}
use Rattle.resolution.specs.Working.Findings.{Firsts, found_in}
use Rattle.types_symbols.specs.Theory.Steps.{noted_one}
use Rattle.types_bodies.specs.Working.Indexing.{of_type, indexed_by}
use Rattle.types_bodies.specs.declared.place.Indexed.{Indexed}
use Rattle.types_bodies.specs.declared.place.Indexed.TheVariants.{Array, Pool}
use Rattle.types_bodies.specs.Working.Targets.{assigned_at}

array_assigned : (n : ℕ) (t : Option ValueType) (e : core.Expr) →
    assigned_at (of_type (Array n) t) (Some e) ≡ assignee (Some (to_element n e)) t
array_assigned n (Some t) e = refl
array_assigned n None e = refl

pool_assigned : (n : ℕ) (s : Option ℕ) (e : core.Expr) →
    assigned_at (of_type (Pool n) (s >>= λ k. Some (Reference k))) (Some e) ≡ None
pool_assigned n (Some s) e = refl
pool_assigned n None e = refl

nothing_assigned : (x : Option Indexed) → assigned_at x None ≡ None
nothing_assigned (Some x) = refl
nothing_assigned None = refl

pub assigned_is : (decls : List Decl) (m : Meaning) (e : Option core.Expr) →
    assigned_at (indexed_by decls m) e ≡ assignee_at_element decls m e
assigned_is decls m None = nothing_assigned (indexed_by decls m)
assigned_is decls (a_decl i (array a)) (Some e) = array_assigned (number_at decls i (array a)) (type_of (outside decls) a.value_type) e
assigned_is decls (a_decl i (pool p)) (Some e) = pool_assigned (number_at decls i (pool p)) (struct_named decls p.target) e
assigned_is decls _ (Some e) = refl

-- by what each part is
pub assigned_seen : (decls : List Decl) (m n : Meaning) (x : Option Indexed) (e f : Option core.Expr) → m ≡ n →
    x ≡ indexed_by decls m → e ≡ f → assigned_at x e ≡ assignee_at_element decls n f
assigned_seen decls m n x e f hm hx he =
    ap (λ (y : Option Indexed). assigned_at y e) hx ∙ ap (λ (k : Meaning). assigned_at (indexed_by decls k) e) hm
    ∙ ap (assigned_at (indexed_by decls n)) he ∙ assigned_is decls n f

pub assigned_blamed : (decls : List Decl) (start : ℕ) (m n : Meaning) (f g : Firsts) (a : List Finding) →
    m ≡ n → g ≡ found_in f (no_elements decls start m ++ no_array decls start m) →
    found_in g a ≡ found_in f (no_elements decls start n ++ no_array decls start n ++ a)
assigned_blamed decls start m n f g a hm hg =
    noted_one f g (no_elements decls start n ++ no_array decls start n) a (hg ∙ ap (λ (k : Meaning). found_in f (no_elements decls start k ++ no_array decls start k)) hm)
