-- The locals of a section with its helpers expanded depend on the resolved program alone.
use Rattle.std.proofs.Common.{◌≡◌, ℕ, zero, suc, List, [], ◌∷◌, ◌++◌, map, take, Option, Some, None, refl, sym, ap, ◌∙◌}
use Rattle.std.specs.Prelude.{slice_get, option_map}
use Rattle.core_lang.specs.declared.value.ValueType.{ValueType}
use Rattle.core_lang.specs.declared.shape.Shape.{Shape}
use Rattle.core_lang.specs.declared.tree.LocalKind.TheVariants.{Let}
use Rattle.core_lang.specs.declared.tree.Local as the_local
use Rattle.core_lang.specs.declared.tree.Stmt as the_stmt
use Rattle.core_lang.specs.declared.tree.Action as the_action
use Rattle.core_lang.specs.declared.tree.Action.{Bind, SetLocal, SetGlobal, SetElement, SetField, Call as CallOf}
use Rattle.core_lang.specs.declared.tree.Action.{Print, If', IfElse', While', Row_of-Stmt, end_of-Stmt, more_of-Stmt}
use Rattle.core_lang.specs.declared.tree.Section as the_section
use Rattle.core_lang.specs.Meaning.{deepest}
use Rattle.core_lang.specs.WrittenLocals.{LocalData, local_data, parameter_data, own_local, hidden_local, Brought}
use Rattle.core_lang.specs.WrittenLocals.{locals_by, locals_in, locals_in_all, brought_by, brought, written_locals}
use Rattle.core_lang.specs.WrittenLocals.{AreWrittenLocals}
use Rattle.resolution.specs.Core.{Action, bind, call, if_true, if_else, while_true, Stmts, no_stmts, stmt, Local}
use Rattle.resolution.specs.Core.{Section}
use Rattle.resolution.specs.CoreViews.{core_action, core_stmts_row, core_stmts, core_local, core_section}
use Rattle.core_lang.specs.Theory.Items.{get_mapped}

-- ---- over resolved programs

-- a local that is brought, by its data
abbrev local_of : LocalData → Local
local_of d = record { name = d.name; kind = d.kind; value_type = d.value_type }

abbrev as_let : Local → Local
as_let l = record l { kind = Let }

record Brings : Type 0 where
  locals : List Local
  result_type : Option ValueType

abbrev own_out : Option Local → List Local
own_out (Some l) = l ∷ []
own_out None = []

abbrev hidden_out : Option ValueType → List Local
hidden_out (Some t) = record { name = []; kind = Let; value_type = t } ∷ []
hidden_out None = []

abbrev mutual
  locals_out : (ℕ → Brings) → List Local → Action → List Local
  locals_out brings own (bind k v) = own_out (slice_get own k)
  locals_out brings own (call helper vs (Some k)) = (brings helper).locals ++ own_out (slice_get own k)
  locals_out brings own (call helper vs None) = (brings helper).locals ++ hidden_out (brings helper).result_type
  locals_out brings own (if_true t block) = all_locals_out brings own block
  locals_out brings own (if_else t block otherwise) = all_locals_out brings own block ++ all_locals_out brings own otherwise
  locals_out brings own (while_true t body) = all_locals_out brings own body
  locals_out brings own _ = []

  all_locals_out : (ℕ → Brings) → List Local → Stmts → List Local
  all_locals_out brings own no_stmts = []
  all_locals_out brings own (stmt start v rest) = locals_out brings own v ++ all_locals_out brings own rest

abbrev brings_if : Option Section → (Section → Brings) → Brings
brings_if (Some h) go = go h
brings_if None go = record { locals = []; result_type = None }

abbrev brings_out : List Section → ℕ → ℕ → Brings
brings_out helpers zero k = record { locals = []; result_type = None }
brings_out helpers (suc depth) k =
    brings_if (slice_get helpers k) (λ h. record {
      locals = map as_let (take h.parameters h.locals) ++ all_locals_out (brings_out helpers depth) h.locals h.body;
      result_type = h.result_type;
    })

abbrev section_locals : List Section → Section → List Local
section_locals helpers x = take x.parameters x.locals ++ all_locals_out (brings_out helpers deepest) x.locals x.body

-- ---- the locals of the relation are these

mapped_both : {A B : Type 0} (f : A → B) (xs ys : List A) → map f (xs ++ ys) ≡ map f xs ++ map f ys
mapped_both f [] ys = refl
mapped_both f (x ∷ xs) ys = ap (λ zs. f x ∷ zs) (mapped_both f xs ys)

pub mapped_twice : {A B C : Type 0} (f : A → B) (g : B → C) (h : A → C) (xs : List A) → ((x : A) → g (f x) ≡ h x) →
    map g (map f xs) ≡ map h xs
mapped_twice f g h [] same = refl
mapped_twice f g h (x ∷ xs) same = λ i. same x i ∷ mapped_twice f g h xs same i

taken_mapped : {A B : Type 0} (f : A → B) (n : ℕ) (xs : List A) → take n (map f xs) ≡ map f (take n xs)
taken_mapped f zero xs = refl
taken_mapped f (suc n) [] = refl
taken_mapped f (suc n) (x ∷ xs) = ap (λ ys. f x ∷ ys) (taken_mapped f n xs)

own_is : (o : Option the_local.Local) → map local_of (own_local o) ≡ own_out (option_map core_local o)
own_is (Some l) = refl
own_is None = refl

own_at : (own : List the_local.Local) (k : ℕ) →
    map local_of (own_local (slice_get own k)) ≡ own_out (slice_get (map core_local own) k)
own_at own k = own_is (slice_get own k) ∙ ap own_out (sym (get_mapped core_local own k))

hidden_is : (t : Option ValueType) → map local_of (hidden_local t) ≡ hidden_out t
hidden_is (Some t) = refl
hidden_is None = refl

abbrev brings_of : Brought → Brings
brings_of b = record { locals = map local_of b.locals; result_type = b.result_type }

module _ (brings : ℕ → Brought) (out : ℕ → Brings) (same : (k : ℕ) → brings_of (brings k) ≡ out k) (own : List the_local.Local) where
  mutual
    locals_are : (v : the_action.Action) →
        map local_of (locals_by brings own v) ≡ locals_out out (map core_local own) (core_action v)
    locals_are (Bind k v) = own_at own k
    locals_are (SetLocal k v) = refl
    locals_are (SetGlobal cell v) = refl
    locals_are (SetElement array i v) = refl
    locals_are (SetField p k f v) = refl
    locals_are (CallOf helper vs (Some k)) =
        mapped_both local_of (brings helper).locals (own_local (slice_get own k)) ∙ (λ i. (same helper i).locals ++ own_at own k i)
    locals_are (CallOf helper vs None) =
        mapped_both local_of (brings helper).locals (hidden_local (brings helper).result_type)
        ∙ (λ i. (same helper i).locals ++ hidden_is (brings helper).result_type i) ∙ (λ i. (out helper).locals ++ hidden_out (same helper i).result_type)
    locals_are (Print v) = refl
    locals_are (If' t m block) = row_locals_are block
    locals_are (IfElse' t m block k otherwise) =
        mapped_both local_of (locals_in brings own block) (locals_in brings own otherwise) ∙ (λ i. row_locals_are block i ++ row_locals_are otherwise i)
    locals_are (While' t m body) = row_locals_are body

    row_locals_are : {m : _} (row : Row_of-Stmt m) →
        map local_of (locals_in brings own row) ≡ all_locals_out out (map core_local own) (core_stmts_row row)
    row_locals_are end_of-Stmt = refl
    row_locals_are (more_of-Stmt start v rest) = mapped_both local_of (locals_by brings own v) (locals_in brings own rest) ∙ (λ i. locals_are v i ++ row_locals_are rest i)

  all_locals_are : (xs : List the_stmt.Stmt) →
      map local_of (locals_in_all brings own xs) ≡ all_locals_out out (map core_local own) (core_stmts xs)
  all_locals_are [] = refl
  all_locals_are (v ∷ xs) = mapped_both local_of (locals_by brings own v.action) (locals_in_all brings own xs) ∙ (λ i. locals_are v.action i ++ all_locals_are xs i)

abbrev brought_of : ℕ → Shape → the_section.Section → Brought
brought_of depth shape h = record {
  locals = map parameter_data (take h.parameters h.locals.items) ++ locals_in_all (brought depth shape) h.locals.items h.body.items;
  result_type = h.result_type;
}

found_brings : (depth : ℕ) (shape : Shape) (helpers : List Section) →
    ((k : ℕ) → brings_of (brought depth shape k) ≡ brings_out helpers depth k) → (o : Option the_section.Section) →
    brings_of (brought_by o (brought_of depth shape)) ≡ brings_if (option_map core_section o) (λ h. record {
      locals = map as_let (take h.parameters h.locals) ++ all_locals_out (brings_out helpers depth) h.locals h.body;
      result_type = h.result_type;
    })
found_brings depth shape helpers same None = refl
found_brings depth shape helpers same (Some h) =
    let p = h.parameters in
    let own = h.locals.items in
    let first : map local_of (map parameter_data (take p own)) ≡ map as_let (take p (map core_local own)) =
    mapped_twice parameter_data local_of (λ l. as_let (core_local l)) (take p own) (λ l. refl)
    ∙ sym (mapped_twice core_local as_let (λ l. as_let (core_local l)) (take p own) (λ l. refl))
    ∙ ap (map as_let) (sym (taken_mapped core_local p own))
    in
    let second = all_locals_are (brought depth shape) (brings_out helpers depth) same own h.body.items in
    let both = mapped_both local_of (map parameter_data (take p own)) (locals_in_all (brought depth shape) own h.body.items) in
    (λ i. record { locals = both i; result_type = h.result_type }) ∙ (λ i. record { locals = first i ++ second i; result_type = h.result_type })

brings_are : (shape : Shape) (depth : ℕ) (k : ℕ) →
    brings_of (brought depth shape k) ≡ brings_out (map core_section shape.helpers.items) depth k
brings_are shape zero k = refl
brings_are shape (suc depth) k =
    let helpers = map core_section shape.helpers.items in
    found_brings depth shape helpers (brings_are shape depth) (slice_get shape.helpers.items k)
    ∙ ap (λ o. brings_if o (λ h. record {
      locals = map as_let (take h.parameters h.locals) ++ all_locals_out (brings_out helpers depth) h.locals h.body;
      result_type = h.result_type;
    })) (sym (get_mapped core_section shape.helpers.items k))

section_locals_are : (shape : Shape) (x : the_section.Section) →
    map local_of (written_locals shape x) ≡ section_locals (map core_section shape.helpers.items) (core_section x)
section_locals_are shape x =
    let p = x.parameters in
    let own = x.locals.items in
    let first : map local_of (map local_data (take p own)) ≡ take p (map core_local own) =
    mapped_twice local_data local_of core_local (take p own) (λ l. refl) ∙ sym (taken_mapped core_local p own)
    in
    let second = all_locals_are (brought deepest shape) (brings_out (map core_section shape.helpers.items) deepest) (brings_are shape deepest) own x.body.items in
    mapped_both local_of (map local_data (take p own)) (locals_in_all (brought deepest shape) own x.body.items) ∙ (λ i. first i ++ second i)

-- the locals, by the section and the helpers as data
pub locals_alike : (shape shape' : Shape) (x y x' y' : the_section.Section) →
    map core_section shape.helpers.items ≡ map core_section shape'.helpers.items →
    core_section x ≡ core_section y → AreWrittenLocals shape x x' → AreWrittenLocals shape' y y' → map core_local x'.locals.items ≡ map core_local y'.locals.items
locals_alike shape shape' x y x' y' helpers same out out' =
    sym (mapped_twice local_data local_of core_local x'.locals.items (λ l. refl)) ∙ ap (map local_of) out ∙ section_locals_are shape x
    ∙ (λ i. section_locals (helpers i) (same i)) ∙ sym (section_locals_are shape' y) ∙ ap (map local_of) (sym out')
    ∙ mapped_twice local_data local_of core_local y'.locals.items (λ l. refl)
