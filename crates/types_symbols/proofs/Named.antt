-- What a name refers to: a pool's struct and its member, or a local.
use Rattle.std.proofs.Common.{◌≡◌, ◌∙◌, ◌<◌, ℕ, List, Option, Some, None, Bool, true, if◌then◌else◌, ap, sym, refl}
use Rattle.std.specs.Prelude.{nat_lt, option_map}
use Rattle.std.proofs.lemmas.Bool.{lt-ltb}
use Rattle.syntax.specs.Trees.{Decl, struct, pool, Struct, Pool, Member}
use Rattle.resolution.specs.declared.init_target.InitTarget.{InitTarget}
use Rattle.resolution.specs.Constants.{pool_members, init_target_to, init_target_in, init_target_at, members_in}
use Rattle.resolution.specs.Constants.{members_of}
use Rattle.resolution.specs.Scopes.{Scope, Local, a_local, declared_as, local_or, meaning, the_decl, the_local}
use Rattle.resolution.specs.Scopes.{the_member}
use Rattle.types_symbols.specs.Working.Given.{struct_of_pool, pool_in}
use Rattle.types_symbols.specs.Working.Views.{struct_in}

-- ---- what an `init` gives a value to

of_pool : List Decl → Option (ℕ × Pool) → ℕ → List ℕ → Option InitTarget
of_pool decls (Some (i, p)) index q = if nat_lt index p.length.value then init_target_in i index (members_of decls p.target) q else None
of_pool decls None index q = None

by_pool : (decls : List Decl) (o : Option (ℕ × Decl)) (index : ℕ) (q : List ℕ) →
    init_target_to decls o index q ≡ of_pool decls (pool_in o) index q
unfolding of_pool
by_pool decls (Some (i, pool p)) index q = refl
by_pool decls o index q = refl

members_by : Option (ℕ × Struct) → Option (List Member)
members_by (Some (k, s)) = Some s.members
members_by None = None

by_struct : (o : Option (ℕ × Decl)) → members_in o ≡ members_by (struct_in o)
unfolding members_by
by_struct (Some (i, struct s)) = refl
by_struct o = refl

module _ (decls : List Decl) (o : Option (ℕ × Decl)) (place : ℕ) (p : Pool) (here : Some (place, p) ≡ pool_in o) (index : ℕ) (q : List ℕ) (lt : index < p.length.value) where
  of_members : init_target_to decls o index q ≡ init_target_in place index (members_of decls p.target) q
  unfolding of_pool
  of_members =
      by_pool decls o index q
      ∙ sym (ap (λ (f : Option (ℕ × Pool)). of_pool decls f index q) here)
      ∙ ap (λ (b : Bool). if b then init_target_in place index (members_of decls p.target) q else None) (lt-ltb index p.length.value lt)

  pub of_struct : (k : ℕ) (s : Struct) → Some (k, s) ≡ struct_in (the_decl decls p.target.text) →
      init_target_to decls o index q ≡ init_target_at place index (the_member s.members q)
  unfolding members_by
  of_struct k s there =
      of_members ∙ ap (λ (ms : Option (List Member)). init_target_in place index ms q) (by_struct (the_decl decls p.target.text) ∙ sym (ap members_by there))

  pub of_no_struct : None ≡ struct_in (the_decl decls p.target.text) → init_target_to decls o index q ≡ None
  unfolding members_by
  of_no_struct none =
      of_members ∙ ap (λ (ms : Option (List Member)). init_target_in place index ms q) (by_struct (the_decl decls p.target.text) ∙ sym (ap members_by none))

-- ---- a local in scope

pub local_meant : (sc : Scope) (q text : List ℕ) (place : ℕ) (l : Local) → Some (place, l) ≡ the_local sc.locals q →
    q ≡ text → l.is_visible ≡ true → meaning sc text ≡ a_local place l
local_meant sc q text place l here same seen =
    let other = declared_as (the_decl sc.decls text) in
    ap (λ (o : Option (ℕ × Local)). local_or o other) (sym (here ∙ ap (the_local sc.locals) same)) ∙ ap (λ (b : Bool). if b then a_local place l else other) seen

-- ---- the members of a pool

of_members_of : List Decl → Option (ℕ × Pool) → Option (List Member)
of_members_of decls (Some (i, p)) = members_of decls p.target
of_members_of decls None = None

by_its_pool : (decls : List Decl) (o : Option (ℕ × Decl)) → pool_members decls o ≡ of_members_of decls (pool_in o)
unfolding of_members_of
by_its_pool decls (Some (i, pool p)) = refl
by_its_pool decls o = refl

pub members_given : (decls : List Decl) (o : Option (ℕ × Decl)) (place : ℕ) (p : Pool) (s : Option (ℕ × Struct)) (ms : Option (List Member)) → Some (place, p) ≡ pool_in o → s ≡ struct_in (the_decl decls p.target.text) →
    ms ≡ option_map (λ x. x.1.members) s → ms ≡ pool_members decls o
unfolding of_members_of members_by
members_given decls o place p s ms here there is =
    is ∙ sides s ∙ ap members_by there ∙ sym (by_struct (the_decl decls p.target.text)) ∙ ap (of_members_of decls) here ∙ sym (by_its_pool decls o)
  where
    sides : (t : Option (ℕ × Struct)) → option_map (λ x. x.1.members) t ≡ members_by t
    sides (Some (k, x)) = refl
    sides None = refl

pub struct_given : (decls : List Decl) (f : Option (ℕ × Pool)) (place : ℕ) (p : Pool) (s : Option (ℕ × Struct)) (r : Option Struct) → Some (place, p) ≡ f → s ≡ struct_in (the_decl decls p.target.text) →
    r ≡ option_map (λ x. x.1) s → r ≡ struct_of_pool decls f
struct_given decls f place p s r here there is =
    is ∙ ap (λ (t : Option (ℕ × Struct)). option_map (λ x. x.1) t) there ∙ ap (struct_of_pool decls) here
