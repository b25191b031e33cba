-- The values that declarations give to the members of pools.
use Rattle.std.proofs.Common.{◌≡◌, ℕ, ◌<◌, List, Option, Some, None, Bool, true, false, refl, sym, ap, ◌∙◌, subst}
use Rattle.std.proofs.Common.{if◌then◌else◌}
use Rattle.std.specs.Prelude.{nat_lt}
use Rattle.syntax.specs.Trees.{Const, Init, Pool, Member, lock_member, final_member, field_member, Decl, lock, struct}
use Rattle.syntax.specs.Trees.{global, array, pool, init, atomic, helper, thread}
use Rattle.resolution.specs.declared.init_target.InitTarget.{InitTarget}
use Rattle.resolution.specs.Scopes.{◌>>=◌, the_decl, the_member}
use Rattle.resolution.specs.Constants.{members_of, pool_members, initialised, init_target_at, init_target_in}
use Rattle.resolution.specs.Constants.{init_target_to, init_target_of, is_init_target, gives, giver, value_in, given}
use Rattle.resolution.specs.Where.{Has}
use Rattle.resolution.proofs.Named.{named_is}
use Rattle.resolution.specs.Theory.Facts.{same_is}
use Rattle.resolution.proofs.FaultlessExpressions.{at_has}
use Rattle.resolution.proofs.Tests.{lt_of}

init_target_is : (o : Option InitTarget) (g : InitTarget) → is_init_target o g ≡ true → o ≡ Some g
init_target_is (Some h) g e = ap Some (same_is h g e)
init_target_is None g e = cc

-- an `init` gives it this constant
pub record Giving (decls : List Decl) (g : InitTarget) (c : Const) : Type 0 where
  pub by : Init
  pub there : Has decls (init by)
  pub init_target : init_target_of decls by ≡ Some g
  pub value : by.value ≡ c

giving_by : (decls : List Decl) (g : InitTarget) (c : Const) (d : Decl) → Has decls d → gives decls d g ≡ true →
    (n : ℕ) → value_in (Some (n, d)) ≡ Some c → Giving decls g c
giving_by decls g c (init j) h e n v = record { by = j; there = h; init_target = init_target_is (init_target_of decls j) g e; value = (let s : j.value ≡ c = cc in s) }
giving_by decls g c (lock x) h e n v = cc
giving_by decls g c (struct x) h e n v = cc
giving_by decls g c (global x) h e n v = cc
giving_by decls g c (array x) h e n v = cc
giving_by decls g c (pool x) h e n v = cc
giving_by decls g c (atomic x) h e n v = cc
giving_by decls g c (helper x) h e n v = cc
giving_by decls g c (thread x) h e n v = cc

pub giving : (decls : List Decl) (g : InitTarget) (c : Const) → given decls g ≡ Some c → Giving decls g c
giving decls g c e = by_giver (giver decls decls g) refl
  where
    by_giver : (o : Option (ℕ × Decl)) → giver decls decls g ≡ o → Giving decls g c
    by_giver None is = let n : given decls g ≡ None = ap value_in is in let s : None ≡ Some c = sym n ∙ e in cc
    by_giver (Some (n, d)) is =
        let f = named_is (gives decls) decls g n d is in
        giving_by decls g c d (at_has decls n d f.here) f.bearing n (sym (ap value_in is) ∙ e)

-- the pool and the members that an `init` names, if it gives a value
pub record Names (decls : List Decl) (j : Init) (g : InitTarget) : Type 0 where
  pub of : Pool
  pub named_pool : the_decl decls j.pool.text ≡ Some (g.pool, pool of)
  pub members : List Member
  pub are : members_of decls of.target ≡ Some members
  pub index : j.index.value ≡ g.index
  pub within : g.index < of.length.value
  pub item : Member
  pub found : the_member members j.field.text ≡ Some (g.member, item)

-- a member to which an `init` gives a value is a field or a final reference
abbrev IsGiven : Member → Type 0
IsGiven (lock_member x) = ⊥
IsGiven (final_member f) = Unit {0}
IsGiven (field_member f) = Unit {0}

at_is : (p i : ℕ) (o : Option (ℕ × Member)) (g : InitTarget) → init_target_at p i o ≡ Some g →
    (p ≡ g.pool) × (i ≡ g.index) × ((x : Member) × (o ≡ Some (g.member, x)))
at_is p i (Some (m, final_member f)) g e =
    let s : record { pool = p; index = i; member = m } ≡ g = cc in
    (ap (λ (h : InitTarget). h.pool) s, ap (λ (h : InitTarget). h.index) s, (final_member f, ap (λ (h : InitTarget). Some (h.member, final_member f)) s))
at_is p i (Some (m, field_member f)) g e =
    let s : record { pool = p; index = i; member = m } ≡ g = cc in
    (ap (λ (h : InitTarget). h.pool) s, ap (λ (h : InitTarget). h.index) s, (field_member f, ap (λ (h : InitTarget). Some (h.member, field_member f)) s))
at_is p i (Some (m, lock_member f)) g e = cc
at_is p i None g e = cc

lt_of_test : (n k : ℕ) → nat_lt n k ≡ true → n < k
lt_of_test n k e = lt_of n k e

names_in : (decls : List Decl) (j : Init) (g : InitTarget) (p : ℕ) (q : Pool) →
    the_decl decls j.pool.text ≡ Some (p, pool q) → j.index.value < q.length.value → (o : Option (List Member)) →
    members_of decls q.target ≡ o → init_target_in p j.index.value o j.field.text ≡ Some g → Names decls j g
names_in decls j g p q at less None is e = cc
names_in decls j g p q at less (Some ms) is e =
    let r = at_is p j.index.value (the_member ms j.field.text) g e in
    record {
      of = q;
      named_pool = at ∙ ap (λ (k : ℕ). Some (k, pool q)) r.0;
      members = ms;
      are = is;
      index = r.1;
      within = subst (λ (k : ℕ). k < q.length.value) r.1 less;
      item = r.2.0;
      found = r.2.1;
    }

names_if : (decls : List Decl) (j : Init) (g : InitTarget) (p : ℕ) (q : Pool) →
    the_decl decls j.pool.text ≡ Some (p, pool q) → (b : Bool) → nat_lt j.index.value q.length.value ≡ b →
    (if b then init_target_in p j.index.value (members_of decls q.target) j.field.text else None) ≡ Some g →
    Names decls j g
names_if decls j g p q at true t e = names_in decls j g p q at (lt_of_test j.index.value q.length.value t) (members_of decls q.target) refl e
names_if decls j g p q at false t e = cc

names_by : (decls : List Decl) (j : Init) (g : InitTarget) (o : Option (ℕ × Decl)) → the_decl decls j.pool.text ≡ o →
    init_target_to decls o j.index.value j.field.text ≡ Some g → Names decls j g
names_by decls j g (Some (p, pool q)) at e = names_if decls j g p q at (nat_lt j.index.value q.length.value) refl e
names_by decls j g (Some (p, lock x)) at e = cc
names_by decls j g (Some (p, struct x)) at e = cc
names_by decls j g (Some (p, global x)) at e = cc
names_by decls j g (Some (p, array x)) at e = cc
names_by decls j g (Some (p, init x)) at e = cc
names_by decls j g (Some (p, atomic x)) at e = cc
names_by decls j g (Some (p, helper x)) at e = cc
names_by decls j g (Some (p, thread x)) at e = cc
names_by decls j g None at e = cc

pub names_it : (decls : List Decl) (j : Init) (g : InitTarget) → init_target_of decls j ≡ Some g → Names decls j g
names_it decls j g e = names_by decls j g (the_decl decls j.pool.text) refl e

-- the field that the `init` names
pub initialised_is : (decls : List Decl) (j : Init) (g : InitTarget) (n : Names decls j g) →
    initialised decls j ≡ Some (g.member, n.item)
initialised_is decls j g n =
    ap (λ (o : Option (ℕ × Decl)). pool_members decls o >>= λ ms. the_member ms j.field.text) n.named_pool ∙ ap (λ (o : Option (List Member)). o >>= λ ms. the_member ms j.field.text) n.are ∙ n.found
