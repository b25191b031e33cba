-- What the code tests is what the definitions say.
use Rattle.std.proofs.Common.{◌≡◌, ◌∙◌, ◌+◌, ⊎_elim, ℕ, zero, suc, Bool, true, false, List, [], ◌∷◌}
use Rattle.std.proofs.Common.{map, Option, Some, None, refl, sym, ap, subst, arith}
use Rattle.std.specs.Bool.{Decides}
use Rattle.std.specs.List.{flat_map, list_any}
use Rattle.std.specs.Prelude.{not, nat_eq, slice_get}
use Rattle.std.proofs.lemmas.Bool.{and_from, and_parts}
use Rattle.std.proofs.lemmas.Bool.Decides.{Decides-eqb}
use Rattle.std.proofs.lemmas.Option.{same_Some}
use Rattle.resolution.specs.Annotations.{class_of, protection_of}
use Rattle.resolution.specs.Core as core
use Rattle.resolution.specs.Where.{Has, first}
use Rattle.syntax.specs.Trees.{Ident, Member, lock_member, final_member, field_member, Decl, lock, struct}
use Rattle.syntax.specs.Trees.{global, array, pool, init, atomic, helper, thread}
use Rattle.explanations.specs.Names.{all_in, read_among, written_among, helpers_called, sections_called}
use Rattle.explanations.specs.Names.{cell_names}
use Rattle.explanations.specs.Warnings.{Subject, a_lock, a_local, a_helper, a_section, a_loop, IsProtecting}
use Rattle.explanations.specs.Warnings.{a_global, an_array, a_field, IsNamed, HasThread, IsWarned, IsSifted}
use Rattle.explanations.specs.Warnings.{at_end, kept, left_out, AreWarnings, subjects_from, warning}
use Rattle.explanations.specs.Working.Found.{class_if, class_at, class_for, classes_by}
use Rattle.explanations.specs.Working.Found.{classes_from, protecting, is_named, is_thread}
use Rattle.explanations.specs.Working.Found.{is_warned, warned}
use Rattle.explanations.proofs.Members.{not_decides, at_has, has_at, has_either, has_left, has_right, has_one}
use Rattle.explanations.proofs.Members.{has_flat, flat_has, any_has, has_any}
use Rattle.explanations.proofs.Sets.{named_if, named_so}

-- ---- locks

if_class : (o : Option ℕ) (class : ℕ) → Has (class_if o) class → o ≡ Some class
if_class (Some c) class h = ap Some (has_one c class h)
if_class None class h = elim h [ ]

class_so : (o : Option ℕ) (class : ℕ) → o ≡ Some class → Has (class_if o) class
class_so o class e = subst (λ (o : Option ℕ). Has (class_if o) class) (sym e) first

record Ends (o : Option core.Protection) (class : ℕ) : Type 0 where
  protection : core.Protection
  is : o ≡ Some protection
  of_class : protection.class ≡ class

at_class : (o : Option core.Protection) (class : ℕ) → Has (class_at o) class → Ends o class
at_class (Some p) class h = record { protection = p; is = refl; of_class = has_one p.class class h }
at_class None class h = elim h [ ]

at_so : (o : Option core.Protection) (p : core.Protection) (class : ℕ) → o ≡ Some p → p.class ≡ class → Has (class_at o) class
at_so o p class e same = subst (λ (o : Option core.Protection). Has (class_at o) class) (sym e) (subst (Has (p.class ∷ [])) same first)

module _ (decls : List Decl) (class : ℕ) where
  by_member : (i : ℕ) (all : List Member) (m : Member) → Has all m → Has (class_for decls i all m) class →
      ((f : _) → Has all (field_member f) → Ends (protection_of decls i all f.protection) class → IsProtecting decls class) →
      IsProtecting decls class
  by_member i all (field_member f) listed h then_so = then_so f listed (at_class (protection_of decls i all f.protection) class h)
  by_member i all (lock_member x) listed h then_so = elim h [ ]
  by_member i all (final_member f) listed h then_so = elim h [ ]

  by_decl : (i : ℕ) (d : Decl) → slice_get decls i ≡ Some d → Has (classes_by decls i d) class → IsProtecting decls class
  by_decl i (global v) there h = a_global (at_has decls i (global v) there) (if_class (class_of decls v.protection) class h)
  by_decl i (array a) there h = an_array (at_has decls i (array a) there) (if_class (class_of decls a.protection) class h)
  by_decl i (struct s) there h =
      let from = flat_has (class_for decls i s.members) s.members class h in
      by_member i s.members from.x from.listed from.gives (λ f listed ends. a_field i there listed ends.is ends.of_class)
  by_decl i (lock x) there h = elim h [ ]
  by_decl i (pool x) there h = elim h [ ]
  by_decl i (init x) there h = elim h [ ]
  by_decl i (atomic x) there h = elim h [ ]
  by_decl i (helper x) there h = elim h [ ]
  by_decl i (thread x) there h = elim h [ ]

  -- a declaration from the `i`th on has an annotation that ends at the class
  record Ended (i : ℕ) (ds : List Decl) : Type 0 where
    at : ℕ
    decl : Decl
    there : slice_get ds at ≡ Some decl
    ends : Has (classes_by decls (i + at) decl) class

  ended_from : (i : ℕ) (ds : List Decl) → Has (classes_from decls i ds) class → Ended i ds
  ended_from i [] h = elim h [ ]
  ended_from i (d ∷ ds) h =
      ⊎_elim
      (λ (here : Has (classes_by decls i d) class). record {
        at = zero;
        decl = d;
        there = refl;
        ends = subst (λ (k : ℕ). Has (classes_by decls k d) class) (omega arith) here;
      })
      (λ (later : Has (classes_from decls (suc i) ds) class).
      let r = ended_from (suc i) ds later in
      record {
        at = suc r.at;
        decl = r.decl;
        there = r.there;
        ends = subst (λ (k : ℕ). Has (classes_by decls k r.decl) class) (omega arith) r.ends;
      })
      (has_either (classes_by decls i d) (classes_from decls (suc i) ds) class h)

  from_ended : (i k : ℕ) (ds : List Decl) (d : Decl) → slice_get ds k ≡ Some d → Has (classes_by decls (i + k) d) class →
      Has (classes_from decls i ds) class
  from_ended i k [] d there h = absurd cc
  from_ended i zero (e ∷ ds) d there h =
      let here : Has (classes_by decls i d) class = subst (λ (n : ℕ). Has (classes_by decls n d) class) (omega arith) h in
      has_left (classes_by decls i e) (classes_from decls (suc i) ds) class
      (subst (λ (x : Decl). Has (classes_by decls i x) class) (sym (same_Some e d there)) here)
  from_ended i (suc k) (e ∷ ds) d there h =
      has_right (classes_by decls i e) (classes_from decls (suc i) ds) class
      (from_ended (suc i) k ds d there (subst (λ (n : ℕ). Has (classes_by decls n d) class) (omega arith) h))

  protecting_if : Has (protecting decls) class → IsProtecting decls class
  protecting_if h =
      let r = ended_from 0 decls h in
      by_decl r.at r.decl r.there (subst (λ (n : ℕ). Has (classes_by decls n r.decl) class) (omega arith) r.ends)

  protecting_so : IsProtecting decls class → Has (protecting decls) class
  protecting_so (a_global {v = v} listed is) =
      let at = has_at decls (global v) listed in
      from_ended 0 at.0 decls (global v) at.1 (class_so (class_of decls v.protection) class is)
  protecting_so (an_array {a = a} listed is) =
      let at = has_at decls (array a) listed in
      from_ended 0 at.0 decls (array a) at.1 (class_so (class_of decls a.protection) class is)
  protecting_so (a_field i {s = s} {f = f} {p = p} there listed is same) =
      let ends : Has (classes_by decls i (struct s)) class =
      has_flat (class_for decls i s.members) s.members (field_member f) class listed (at_so (protection_of decls i s.members f.protection) p class is same) in
      from_ended 0 i decls (struct s) there (subst (λ (n : ℕ). Has (classes_by decls n (struct s)) class) (omega arith) ends)

  pub is_protecting : list_any (nat_eq class) (protecting decls) ≡ true → IsProtecting decls class
  is_protecting e =
      let s = any_has (nat_eq class) (protecting decls) e in
      protecting_if (subst (Has (protecting decls)) (sym ((Decides-eqb class s.x).0 s.passes)) s.listed)

  pub protecting_is : IsProtecting decls class → list_any (nat_eq class) (protecting decls) ≡ true
  protecting_is is = has_any (nat_eq class) (protecting decls) class (protecting_so is) ((Decides-eqb class class).1 refl)

-- ---- threads

a_thread_if : (decls : List Decl) (d : Decl) → Has decls d → is_thread d ≡ true → HasThread decls
a_thread_if decls (thread t) h e = record { a_thread = t; listed = h }
a_thread_if decls (lock x) h e = absurd cc
a_thread_if decls (struct x) h e = absurd cc
a_thread_if decls (global x) h e = absurd cc
a_thread_if decls (array x) h e = absurd cc
a_thread_if decls (pool x) h e = absurd cc
a_thread_if decls (init x) h e = absurd cc
a_thread_if decls (atomic x) h e = absurd cc
a_thread_if decls (helper x) h e = absurd cc

has_thread_if : (decls : List Decl) → list_any is_thread decls ≡ true → HasThread decls
has_thread_if decls e = let s = any_has is_thread decls e in a_thread_if decls s.x s.listed s.passes

-- ---- tests

unnamed : (names : List Ident) (x : Ident) → Decides (not (is_named names x)) (IsNamed names x → ⊥)
unnamed names x = not_decides (is_named names x) (IsNamed names x) (named_if names x) (named_so names x)

record IsChanged (names : List Ident) (ws : List Ident) : Type 0 where
  x : Ident
  listed : Has ws x
  named : IsNamed names x

changed_if : (names ws : List Ident) → list_any (is_named names) ws ≡ true → IsChanged names ws
changed_if names ws e =
    let s = any_has (is_named names) ws e in
    record { x = s.x; listed = s.listed; named = named_if names s.x s.passes }

changed_so : (names ws : List Ident) → IsChanged names ws → list_any (is_named names) ws ≡ true
changed_so names ws is = has_any (is_named names) ws is.x is.listed (named_so names is.x is.named)

unchanged : (names ws : List Ident) →
    Decides (not (list_any (is_named names) ws)) ((x : Ident) → Has ws x → IsNamed names x → ⊥)
unchanged names ws =
    let d = not_decides (list_any (is_named names) ws) (IsChanged names ws) (changed_if names ws) (changed_so names ws) in
    (λ e x listed named. d.0 e (record { x = x; listed = listed; named = named }), λ no. d.1 (λ is. no is.x is.listed is.named))

tested : (decls : List Decl) (s : Subject) → Decides (is_warned decls s) (IsWarned decls s)
tested decls (a_lock class x) =
    not_decides (list_any (nat_eq class) (protecting decls)) (IsProtecting decls class) (is_protecting decls class) (protecting_is decls class)
tested decls (a_local body x) = unnamed (read_among body) x
tested decls (a_helper x) = unnamed (flat_map helpers_called decls) x
tested decls (a_section x) =
    let d = unnamed (flat_map sections_called decls) x in
    let some = list_any is_thread decls in
    let none = not (is_named (flat_map sections_called decls) x) in (
      λ e. let both = and_parts some none e in (has_thread_if decls both.0, d.0 both.1),
      λ is. and_from some none (has_any is_thread decls (thread is.0.a_thread) is.0.listed refl) (d.1 is.1),
    )
tested decls (a_loop start e body) = unchanged (all_in e) (written_among (flat_map cell_names decls) body)

-- ---- the warnings

record Sift (decls : List Decl) (xs : List Subject) : Type 0 where
  warned_of : List Subject
  are : IsSifted (IsWarned decls) xs warned_of
  tell : warned decls xs ≡ map warning warned_of

module _ (decls : List Decl) where
  one_more : (x : Subject) (xs : List Subject) (b : Bool) → is_warned decls x ≡ b → Sift decls xs → Sift decls (x ∷ xs)
  one_more x xs true is rest = record {
    warned_of = x ∷ rest.warned_of;
    are = kept ((tested decls x).0 is) rest.are;
    tell = rw (is, rest.tell) refl;
  }
  one_more x xs false is rest = record {
    warned_of = rest.warned_of;
    are = left_out (λ warned. let e : false ≡ true = sym is ∙ (tested decls x).1 warned in cc) rest.are;
    tell = rw (is, rest.tell) refl;
  }

  sifted : (xs : List Subject) → Sift decls xs
  sifted [] = record { warned_of = []; are = at_end; tell = refl }
  sifted (x ∷ xs) = one_more x xs (is_warned decls x) refl (sifted xs)

  pub are_warnings : AreWarnings decls (warned decls (subjects_from decls 0 decls))
  are_warnings =
      let s = sifted (subjects_from decls 0 decls) in
      record { warned = s.warned_of; are = s.are; tell = s.tell }
