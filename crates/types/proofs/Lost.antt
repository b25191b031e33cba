-- After a fault nothing more is built.
use Rattle.std.proofs.Common.{◌≡◌, ℕ, ◌+◌, ◌<◌, ◌≤◌, true, arith, List, [], ◌∷◌, Option, None, length, drop, get_or}
use Rattle.std.proofs.Common.{refl, sym, ap, ◌∙◌}
use Rattle.std.specs.Prelude.{map}
use Rattle.std.proofs.Math.Nat.{add-zero}
use Rattle.syntax.specs.declared.tree.Member as tree
use Rattle.syntax.specs.Views.{member_of}
use Rattle.syntax.specs.Trees.{Decl, Member, lock_member, final_member, field_member}
use Rattle.core_lang.specs.Theory.Items.{next_of}
use Rattle.resolution.specs.Core as core
use Rattle.resolution.specs.Working.Building.{Slot, with_members, StructBuilder, member_added, members_added}
use Rattle.types_symbols.specs.Working.Counted.{field_if}
use Rattle.types.specs.Working.Slots.{member_with}

parts_none : (decls : List Decl) (slot : Slot) (place fields : ℕ) (ms : List Member) →
    with_members decls slot place fields None ms ≡ None
parts_none decls slot place fields [] = refl
parts_none decls slot place fields (lock_member x ∷ ms) = parts_none decls slot (place + 1) fields ms
parts_none decls slot place fields (final_member f ∷ ms) = parts_none decls slot (place + 1) fields ms
parts_none decls slot place fields (field_member f ∷ ms) = parts_none decls slot (place + 1) (fields + 1) ms

part_with : (decls : List Decl) (slot : Slot) (place fields : ℕ) (p : Option core.Program) (m : Member) (ms : List Member) → with_members decls slot place fields p (m ∷ ms) ≡ with_members decls slot (place + 1) (fields + field_if true m) (member_with decls slot place fields p m) ms
part_with decls slot place fields p (lock_member x) ms = ap (λ (k : ℕ). with_members decls slot (place + 1) k p ms) (sym (add-zero fields))
part_with decls slot place fields p (final_member f) ms = ap (λ (k : ℕ). with_members decls slot (place + 1) k (member_with decls slot place fields p (final_member f)) ms) (sym (add-zero fields))
part_with decls slot place fields p (field_member f) ms = refl

pub few_fields : (m : Member) → field_if true m ≤ 1
few_fields (lock_member x) = omega arith
few_fields (final_member f) = omega arith
few_fields (field_member f) = omega arith

members_none : (decls : List Decl) (k i : ℕ) (all ms : List Member) → members_added decls k i all None ms ≡ None
members_none decls k i all [] = refl
members_none decls k i all (lock_member x ∷ ms) = members_none decls k i all ms
members_none decls k i all (final_member f ∷ ms) = members_none decls k i all ms
members_none decls k i all (field_member f ∷ ms) = members_none decls k i all ms

module _ (decls : List Decl) (items : List tree.Member) (n : ℕ) (item : tree.Member) (lt : n < length items) (is : item ≡ get_or items n item) where
  here : map member_of (drop n items) ≡ member_of item ∷ map member_of (drop (n + 1) items)
  here = ap (map member_of) (next_of items n item lt is)

  parts_with : (slot : Slot) (place fields : ℕ) (p : Option core.Program) →
      with_members decls slot place fields p (map member_of (drop n items)) ≡ with_members decls slot (place + 1) (fields + field_if true (member_of item)) (member_with decls slot place fields p (member_of item)) (map member_of (drop (n + 1) items))
  parts_with slot place fields p = ap (with_members decls slot place fields p) here ∙ part_with decls slot place fields p (member_of item) (map member_of (drop (n + 1) items))

  pub parts_next : (slot : Slot) (place fields count : ℕ) (p q whole : Option core.Program) →
      with_members decls slot place fields p (map member_of (drop n items)) ≡ whole →
      q ≡ member_with decls slot place fields p (member_of item) → count ≡ field_if true (member_of item) → with_members decls slot (place + 1) (fields + count) q (map member_of (drop (n + 1) items)) ≡ whole
  parts_next slot place fields count p q whole inv made few =
      ap (λ (k : ℕ). with_members decls slot (place + 1) (fields + k) q (map member_of (drop (n + 1) items))) few
      ∙ ap (λ (o : Option core.Program). with_members decls slot (place + 1) (fields + field_if true (member_of item)) o (map member_of (drop (n + 1) items))) made
      ∙ sym (parts_with slot place fields p) ∙ inv

  pub parts_lost : (slot : Slot) (place fields : ℕ) (p whole : Option core.Program) →
      with_members decls slot place fields p (map member_of (drop n items)) ≡ whole →
      None ≡ member_with decls slot place fields p (member_of item) → None ≡ whole
  parts_lost slot place fields p whole inv none =
      sym (parts_none decls slot (place + 1) (fields + field_if true (member_of item)) (map member_of (drop (n + 1) items)))
      ∙ ap (λ (o : Option core.Program). with_members decls slot (place + 1) (fields + field_if true (member_of item)) o (map member_of (drop (n + 1) items))) none
      ∙ sym (parts_with slot place fields p) ∙ inv

  pub members_lost : (k i : ℕ) (all : List Member) (st whole : Option StructBuilder) →
      members_added decls k i all st (map member_of (drop n items)) ≡ whole →
      None ≡ member_added decls k i all st (member_of item) → None ≡ whole
  members_lost k i all st whole inv none =
      sym (ap (members_added decls k i all st) here ∙ ap (λ (o : Option StructBuilder). members_added decls k i all o (map member_of (drop (n + 1) items))) (sym none) ∙ members_none decls k i all (map member_of (drop (n + 1) items))) ∙ inv
