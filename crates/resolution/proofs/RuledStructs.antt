-- The code builds exactly the structs that the rules build.
use Rattle.std.proofs.Common.{◌≡◌, ℕ, ◌+◌, List, [], ◌∷◌, ◌++◌, length, Option, Some, None, refl, sym, ap, ◌∙◌, subst}
use Rattle.std.proofs.Common.{append_assoc}
use Rattle.std.proofs.lemmas.List.{length-append, append-nil}
use Rattle.syntax.specs.Trees.{Member, lock_member, final_member, field_member, Struct, Decl}
use Rattle.core_lang.specs.declared.value.ValueType as core_type
use Rattle.resolution.specs.Core as core
use Rattle.resolution.specs.Scopes.{outside, type_of, struct_named}
use Rattle.resolution.specs.Annotations.{protection_of}
use Rattle.resolution.specs.Tables.{Makes, no_member, lock_field, final_field, field, lock_classes}
use Rattle.resolution.specs.Working.Building.{StructBuilder, lock_added, final_added, field_added}
use Rattle.resolution.specs.Working.Building.{members_added}

-- ---- a struct so far, and what further members make

abbrev pub made_on : ℕ → StructBuilder → core.Struct → StructBuilder
made_on k st t = record {
  structure = record {
    name = st.structure.name;
    locks = st.structure.locks ++ t.locks;
    finals = st.structure.finals ++ t.finals;
    fields = st.structure.fields ++ t.fields;
  };
  classes = st.classes ++ lock_classes k (length st.structure.locks) t.locks;
}

abbrev nothing_made : Struct → core.Struct
nothing_made s = record { name = s.name.text; locks = []; finals = []; fields = [] }

made_none : (k : ℕ) (s : Struct) (st : StructBuilder) → made_on k st (nothing_made s) ≡ st
made_none k s st = simp append-nil

made_lock : (k : ℕ) (st : StructBuilder) (name : List ℕ) (t : core.Struct) →
    made_on k (lock_added k st name) t
    ≡ made_on k st (record t { locks = record { name = name; class = length st.classes } ∷ t.locks })
made_lock k st name t =
    let l : core.LockField = record { name = name; class = length st.classes } in
    let c : core.LockClass = core.lock_field k (length st.structure.locks) in
    let a : (st.structure.locks ++ l ∷ []) ++ t.locks ≡ st.structure.locks ++ l ∷ t.locks =
    append_assoc st.structure.locks (l ∷ []) t.locks in
    let n : length (st.structure.locks ++ l ∷ []) ≡ length st.structure.locks + 1 =
    length-append st.structure.locks (l ∷ []) in
    let b : (st.classes ++ c ∷ []) ++ lock_classes k (length st.structure.locks + 1) t.locks
    ≡ st.classes ++ c ∷ lock_classes k (length st.structure.locks + 1) t.locks =
    append_assoc st.classes (c ∷ []) (lock_classes k (length st.structure.locks + 1) t.locks) in
    cc

abbrev with_final : StructBuilder → core.FinalField → StructBuilder
with_final st f = record st { structure = record (st.structure) { finals = st.structure.finals ++ f ∷ [] } }

made_final : (k : ℕ) (st : StructBuilder) (f : core.FinalField) (t : core.Struct) →
    made_on k (with_final st f) t ≡ made_on k st (record t { finals = f ∷ t.finals })
made_final k st f t = let a = append_assoc st.structure.finals (f ∷ []) t.finals in cc

abbrev with_field : StructBuilder → core.Field → StructBuilder
with_field st f = record st { structure = record (st.structure) { fields = st.structure.fields ++ f ∷ [] } }

made_field : (k : ℕ) (st : StructBuilder) (f : core.Field) (t : core.Struct) →
    made_on k (with_field st f) t ≡ made_on k st (record t { fields = f ∷ t.fields })
made_field k st f t = let a = append_assoc st.structure.fields (f ∷ []) t.fields in cc

-- ---- each built part follows the rules

none_made : (decls : List Decl) (k i : ℕ) (all ms : List Member) → members_added decls k i all None ms ≡ None
none_made decls k i all [] = refl
none_made decls k i all (m ∷ ms) = none_made decls k i all ms

final_there : (decls : List Decl) (k i : ℕ) (all ms : List Member) (st to : StructBuilder) (name : List ℕ)
    (o : Option ℕ) →
    members_added decls k i all (final_added st name o) ms ≡ Some to → (n : ℕ) × (o ≡ Some n)
final_there decls k i all ms st to name (Some n) e = (n, refl)
final_there decls k i all ms st to name None e = let s : None ≡ Some to = sym (none_made decls k i all ms) ∙ e in cc

field_there : (decls : List Decl) (k i : ℕ) (all ms : List Member) (st to : StructBuilder) (name : List ℕ)
    (o : Option core_type.ValueType) (r : Option core.Protection) →
    members_added decls k i all (field_added st name o r) ms ≡ Some to →
    (t : core_type.ValueType) × (p : core.Protection) × (o ≡ Some t) × (r ≡ Some p)
field_there decls k i all ms st to name (Some t) (Some p) e = (t, p, refl, refl)
field_there decls k i all ms st to name (Some t) None e = let s : None ≡ Some to = sym (none_made decls k i all ms)
    ∙ e in cc
field_there decls k i all ms st to name None r e = let s : None ≡ Some to = sym (none_made decls k i all ms) ∙ e in cc

pub record Made (decls : List Decl) (k i : ℕ) (s : Struct) (ms : List Member) (st to : StructBuilder) : Type 0 where
  pub structure : core.Struct
  pub makes : Makes decls i s (length st.classes) ms structure
  pub is : made_on k st structure ≡ to

pub made_by_rules : (decls : List Decl) (k i : ℕ) (s : Struct) (ms : List Member) (st to : StructBuilder) →
    members_added decls k i s.members (Some st) ms ≡ Some to → Made decls k i s ms st to
made_by_rules decls k i s [] st to e =
    let same : st ≡ to = cc in
    record { structure = nothing_made s; makes = no_member; is = made_none k s st ∙ same }
made_by_rules decls k i s (lock_member x ∷ ms) st to e =
    let r = made_by_rules decls k i s ms (lock_added k st x.text) to e in
    let n = length-append st.classes (core.lock_field k (length st.structure.locks) ∷ []) in
    record {
      structure =
          record (r.structure) { locks = record { name = x.text; class = length st.classes } ∷ r.structure.locks };
      makes = lock_field (subst (λ (j : ℕ). Makes decls i s j ms r.structure) n r.makes);
      is = sym (made_lock k st x.text r.structure) ∙ r.is;
    }
made_by_rules decls k i s (final_member f ∷ ms) st to e =
    let g = final_there decls k i s.members ms st to f.name.text (struct_named decls f.target) e in
    let y : core.FinalField = record { name = f.name.text; target = g.0 } in
    let r = made_by_rules decls k i s ms (with_final st y) to
    (ap (λ (o : Option ℕ). members_added decls k i s.members (final_added st f.name.text o) ms) (sym g.1) ∙ e) in
    record {
      structure = record (r.structure) { finals = y ∷ r.structure.finals };
      makes = final_field g.1 r.makes;
      is = sym (made_final k st y r.structure) ∙ r.is;
    }
made_by_rules decls k i s (field_member f ∷ ms) st to e =
    let ot = type_of (outside decls) f.value_type in
    let op = protection_of decls i s.members f.protection in
    let g = field_there decls k i s.members ms st to f.name.text ot op e in
    let y : core.Field = record { name = f.name.text; value_type = g.0; protection = g.1 } in
    let on : members_added decls k i s.members (Some (with_field st y)) ms ≡ Some to =
    ap (λ (o : Option core_type.ValueType). members_added decls k i s.members
    (field_added st f.name.text o (Some g.1)) ms) (sym g.2)
    ∙ ap (λ (o : Option core.Protection). members_added decls k i s.members (field_added st f.name.text ot o) ms)
    (sym g.3) ∙ e in
    let r = made_by_rules decls k i s ms (with_field st y) to on in
    record {
      structure = record (r.structure) { fields = y ∷ r.structure.fields };
      makes = field g.2 g.3 r.makes;
      is = sym (made_field k st y r.structure) ∙ r.is;
    }

-- ---- each part by the rules is built

pub rules_made : (decls : List Decl) (k i : ℕ) (s : Struct) (n : ℕ) (ms : List Member) (t : core.Struct) →
    Makes decls i s n ms t → (st : StructBuilder) → n ≡ length st.classes →
    members_added decls k i s.members (Some st) ms ≡ Some (made_on k st t)
rules_made decls k i s n ms t no_member st at = ap Some (sym (made_none k s st))
rules_made decls k i s n ms t (lock_field {x = x} {ms = rest} {t = u} m) st at =
    let c = length-append st.classes (core.lock_field k (length st.structure.locks) ∷ []) in
    let next : n + 1 ≡ length (lock_added k st x.text).classes = ap (λ (j : ℕ). j + 1) at ∙ sym c in
    rules_made decls k i s (n + 1) rest u m (lock_added k st x.text) next ∙ ap Some (made_lock k st x.text u)
    ∙ ap (λ (j : ℕ). Some (made_on k st (record u { locks = record { name = x.text; class = j } ∷ u.locks }))) (sym at)
rules_made decls k i s n ms t (final_field {target = target} {f = f} {ms = rest} {t = u} e m) st at =
    let y : core.FinalField = record { name = f.name.text; target = target } in
    ap (λ (o : Option ℕ). members_added decls k i s.members (final_added st f.name.text o) rest) e
    ∙ rules_made decls k i s n rest u m (with_final st y) at ∙ ap Some (made_final k st y u)
rules_made decls k i s n ms t (field {f = f} {ms = rest} {t = u} {v = v} {p = p} e h m) st at =
    let y : core.Field = record { name = f.name.text; value_type = v; protection = p } in
    ap (λ (o : Option core_type.ValueType). members_added decls k i s.members
    (field_added st f.name.text o (protection_of decls i s.members f.protection)) rest) e
    ∙ ap (λ (o : Option core.Protection). members_added decls k i s.members
    (field_added st f.name.text (Some v) o) rest) h
    ∙ rules_made decls k i s n rest u m (with_field st y) at ∙ ap Some (made_field k st y u)

-- the name is the struct's
pub makes_name : (decls : List Decl) (i : ℕ) (s : Struct) (n : ℕ) (ms : List Member) (t : core.Struct) →
    Makes decls i s n ms t → t.name ≡ s.name.text
makes_name decls i s n ms t no_member = refl
makes_name decls i s n ms t (lock_field {ms = rest} {t = u} m) = makes_name decls i s (n + 1) rest u m
makes_name decls i s n ms t (final_field {ms = rest} {t = u} e m) = makes_name decls i s n rest u m
makes_name decls i s n ms t (field {ms = rest} {t = u} e h m) = makes_name decls i s n rest u m
