-- The code builds exactly the objects of pools and elements of arrays that the rules build.
use Rattle.std.proofs.Common.{◌≡◌, ℕ, zero, suc, ◌+◌, List, [], ◌∷◌, ◌++◌, length, Option, Some, None, refl, sym, ap}
use Rattle.std.proofs.Common.{◌∙◌, subst, append_assoc}
use Rattle.std.proofs.lemmas.List.{append-nil}
use Rattle.syntax.specs.Trees.{Member, lock_member, final_member, field_member, Decl}
use Rattle.core_lang.specs.declared.value.Value.{Value}
use Rattle.core_lang.specs.declared.value.ValueType as core_type
use Rattle.core_lang.specs.declared.typed.CellOwner.{CellOwner}
use Rattle.core_lang.specs.declared.typed.CellOwner.TheVariants as owner
use Rattle.core_lang.specs.declared.typed.Cell.{Cell}
use Rattle.resolution.specs.declared.init_target.InitTarget.{InitTarget}
use Rattle.resolution.specs.Core as core
use Rattle.resolution.specs.Limits.{cell_at, final_at}
use Rattle.resolution.specs.Scopes.{◌>>=◌, outside, type_of, struct_named}
use Rattle.resolution.specs.Constants.{given, default_of}
use Rattle.resolution.specs.Working.TypedConstants.{opened, referred}
use Rattle.resolution.specs.Tables.{elements, next, OpensWith, with_nothing, past_lock, final_opened, field_opened}
use Rattle.resolution.specs.Tables.{AddObjects, no_object, one_object_more}
use Rattle.resolution.specs.Working.Building.{with_cell, opening_of, with_elements, Slot, slot_given, final_cell}
use Rattle.resolution.specs.Working.Building.{field_cell, with_members, object_added, with_object, with_objects}
use Rattle.resolution.proofs.ConstantRules.{opened_ruled, opened_is, referred_ruled, referred_is}
use Rattle.resolution.proofs.LaidLists.{bind_got}

-- ---- elements of an array

abbrev pub with_cells : core.Program → List Cell → core.Program
with_cells p cs = record p { cells = p.cells ++ cs }

pub elements_are : (p : core.Program) (a : ℕ) (t : core_type.ValueType) (n : ℕ) →
    with_elements p a t n ≡ with_cells p (elements a t n)
elements_are p a t zero = sym (ap (λ (cs : List Cell). record p { cells = cs }) (append-nil p.cells))
elements_are p a t (suc n) =
    let c : Cell = record { owner = owner.Element a n; value_type = t; opening = default_of t } in
    ap (λ (q : core.Program). with_cell q (owner.Element a n) t (default_of t)) (elements_are p a t n)
    ∙ ap (λ (cs : List Cell). record p { cells = cs }) (append_assoc p.cells (elements a t n) (c ∷ []))

-- ---- the members of an object

abbrev pub with_held : core.Program → List ℕ → List Cell → core.Program
with_held p os cs = record p { finals = p.finals ++ os; cells = p.cells ++ cs }

held_none : (p : core.Program) → with_held p [] [] ≡ p
held_none p = simp append-nil

abbrev with_final : core.Program → ℕ → core.Program
with_final p o = record p { finals = p.finals ++ o ∷ [] }

held_final : (p : core.Program) (o : ℕ) (os : List ℕ) (cs : List Cell) →
    with_held (with_final p o) os cs ≡ with_held p (o ∷ os) cs
held_final p o os cs =
    ap (λ (fs : List ℕ). record p { finals = fs; cells = p.cells ++ cs }) (append_assoc p.finals (o ∷ []) os)

held_cell : (p : core.Program) (w : CellOwner) (t : core_type.ValueType) (v : Value) (os : List ℕ) (cs : List Cell) →
    with_held (with_cell p w t v) os cs ≡ with_held p os (record { owner = w; value_type = t; opening = v } ∷ cs)
held_cell p w t v os cs =
    ap (λ (fs : List Cell). record p { finals = p.finals ++ os; cells = fs })
    (append_assoc p.cells (record { owner = w; value_type = t; opening = v } ∷ []) cs)

pub none_members : (decls : List Decl) (slot : Slot) (place fields : ℕ) (ms : List Member) →
    with_members decls slot place fields None ms ≡ None
none_members decls slot place fields [] = refl
none_members decls slot place fields (lock_member x ∷ ms) = none_members decls slot (place + 1) fields ms
none_members decls slot place fields (final_member x ∷ ms) = none_members decls slot (place + 1) fields ms
none_members decls slot place fields (field_member x ∷ ms) = none_members decls slot (place + 1) (fields + 1) ms

pub final_there : (decls : List Decl) (slot : Slot) (place fields : ℕ) (p q : core.Program) (o : Option ℕ)
    (ms : List Member) → with_members decls slot place fields (final_cell p o) ms ≡ Some q → (n : ℕ) × (o ≡ Some n)
final_there decls slot place fields p q (Some n) ms e = (n, refl)
final_there decls slot place fields p q None ms e = let s : None ≡ Some q =
    sym (none_members decls slot place fields ms) ∙ e in cc

pub field_there : (decls : List Decl) (slot : Slot) (place fields : ℕ) (p q : core.Program) (w : CellOwner)
    (o : Option core_type.ValueType) (r : Option Value) (ms : List Member) →
    with_members decls slot place fields (field_cell p w o r) ms ≡ Some q →
    (t : core_type.ValueType) × (v : Value) × (o ≡ Some t) × (r ≡ Some v)
field_there decls slot place fields p q w (Some t) (Some v) ms e = (t, v, refl, refl)
field_there decls slot place fields p q w (Some t) None ms e = let s : None ≡ Some q =
    sym (none_members decls slot place fields ms) ∙ e in cc
field_there decls slot place fields p q w None r ms e = let s : None ≡ Some q =
    sym (none_members decls slot place fields ms) ∙ e in cc

-- the member at a place
abbrev target_in : Slot → ℕ → InitTarget
target_in slot m = record { pool = slot.pool; index = slot.index; member = m }

pub record Held (decls : List Decl) (slot : Slot) (m n : ℕ) (ms : List Member) (p q : core.Program) : Type 0 where
  pub finals : List ℕ
  pub cells : List Cell
  pub opens : OpensWith decls slot.object (target_in slot m) n ms finals cells
  pub is : with_held p finals cells ≡ q

pub held_by_rules : (decls : List Decl) (slot : Slot) (m n : ℕ) (ms : List Member) (p q : core.Program) →
    with_members decls slot m n (Some p) ms ≡ Some q → Held decls slot m n ms p q
held_by_rules decls slot m n [] p q e =
    let same : p ≡ q = cc in
    record { finals = []; cells = []; opens = with_nothing; is = held_none p ∙ same }
held_by_rules decls slot m n (lock_member x ∷ ms) p q e =
    let r = held_by_rules decls slot (m + 1) n ms p q e in
    record { finals = r.finals; cells = r.cells; opens = past_lock r.opens; is = r.is }
held_by_rules decls slot m n (final_member f ∷ ms) p q e =
    let o = referred decls (struct_named decls f.target) (slot_given decls slot m) in
    let t = final_there decls slot (m + 1) n p q o ms e in
    let y = referred_ruled decls (struct_named decls f.target) (slot_given decls slot m) t.0 t.1 in
    let r = held_by_rules decls slot (m + 1) n ms (with_final p t.0) q
    (ap (λ (x : Option ℕ). with_members decls slot (m + 1) n (final_cell p x) ms) (sym t.1) ∙ e) in
    record {
      finals = t.0 ∷ r.finals;
      cells = r.cells;
      opens = final_opened y.2 y.3 y.4 r.opens;
      is = sym (held_final p t.0 r.finals r.cells) ∙ r.is;
    }
held_by_rules decls slot m n (field_member f ∷ ms) p q e =
    let a = type_of (outside decls) f.value_type in
    let b = opening_of decls a (slot_given decls slot m) in
    let w : CellOwner = owner.Field slot.object n in
    let t = field_there decls slot (m + 1) (n + 1) p q w a b ms e in
    let r = held_by_rules decls slot (m + 1) (n + 1) ms (with_cell p w t.0 t.1) q
    (ap (λ (x : Option core_type.ValueType). with_members decls slot (m + 1) (n + 1) (field_cell p w x (Some t.1)) ms)
    (sym t.2)
    ∙ ap (λ (x : Option Value). with_members decls slot (m + 1) (n + 1) (field_cell p w a x) ms) (sym t.3) ∙ e) in
    let opening : opened decls t.0 (slot_given decls slot m) ≡ Some t.1 =
    ap (λ (x : Option core_type.ValueType). opening_of decls x (slot_given decls slot m)) (sym t.2) ∙ t.3 in
    record {
      finals = r.finals;
      cells = record { owner = w; value_type = t.0; opening = t.1 } ∷ r.cells;
      opens = field_opened t.2 (opened_ruled decls t.0 (slot_given decls slot m) t.1 opening) r.opens;
      is = sym (held_cell p w t.0 t.1 r.finals r.cells) ∙ r.is;
    }

-- the object, with a member of it
abbrev slot_of : InitTarget → ℕ → Slot
slot_of at object = record { pool = at.pool; index = at.index; object = object }

pub rules_held : (decls : List Decl) (object : ℕ) (at : InitTarget) (n : ℕ) (ms : List Member) (os : List ℕ)
    (cs : List Cell) → OpensWith decls object at n ms os cs → (p : core.Program) →
    with_members decls (slot_of at object) at.member n (Some p) ms ≡ Some (with_held p os cs)
rules_held decls object at n ms os cs with_nothing p = ap Some (sym (held_none p))
rules_held decls object at n ms os cs (past_lock {ms = rest} h) p = rules_held decls object (next at) n rest os cs h p
rules_held decls object at n ms os cs (final_opened {o = o} {f = f} {c = c} {ms = rest} {os = fs} e g y h) p =
    let there : referred decls (struct_named decls f.target) (given decls at) ≡ Some o =
    ap (λ (x : Option ℕ). referred decls x (given decls at)) e ∙ ap (referred decls (Some _)) g ∙ referred_is y in
    ap (λ (x : Option ℕ). with_members decls (slot_of at object) (at.member + 1) n (final_cell p x) rest) there
    ∙ rules_held decls object (next at) n rest fs cs h (with_final p o) ∙ ap Some (held_final p o fs cs)
rules_held decls object at n ms os cs (field_opened {f = f} {ms = rest} {cs = ds} {t = t} {v = v} e g h) p =
    let w : CellOwner = owner.Field object n in
    ap (λ (x : Option core_type.ValueType). with_members decls (slot_of at object) (at.member + 1) (n + 1)
    (field_cell p w x (opening_of decls x (given decls at))) rest) e
    ∙ ap (λ (x : Option Value). with_members decls (slot_of at object) (at.member + 1) (n + 1)
    (field_cell p w (Some t) x) rest) (opened_is g)
    ∙ rules_held decls object (next at) (n + 1) rest os ds h (with_cell p w t v) ∙ ap Some (held_cell p w t v os ds)

-- ---- objects, one after another

pub objects_by_rules : (decls : List Decl) (i number : ℕ) (ms : List Member) (n : ℕ) (p q : core.Program) →
    with_objects decls i number ms (Some p) n ≡ Some q → AddObjects decls i number ms n p q
objects_by_rules decls i number ms zero p q e =
    let same : p ≡ q = cc in
    subst (AddObjects decls i number ms zero p) same no_object
objects_by_rules decls i number ms (suc n) p q e =
    let r = bind_got (with_objects decls i number ms (Some p) n) (λ m. with_object decls i number ms n m) q e in
    let m = r.0 in
    let slot : Slot = record { pool = i; index = n; object = length m.objects } in
    let a = bind_got (cell_at (length m.cells))
    (λ cs. final_at (length m.finals) >>= λ fs. with_members decls slot 0 0
    (Some (object_added m number cs fs)) ms) q r.2 in
    let b = bind_got (final_at (length m.finals))
    (λ fs. with_members decls slot 0 0 (Some (object_added m number a.0 fs)) ms) q a.2 in
    let h = held_by_rules decls slot 0 0 ms (object_added m number a.0 b.0) q b.2 in
    subst (AddObjects decls i number ms (suc n) p) h.is
    (one_object_more (objects_by_rules decls i number ms n p m r.1) a.1 b.1 h.opens)

pub rules_objects : (decls : List Decl) (i number : ℕ) (ms : List Member) (n : ℕ) (p q : core.Program) →
    AddObjects decls i number ms n p q → with_objects decls i number ms (Some p) n ≡ Some q
rules_objects decls i number ms n p q no_object = refl
rules_objects decls i number ms n p q
    (one_object_more {n = k} {first_cell = c} {first_final = f} {q = m} {os = os} {cs = cs} before e g h) =
    let slot : Slot = record { pool = i; index = k; object = length m.objects } in
    ap (λ (o : Option core.Program). o >>= λ x. with_object decls i number ms k x)
    (rules_objects decls i number ms k p m before)
    ∙ ap (λ (o : Option ℕ). o >>= λ x. final_at (length m.finals) >>= λ y. with_members decls slot 0 0
    (Some (object_added m number x y)) ms) e
    ∙ ap (λ (o : Option ℕ). o >>= λ y. with_members decls slot 0 0 (Some (object_added m number c y)) ms) g
    ∙ rules_held decls (length m.objects) (target_in slot 0) 0 ms os cs h (object_added m number c f)
