-- The address of a lock path is that of the lock that it names, wherever its root leads.
use Rattle.std.proofs.Common.{◌≡◌, ℕ, zero, suc, ◌+◌, List, [], ◌∷◌, ◌++◌, Option, Some, None, ◌⊎◌, inl, inr, refl}
use Rattle.std.proofs.Common.{sym, ap, ◌∙◌, subst}
use Rattle.std.specs.Prelude.{slice_get}
use Rattle.std.specs.Option.{option_map, option_map_or}
use Rattle.std.specs.List.{Contains}
use Rattle.std.proofs.lemmas.Option.{none-some, same_Some}
use Rattle.core_lang.specs.declared.value.Value.{Value}
use Rattle.core_lang.specs.declared.value.Value.TheVariants.{Int, Ref}
use Rattle.core_lang.specs.declared.value.ValueType.{ValueType}
use Rattle.core_lang.specs.declared.value.ValueType.TheVariants.{Integer, Reference}
use Rattle.core_lang.specs.declared.shape.Array.{Array}
use Rattle.core_lang.specs.declared.shape.Object.{Object}
use Rattle.core_lang.specs.declared.tree.FieldStep.{FieldStep}
use Rattle.core_lang.specs.declared.tree.FieldStep.TheVariants.{Final, Field}
use Rattle.core_lang.specs.declared.tree.Expr.{Expr, Number, Null, Place, Global, Element', Member', Negate', Owned'}
use Rattle.core_lang.specs.declared.tree.Expr.{Chain'}
use Rattle.core_lang.specs.declared.tree.Action.{Bind, SetLocal, SetGlobal, SetElement, SetField, Call, Print, If'}
use Rattle.core_lang.specs.declared.tree.Action.{IfElse', While'}
use Rattle.core_lang.specs.declared.tree.Section.{Section}
use Rattle.core_lang.specs.declared.typed.LockClass.{LockClass}
use Rattle.core_lang.specs.declared.typed.LockClass.TheVariants as class
use Rattle.core_lang.specs.declared.typed.Field.{Field as FieldOf}
use Rattle.core_lang.specs.declared.typed.Protection.{Protection}
use Rattle.core_lang.specs.declared.typed.Struct.{Struct}
use Rattle.core_lang.specs.declared.typed.Cell.{Cell}
use Rattle.core_lang.specs.declared.typed.Typed.{Typed}
use Rattle.core_lang.specs.Typing.{final_target, lookup, struct_of, local_types, HasType, HaveTypes, LeadsTo, IsOf}
use Rattle.core_lang.specs.Typing.{GivesLocal}
use Rattle.core_lang.specs.WellFormed.{IsWellFormed, FinalsLead, EndsAt}
use Rattle.core_lang.specs.Theory.Items.{in_first, in_rest, lookup_some, map_some, contains_at}
use Rattle.flow.specs.Points.{Point, statement, result, points}
use Rattle.flow.specs.Theory.Each.{each_there}
use Rattle.flow.specs.Theory.PointTypes.{IsTypedPoint, points_typed}
use Rattle.locks.specs.declared.lock.Lock.{Lock}
use Rattle.locks.specs.declared.path.Root.{Root}
use Rattle.locks.specs.declared.path.Root.TheVariants.{GlobalLock, WholeClass, Local as AtLocal}
use Rattle.locks.specs.Accesses.{Target, global, element, field, accesses_at}
use Rattle.locks.specs.Faults.{HasSection}
use Rattle.locks.specs.Locks.{final_of, led_to, protection_of}
use Rattle.locks.specs.LockPaths.{LockPath, StablePath, Binding, all_final, stable, stable_value, OwnerPath, owner_of}
use Rattle.locks.specs.LockPaths.{extended, binding_at, bindings, all_replaced, global_path, lock_paths}
use Rattle.locks.specs.LockPaths.{class_if_global, target_path, lock_path, named, object_at, one_or_none, locks_from, locks_named, Uses}
use Rattle.locks.specs.Working.Laws.{UsedAreListed}
use Rattle.locks.proofs.Lists.{from_filter_map, each_at}
use Rattle.locks.proofs.Normal.{if_none, stable_parts, Replaces, other, by_owner, no_path, by_path, past_parts}
use Rattle.locks.proofs.Normal.{replaces}
use Rattle.locks.proofs.InScope.{IsFieldPath, of_global, of_whole, of_object, field_path}
use Rattle.locks.proofs.TypedAccesses.{LeadsFrom, IsTypedTarget, IsTyped, accesses_typed}
use Rattle.locks.proofs.Finals.{final_there}
use Rattle.worlds.specs.Asking.{locks_numbered}
use Rattle.code.specs.Memory.{load_held, store_held}
use Rattle.c_language.specs.Meaning.{pointer_in}
use Rattle.c_language.specs.Meaning.{final_target as c_target}
use Rattle.c_threads.proofs.ClassRuns.{first_of}
use Rattle.c_threads.proofs.Whole.{IsWhole}
use Rattle.c_threads.specs.Locking.{followed, address_from, address_by, address, address_at}

first_is : (o : Option Lock) → first_of (one_or_none o) ≡ o
first_is None = refl
first_is (Some l) = refl

-- ---- where a stable path leads

module _ (program : Typed) (types : List ValueType) where
  -- the path begins at a local of a reference type, and its finals lead to the struct `s`
  record IsTo (path : StablePath) (s : ℕ) : Type 0 where
    from : ℕ
    root : slice_get types path.root ≡ Some (Reference from)
    leads : FinalsLead program from path.finals s

  finals_append : (xs ys : List ℕ) (a b c : ℕ) → FinalsLead program a xs b → FinalsLead program b ys c →
      FinalsLead program a (xs ++ ys) c
  finals_append [] ys a b c h k = subst (λ n. FinalsLead program n ys c) (sym h) k
  finals_append (x ∷ xs) ys a b c h k = (h.0, h.1, finals_append xs ys h.0 b c h.2 k)

  -- fields that are all final lead from one struct to another
  record AreTo (from : ValueType) (finals : List ℕ) (s : ℕ) : Type 0 where
    start : ℕ
    is : from ≡ Reference start
    leads : FinalsLead program start finals s

  same_struct : (a b : ℕ) → Reference a ≡ Reference b → a ≡ b
  same_struct a b e = cc e

  finals_lead : (fields : List FieldStep) (finals : List ℕ) (from : ValueType) (s : ℕ) →
      all_final fields ≡ Some finals →
      LeadsTo program types from fields (Reference s) → AreTo from finals s
  finals_lead [] finals from s e h =
      let none : [] ≡ finals = cc e in
      record { start = s; is = h; leads = subst (λ fs. FinalsLead program s fs s) none refl }
  finals_lead (x ∷ fields) finals Integer s e h = absurd h
  finals_lead (Field k f ∷ fields) finals (Reference r) s e h = absurd (none-some finals e)
  finals_lead (Final k f ∷ fields) finals (Reference r) s e h =
      let rest = map_some (λ fs. f ∷ fs) (all_final fields) finals e in
      let more = finals_lead fields rest.0 (Reference h.1) s rest.1 h.3 in
      let same : h.1 ≡ more.start = same_struct h.1 more.start more.is in
      record {
        start = r;
        is = refl;
        leads = subst (λ fs. FinalsLead program r fs s) rest.2 (h.1, h.2, subst (λ n. FinalsLead program n rest.0 s) (sym same) more.leads);
      }

module _ (program : Typed) (section : Section) where
  abbrev types : List ValueType
  types = local_types section.locals.items

  abbrev Leads : StablePath → ℕ → Type 0
  Leads path s = IsTo program types path s

  of_base : (local : ℕ) (base : List FieldStep) (path : StablePath) (s : ℕ) → stable section local base ≡ Some path →
      LeadsFrom program types local base (Reference s) → Leads path s
  of_base local base path s e h =
      let parts = stable_parts section local base path e in
      let to = finals_lead program types base path.finals h.0 s parts.finals h.2 in
      record {
        from = to.start;
        root = ap (slice_get types) parts.root ∙ (h.1 ∙ ap (λ (t : ValueType). Some t) to.is);
        leads = to.leads;
      }

  -- the initialiser of a local of a reference type
  of_value : (e : Expr) (path : StablePath) (s : ℕ) → stable_value section e ≡ Some path →
      IsOf program types e (Reference s) → Leads path s
  of_value (Number n) path s e h = absurd (none-some path e)
  of_value Null path s e h = absurd (none-some path e)
  of_value (Place p) path s e h =
      of_base p.local p.fields.items path s (if_none p.in_parentheses (stable section p.local p.fields.items) path e) h
  of_value (Global start cell) path s e h = absurd (none-some path e)
  of_value (Element' start array p index) path s e h = absurd (none-some path e)
  of_value (Member' pool p index) path s e h = absurd (none-some path e)
  of_value (Negate' p x) path s e h = absurd (none-some path e)
  of_value (Owned' p e k f start j) path s is h = of_value e path s is h.1
  of_value (Chain' p first m rest) path s e h = absurd (none-some path e)

  -- the owner that a `where` names
  of_owner : (e : Expr) (owner : OwnerPath) (s : ℕ) → owner_of section e ≡ Some owner →
      IsOf program types e (Reference s) →
      (target : ℕ) × (final_target program s owner.final ≡ Some target) × Leads owner.path target
  of_owner (Number n) owner s is h = absurd (none-some owner is)
  of_owner Null owner s is h = absurd (none-some owner is)
  of_owner (Place p) owner s is h = absurd (none-some owner is)
  of_owner (Global start cell) owner s is h = absurd (none-some owner is)
  of_owner (Element' start array p index) owner s is h = absurd (none-some owner is)
  of_owner (Member' pool p index) owner s is h = absurd (none-some owner is)
  of_owner (Negate' p x) owner s is h = absurd (none-some owner is)
  of_owner (Owned' p e k f start j) owner s is h =
      let m = map_some (λ (path : StablePath). record { final = f; path = path }) (stable section j []) owner is in
      let final_is : f ≡ owner.final = ap (λ (o : OwnerPath). o.final) m.2 in
      let path_is : m.0 ≡ owner.path = ap (λ (o : OwnerPath). o.path) m.2 in (
        h.2.0,
        ap (final_target program s) (sym final_is) ∙ h.2.1,
        subst (λ (z : StablePath). Leads z h.2.0) path_is (of_base j [] m.0 h.2.0 m.1 (Reference h.2.0, h.2.2, refl)),
      )
  of_owner (Chain' p first m rest) owner s is h = absurd (none-some owner is)

  -- an initialiser has the type of its local; a null that stands for a helper's value is exempt
  abbrev IsTypedBinding : Binding → Type 0
  IsTypedBinding b = (b.value ≡ Null) ⊎ GivesLocal program types b.local b.value

  typed_value : (b : Binding) (path : StablePath) → IsTypedBinding b → stable_value section b.value ≡ Some path →
      GivesLocal program types b.local b.value
  typed_value b path (inl e) is = absurd (none-some path (ap (stable_value section) (sym e) ∙ is))
  typed_value b path (inr h) is = h

  typed_owner : (b : Binding) (owner : OwnerPath) → IsTypedBinding b → owner_of section b.value ≡ Some owner →
      GivesLocal program types b.local b.value
  typed_owner b owner (inl e) is = absurd (none-some owner (ap (owner_of section) (sym e) ∙ is))
  typed_owner b owner (inr h) is = h

  after_one : (b : Binding) (path path' : StablePath) (s : ℕ) → IsTypedBinding b → Leads path s →
      Replaces section b path path' → Leads path' s
  after_one b path path' s typed to (other n) = to
  after_one b path path' s typed to (no_path same n none) = to
  after_one b path path' s maybe to (by_owner owner q same is past) =
      let typed = typed_owner b owner maybe is in
      let both : Some typed.0 ≡ Some (Reference to.from) = sym typed.1 ∙ (ap (slice_get types) same ∙ to.root) in
      let type_is : typed.0 ≡ Reference to.from = same_Some typed.0 (Reference to.from) both in
      let parts = past_parts owner path.finals path' past in
      let first = of_owner b.value owner to.from is (subst (IsOf program types b.value) type_is typed.2) in
      let leads : FinalsLead program to.from (owner.final ∷ parts.rest) s = subst (λ fs. FinalsLead program to.from fs s) parts.front to.leads in
      let one : leads.0 ≡ first.0 = same_Some leads.0 first.0 (sym leads.1 ∙ first.1) in
      let rest : FinalsLead program first.0 parts.rest s = subst (λ n. FinalsLead program n parts.rest s) one leads.2 in
      let there : Leads (record { root = owner.path.root; finals = owner.path.finals ++ parts.rest }) s =
      record { from = first.2.from; root = first.2.root; leads = finals_append program types owner.path.finals parts.rest first.2.from first.0 s first.2.leads rest } in
      subst (λ (z : StablePath). Leads z s) (sym parts.path_is) there
  after_one b path path' s maybe to (by_path q same n is) =
      let typed = typed_value b q maybe is in
      let both : Some typed.0 ≡ Some (Reference to.from) = sym typed.1 ∙ (ap (slice_get types) same ∙ to.root) in
      let type_is : typed.0 ≡ Reference to.from = same_Some typed.0 (Reference to.from) both in
      let first = of_value b.value q to.from is (subst (IsOf program types b.value) type_is typed.2) in
      record { from = first.from; root = first.root; leads = finals_append program types q.finals path.finals first.from to.from s first.leads to.leads }

  after_all : (bs : List Binding) (path : StablePath) (s : ℕ) → ((b : Binding) → Contains bs b → IsTypedBinding b) →
      Leads path s →
      Leads (all_replaced section bs path) s
  after_all [] path s typed to = to
  after_all (b ∷ bs) path s typed to =
      after_one b (all_replaced section bs path) (all_replaced section (b ∷ bs) path) s (typed b (in_first b bs))
      (after_all bs path s (λ c at. typed c (in_rest b c bs at)) to) (replaces section b (all_replaced section bs path))

  binding_typed : (point : Point) (b : Binding) → IsTypedPoint program types point → binding_at point ≡ Some b →
      IsTypedBinding b
  binding_typed (statement start (Bind k e)) b h is =
      let same : record { local = k; value = e } ≡ b = cc is in subst IsTypedBinding same (inr h)
  binding_typed (statement start (SetLocal k e)) b h is = absurd (none-some b is)
  binding_typed (statement start (SetGlobal c e)) b h is = absurd (none-some b is)
  binding_typed (statement start (SetElement a i e)) b h is = absurd (none-some b is)
  binding_typed (statement start (SetField p s f e)) b h is = absurd (none-some b is)
  binding_typed (statement start (Call i es None)) b h is = absurd (none-some b is)
  binding_typed (statement start (Call i es (Some k))) b h is =
      let same : record { local = k; value = Null } ≡ b = cc is in subst IsTypedBinding same (inl refl)
  binding_typed (statement start (Print e)) b h is = absurd (none-some b is)
  binding_typed (statement start (If' c m a)) b h is = absurd (none-some b is)
  binding_typed (statement start (IfElse' c m a k o)) b h is = absurd (none-some b is)
  binding_typed (statement start (While' c m a)) b h is = absurd (none-some b is)
  binding_typed (result r) b h is = absurd (none-some b is)

  module _ (well : IsWellFormed program) where
    behind_protection : (path : StablePath) (p : Protection) (s to l : ℕ) → Leads path s →
        EndsAt program s p.through.items (class.Field to l) →
        Leads (record { root = path.root; finals = path.finals ++ p.through.items }) to
    behind_protection path p s to l leads ends = record {
      from = leads.from;
      root = leads.root;
      leads = finals_append program types path.finals p.through.items leads.from s to leads.leads ends.1;
    }

    -- the lock that protects a field of a struct
    ends_at : (s f : ℕ) (p : Protection) (c : LockClass) → protection_of program s f ≡ Some p →
        slice_get program.classes.items p.class ≡ Some c →
        EndsAt program s p.through.items c
    ends_at s f p c e is =
        let x = lookup_some (slice_get program.structs.items s) (λ (x : Struct). lookup (slice_get x.fields.items f) (λ (y : FieldOf). Some y.protection)) p e in
        let y = lookup_some (slice_get x.0.fields.items f) (λ (y : FieldOf). Some y.protection) p x.2 in
        let same : y.0.protection ≡ p = same_Some y.0.protection p y.2 in
        let has = well.protected.field s f x.0 y.0 x.1 y.1 in
        let class_is : slice_get program.classes.items p.class ≡ Some has.0 =
        ap (λ (q : Protection). slice_get program.classes.items q.class) (sym same) ∙ has.1 in
        let one : has.0 ≡ c = same_Some has.0 c (sym class_is ∙ is) in
        subst (λ (q : Protection). EndsAt program s q.through.items c) same (subst (EndsAt program s y.0.protection.through.items) one has.2)

    bindings_typed : IsWellFormed program → (k : ℕ) → slice_get program.sections.items k ≡ Some section →
        (b : Binding) →
        Contains (bindings section) b → IsTypedBinding b
    bindings_typed ok k here b c =
        let x = from_filter_map binding_at (points section) b c in
        let all = points_typed program section (ok.sections k section here) in
        binding_typed x.0 b (each_at (IsTypedPoint program types) (points section) x.0 all x.1) x.2

    -- a root, and finals that lead on from it
    abbrev LeadsBy : Root → List ℕ → Type 0
    LeadsBy GlobalLock finals = Unit {0}
    LeadsBy (WholeClass s) finals = Unit {0}
    LeadsBy (AtLocal r) finals = (s : ℕ) × Leads (record { root = r; finals = finals }) s

    abbrev Led : LockPath → Type 0
    Led path = LeadsBy path.root path.finals

    of_field : (k local s f : ℕ) (base : List FieldStep) (p : Protection) (path : LockPath) →
        slice_get program.sections.items k ≡ Some section → protection_of program s f ≡ Some p →
        LeadsFrom program types local base (Reference s) → IsFieldPath program section local base p path → Led path
    of_field k local s f base p path here protects from (of_global c is single e) = subst Led (sym e) tt
    of_field k local s f base p path here protects from (of_whole t l is listed e) = subst Led (sym e) tt
    of_field k local s f base p path here protects from (of_object to l q is stable_is e) =
        let first = of_base local base q s stable_is from in
        let whole = behind_protection q p s to l first (ends_at s f p (class.Field to l) protects is) in
        let last = after_all (bindings section) (extended q p) to (bindings_typed well k here) whole in
        subst Led (sym e) (to, last)

    of_target : (k : ℕ) (target : Target) (path : LockPath) → slice_get program.sections.items k ≡ Some section →
        IsTypedTarget program types target → target_path program section target ≡ Some path → Led path
    of_target k (global cell) path here typed e =
        let x = lookup_some (slice_get program.cells.items cell) (λ (y : Cell). option_map global_path (class_if_global program y.owner)) path e in
        let y = map_some global_path (class_if_global program x.0.owner) path x.2 in
        subst Led y.2 tt
    of_target k (element array) path here typed e =
        let x = lookup_some (slice_get program.shape.arrays.items array) (λ (y : Array). Some (global_path y.class)) path e in
        subst Led (same_Some (global_path x.0.class) path x.2) tt
    of_target k (field local base s f) path here typed e =
        let x = field_path program section local s f base path e in
        of_field k local s f base x.0 path here x.1 typed.0 x.2

    led_used : (p : ℕ) (path : LockPath) → HasSection program section → Uses program section p path → Led path
    led_used p path has (point, here, c) =
        let a = from_filter_map (lock_path program section) (accesses_at point) path c in
        let all = points_typed program section (well.sections has.0 section has.1) in
        let point_typed = each_there (IsTypedPoint program types) (points section) p point all here in
        let typed = each_at (IsTyped program types) (accesses_at point) a.0 (accesses_typed program types point point_typed) a.1 in
        of_target has.0 a.0.target path has.1 typed a.2

    -- ---- the address to which a path leads

    followed_is : (finals : List ℕ) (o s to : ℕ) → struct_of program.shape o ≡ Some s → FinalsLead program s finals to →
        (n : ℕ) × (followed program.shape (Some o) finals ≡ Some n) × (led_to program.shape o finals ≡ Some n)
    followed_is [] o s to h l = (o, refl, refl)
    followed_is (f ∷ finals) o s to h l =
        let shape = program.shape in
        let x = final_there program well.laid_out o s f l.0 h l.1 in
        let rest = followed_is finals x.named_one l.0 to x.struct_is l.2 in
        let first : final_of shape o f ≡ Some x.named_one =
        ap (λ (r : Option Object). lookup r (λ (y : Object). slice_get shape.finals.items (y.finals + f))) x.here ∙ x.names in
        let target : c_target load_held store_held shape (Some o) f ≡ Some (Ref (Some x.named_one)) =
        ap (λ (r : Option Object). lookup r (λ (y : Object). lookup (slice_get shape.finals.items (y.finals + f)) (λ t. Some (Ref (Some t))))) x.here
        ∙ ap (λ (r : Option ℕ). lookup r (λ t. Some (Ref (Some t)))) x.names in (
          rest.0,
          ap (λ v. lookup (pointer_in v) (λ r. followed shape r finals)) target ∙ rest.1,
          ap (λ (r : Option ℕ). lookup r (λ m. led_to shape m finals)) first ∙ rest.2,
        )

    typed_local : (ts : List ValueType) (vs : List Value) (i : ℕ) (t : ValueType) → HaveTypes program.shape ts vs →
        slice_get ts i ≡ Some t → (v : Value) × (slice_get vs i ≡ Some v) × HasType program.shape t v
    typed_local [] vs i t h e = absurd (none-some t e)
    typed_local (t1 ∷ ts) [] i t h e = absurd h
    typed_local (t1 ∷ ts) (v1 ∷ vs) zero t h e =
        let one : t1 ≡ t = cc e in (v1, refl, subst (λ x. HasType program.shape x v1) one h.0)
    typed_local (t1 ∷ ts) (v1 ∷ vs) (suc i) t h e = typed_local ts vs i t h.1 e

    module _ (locals : List Value) (have : HaveTypes program.shape types locals) where
      abbrev made : ℕ → ℕ → Lock
      made class o = record { class = class; object = o }

      -- the address and the lock, by the value of the root
      by_value : (path : LockPath) (from s : ℕ) (v : Value) → HasType program.shape (Reference from) v →
          FinalsLead program from path.finals s →
          lookup (pointer_in (Some v)) (address_from program.shape path)
          ≡ Some (option_map (made path.class) (lookup (named v) (λ o. led_to program.shape o path.finals)))
      by_value path from s (Int n) h l = absurd h
      by_value path from s (Ref None) h l = refl
      by_value path from s (Ref (Some o)) h l =
          let r = followed_is path.finals o from s h l in
          ap (λ (x : Option ℕ). lookup x (λ owner. Some (Some (made path.class owner)))) r.1
          ∙ sym (ap (λ x. Some (option_map (made path.class) x)) r.2)

      by_root : (path : LockPath) (root : Root) → LeadsBy root path.finals →
          (IsWhole root → ⊥) →
          address_by program.shape locals root path ≡ Some (first_of (locks_from root path.finals path.class program.shape locals))
      by_root path GlobalLock led not = refl
      by_root path (WholeClass s) led not = absurd (not (s, refl))
      by_root path (AtLocal r) led not =
          let v = typed_local types locals r (Reference led.1.from) have led.1.root in
          ap (λ o. lookup (pointer_in o) (address_from program.shape path)) v.1
          ∙ by_value path led.1.from led.0 v.0 v.2 led.1.leads
          ∙ sym (ap (λ (o : Option Value). Some (option_map (made path.class)
          (lookup o (λ w. lookup (named w) (λ n. led_to program.shape n path.finals))))) v.1)
          ∙ ap (λ o. Some o) (sym (first_is (option_map (made path.class) (object_at program.shape locals r path.finals))))

      -- the same for each lock path of the section
      pub addressed : UsedAreListed → HasSection program section → (k : ℕ) (path : LockPath) →
          slice_get (lock_paths program section) k ≡ Some path → (IsWhole path.root → ⊥) →
          address_at program section locals k ≡ Some (first_of (locks_numbered program section locals k))
      addressed listed has k path e not =
          let used = (listed program section path).0 (contains_at (lock_paths program section) k path e) in
          ap (λ (o : Option LockPath). lookup o (address program.shape locals)) e
          ∙ by_root path path.root (led_used used.0 path has used.1) not
          ∙ sym (ap (λ (o : Option LockPath). Some (first_of (option_map_or (λ (p : LockPath). locks_named p program.shape locals) o []))) e)
