-- An accepted program whose helpers are expanded is well formed.
use Rattle.std.proofs.Common.{◌≡◌, ℕ, zero, suc, ◌+◌, ◌<◌, ◌≤◌, List, [], ◌∷◌, ◌++◌, length, map, take, Some, refl, sym}
use Rattle.std.proofs.Common.{ap, ◌∙◌, subst, arith, append_assoc, length-append}
use Rattle.std.specs.Prelude.{slice_get, option_map, ◌≢◌}
use Rattle.std.specs.List.{AllZip}
use Rattle.std.proofs.lemmas.List.{append-nil, length-map}
use Rattle.core_lang.specs.declared.value.Value.{Value}
use Rattle.core_lang.specs.declared.tree.LocalKind.TheVariants.{Parameter, Var}
use Rattle.core_lang.specs.declared.tree.Local.{Local}
use Rattle.core_lang.specs.declared.tree.Section.{Section}
use Rattle.core_lang.specs.declared.typed.Call.{Call}
use Rattle.core_lang.specs.declared.typed.Thread.{Thread}
use Rattle.core_lang.specs.declared.typed.Typed.{Typed}
use Rattle.core_lang.specs.Meaning.{deepest}
use Rattle.core_lang.specs.Scopes.{IsWellScoped}
use Rattle.core_lang.specs.Typing.{local_types, HaveTypes, IsResult, AllWellTyped, IsWellTypedSection}
use Rattle.core_lang.specs.Expansion.{entered, HelpersWritten, IsWrittenOut, IsExpansion}
use Rattle.core_lang.specs.WrittenLocals.{LocalData, local_data, parameter_data, locals_in_all, Brought, brought_by}
use Rattle.core_lang.specs.WrittenLocals.{brought, AreWrittenLocals}
use Rattle.core_lang.specs.Laws.{WrittenOutBindsInOrder}
use Rattle.core_lang.specs.WellFormed.{CanCall, IsChecked, IsWellFormed}
use Rattle.core_lang_helpers.specs.Data.{CallData, call_data, ThreadData, thread_data, IsSameBesides}
use Rattle.core_lang_helpers.proofs.Pairs.{zip_back}
use Rattle.core_lang_helpers.proofs.Limits.{data_there, within_limits}
use Rattle.core_lang_helpers.proofs.Places.{laid_out, protected, opens_typed, have_types}
use Rattle.core_lang_helpers.proofs.Located.{get_past, types_of, NoParameters, none_of_both, none_there}
use Rattle.core_lang_helpers.proofs.Located.{no_parameters, parameters_stand, parameter_there}
use Rattle.core_lang_helpers.proofs.TypedExprs.{result_typed}
use Rattle.core_lang_helpers.proofs.TypedStatements.{BodiesKeep, Ready, all_keep}
use Rattle.core_lang_helpers.proofs.ScopedStatements.{written_out_scoped}
use Rattle.core_lang.specs.Theory.Items.{get_mapped, get_some, same_value}
use Rattle.core_lang.specs.Theory.Openings.{enough_locals}

-- ---- lists

taken_many : {X : Type 0} (xs : List X) (n : ℕ) → n ≤ length xs → length (take n xs) ≡ n
taken_many xs zero le = refl
taken_many [] (suc n) le = absurd (omega (arith, le))
taken_many (x ∷ xs) (suc n) le = ap suc (taken_many xs n (omega (arith, le)))

taken_mapped : {A B : Type 0} (f : A → B) (xs : List A) (n : ℕ) → take n (map f xs) ≡ map f (take n xs)
taken_mapped f xs zero = refl
taken_mapped f [] (suc n) = refl
taken_mapped f (x ∷ xs) (suc n) = ap (λ ys. f x ∷ ys) (taken_mapped f xs n)

taken_front : {X : Type 0} (xs ys : List X) (n : ℕ) → length xs ≡ n → take n (xs ++ ys) ≡ xs
taken_front [] ys zero e = refl
taken_front [] ys (suc n) e = absurd (omega (arith, e))
taken_front (x ∷ xs) ys zero e = absurd (omega (arith, e))
taken_front (x ∷ xs) ys (suc n) e = ap (λ zs. x ∷ zs) (taken_front xs ys n (omega (arith, e)))

types_of_locals : (locals : List Local) → types_of (map local_data locals) ≡ local_types locals
types_of_locals [] = refl
types_of_locals (l ∷ ls) = ap (λ ts. l.value_type ∷ ts) (types_of_locals ls)

not_both : (l : Local) → l.kind ≡ Var → l.kind ≡ Parameter → ⊥
not_both l v is = let e : Var ≡ Parameter = sym v ∙ is in absurd cc

at_least : (p k : ℕ) → p ≤ k → (i : ℕ) × (k ≡ p + i)
at_least zero k le = (k, omega arith)
at_least (suc p) zero le = absurd (omega (arith, le))
at_least (suc p) (suc k) le = let r = at_least p k (omega (arith, le)) in (r.0, let e = r.1 in omega (arith, e))

-- a parameter of what is written out is one of the section
parameter_kind : (section : Section) (k : ℕ) (l : Local) (all here : List LocalData) → k < section.parameters →
    section.parameters ≤ length section.locals.items →
    IsWellScoped section → all ≡ map local_data (take section.parameters section.locals.items) ++ here → slice_get all k ≡ Some (local_data l) → l.kind ≡ Parameter
parameter_kind section k l all here lt le scoped e is =
    let own = section.locals.items in
    let first = get_some own k (omega (arith, lt, le)) in
    let at : 0 + k ≡ k = omega arith in
    let there = parameter_there local_data own all [] here section.parameters k first.0 lt first.1 e in
    let same = same_value (slice_get all k) (local_data l) (local_data first.0) is (ap (slice_get all) (sym at) ∙ there) in
    ap (λ (z : LocalData). z.kind) same ∙ (scoped.kinds k first.0 first.1).0 lt

-- and a further local is none
further_kind : (all front here : List LocalData) (p k : ℕ) (l : Local) → length front ≡ p → p ≤ k →
    all ≡ front ++ here → NoParameters here →
    slice_get all k ≡ Some (local_data l) → l.kind ≢ Parameter
further_kind all front here p k l many low e none is =
    let i = at_least p k low in
    let at : k ≡ length front + i.0 = let j = i.1 in omega (arith, many, j) in
    let there : slice_get here i.0 ≡ Some (local_data l) = sym (get_past front here i.0) ∙ ap (slice_get (front ++ here)) (sym at) ∙ ap (λ (z : List LocalData). slice_get z k) (sym e) ∙ is in
    none_there here i.0 (local_data l) none there

module _ (program program' : Typed) (checked : IsChecked program) (expands : IsExpansion program program') (same : IsSameBesides program program')
    (named : AllZip (AreWrittenLocals program.shape) program.sections.items program'.sections.items) (in_order : WrittenOutBindsInOrder) where
  -- ---- bodies of helpers

  module _ (all : List LocalData) where
    helpers_keep : (depth : ℕ) →
        BodiesKeep program program' all (HelpersWritten program.shape depth) (brought depth program.shape)
    helpers_keep zero helper count first body r fresh front rest inside e is = absurd inside
    helpers_keep (suc depth) helper count first body r fresh front rest (h, found, count_is, (b, w, ends, own, f)) e is =
        let p = h.parameters in
        let locals = h.locals.items in
        let go : Section → Brought = λ (x : Section). record {
          locals = map parameter_data (take x.parameters x.locals.items) ++ locals_in_all (brought depth program.shape) x.locals.items x.body.items;
          result_type = x.result_type;
        } in
        let brings : brought (suc depth) program.shape helper ≡ go h = ap (λ o. brought_by o go) found in
        let brought_is = ap (λ (z : Brought). z.locals) brings in
        let taken : List LocalData = map parameter_data (take p locals) in
        let inner : List LocalData = locals_in_all (brought depth program.shape) locals h.body.items in
        let scoped = checked.helper_scopes helper h found in
        let typed = checked.helpers helper h found in
        let le = enough_locals h scoped in
        let many : length taken ≡ p = length-map (take p locals) parameter_data ∙ taken_many locals p le in
        let at_parameters : all ≡ front ++ (taken ++ (inner ++ rest)) =
        is ∙ ap (λ (z : List LocalData). front ++ (z ++ rest)) brought_is ∙ ap (λ (z : List LocalData). front ++ z) (append_assoc taken inner rest)
        in
        let stands = parameters_stand locals all p p first (omega arith) (λ i lt.
        let l = get_some locals i (omega (arith, lt, le)) in
        let at : first + i ≡ length front + i = omega (arith, e) in
        let here = parameter_there parameter_data locals all front (inner ++ rest) p i l.0 lt l.1 at_parameters in
        (l.0, parameter_data l.0, l.1, ap (slice_get all) at ∙ here, refl, λ v. absurd (not_both l.0 v ((scoped.kinds i l.0 l.1).0 lt))))
        in
        let ready : Ready program program' all expands same (HelpersWritten program.shape depth) (brought depth program.shape) (helpers_keep depth) locals p
        (λ k l here. (scoped.kinds k l here).1) (entered p first) (front ++ taken) =
        record { stands = stands; behind = omega arith; count = omega (arith, e, many, length-append front taken) }
        in
        let keeps = all_keep program program' all expands same (HelpersWritten program.shape depth) (brought depth program.shape) (helpers_keep depth) locals p
        (λ k l here. (scoped.kinds k l here).1) h.body.items (entered p first) b body (front ++ taken) rest ready w typed.body scoped.assigned
        (at_parameters ∙ sym (append_assoc front taken (inner ++ rest)))
        in
        let behind = keeps.fresh in
        let total = ap (λ (z : List LocalData). length z) brought_is in
        record {
          section = h;
          found = found;
          count_is = count_is;
          inner = inner;
          brought_is = brought_is;
          result_is = ap (λ (z : Brought). z.result_type) brings;
          enough = taken_many locals p le;
          fits = keeps.fits;
          result = result_typed program program' expands same locals all b.scope keeps.stands h.result_type h.result r ends typed.result;
          fresh_is = omega (arith, f, behind, total, many, length-append taken inner);
          further = subst NoParameters (sym brought_is) (none_of_both taken inner (no_parameters (take p locals)) keeps.further);
        }

  -- ---- sections

  section_well : (section section' : Section) → IsWellTypedSection program section → IsWellScoped section →
      IsWrittenOut program.shape section section' →
      AreWrittenLocals program.shape section section' → IsWellTypedSection program' section' × IsWellScoped section'
  section_well section section' typed scoped out locals_are =
      let p = section.parameters in
      let own = section.locals.items in
      let all : List LocalData = map local_data section'.locals.items in
      let brings = brought deepest program.shape in
      let front : List LocalData = map local_data (take p own) in
      let here : List LocalData = locals_in_all brings own section.body.items in
      let le = enough_locals section scoped in
      let many : length front ≡ p = length-map (take p own) local_data ∙ taken_many own p le in
      let b = out.body.0 in
      let ends = out.body.2 in
      let last = out.body.4 in
      let stands = parameters_stand own all p p 0 (omega arith) (λ i lt.
      let l = get_some own i (omega (arith, lt, le)) in
      let there = parameter_there local_data own all [] here p i l.0 lt l.1 locals_are in
      (l.0, local_data l.0, l.1, there, refl, λ v. v))
      in
      let kinds : (k : ℕ) (l : Local) → slice_get own k ≡ Some l → p ≤ k → l.kind ≢ Parameter = λ k l is. (scoped.kinds k l is).1 in
      let ready : Ready program program' all expands same (HelpersWritten program.shape deepest) brings (helpers_keep all deepest) own p kinds (entered p 0) front =
      record { stands = stands; behind = omega arith; count = omega (arith, many) }
      in
      let keeps = all_keep program program' all expands same (HelpersWritten program.shape deepest) brings (helpers_keep all deepest) own p kinds
      section.body.items (entered p 0) b section'.body.items front [] ready out.body.1 typed.body scoped.assigned
      (locals_are ∙ ap (λ (z : List LocalData). front ++ z) (sym (append-nil here)))
      in
      let types : types_of all ≡ local_types section'.locals.items = types_of_locals section'.locals.items in
      let result = result_typed program program' expands same own all b.scope keeps.stands section.result_type section.result section'.result ends typed.result in
      let in_scope = written_out_scoped program.shape section section' out in
      let count : section'.parameters ≡ p = out.parameters in
      let there : (k : ℕ) (l : Local) → slice_get section'.locals.items k ≡ Some l → slice_get all k ≡ Some (local_data l) =
      λ k l is. get_mapped local_data section'.locals.items k ∙ ap (option_map local_data) is
      in (
        record {
          body = subst (λ ts. AllWellTyped program' ts section'.body.items) types keeps.fits.typed;
          result = subst (λ t. IsResult program' (local_types section'.locals.items) t section'.result) (sym out.result_type)
              (subst (λ ts. IsResult program' ts section.result_type section'.result) types result);
        },
        record {
          bound = in_order program.shape section section' out;
          kinds = λ k l is. (
            λ lt. parameter_kind section k l all here (omega (arith, lt, count)) le scoped locals_are (there k l is),
            λ low. further_kind all front here p k l many (omega (arith, low, count)) locals_are keeps.further (there k l is),
          );
          assigned = λ k l c is.
              let var = keeps.fits.assigned k c in
              let e = same_value (slice_get all k) (local_data l) var.0 (there k l is) var.1 in
              ap (λ (z : LocalData). z.kind) e ∙ var.2;
          body = in_scope.0;
          result = in_scope.1;
        },
      )

  -- ---- scripts

  can_call : (number : ℕ) (arguments : List Value) → CanCall program number arguments →
      CanCall program' number arguments
  unfolding CanCall
  can_call number arguments (section, is, fit) =
      let found = expands.there number section is in
      let section' = found.0 in
      let local_back = zip_back (AreWrittenLocals program.shape) program.sections.items program'.sections.items named number section' found.1 in
      let one = same_value (slice_get program.sections.items number) local_back.0 section local_back.1 is in
      let locals_are = subst (λ (z : Section). AreWrittenLocals program.shape z section') one local_back.2 in
      let p = section.parameters in
      let own = section.locals.items in
      let le = enough_locals section (checked.scopes number section is) in
      let front : List LocalData = map local_data (take p own) in
      let here : List LocalData = locals_in_all (brought deepest program.shape) own section.body.items in
      let many : length front ≡ p = length-map (take p own) local_data ∙ taken_many own p le in
      let same_front : map local_data (take section'.parameters section'.locals.items) ≡ front =
      ap (λ n. map local_data (take n section'.locals.items)) found.2.parameters ∙ sym (taken_mapped local_data section'.locals.items p)
      ∙ ap (take p) locals_are ∙ taken_front front here p many
      in
      let types : local_types (take p own) ≡ local_types (take section'.parameters section'.locals.items) =
      sym (types_of_locals (take p own)) ∙ ap types_of (sym same_front) ∙ types_of_locals (take section'.parameters section'.locals.items)
      in
      (section', found.1, subst (λ ts. HaveTypes program'.shape ts arguments) types (have_types program program' expands same (local_types (take p own)) arguments fit))

  scripts_fit : (t k : ℕ) (thread : Thread) (call : Call) → slice_get program'.threads.items t ≡ Some thread →
      slice_get thread.calls.items k ≡ Some call →
      CanCall program' call.section call.arguments.items
  scripts_fit t k thread call is has =
      let found = data_there thread_data program.threads.items program'.threads.items t thread same.threads is in
      let calls = ap (λ (d : ThreadData). d.calls) found.2 in
      let mine = data_there call_data found.0.calls.items thread.calls.items k call calls has in
      let can = can_call mine.0.section mine.0.arguments.items (checked.scripts t k found.0 mine.0 found.1 mine.1) in
      subst (λ n. CanCall program' n call.arguments.items) (sym (ap (λ (d : CallData). d.section) mine.2))
      (subst (λ vs. CanCall program' mine.0.section vs) (sym (ap (λ (d : CallData). d.arguments) mine.2)) can)

  -- ---- the whole

  one_well : (k : ℕ) (section' : Section) → slice_get program'.sections.items k ≡ Some section' →
      IsWellTypedSection program' section' × IsWellScoped section'
  one_well k section' is =
      let found = expands.back k section' is in
      let section = found.0 in
      let local_back = zip_back (AreWrittenLocals program.shape) program.sections.items program'.sections.items named k section' is in
      let one = same_value (slice_get program.sections.items k) local_back.0 section local_back.1 found.1 in
      let locals_are = subst (λ (z : Section). AreWrittenLocals program.shape z section') one local_back.2 in
      section_well section section' (checked.sections k section found.1) (checked.scopes k section found.1) found.2 locals_are

  pub well_formed : IsWellFormed program'
  well_formed = record {
    within = within_limits program program' checked expands same named;
    laid_out = laid_out program program' expands same checked.laid_out;
    protected = protected program program' expands same checked.protected;
    opens = opens_typed program program' expands same checked.opens;
    sections = λ k section' is. (one_well k section' is).0;
    scopes = λ k section' is. (one_well k section' is).1;
    helpers = expands.helpers;
    scripts = scripts_fit;
  }
