-- Marks stay, and what each step marks is marked in the end.
use Rattle.std.proofs.Common.{◌≡◌, ◌<◌, ◌+◌, ℕ, List, [], ◌∷◌, ◌++◌, Ok, true, Option, Some, None, sym, ap, ◌∙◌, refl}
use Rattle.std.proofs.Common.{subst, inl, inr, take, length, get_or, zero, suc, ◌≤◌, arith, IfSome, is_some}
use Rattle.std.specs.Prelude.{slice_get, nat_le}
use Rattle.std.proofs.lemmas.Bool.Decides.{nat_tests}
use Rattle.std.proofs.lemmas.List.{take_more, map_more}
use Rattle.bit_set.specs.declared.set.BitSet.{BitSet}
use Rattle.core_lang.specs.declared.value.Value.{Value}
use Rattle.core_lang.specs.declared.shape.Shape.{Shape}
use Rattle.core_lang.specs.declared.tree.FieldStep.{FieldStep}
use Rattle.core_lang.specs.declared.tree.FieldStep.TheVariants.{Final, Field}
use Rattle.core_lang.specs.declared.tree.Path.{Path}
use Rattle.core_lang.specs.Cells.{final_value}
use Rattle.outcomes.specs.declared.accesses.Access.{Access}
use Rattle.outcomes.specs.declared.marks.TouchMarks.{TouchMarks}
use Rattle.outcomes.specs.declared.touched.Caller.{Caller}
use Rattle.outcomes.specs.declared.touched.Reached.{Reached}
use Rattle.outcomes.specs.declared.touched.Reached.TheVariants.{Unknown}
use Rattle.outcomes.specs.declared.touched.Touched.{Touched}
use Rattle.outcomes.specs.Footprints.{MayHold, FieldIn}
use Rattle.outcomes.specs.Working.Touches.{Touch, reads_path, writes_field}
use Rattle.outcomes.specs.Working.Listing.{touch_at, touches}
use Rattle.outcomes.specs.Working.Marking.{HaveMore, MarksMore, IsMarked, TouchedMore, TouchIsMarked, EachIsMarked, MayReach}
use Rattle.outcomes.specs.Working.Marking.{WayIsMarked}
use Rattle.outcomes.proofs.Listed.{leads_more, each_more, leads_behind, each_behind}

pub marked_more : (shape : Shape) (marks marks' : TouchMarks) (thread cell : ℕ) → MarksMore marks marks' →
    IsMarked shape marks thread cell → IsMarked shape marks' thread cell
marked_more shape marks marks' thread cell more (inl is) = inl (more.0.1 cell thread is)
marked_more shape marks marks' thread cell more (inr (array, index, e, is)) =
    inr (array, index, e, more.1.1 array thread is)

rows_more : (a b c : List BitSet) → HaveMore a b → HaveMore b c → HaveMore a c
rows_more a b c p q = (q.0 ∙ p.0, λ k t is. q.1 k t (p.1 k t is))

marks_more : (a b c : TouchMarks) → MarksMore a b → MarksMore b c → MarksMore a c
marks_more a b c p q = (
  rows_more a.cells.items b.cells.items c.cells.items p.0 q.0,
  rows_more a.arrays.items b.arrays.items
      c.arrays.items p.1 q.1,
)

pub more_more : (a b c : Touched) → TouchedMore a b → TouchedMore b c → TouchedMore a c
more_more a b c p q =
    (marks_more a.reads b.reads c.reads p.0 q.0, marks_more a.writes b.writes c.writes p.1 q.1)

pub way_more : (caller : Caller) (a b : Touched) (v : Value) (steps : List FieldStep) (reached : Reached) →
    TouchedMore a b →
    WayIsMarked caller a v steps reached → WayIsMarked caller b v steps reached
way_more caller a b v steps reached more is =
    leads_more caller.shape.now caller.arguments.now _ _ _ _
    (λ c m. marked_more caller.shape.now a.reads b.reads caller.thread c more.0 m)
    (λ c m. marked_more caller.shape.now a.writes b.writes caller.thread c more.1 m)
    (MayReach reached) (MayReach reached) v steps (λ w h. h) is

pub each_marked_more : (caller : Caller) (a b : Touched) (xs : List Touch) → TouchedMore a b →
    EachIsMarked caller a xs → EachIsMarked caller b xs
each_marked_more caller a b xs more is =
    each_more caller.shape.now caller.arguments.now _ _ _ _
    (λ c m. marked_more caller.shape.now a.reads b.reads caller.thread c more.0 m)
    (λ c m. marked_more caller.shape.now a.writes b.writes caller.thread c more.1 m)
    xs is

pub way_final : (caller : Caller) (touched : Touched) (base reached : Reached) (step : FieldStep)
    (structure number : ℕ) →
    step ≡ Final structure number →
    ((v w : Value) → MayReach base v → final_value caller.shape.now v number ≡ Ok w → MayReach reached w) →
    (v : Value) → MayReach base v → WayIsMarked caller touched v (step ∷ []) reached
way_final caller touched base reached step structure number is h v m =
    subst (λ s. WayIsMarked caller touched v (s ∷ []) reached) (sym is) (λ w e. h v w m e)

pub way_field : (caller : Caller) (touched : Touched) (base : Reached) (step : FieldStep) (structure number : ℕ) →
    step ≡ Field structure number →
    ((v : Value) → MayReach base v → FieldIn caller.shape.now (IsMarked caller.shape.now touched.reads caller.thread)
    v number) →
    (v : Value) → MayReach base v → WayIsMarked caller touched v (step ∷ []) Unknown
way_field caller touched base step structure number is h v m =
    subst (λ s. WayIsMarked caller touched v (s ∷ []) Unknown) (sym is) (λ cell e. (h v m cell e, λ w. tt))

-- one turn of the loop over fields
pub way_turn : (caller : Caller) (a b : Touched) (local : ℕ) (items : List FieldStep) (i : ℕ) (step : FieldStep)
    (reached next : Reached) →
    TouchedMore a b → i < length items → step ≡ get_or items i step →
    ((v : Value) → MayHold caller.arguments.now local v → WayIsMarked caller a v (take i items) reached) →
    ((w : Value) → MayReach reached w → WayIsMarked caller b w (step ∷ []) next) →
    (v : Value) → MayHold caller.arguments.now local v → WayIsMarked caller b v (take (i + 1) items) next
way_turn caller a b local items i step reached next more lt is way one v holds =
    let front = way_more caller a b v (take i items) reached more (way v holds) in
    let all = leads_behind caller.shape.now caller.arguments.now (IsMarked caller.shape.now b.reads caller.thread)
    (IsMarked caller.shape.now b.writes caller.thread) (MayReach reached) (MayReach next) v (take i items) step
    front one in
    subst (λ l. WayIsMarked caller b v l next) (ap (λ s. take i items ++ s ∷ []) is
    ∙ sym (take_more items i step lt)) all

-- one turn of the loop over accesses
pub touch_turn : (caller : Caller) (a b : Touched) (items : List Access) (i : ℕ) (access : Access) →
    TouchedMore a b → i < length items → access ≡ get_or items i access →
    EachIsMarked caller a (touches (take i items)) → TouchIsMarked caller b (touch_at access) →
    EachIsMarked caller b (touches (take (i + 1) items))
touch_turn caller a b items i access more lt is each one =
    let front = each_marked_more caller a b (touches (take i items)) more each in
    let all = each_behind caller.shape.now caller.arguments.now (IsMarked caller.shape.now b.reads caller.thread)
    (IsMarked caller.shape.now b.writes caller.thread) (touches (take i items)) (touch_at access) front one in
    subst (EachIsMarked caller b) (ap (λ x. touches (take i items) ++ touch_at x ∷ []) is
    ∙ sym (map_more touch_at items i access lt)) all

-- ---- what each access marks

pub touch_is : (caller : Caller) (touched : Touched) (access : Access) (touch : Touch) → touch_at access ≡ touch →
    TouchIsMarked caller touched touch → TouchIsMarked caller touched (touch_at access)
touch_is caller touched access touch e is = subst (TouchIsMarked caller touched) (sym e) is

pub path_told : (caller : Caller) (touched : Touched) (r : Option Reached) (path : Path) →
    IfSome r (λ reached. (v : Value) → MayHold caller.arguments.now path.local v →
    WayIsMarked caller touched v path.fields.items reached) →
    is_some r ≡ true → TouchIsMarked caller touched (reads_path path)
path_told caller touched (Some reached) path told e = λ v holds.
    leads_more caller.shape.now caller.arguments.now (IsMarked caller.shape.now touched.reads caller.thread)
    (IsMarked caller.shape.now touched.writes caller.thread)
    (IsMarked caller.shape.now touched.reads caller.thread)
    (IsMarked caller.shape.now touched.writes caller.thread) (λ c m. m) (λ c m. m) (MayReach reached)
    (λ w. Unit {0}) v path.fields.items (λ w h. tt)
    (told v holds)
path_told caller touched None path told e = let wrong : ⊥ = cc in absurd wrong

pub field_told : (caller : Caller) (a : Touched) (marks : TouchMarks) (base : Reached) (path : Path) (field : ℕ) →
    MarksMore a.writes marks →
    ((v : Value) → MayHold caller.arguments.now path.local v → WayIsMarked caller a v path.fields.items base) →
    ((v : Value) → MayReach base v → FieldIn caller.shape.now (IsMarked caller.shape.now marks caller.thread) v field) →
    TouchIsMarked caller (record { reads = a.reads; writes = marks }) (writes_field path field)
field_told caller a marks base path field more way told = λ v holds.
    leads_more caller.shape.now caller.arguments.now (IsMarked caller.shape.now a.reads caller.thread)
    (IsMarked caller.shape.now a.writes caller.thread) (IsMarked caller.shape.now a.reads caller.thread)
    (IsMarked caller.shape.now marks caller.thread) (λ c m. m)
    (λ c m. marked_more caller.shape.now a.writes marks caller.thread c more m)
    (MayReach base) (λ w. FieldIn caller.shape.now (IsMarked caller.shape.now marks caller.thread) w field) v
    path.fields.items told (way v holds)

pub past : {A : Type 0} (xs : List A) (k : ℕ) → length xs ≤ k → slice_get xs k ≡ None
past [] k le = refl
past (x ∷ xs) zero le = absurd (omega (arith, le))
past (x ∷ xs) (suc k) le = past xs k (omega (arith, le))

pub local_told : {A : Type 0} (xs : List A) (k : ℕ) → nat_le (length xs) k ≡ true → slice_get xs k ≡ None
local_told xs k e = let le : length xs ≤ k = grind (arith, nat_tests) in past xs k le
