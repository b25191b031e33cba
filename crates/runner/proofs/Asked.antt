use Rattle.std.specs.Prelude.{◌≡◌, ◌+◌, ◌<◌, ◌≤◌, ℕ, zero, suc, ◌-◌, get_or, Bool, true, false, if◌then◌else◌, List, []}
use Rattle.std.specs.Prelude.{◌∷◌, ◌++◌, length, drop, map, slice_get, unwrap_or, Option, Some, None, Vec}
use Rattle.std.specs.Prelude.{◌==◌}
use Rattle.std.specs.Option.{option_map, option_map_or}
use Rattle.std.specs.List.{flat_map, range_with_len}
use Rattle.std.proofs.Common.{refl, sym, ap, ◌∙◌, subst, arith}
use Rattle.std.proofs.lemmas.List.{map-append}
use Rattle.std.proofs.lemmas.Option.{slice_get-map, slice_get_within}
use Rattle.core_lang.specs.declared.shape.Pool.{Pool}
use Rattle.core_lang.specs.declared.value.Value.{Value}
use Rattle.core_lang.specs.declared.tree.Section.{Section}
use Rattle.core_lang.specs.Theory.Items.{get_some}
use Rattle.locks.specs.declared.lock.Lock.{Lock}
use Rattle.locks.specs.declared.path.LockPath as written
use Rattle.locks.specs.LockPaths.{LockPath, lock_path_of, locks_named}
use Rattle.locks.specs.Locks.{object_lock, members_if, same_lock, among}
use Rattle.lockpaths.specs.declared.table.SectionPaths.{SectionPaths}
use Rattle.lockpaths.specs.declared.table.Paths.{Paths}
use Rattle.lockpaths.specs.Paths.{ArePaths}
use Rattle.lowering.specs.Plans.{Plan}
use Rattle.worlds.specs.Asking.{insert, insert_new, insert_all, locks_numbered, to_ask}
use Rattle.locks.specs.Order.{precedes}
use Rattle.code.specs.Lowering.{lists_at}
use Rattle.code.specs.Working.NumberLists.{number_lists}
use Rattle.worlds.specs.Worlds.{section_at, locks_before}
use Rattle.runner.specs.Working.Asked.{locks_at, asked_at}

-- if one of two lists of equal length has no item at a place, the other has none there
pub not_there : {X Y : Type 0} (xs : List X) (ys : List Y) (i : ℕ) → length xs ≡ length ys → slice_get xs i ≡ None →
    slice_get ys i ≡ None
not_there [] [] i e n = refl
not_there [] (y ∷ ys) i e n = absurd (omega arith)
not_there (x ∷ xs) [] i e n = refl
not_there (x ∷ xs) (y ∷ ys) zero e n = absurd (cc)
not_there (x ∷ xs) (y ∷ ys) (suc i) e n = not_there xs ys i (omega arith) n

-- if one of the lists has an item at a place, so has the other
pub also_there : {X Y : Type 0} (xs : List X) (ys : List Y) (i : ℕ) (x : X) → length xs ≡ length ys →
    slice_get xs i ≡ Some x →
    (y : Y) × (slice_get ys i ≡ Some y)
also_there xs ys i x e at = get_some ys i (omega (arith, slice_get_within xs i x at))

map_or-map : {A B : Type 0} (f : A → B) (o : Option A) (go : B → List Lock) →
    option_map_or go (option_map f o) [] ≡ option_map_or (λ x. go (f x)) o []
map_or-map f (Some a) go = refl
map_or-map f None go = refl

pub no_section : (plan : Plan) (k : ℕ) (locals : List Value) (i : ℕ) (found : Paths) → ArePaths plan.program found →
    slice_get found.sections.items k ≡ None → locks_at plan k locals i ≡ []
no_section plan k locals i found are none =
    let e : section_at plan k ≡ None = not_there found.sections.items plan.program.sections.items k are.sections none in
    ap (λ (o : Option Section). option_map_or (λ (section : Section). locks_numbered plan.program section locals i) o []) e

-- the locks that a path as the code has it names
abbrev locks_by : Plan → List Value → written.LockPath → List Lock
locks_by plan locals path = locks_named (lock_path_of path) plan.program.shape locals

-- the locks are those of the path at the number
pub locks_found : (plan : Plan) (k : ℕ) (locals : List Value) (i : ℕ) (found : Paths) (x : SectionPaths) →
    ArePaths plan.program found →
    slice_get found.sections.items k ≡ Some x →
    locks_at plan k locals i ≡ option_map_or (locks_by plan locals) (slice_get x.paths.items i) []
locks_found plan k locals i found x are at =
    let section = also_there found.sections.items plan.program.sections.items k x are.sections at in
    let paths = are.each k section.0 x section.1 at in
    let go : LockPath → List Lock = λ (path : LockPath). locks_named path plan.program.shape locals in
    ap (λ (o : Option Section). option_map_or (λ (s : Section). locks_numbered plan.program s locals i) o []) section.1
    ∙ sym (ap (λ (ps : List LockPath). option_map_or go (slice_get ps i) []) paths.paths)
    ∙ ap (λ (o : Option LockPath). option_map_or go o []) (slice_get-map lock_path_of x.paths.items i)
    ∙ map_or-map lock_path_of (slice_get x.paths.items i) go

pub no_path : (plan : Plan) (k : ℕ) (locals : List Value) (i : ℕ) (found : Paths) (x : SectionPaths) →
    ArePaths plan.program found →
    slice_get found.sections.items k ≡ Some x → slice_get x.paths.items i ≡ None → locks_at plan k locals i ≡ []
no_path plan k locals i found x are at none =
    locks_found plan k locals i found x are at
    ∙ ap (λ (o : Option written.LockPath). option_map_or (locks_by plan locals) o []) none

pub of_path : (plan : Plan) (k : ℕ) (locals : List Value) (i : ℕ) (found : Paths) (x : SectionPaths) (path : written.LockPath) →
    ArePaths plan.program found → slice_get found.sections.items k ≡ Some x → slice_get x.paths.items i ≡ Some path →
    locks_at plan k locals i ≡ locks_named (lock_path_of path) plan.program.shape locals
of_path plan k locals i found x path are at some =
    locks_found plan k locals i found x are at
    ∙ ap (λ (o : Option written.LockPath). option_map_or (locks_by plan locals) o []) some

-- ---- one more lock path

more_of : (plan : Plan) (o : Option Section) (held : List Lock) (locals : List Value) (i : ℕ) (is : List ℕ) →
    option_map_or (λ (s : Section). to_ask plan.program s plan.ranks held locals (i ∷ is)) o []
    ≡ insert_all plan.ranks held (option_map_or (λ (s : Section). locks_numbered plan.program s locals i) o [])
    (option_map_or (λ (s : Section). to_ask plan.program s plan.ranks held locals is) o [])
more_of plan (Some s) held locals i is = refl
more_of plan None held locals i is = refl

pub drop_at : {X : Type 0} (xs : List X) (j : ℕ) (d : X) → j < length xs → drop j xs ≡ get_or xs j d ∷ drop (j + 1) xs
drop_at [] j d lt = absurd (omega arith)
drop_at (x ∷ xs) zero d lt = refl
drop_at (x ∷ xs) (suc j) d lt =
    drop_at xs j d (omega arith)
    ∙ ap (λ n. get_or xs j d ∷ drop n (x ∷ xs)) (let e : suc (j + 1) ≡ suc j + 1 = omega arith in e)

-- the list from the one before on
pub one_more : (plan : Plan) (k : ℕ) (held : List Lock) (locals : List Value) (list : List ℕ) (left : ℕ) → 0 < left →
    left ≤ length list →
    asked_at plan k held locals (drop (left - 1) list)
    ≡ insert_all plan.ranks held (locks_at plan k locals (get_or list (left - 1) 0)) (asked_at plan k held locals (drop left list))
one_more plan k held locals list left some le =
    let j = left - 1 in
    let e : j + 1 ≡ left = omega arith in
    ap (asked_at plan k held locals) (drop_at list j 0 (omega arith))
    ∙ more_of plan (section_at plan k) held locals (get_or list j 0) (drop (j + 1) list)
    ∙ ap (λ n. insert_all plan.ranks held (locks_at plan k locals (get_or list j 0)) (asked_at plan k held locals (drop n list))) e

-- ---- no lock is taken out again

longer_if : (b : Bool) (xs ys : List Lock) (n : ℕ) → n ≤ length xs → n ≤ length ys → n ≤ length (if b then xs else ys)
longer_if true xs ys n l r = l
longer_if false xs ys n l r = r

insert_grows : (ranks : List ℕ) (lock : Lock) (locks : List Lock) → length locks ≤ length (insert ranks lock locks)
insert_grows ranks lock [] = omega arith
insert_grows ranks lock (next ∷ rest) =
    let deeper = insert_grows ranks lock rest in
    longer_if (same_lock lock next) (next ∷ rest)
    (if precedes ranks lock next then lock ∷ next ∷ rest else next ∷ insert ranks lock rest) (length (next ∷ rest)) (omega arith)
    (longer_if (precedes ranks lock next) (lock ∷ next ∷ rest) (next ∷ insert ranks lock rest) (length (next ∷ rest)) (omega arith) (omega arith))

new_grows : (ranks : List ℕ) (held : List Lock) (lock : Lock) (locks : List Lock) →
    length locks ≤ length (insert_new ranks held lock locks)
new_grows ranks held lock locks =
    longer_if (among held lock) locks (insert ranks lock locks) (length locks) (omega arith) (insert_grows ranks lock locks)

pub all_grow : (ranks : List ℕ) (held more locks : List Lock) → length locks ≤ length (insert_all ranks held more locks)
all_grow ranks held [] locks = omega arith
all_grow ranks held (lock ∷ more) locks =
    let rest = all_grow ranks held more locks in
    let one = new_grows ranks held lock (insert_all ranks held more locks) in
    omega (arith, rest, one)

-- several locks, the last ones first
pub all_append : (ranks : List ℕ) (held first more locks : List Lock) →
    insert_all ranks held (first ++ more) locks ≡ insert_all ranks held first (insert_all ranks held more locks)
all_append ranks held [] more locks = refl
all_append ranks held (lock ∷ first) more locks = ap (insert_new ranks held lock) (all_append ranks held first more locks)

-- the locks of a class at these objects
abbrev at_objects : ℕ → List ℕ → List Lock
at_objects class objects = map (object_lock class) objects

-- ---- the members of a pool

pub range_next : (first long left : ℕ) → 0 < left → left ≤ long →
    range_with_len (first + (left - 1)) (long - (left - 1)) ≡ (first + (left - 1)) ∷ range_with_len (first + left) (long - left)
range_next first long left some le =
    ap (range_with_len (first + (left - 1))) (let e : long - (left - 1) ≡ suc (long - left) = omega arith in e)
    ∙ ap (λ n. (first + (left - 1)) ∷ range_with_len n (long - left)) (let e : first + (left - 1) + 1 ≡ first + left = omega arith in e)

module _ (ranks : List ℕ) (held : List Lock) (class : ℕ) (old : List Lock) where
  -- fewer objects bring no more locks
  pub range_is_longer : (first k m long : ℕ) → long ≡ k + m →
      length (insert_all ranks held (at_objects class (range_with_len (first + k) m)) old)
      ≤ length (insert_all ranks held (at_objects class (range_with_len first long)) old)
  range_is_longer first zero m long e =
      let here = ap (λ n. length (insert_all ranks held (at_objects class (range_with_len n m)) old)) (let z : first + 0 ≡ first = omega arith in z) in
      let all = ap (λ n. length (insert_all ranks held (at_objects class (range_with_len first n)) old)) (let z : long ≡ m = omega (arith, e) in z) in
      omega (arith, all, here)
  range_is_longer first (suc k) m zero e = absurd (omega (arith, e))
  range_is_longer first (suc k) m (suc long) e =
      let rest = range_is_longer (first + 1) k m long (omega (arith, e)) in
      let here = ap (λ n. length (insert_all ranks held (at_objects class (range_with_len n m)) old)) (let z : first + suc k ≡ first + 1 + k = omega arith in z) in
      let one = new_grows ranks held (object_lock class first) (insert_all ranks held (at_objects class (range_with_len (first + 1) long)) old) in
      omega (arith, rest, here, one)

  -- one pool more
  pub pool_next : (structure : ℕ) (pools : List Pool) (left : ℕ) (pool : Pool) → 0 < left → left ≤ length pools →
      pool ≡ get_or pools (left - 1) pool → (pool.structure == structure) ≡ true →
      insert_all ranks held (at_objects class (flat_map (members_if structure) (drop (left - 1) pools))) old
      ≡ insert_all ranks held (at_objects class (range_with_len pool.first pool.length))
      (insert_all ranks held (at_objects class (flat_map (members_if structure) (drop left pools))) old)
  pool_next structure pools left pool some le at holds =
      let rest = flat_map (members_if structure) (drop left pools) in
      let members : members_if structure pool ≡ range_with_len pool.first pool.length =
      ap (λ b. if b then range_with_len pool.first pool.length else []) holds in
      ap (λ ps. insert_all ranks held (at_objects class (flat_map (members_if structure) ps)) old)
      (drop_at pools (left - 1) pool (omega arith) ∙ ap (λ (p : Pool). p ∷ drop (left - 1 + 1) pools) (sym at)
      ∙ ap (λ n. pool ∷ drop n pools) (let e : left - 1 + 1 ≡ left = omega arith in e))
      ∙ ap (λ objects. insert_all ranks held (at_objects class (objects ++ rest)) old) members
      ∙ ap (λ locks. insert_all ranks held locks old) (map-append (object_lock class) (range_with_len pool.first pool.length) rest)
      ∙ all_append ranks held (at_objects class (range_with_len pool.first pool.length)) (at_objects class rest) old

  pub pools_are_longer : (structure : ℕ) (pools : List Pool) (k : ℕ) →
      length (insert_all ranks held (at_objects class (flat_map (members_if structure) (drop k pools))) old)
      ≤ length (insert_all ranks held (at_objects class (flat_map (members_if structure) pools)) old)
  pools_are_longer structure pools zero = omega arith
  pools_are_longer structure [] (suc k) = omega arith
  pools_are_longer structure (pool ∷ pools) (suc k) =
      let rest = pools_are_longer structure pools k in
      let first = members_if structure pool in
      let more = flat_map (members_if structure) pools in
      let both = ap (λ locks. length (insert_all ranks held locks old)) (map-append (object_lock class) first more) in
      let parts = ap (λ (ls : List Lock). length ls) (all_append ranks held (at_objects class first) (at_objects class more) old) in
      let grows = all_grow ranks held (at_objects class first) (insert_all ranks held (at_objects class more) old) in
      omega (arith, rest, both, parts, grows)

behind_is_shorter : (plan : Plan) (k : ℕ) (held : List Lock) (locals : List Value) (list : List ℕ) (j : ℕ) →
    length (asked_at plan k held locals (drop j list)) ≤ length (asked_at plan k held locals list)
behind_is_shorter plan k held locals [] zero = omega arith
behind_is_shorter plan k held locals [] (suc j) = omega arith
behind_is_shorter plan k held locals (i ∷ is) zero = omega arith
behind_is_shorter plan k held locals (i ∷ is) (suc j) =
    omega (
      arith,
      behind_is_shorter plan k held locals is j,
      all_grow plan.ranks held (locks_at plan k locals i) (asked_at plan k held locals is),
      ap (λ (xs : List Lock). length xs) (more_of plan (section_at plan k) held locals i is),
    )

-- so there is room for the next one
pub has_room : (plan : Plan) (k : ℕ) (held : List Lock) (locals : List Value) (list : List ℕ) (left : ℕ) → 0 < left →
    left ≤ length list →
    length (insert_all plan.ranks held (locks_at plan k locals (get_or list (left - 1) 0)) (asked_at plan k held locals (drop left list)))
    ≤ length (asked_at plan k held locals list)
has_room plan k held locals list left some le =
    subst (λ (xs : List Lock). length xs ≤ length (asked_at plan k held locals list)) (one_more plan k held locals list left some le)
    (behind_is_shorter plan k held locals list (left - 1))

-- ---- the list before a point

asked_for_none : (plan : Plan) (o : Option Section) (held : List Lock) (locals : List Value) →
    option_map_or (λ (s : Section). to_ask plan.program s plan.ranks held locals []) o [] ≡ []
asked_for_none plan (Some s) held locals = refl
asked_for_none plan None held locals = refl

-- nothing is asked for at the end of a list
pub at_end : (plan : Plan) (k : ℕ) (held : List Lock) (locals : List Value) (list : List ℕ) →
    asked_at plan k held locals (drop (length list) list) ≡ []
at_end plan k held locals [] = asked_for_none plan (section_at plan k) held locals
at_end plan k held locals (i ∷ is) = at_end plan k held locals is

module _ {Z : Type 0} (plan : Plan) (k point : ℕ) (held : List Lock) (locals : List Value) (lists : List (Vec ℕ Z))
    (are : number_lists lists ≡ lists_at plan.lists k) where
  by_list : (o : Option (Vec ℕ Z)) → slice_get lists point ≡ o →
      locks_before plan k point held locals ≡ asked_at plan k held locals (unwrap_or (option_map (λ (v : Vec ℕ Z). v.items) o) [])
  by_list o at =
      ap (λ (ls : List (List ℕ)). asked_at plan k held locals (unwrap_or (slice_get ls point) [])) (sym are)
      ∙ ap (λ (l : Option (List ℕ)). asked_at plan k held locals (unwrap_or l []))
      (slice_get-map (λ (v : Vec ℕ Z). v.items) lists point ∙ ap (option_map (λ (v : Vec ℕ Z). v.items)) at)

  pub listed_before : (list : Vec ℕ Z) → slice_get lists point ≡ Some list →
      asked_at plan k held locals list.items ≡ locks_before plan k point held locals
  listed_before list at = sym (by_list (Some list) at)

  pub none_before : slice_get lists point ≡ None → [] ≡ locks_before plan k point held locals
  none_before at = sym (by_list None at ∙ asked_for_none plan (section_at plan k) held locals)
