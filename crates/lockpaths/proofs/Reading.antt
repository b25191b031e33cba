-- The items at indexes of lists, and the lock paths that they give.
use Rattle.std.proofs.Common.{◌≡◌, ◌∙◌, ◌⊎◌, inl, inr, ℕ, ◌+◌, ◌<◌, ◌≤◌, ◌||◌, Bool, true, false, List, [], ◌∷◌, ◌++◌}
use Rattle.std.proofs.Common.{length, map, drop, get_or, Option, Some, None, add-one, refl, sym, ap, subst, arith}
use Rattle.std.proofs.Math.Seq.{drop-cons}
use Rattle.std.proofs.Math.Bool.{or_assoc}
use Rattle.std.specs.Prelude.{slice_get, if◌then◌else◌, nat_lt, ◌==◌}
use Rattle.std.specs.Borrow.{Bor}
use Rattle.std.specs.Slice.{IsItemAt}
use Rattle.std.specs.Option.{option_map}
use Rattle.std.proofs.lemmas.Bool.{eq-eqb}
use Rattle.std.proofs.lemmas.Bool.Decides.{nat_tests}
use Rattle.std.proofs.lemmas.List.{length-append, length-map, map_push}
use Rattle.std.proofs.lemmas.Option.{slice_get_past, slice_get_read}
use Rattle.source.specs.declared.fault.Code.TheVariants.{LimitExceeded}
use Rattle.source.specs.declared.mistake.Mistake.{Mistake}
use Rattle.source.specs.Mistakes.{lesser}
use Rattle.core_lang.specs.declared.shape.Array.{Array}
use Rattle.core_lang.specs.declared.typed.Cell.{Cell}
use Rattle.core_lang.specs.declared.typed.Field.{Field}
use Rattle.core_lang.specs.declared.typed.GlobalVariable.{GlobalVariable}
use Rattle.core_lang.specs.declared.typed.CellOwner.{CellOwner}
use Rattle.core_lang.specs.declared.typed.CellOwner.TheVariants as owner
use Rattle.core_lang.specs.declared.typed.Struct.{Struct}
use Rattle.core_lang.specs.declared.typed.Typed.{Typed}
use Rattle.core_lang.specs.Typing.{lookup}
use Rattle.locks.specs.Locks.{protection_of}
use Rattle.locks.specs.LockPaths.{LockPath, global_path, class_if_global, same_path}
use Rattle.core_lang.specs.declared.tree.Section.{Section}
use Rattle.flow.specs.Points.{Point, points}
use Rattle.lockpaths.specs.Working.Forms.{Replacement, replacements_at}
use Rattle.lockpaths.specs.Working.Told.{Told}
use Rattle.lockpaths.specs.Working.Gathering.{gathered_at, gathered_in, Gathered, nothing_yet, place_from, with_owners}
use Rattle.lockpaths.specs.Working.Gathering.{with_path, with_new}
use Rattle.lockpaths.specs.Working.Numbers.{is_number}
use Rattle.core_lang.specs.Theory.Items.{lookup_at, lookup_none, next_of}

-- ---- of a list that a slice lends

module _ {A : Type 0} (xs lent : List A) (i : ℕ) (same : lent ≡ xs) where
  pub item_here : (b : Bor A) → IsItemAt lent i (Some b) → slice_get xs i ≡ Some b.now
  item_here b h = subst (λ (ys : List A). slice_get ys i ≡ Some b.now) same (slice_get_read lent (length lent) i b.now refl h.3.0 h.1)

  pub item_past : IsItemAt lent i None → slice_get xs i ≡ None
  item_past h = subst (λ (ys : List A). slice_get ys i ≡ None) same (slice_get_past lent i h.3)

-- ---- the protection of a struct's field

module _ (program : Typed) (s f : ℕ) where
  pub no_struct : slice_get program.structs.items s ≡ None → protection_of program s f ≡ None
  no_struct e = lookup_none (slice_get program.structs.items s) (λ (x : Struct). lookup (slice_get x.fields.items f) (λ (field : Field). Some field.protection)) e

  of_struct : (x : Struct) → slice_get program.structs.items s ≡ Some x →
      protection_of program s f ≡ lookup (slice_get x.fields.items f) (λ (field : Field). Some field.protection)
  of_struct x at = lookup_at (slice_get program.structs.items s) x (λ (y : Struct). lookup (slice_get y.fields.items f) (λ (field : Field). Some field.protection)) at

  pub no_field : (x : Struct) → slice_get program.structs.items s ≡ Some x → slice_get x.fields.items f ≡ None →
      protection_of program s f ≡ None
  no_field x at e = of_struct x at ∙ lookup_none (slice_get x.fields.items f) (λ (field : Field). Some field.protection) e

  pub protection_here : (x : Struct) (field : Field) → slice_get program.structs.items s ≡ Some x →
      slice_get x.fields.items f ≡ Some field → protection_of program s f ≡ Some field.protection
  protection_here x field at there = of_struct x at ∙ lookup_at (slice_get x.fields.items f) field (λ (y : Field). Some y.protection) there

-- ---- the path of an element and of a global

abbrev pub of_array : Option Array → Option LockPath
of_array found = lookup found (λ (x : Array). Some (global_path x.class))

abbrev pub of_cell : Typed → Option Cell → Option LockPath
of_cell program found = lookup found (λ (x : Cell). option_map global_path (class_if_global program x.owner))

pub not_global : (program : Typed) (o : CellOwner) →
    ((a : ℕ) × (b : ℕ) × (o ≡ owner.Element a b)) ⊎ ((a : ℕ) × (b : ℕ) × (o ≡ owner.Field a b)) →
    class_if_global program o ≡ None
not_global program o (inl e) = ap (class_if_global program) e.2
not_global program o (inr e) = ap (class_if_global program) e.2

module _ (program : Typed) (path : Option ℕ) where
  pub element_here : (array : ℕ) (x : Array) (made : ℕ) → slice_get program.shape.arrays.items array ≡ Some x →
      path ≡ Some made → global_path made ≡ global_path x.class →
      option_map global_path path ≡ of_array (slice_get program.shape.arrays.items array)
  element_here array x made at is e = ap (option_map global_path) is ∙ ap Some e ∙ sym (ap of_array at)

  pub element_past : (array : ℕ) → slice_get program.shape.arrays.items array ≡ None → path ≡ None →
      option_map global_path path ≡ of_array (slice_get program.shape.arrays.items array)
  element_past array at is = ap (option_map global_path) is ∙ sym (ap of_array at)

  pub cell_past : (cell : ℕ) → slice_get program.cells.items cell ≡ None → path ≡ None →
      option_map global_path path ≡ of_cell program (slice_get program.cells.items cell)
  cell_past cell at is = ap (option_map global_path) is ∙ sym (ap (of_cell program) at)

  of_owner : (cell : ℕ) (x : Cell) (o : CellOwner) → slice_get program.cells.items cell ≡ Some x → x.owner ≡ o →
      of_cell program (slice_get program.cells.items cell) ≡ option_map global_path (class_if_global program o)
  of_owner cell x o at is = ap (of_cell program) at ∙ ap (λ (y : CellOwner). option_map global_path (class_if_global program y)) is

  pub global_here : (cell : ℕ) (x : Cell) (g : ℕ) (y : GlobalVariable) (made : ℕ) →
      slice_get program.cells.items cell ≡ Some x → x.owner ≡ owner.Global g →
      slice_get program.globals.items g ≡ Some y → path ≡ Some made → global_path made ≡ global_path y.class → option_map global_path path ≡ of_cell program (slice_get program.cells.items cell)
  global_here cell x g y made at is there e m =
      ap (option_map global_path) e ∙ ap Some m
      ∙ sym (of_owner cell x (owner.Global g) at is ∙ ap (λ (r : Option GlobalVariable). option_map global_path (lookup r (λ (z : GlobalVariable). Some z.class))) there)

  pub global_past : (cell : ℕ) (x : Cell) (g : ℕ) → slice_get program.cells.items cell ≡ Some x →
      x.owner ≡ owner.Global g → slice_get program.globals.items g ≡ None → path ≡ None →
      option_map global_path path ≡ of_cell program (slice_get program.cells.items cell)
  global_past cell x g at is there e =
      ap (option_map global_path) e
      ∙ sym (of_owner cell x (owner.Global g) at is ∙ ap (λ (r : Option GlobalVariable). option_map global_path (lookup r (λ (z : GlobalVariable). Some z.class))) there)

  pub no_global : (cell : ℕ) (x : Cell) (o : CellOwner) → slice_get program.cells.items cell ≡ Some x → x.owner ≡ o →
      class_if_global program o ≡ None → path ≡ None →
      option_map global_path path ≡ of_cell program (slice_get program.cells.items cell)
  no_global cell x o at is none e = ap (option_map global_path) e ∙ sym (of_owner cell x o at is ∙ ap (option_map global_path) none)

-- ---- the number of a path

pub place_next : {A : Type 0} (at : A → LockPath) (path : LockPath) (k : ℕ) (items : List A) (x : A) →
    k < length items → x ≡ get_or items k x → false ≡ same_path path (at x) →
    place_from path (k + 1) (map at (drop (k + 1) items)) ≡ place_from path k (map at (drop k items))
place_next {A = A} at path k items x lt is other =
    ap (λ (b : Bool). if b then Some k else place_from path (k + 1) (map at (drop (k + 1) items))) other
    ∙ ap (λ (ys : List A). place_from path k (map at ys)) (sym (next_of items k x lt is))

pub below_end : {A : Type 0} (k e v : ℕ) (items : List A) → k < e → e ≡ v → v ≡ length items → k < length items
below_end k e v items lt is at = omega arith

pub below_all : {A : Type 0} (at : A → LockPath) (k e v : ℕ) (items : List A) (paths : List LockPath) → k < e →
    e ≡ v → v ≡ length items → map at items ≡ paths → k < length paths
below_all at k e v items paths lt is here same = let long = length-map items at in let all = ap length same in omega arith

pub set_next : (i k : ℕ) (numbers : List ℕ) (a b : Bool) (all : Bool) → k < length numbers →
    a ≡ (b || (i == get_or numbers k 0)) → (b || is_number i (drop k numbers)) ≡ all →
    (a || is_number i (drop (k + 1) numbers)) ≡ all
set_next i k numbers a b all lt is before =
    let rest = is_number i (drop (k + 1) numbers) in
    ap (λ (x : Bool). x || rest) is
    ∙ or_assoc b (i == get_or numbers k 0) rest
    ∙ ap (λ (ns : List ℕ). b || is_number i ns) (sym (drop-cons numbers k 0 lt ∙ ap (λ (j : ℕ). get_or numbers k 0 ∷ drop j numbers) (sym (add-one k))))
    ∙ before

-- ---- what is found, with a path more

abbrev pub seen : {A : Type 0} → (A → LockPath) → List A → List ℕ → List ℕ → Option Mistake → Gathered
seen at paths numbers ends least = record { paths = map at paths; numbers = numbers; ends = ends; least = least }

module _ (g : Gathered) (start : ℕ) (path : LockPath) where
  abbrev by_count : Bool → Bool → Gathered
  by_count below at =
      if below then with_path g path else if at then record (with_path g path) { least = lesser g.least (record { code = LimitExceeded; start = start }) } else g

  new_below : length g.paths < 64 → with_new g start path ≡ with_path g path
  new_below lt = let e : nat_lt (length g.paths) 64 ≡ true = grind (arith, nat_tests) in ap (λ (b : Bool). by_count b (length g.paths == 64)) e

  new_last : length g.paths ≡ 64 →
      with_new g start path ≡ record (with_path g path) { least = lesser g.least (record { code = LimitExceeded; start = start }) }
  new_last is =
      let e : nat_lt (length g.paths) 64 ≡ false = grind (arith, nat_tests) in
      ap (λ (b : Bool). by_count b (length g.paths == 64)) e ∙ ap (by_count false) (eq-eqb (length g.paths) 64 is)

  new_full : 64 < length g.paths → with_new g start path ≡ g
  new_full lt =
      let e : nat_lt (length g.paths) 64 ≡ false = grind (arith, nat_tests) in
      let d : (length g.paths == 64) ≡ false = grind (arith, nat_tests) in
      ap (λ (b : Bool). by_count b (length g.paths == 64)) e ∙ ap (by_count false) d

pub past_all : {A : Type 0} (at : A →
    LockPath) (g : Gathered) (start number v : ℕ) (path : LockPath) (items : List A) → 64 < number → number ≡ v → v ≡ length items → map at items ≡ g.paths →
    g ≡ with_new g start path
past_all at g start number v path items lt count here same =
    let long = length-map items at in let all = ap length same in let more : 64 < length g.paths = omega arith in
    sym (new_full g start path more)

module _ {A : Type 0} (at : A → LockPath) (path : A) (start number : ℕ) (paths more : List A) (numbers pushed ends : List ℕ) (least : Option Mistake) (g : Gathered)
    (is : seen at paths numbers ends least ≡ g) (count : number ≡ length paths) (grown : more ≡ paths ++ path ∷ []) (counted : pushed ≡ numbers ++ number ∷ []) where
  with_it : (last : Option Mistake) →
      seen at more pushed ends last ≡ record (with_path (seen at paths numbers ends least) (at path)) { least = last }
  with_it last =
      ap (λ (ps : List LockPath). record { paths = ps; numbers = pushed; ends = ends; least = last }) (ap (map at) grown ∙ map_push at paths path)
      ∙ ap (λ (ns : List ℕ). record { paths = map at paths ++ at path ∷ []; numbers = ns; ends = ends; least = last })
      (counted ∙ ap (λ (n : ℕ). numbers ++ n ∷ []) (count ∙ sym (length-map paths at)))

  pub added_below : number ≤ 64 → (number ≡ 64 → ⊥) → seen at more pushed ends least ≡ with_new g start (at path)
  added_below le other =
      let long = length-map paths at in
      let lt : length (map at paths) < 64 = omega arith in
      with_it least ∙ sym (new_below (seen at paths numbers ends least) start (at path) lt) ∙ ap (λ (h : Gathered). with_new h start (at path)) is

  pub added_last : number ≡ 64 → (last : Option Mistake) →
      last ≡ lesser least (record { code = LimitExceeded; start = start }) →
      seen at more pushed ends last ≡ with_new g start (at path)
  added_last here last noted =
      let long = length-map paths at in
      let full : length (map at paths) ≡ 64 = omega arith in
      with_it last ∙ ap (λ (m : Option Mistake). record (with_path (seen at paths numbers ends least) (at path)) { least = m }) noted
      ∙ sym (new_last (seen at paths numbers ends least) start (at path) full) ∙ ap (λ (h : Gathered). with_new h start (at path)) is

pub still_few : {A : Type 0} (paths same more : List A) → length paths ≤ 65 → same ≡ paths → more ≡ same →
    length more ≤ 65
still_few {A = A} paths same more le e d = subst (λ (ps : List A). length ps ≤ 65) (sym (d ∙ e)) le

pub one_more_few : {A : Type 0} (number v : ℕ) (paths same more : List A) (path : A) → number ≤ 64 → number ≡ v →
    v ≡ length paths → same ≡ paths → more ≡ same ++ path ∷ [] →
    length more ≤ 65
one_more_few number v paths same more path le count at e grown = let a = ap length e in let b = ap length grown ∙ length-append same (path ∷ []) in omega arith

pub number_small : {A : Type 0} (at : A → LockPath) (k : ℕ) (items : List A) (paths : List LockPath) →
    k < length paths → map at items ≡ paths → length items ≤ 65 → k < 256
number_small at k items paths lt same le = let long = length-map items at in let all = ap length same in omega arith

-- ---- a whole section

pub found_there : (program : Typed) (section : Section) (least : Option Mistake) (given met named : List Point) (start middle last : Told) (table : List Replacement) →
    start ≡ record { table = table; gathered = nothing_yet least } → table ≡ replacements_at section given →
    middle ≡ record { table = start.table; gathered = gathered_at program section start.table start.gathered met } →
    last ≡ record { table = middle.table; gathered = with_owners section middle.gathered named } →
    given ≡ points section → met ≡ points section → named ≡ points section → last.gathered ≡ gathered_in program section least
found_there program section least given met named start middle last table begun made there all each every again =
    let t : start.table ≡ replacements_at section (points section) = ap (λ (x : Told). x.table) begun ∙ made ∙ ap (replacements_at section) each in
    let before : middle.gathered ≡ gathered_at program section (replacements_at section (points section)) (nothing_yet least) (points section) =
    ap (λ (x : Told). x.gathered) there
    ∙ ap (λ (r : List Replacement). gathered_at program section r start.gathered met) t
    ∙ ap (λ (x : Told). gathered_at program section (replacements_at section (points section)) x.gathered met) begun
    ∙ ap (gathered_at program section (replacements_at section (points section)) (nothing_yet least)) every in
    ap (λ (x : Told). x.gathered) all ∙ ap (λ (g : Gathered). with_owners section g named) before
    ∙ ap (with_owners section (gathered_at program section (replacements_at section (points section)) (nothing_yet least) (points section))) again
