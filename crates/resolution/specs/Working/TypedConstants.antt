-- What the code computes for constants: their sorts and values, if they have one. `Constants` has the rules to believe;
-- `constants_by_rules` of src/laws.rt ties the two together.
use Rattle.std.specs.Prelude.{ℕ, ℤ, neg_ℤ, nat_lt, List, [], ◌∷◌, Option, Some, None, if◌then◌else◌}
use Rattle.syntax.specs.Trees.{Const, int_const, negative, null_const, member_const, Decl, pool, Param}
use Rattle.core_lang.specs.declared.value.Value.{Value}
use Rattle.core_lang.specs.declared.value.Value.TheVariants.{Int, Ref}
use Rattle.core_lang.specs.declared.value.ValueType.{ValueType}
use Rattle.core_lang.specs.declared.value.ValueType.TheVariants.{Integer, Reference}
use Rattle.resolution.specs.declared.wanted.Sort.{Sort}
use Rattle.resolution.specs.declared.wanted.Sort.TheVariants as sort
use Rattle.resolution.specs.declared.wanted.Want.{Want}
use Rattle.resolution.specs.declared.wanted.Want.TheVariants as wanted
use Rattle.resolution.specs.Scopes.{◌>>=◌, the_decl, struct_named}
use Rattle.resolution.specs.Expressions.{fits_sort}
use Rattle.resolution.specs.Working.TypedExpressions.{number_value}
use Rattle.resolution.specs.Constants.{object_of, want_of, default_of}

-- ---- constants

abbrev pub number_sort : Option ℤ → Option Sort
number_sort (Some z) = Some (sort.Of Integer)
number_sort None = None

abbrev pub reference_sort : Option ℕ → Option Sort
reference_sort (Some s) = Some (sort.Of (Reference s))
reference_sort None = None

-- the sort of a member, if the name refers to a pool whose struct has no fault
abbrev pub member_sort : List Decl → Option (ℕ × Decl) → Option Sort
member_sort decls (Some (i, pool p)) = reference_sort (struct_named decls p.target)
member_sort decls _ = None

-- the sort of a constant, if it has a type
abbrev pub const_sort : List Decl → Const → Option Sort
const_sort decls (int_const n) = number_sort (number_value n)
const_sort decls (negative sign n) = number_sort (number_value n)
const_sort decls (null_const at) = Some sort.Null
const_sort decls (member_const p n) = member_sort decls (the_decl decls p.text)

-- the reference to the member with this index, if the name refers to a pool that has it
abbrev pub member_of : List Decl → Option (ℕ × Decl) → ℕ → Option Value
member_of decls (Some (i, pool p)) n = if nat_lt n p.length.value then Some (Ref (Some (object_of decls i n))) else None
member_of decls _ n = None

abbrev pub const_value : List Decl → Const → Option Value
const_value decls (int_const n) = number_value n >>= λ z. Some (Int z)
const_value decls (negative sign n) = number_value n >>= λ z. Some (Int (neg_ℤ z))
const_value decls (null_const at) = Some (Ref None)
const_value decls (member_const p n) = member_of decls (the_decl decls p.text) n.value

-- the value, if its sort is as expected
abbrev pub if_fitting : Want → Option Sort → Option Value → Option Value
if_fitting w (Some s) v = if fits_sort w s then v else None
if_fitting w None v = None

-- the value of a constant, if it is as expected
abbrev pub typed_const : List Decl → Want → Const → Option Value
typed_const decls w c = if_fitting w (const_sort decls c) (const_value decls c)

-- the list with one item before it, if none is missing
abbrev pub added : {A : Type 0} → Option A → Option (List A) → Option (List A)
added (Some x) (Some xs) = Some (x ∷ xs)
added (Some x) None = None
added None xs = None

-- the values of arguments, one for each parameter
abbrev pub typed_arguments : List Decl → List Param → List Const → Option (List Value)
typed_arguments decls [] [] = Some []
typed_arguments decls [] (c ∷ cs) = None
typed_arguments decls (p ∷ ps) [] = None
typed_arguments decls (p ∷ ps) (c ∷ cs) = added (typed_const decls (want_of decls p) c) (typed_arguments decls ps cs)

-- ---- initial values

-- the initial value of something of this type
abbrev pub opened : List Decl → ValueType → Option Const → Option Value
opened decls t None = Some (default_of t)
opened decls t (Some c) = typed_const decls (wanted.Value t) c

abbrev pub object_in : Option Value → Option ℕ
object_in (Some (Ref (Some o))) = Some o
object_in _ = None

-- the object that a final reference to an object of the struct is given
abbrev pub referred : List Decl → Option ℕ → Option Const → Option ℕ
referred decls (Some s) (Some c) = object_in (typed_const decls (wanted.Value (Reference s)) c)
referred decls (Some s) None = None
referred decls None c = None
