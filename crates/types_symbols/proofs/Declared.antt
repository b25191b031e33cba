-- Declarations, their names and what comes before them, one after another.
use Rattle.std.proofs.Common.{◌≡◌, ℕ, zero, suc, ◌+◌, ◌<◌, ◌≤◌, List, [], ◌∷◌, ◌++◌, Option, Some, None, Bool, true}
use Rattle.std.proofs.Common.{false, length, take, get_or, add-one, refl, sym, ap, ◌∙◌, arith, if◌then◌else◌}
use Rattle.std.proofs.Math.Seq.{take-suc}
use Rattle.std.proofs.lemmas.List.{length-take-le, map-append, length-map}
use Rattle.std.specs.Prelude.{map}
use Rattle.std.specs.Option.{option_or}
use Rattle.std.specs.Str.{bytes_eq}
use Rattle.syntax.specs.Trees.{Ident, Decl}
use Rattle.types_symbols.specs.declared.names.Names.{Names}
use Rattle.types_symbols.specs.Working.Found.{IsTableOf, IsTableWith, found, declared_in}
use Rattle.resolution.specs.Scopes.{declared, bears, is_called, count}
use Rattle.resolution.specs.Working.FaultLists.{again, twice}
use Rattle.types_symbols.proofs.Tables.{table-more}

pub take-here : {A B : Type 0} (view : A → B) (xs : List A) (i : ℕ) (x : A) → i < length xs → x ≡ get_or xs i x →
    map view (take (i + 1) xs) ≡ map view (take i xs) ++ view x ∷ []
take-here view xs i x lt is =
    ap (λ (k : ℕ). map view (take k xs)) (add-one i)
    ∙ ap (map view) (take-suc xs i x lt)
    ∙ ap (λ (y : _). map view (take i xs ++ y ∷ [])) (sym is)
    ∙ map-append view (take i xs) (x ∷ [])

pub taken_length : {A B : Type 0} (view : A → B) (xs : List A) (i : ℕ) → i < length xs →
    i ≡ length (map view (take i xs))
taken_length view xs i lt = sym (length-map (take i xs) view ∙ length-take-le i xs (omega arith))

or_none : (o : Option ℕ) → o ≡ option_or o None
or_none None = refl
or_none (Some n) = refl

names_if : (o : Option Ident) (ds : List Decl) (d : Decl) (place : ℕ) (old new : Names) → declared d ≡ o →
    place ≡ length ds → IsTableOf bears ds old → IsTableWith o place old new → IsTableOf bears (ds ++ d ∷ []) new
names_if (Some x) ds d place old new is at table with =
    table-more bears ds d old new table (λ q. with q ∙ ap (λ (k : ℕ). option_or (found old q) (if bytes_eq q x.text then Some k else None)) at ∙ ap (λ (o : Option Ident). option_or (found old q) (if is_called o q then Some (length ds) else None)) (sym is))
names_if None ds d place old new is at table with =
    table-more bears ds d old new table (λ q. with q ∙ or_none (found old q) ∙ ap (λ (o : Option Ident). option_or (found old q) (if is_called o q then Some (length ds) else None)) (sym is))

pub names_more : (o : Option Ident) (ds : List Decl) (d : Decl) (place : ℕ) (old new : Names) → o ≡ declared d →
    place ≡ length ds → IsTableOf bears ds old → IsTableWith o place old new → IsTableOf bears (ds ++ d ∷ []) new
names_more o ds d place old new is at table with = names_if o ds d place old new (sym is) at table with

twice_if : (o : Option Ident) (ds : List Decl) (d : Decl) (names : Names) → declared d ≡ o →
    IsTableOf bears ds names → declared_in names o ≡ twice ds o
twice_if (Some x) ds d names is table = ap (again x.span.start) (table x.text)
twice_if None ds d names is table = refl

pub twice_is : (o : Option Ident) (ds : List Decl) (d : Decl) (names : Names) → o ≡ declared d →
    IsTableOf bears ds names → declared_in names o ≡ twice ds (declared d)
twice_is o ds d names is table = twice_if o ds d names (sym is) table ∙ ap (twice ds) is

count_le_if : (b : Bool) (n m : ℕ) → n ≤ m → (if b then suc n else n) ≤ suc m
count_le_if true n m le = omega arith
count_le_if false n m le = omega arith

pub count_le : {A : Type 0} (p : A → Bool) (ds : List A) → count p ds ≤ length ds
count_le p [] = omega arith
count_le p (x ∷ ds) = count_le_if (p x) (count p ds) (length ds) (count_le p ds)

pub take_map : {A B : Type 0} (f : A → B) (i : ℕ) (xs : List A) → take i (map f xs) ≡ map f (take i xs)
take_map f zero xs = refl
take_map f (suc i) [] = refl
take_map f (suc i) (x ∷ xs) = ap (λ (l : List _). f x ∷ l) (take_map f i xs)
