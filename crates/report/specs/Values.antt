-- Equality of values.
use Rattle.std.specs.Prelude.{Bool, false, nat_eq}
use Rattle.std.specs.Option.{option_eq}
use Rattle.std.specs.Ordering.{int_eq}
use Rattle.core_lang.specs.declared.value.Value.{Value}
use Rattle.core_lang.specs.declared.value.Value.TheVariants.{Int, Ref}

-- the two values are equal
abbrev pub is_value : Value → Value → Bool
is_value (Int a) (Int b) = int_eq a b
is_value (Int a) (Ref b) = false
is_value (Ref a) (Int b) = false
is_value (Ref a) (Ref b) = option_eq nat_eq a b
