-- Operand stacks.
use Rattle.std.specs.Prelude.{ℕ, zero, suc, List, [], ◌∷◌, get_or, drop, None}
use Rattle.core_lang.specs.declared.value.Value.{Value}
use Rattle.core_lang.specs.declared.value.Value.TheVariants.{Ref}

-- an operand stack: the operands, the top first, and the number of operands for which there is room
pub record OperandsOf : Type 0 where
  pub stack : List Value
  pub room : ℕ

-- the first n items of a list in reverse order. The code relies on it; nobody has to believe it
abbrev pub downward : List Value → ℕ → List Value
downward values zero = []
downward values (suc n) = get_or values n (Ref None) ∷ downward values n

-- the stack with one more operand on the top
abbrev pub pushed : OperandsOf → Value → OperandsOf
pushed o v = record o { stack = v ∷ o.stack }

abbrev pub popped : OperandsOf → OperandsOf
popped o = record o { stack = drop 1 o.stack }

abbrev pub with_top : OperandsOf → Value → OperandsOf
with_top o v = record o { stack = v ∷ drop 1 o.stack }
