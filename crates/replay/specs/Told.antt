-- The numbers and the call in a call's line, read word by word.
use Rattle.std.specs.Prelude.{ℕ, ℤ, ◌+◌, nat_lt, List, [], ◌∷◌, drop, length, map, codes, string_bytes, Option, Some, None, ◌==◌}
use Rattle.std.specs.Prelude.{slice_get, if◌then◌else◌}
use Rattle.std.specs.List.{slice_split}
use Rattle.std.specs.Option.{option_map}
use Rattle.std.specs.Str.{bytes_eq}
use Rattle.core_lang.specs.declared.value.Value.{Value}
use Rattle.core_lang.specs.declared.value.Value.TheVariants.{Int, Ref}
use Rattle.core_lang.specs.declared.shape.Pool.{Pool}
use Rattle.core_lang.specs.declared.shape.Shape.{Shape}
use Rattle.core_lang.specs.declared.tree.Section.{Section}
use Rattle.core_lang.specs.declared.typed.Typed.{Typed}
use Rattle.core_lang.specs.Serial.{Invocation}
use Rattle.core_lang.specs.Typing.{lookup}
use Rattle.input_files.specs.declared.format.Format.{Format}
use Rattle.input_files.specs.declared.format.Format.TheVariants.{One, Two}
use Rattle.input_files.specs.Pieces.{before, behind, begins, count_in, number_in}
use Rattle.replay.specs.declared.told.Told.{Told}

-- ---- the numbers: call T K, and call T K B in the second format

-- the length of the history when the call began, from the first word of a text; 0 where the format does not have it
abbrev pub begun_in : Format → List ℕ → Option ℕ
begun_in One text = Some 0
begun_in Two text = count_in (before 32 text)

-- the numbers in the words after `call `
abbrev pub told_after : Format → List ℕ → Option Told
told_after format text =
    let rest = behind 32 text in
    lookup (count_in (before 32 text)) (λ thread. lookup (count_in (before 32 rest)) (λ step.
    lookup (begun_in format (behind 32 rest)) (λ begun. Some (record { thread = thread; step = step; begun = begun }))))

-- the numbers in a line, if it begins like a call's line
abbrev pub told_in : Format → List ℕ → Option Told
told_in format text = if begins (codes "call ") text then told_after format (drop 5 text) else None

-- the text after the numbers
abbrev pub invoked_text : Format → List ℕ → List ℕ
invoked_text One text = behind 32 (behind 32 (drop 5 text))
invoked_text Two text = behind 32 (behind 32 (behind 32 (drop 5 text)))

-- ---- the call: NAME(ARGUMENTS)

-- the number of the first of these names that is the text; the names are numbered from `number` on
abbrev pub first_named : ℕ → List (List ℕ) → List ℕ → Option ℕ
first_named number [] text = None
first_named number (name ∷ names) text = if bytes_eq name text then Some number else first_named (number + 1) names text

-- the number of the section with this name
abbrev pub section_named : Typed → List ℕ → Option ℕ
section_named program text = first_named 0 (map (λ (s : Section). string_bytes s.name) program.sections.items) text

-- the pool with this name
abbrev pub pool_named : Shape → List ℕ → Option Pool
pool_named shape text =
    lookup (first_named 0 (map (λ (p : Pool). string_bytes p.name) shape.pools.items) text) (λ number. slice_get shape.pools.items number)

-- the object that is the member of a pool with this index, if the pool is that long
abbrev pub member_of : Pool → ℕ → Option ℕ
member_of pool index = if nat_lt index pool.length then Some (pool.first + index) else None

-- the object that a text like p[0] writes
abbrev pub object_in : Shape → List ℕ → Option ℕ
object_in shape text = lookup (pool_named shape (before 91 text)) (λ pool. lookup (count_in (before 93 (behind 91 text))) (member_of pool))

-- a value that is not a number: null, or a member of a pool
abbrev pub reference_in : Shape → List ℕ → Option Value
reference_in shape text =
    if bytes_eq text (codes "null") then Some (Ref None) else option_map (λ object. Ref (Some object)) (object_in shape text)

-- the number, if there is one, otherwise the other value
abbrev pub number_or : Option ℤ → Option Value → Option Value
number_or (Some number) other = Some (Int number)
number_or None other = other

-- the value that a text writes
abbrev pub value_in : Shape → List ℕ → Option Value
value_in shape text = number_or (number_in text) (reference_in shape text)

-- the text without the space at its start, if there is one
abbrev pub unspaced : List ℕ → List ℕ
unspaced [] = []
unspaced (first ∷ rest) = if first == 32 then rest else first ∷ rest

-- a value before other values
abbrev pub and_values : Value → Option (List Value) → Option (List Value)
and_values value (Some values) = Some (value ∷ values)
and_values value None = None

-- the values that pieces write
abbrev pub values_in : Shape → List (List ℕ) → Option (List Value)
values_in shape [] = Some []
values_in shape (piece ∷ pieces) = lookup (value_in shape (unspaced piece)) (λ value. and_values value (values_in shape pieces))

-- no values, or the values between commas
abbrev pub arguments_in : Shape → List ℕ → Option (List Value)
arguments_in shape text = if length text == 0 then Some [] else values_in shape (slice_split (λ b. b == 44) text)

-- the call that a text writes
abbrev pub invocation_in : Typed → List ℕ → Option Invocation
invocation_in program text =
    lookup (section_named program (before 40 text)) (λ section. lookup (arguments_in program.shape (before 41 (behind 40 text)))
    (λ arguments. Some (record { section = section; arguments = arguments })))
