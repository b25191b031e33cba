-- The prefixes that names of C may have are ASCII, and therefore UTF-8.
use Rattle.std.proofs.Common.{◌≡◌, ◌<◌, true, ℕ, List, [], ◌∷◌, zero, suc, arith}
use Rattle.std.proofs.lemmas.Str.{IsUtf8-from_ascii}
use Rattle.std.specs.Char.{is_ascii_alphanumeric}
use Rattle.std.specs.List.{list_all, slice_index}
use Rattle.std.specs.Str.{IsUtf8}
use Rattle.driver_words.specs.Lines.{IsPrefix}

below : (bytes : List ℕ) → list_all is_ascii_alphanumeric bytes ≡ true → (i : ℕ) → slice_index bytes i < 128
below [] all i = grind arith
below (byte ∷ bytes) all zero = grind arith
below (byte ∷ bytes) all (suc i) = below bytes (grind arith) i

pub prefixes_are_utf8 : (bytes : List ℕ) → IsPrefix bytes → IsUtf8 bytes
prefixes_are_utf8 bytes is = IsUtf8-from_ascii bytes (below bytes (grind arith))
