-- Two writes, one after the other.
use Rattle.std.proofs.Common.{ℕ, List, ◌++◌, Option, Some, None, append_assoc}
use Rattle.std.specs.Io.KnownBytes.{Appends}

-- what two writes appended is both texts in turn
pub Appends-both : (a b c : Option (List ℕ)) (xs ys : List ℕ) → Appends a b xs → Appends b c ys → Appends a c (xs ++ ys)
Appends-both None b c xs ys first second = tt
Appends-both (Some old) None c xs ys first second = absurd first
Appends-both (Some old) (Some mid) None xs ys first second = absurd second
Appends-both (Some old) (Some mid) (Some end) xs ys first second = let e = append_assoc old xs ys in cc
