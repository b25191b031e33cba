-- The text of a list's item at an index, or nothing, appended to a text.
use Rattle.std.proofs.Common.{◌≡◌, ◌++◌, ℕ, zero, suc, List, [], ◌∷◌, Option, Some, None, map, refl}
use Rattle.std.specs.Prelude.{slice_get, unwrap_or}
use Rattle.std.specs.Borrow.{Bor}
use Rattle.std.specs.Option.{option_map_or}
use Rattle.std.specs.Slice.{IsItemAt}
use Rattle.core_lang.specs.declared.tree.Section.{Section}
use Rattle.core_lang.specs.declared.typed.Typed.{Typed}
use Rattle.code.specs.declared.instr.Instr.{Instr}
use Rattle.code.specs.declared.instr.Instr.TheVariants.{Acquire}
use Rattle.code.specs.Listing.{text_at, paths_text}
use Rattle.code.specs.Working.Asked.{asked}
use Rattle.code.specs.Working.Naming.{asked_text}
use Rattle.locks.specs.Theory.Written as written

-- the item of a list that a slice lends
module _ {A : Type 0} (text : A → List ℕ) (xs lent : List A) (i : ℕ) (old : List ℕ) (same : lent ≡ xs) where
  pub found_added : (b : Bor A) (new piece : List ℕ) → IsItemAt lent i (Some b) → piece ≡ text b.now →
      new ≡ old ++ piece
      → new ≡ old ++ text_at text xs i
  found_added b new piece h is added =
      let here = written.item_here xs lent i same b h in
      written.some_added (λ o. option_map_or text o []) _ b.now old new piece here is added

  pub none_added : IsItemAt lent i None → old ≡ old ++ text_at text xs i
  none_added h = written.none_added (λ o. option_map_or text o []) _ old (written.item_past xs lent i same h) refl

-- the item of a list that is made from another
pub text_at-map : {A B : Type 0} (f : A → B) (text : B → List ℕ) (xs : List A) (k : ℕ) →
    text_at text (map f xs) k ≡ text_at (λ x. text (f x)) xs k
text_at-map f text [] k = refl
text_at-map f text (x ∷ xs) zero = refl
text_at-map f text (x ∷ xs) (suc k) = text_at-map f text xs k

-- ---- the lock paths that an instruction asks for

module _ (program : Typed) (section : Section) where
  paths_there : (o : Option (List ℕ)) →
      paths_text program section (unwrap_or o []) ≡ option_map_or (paths_text program section) o []
  paths_there None = refl
  paths_there (Some list) = refl

  pub asked_paths : (lists : List (List ℕ)) (instr : Instr) →
      paths_text program section (asked lists instr) ≡ asked_text program section lists instr
  asked_paths lists (Acquire point) = paths_there (slice_get lists point)
  asked_paths lists _ = refl
