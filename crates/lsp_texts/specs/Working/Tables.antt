-- The tables of declared names, as functions.
use Rattle.std.specs.Prelude.{◌≡◌, ℕ, ◌==◌, ◌&&◌, List, Option, Some, None, if◌then◌else◌, length}
use Rattle.std.specs.Option.{option_or}
use Rattle.std.specs.Ordering.{nat_cmp, ordering_then}
use Rattle.std.specs.Cmp.Lexicographic.{slice_cmp}
use Rattle.std.specs.BTreeMap.{get_by}
use Rattle.std.specs.Str.{bytes_eq}
use Rattle.source.specs.declared.token.Token.{Token}
use Rattle.lsp_texts.specs.Declarations.{first, is_top_of, is_inner_of}
use Rattle.lsp_texts.specs.declared.tables.Tables.{Tables}

abbrev pub top_in : Tables → List ℕ → Option ℕ
top_in tables text = get_by (λ k. slice_cmp nat_cmp text k.now) tables.top

abbrev pub inner_in : Tables → ℕ → List ℕ → Option ℕ
inner_in tables owner text = get_by (λ k. ordering_then (nat_cmp owner k.0) (slice_cmp nat_cmp text k.1.now)) tables.inner

-- one more name at the top level, unless it was declared before
pub record IsWithTop (text : List ℕ) (at : ℕ) (old new : Tables) : Type 0 where
  pub top : (q : List ℕ) → top_in new q ≡ option_or (top_in old q) (if bytes_eq text q then Some at else None)
  pub inner : (o : ℕ) (q : List ℕ) → inner_in new o q ≡ inner_in old o q

-- the same for a name within the declaration `owner`
pub record IsWithInner (owner : ℕ) (text : List ℕ) (at : ℕ) (old new : Tables) : Type 0 where
  pub top : (q : List ℕ) → top_in new q ≡ top_in old q
  pub inner : (o : ℕ) (q : List ℕ) → inner_in new o q ≡ option_or (inner_in old o q) (if (owner == o) && bytes_eq text q then Some at else None)

-- the tables of the names among the first `n` tokens
pub record AreTablesIn (tokens : List Token) (n : ℕ) (tables : Tables) : Type 0 where
  pub top : (q : List ℕ) → top_in tables q ≡ first (is_top_of tokens q) n
  pub inner : (o : ℕ) (q : List ℕ) → inner_in tables o q ≡ first (is_inner_of tokens o q) n

abbrev pub AreTablesOf : List Token → Tables → Type 0
AreTablesOf tokens tables = AreTablesIn tokens (length tokens) tables
