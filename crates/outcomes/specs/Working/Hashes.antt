-- The hashes by which states are found. Nobody has to believe this file.
use Rattle.std.specs.Prelude.{ℕ, List, [], ◌∷◌, Option, Some, None, fold}
use Rattle.std.specs.Int.{w64, cast_unsigned}
use Rattle.std.specs.Hash.{u64}
use Rattle.std.specs.Hash.FoldHasher.{write, finish}
use Rattle.std.specs.declared.hash.FoldHasher.{FoldHasher}
use Rattle.core_lang.specs.declared.value.Value.{Value}
use Rattle.core_lang.specs.declared.value.Value.TheVariants.{Int, Ref}
use Rattle.core_lang.specs.declared.value.Outcome.{Outcome}
use Rattle.core_lang.specs.declared.value.Outcome.TheVariants.{Ends, Returns, Traps}
use Rattle.core_lang.specs.Traps.{trap_number}
use Rattle.outcomes.specs.declared.state.Change.{Change}
use Rattle.outcomes.specs.Ends.{Left}
use Rattle.outcomes.specs.Working.Changes.{changes_of}

abbrev pub mixed : FoldHasher → ℕ → FoldHasher
mixed hasher word = fold write hasher (u64 word)

abbrev pub word_of : Value → ℕ
word_of (Int n) = cast_unsigned w64 n
word_of (Ref (Some object)) = object
word_of (Ref None) = 4294967296

abbrev pub mixed_all : FoldHasher → List ℕ → FoldHasher
mixed_all hasher [] = hasher
mixed_all hasher (word ∷ words) = mixed_all (mixed hasher word) words

abbrev pub mixed_changes : FoldHasher → List Change → FoldHasher
mixed_changes hasher [] = hasher
mixed_changes hasher (c ∷ changes) = mixed_changes (mixed (mixed hasher c.cell) (word_of c.value)) changes

abbrev pub mixed_answer : FoldHasher → Option Outcome → FoldHasher
mixed_answer hasher None = mixed hasher 0
mixed_answer hasher (Some Ends) = mixed hasher 1
mixed_answer hasher (Some (Returns value)) = mixed (mixed hasher 2) (word_of value)
mixed_answer hasher (Some (Traps trap)) = mixed (mixed hasher 3) (trap_number trap)

abbrev pub mixed_answers : FoldHasher → List (Option Outcome) → FoldHasher
mixed_answers hasher [] = hasher
mixed_answers hasher (answer ∷ answers) = mixed_answers (mixed_answer hasher answer) answers

-- the hash of a state: the number of each thread's calls that are done, the changes of the cells, and the outcomes; the
-- hasher has the keys
abbrev pub hash : FoldHasher → List ℕ → List Change → List (Option Outcome) → ℕ
hash start done changes answers = finish (mixed_answers (mixed_changes (mixed_all start done) changes) answers)

-- the hash of a state, by the values of its cells and those before any call
abbrev pub hash_left : FoldHasher → List Value → List ℕ → Left → ℕ
hash_left start opening done left = hash start done (changes_of opening left.cells) left.answers
