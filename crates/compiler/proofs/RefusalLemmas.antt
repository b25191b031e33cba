-- A refusal by one pass is a refusal of the text.
use Rattle.std.proofs.Common.{◌≡◌, ℕ, List}
use Rattle.source.specs.declared.fault.Refusal.{Refusal}
use Rattle.source.specs.declared.fault.Refusal.TheVariants.{Fault, NoMemory}
use Rattle.source.specs.Tokens.{Tok}
use Rattle.source.specs.Texts as text
use Rattle.syntax.specs.Trees.{Decl}
use Rattle.syntax.specs.Faults as grammar
use Rattle.resolution.specs.Faults as names
use Rattle.resolution.specs.Resolved.{Resolves}
use Rattle.core_lang.specs.declared.typed.Typed.{Typed}
use Rattle.core_lang_helpers.specs.Data.{IsExpanded}
use Rattle.locks.specs.Faults as paths
use Rattle.source.specs.Mistakes.{IsLeastOf}
use Rattle.compiler.specs.Programs.{IsRefusal, HasNoTextFault, HasNoTokenFault, in_text, in_tokens}
use Rattle.compiler.specs.Programs.{in_tree, in_paths}

pub text_refused : (source : List ℕ) (e : Refusal) → text.IsRefusal source e → IsRefusal source e
text_refused source NoMemory refused = tt
text_refused source (Fault fault) refused = in_text refused

pub tokens_refused : (source : List ℕ) (tokens : List Tok) (e : Refusal) → HasNoTextFault source →
    text.HasTokens source tokens
    → grammar.IsRefusal tokens e → IsRefusal source e
tokens_refused source tokens NoMemory no_text has refused = tt
tokens_refused source tokens (Fault fault) no_text has refused = in_tokens tokens no_text has refused

pub tree_refused : (source : List ℕ) (tokens : List Tok) (tree : List Decl) (e : Refusal) → HasNoTextFault source
    → text.HasTokens source tokens → HasNoTokenFault tokens → grammar.HasRightTree tokens tree
    → names.IsRefusal tree e → IsLeastOf (names.IsFault tree) e → IsRefusal source e
tree_refused source tokens tree NoMemory no_text has no_token right refused least = tt
tree_refused source tokens tree (Fault fault) no_text has no_token right refused least =
    in_tree tokens tree no_text has no_token right refused least

pub paths_refused : (source : List ℕ) (tokens : List Tok) (tree : List Decl) (program written : Typed) (e : Refusal) →
    HasNoTextFault source
    → text.HasTokens source tokens → HasNoTokenFault tokens → grammar.HasRightTree tokens tree → names.HasNoFault tree
    → Resolves tree program → IsExpanded program written → paths.IsRefusal written e → paths.IsLeast written e → IsRefusal source e
paths_refused source tokens tree program written NoMemory no_text has no_token right no_name means expanded refused least = tt
paths_refused source tokens tree program written (Fault fault) no_text has no_token right no_name means expanded refused least =
    in_paths tokens tree program written no_text has no_token right no_name means expanded refused least

-- a failed allocation is a refusal of any pass
pub no_memory_refused : (source : List ℕ) (e : Refusal) → e ≡ NoMemory → IsRefusal source e
no_memory_refused source NoMemory is = tt
no_memory_refused source (Fault fault) is = absurd cc
