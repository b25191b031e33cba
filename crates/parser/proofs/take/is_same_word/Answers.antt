use denote.Enum.Declared.{tag_of}
use Rattle.std.proofs.Common.{◌≡◌, ◌∙◌, ℕ, ap, refl}
use Rattle.std.specs.Prelude.{◌==◌}
use Rattle.source.specs.contracts.token.Keyword.{the_type}
use Rattle.source.specs.declared.token.Keyword.{Keyword}
use Rattle.source.specs.declared.token.Keyword.TheVariants.{Lock, Struct, Final, Ref, Int, Global, ProtectedBy, Pool}
use Rattle.source.specs.declared.token.Keyword.TheVariants.{Init, Atomic, Let, Var, If, Else, While, Print, Return}
use Rattle.source.specs.declared.token.Keyword.TheVariants.{Thread, Repeat, Null, Where, Call}
use Rattle.parser.specs.Working.Reading.{keyword_code}
use Rattle.parser.proofs.take.is_same_word.Goals as goal

-- a keyword's code is its place among the keywords
code_is : (a : Keyword) → tag_of the_type a ≡ keyword_code a
code_is Lock = refl
code_is Struct = refl
code_is Final = refl
code_is Ref = refl
code_is Int = refl
code_is Global = refl
code_is ProtectedBy = refl
code_is Pool = refl
code_is Init = refl
code_is Atomic = refl
code_is Let = refl
code_is Var = refl
code_is If = refl
code_is Else = refl
code_is While = refl
code_is Print = refl
code_is Return = refl
code_is Thread = refl
code_is Repeat = refl
code_is Null = refl
code_is Where = refl
code_is Call = refl

pub returns : goal.returns
returns c = c.eq.ensures ∙ ap (λ (n : ℕ). n == tag_of the_type c.args.b) (code_is c.args.a) ∙ ap (λ (n : ℕ). keyword_code c.args.a == n) (code_is c.args.b)
