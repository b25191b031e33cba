use denote.Enum.Declared.{tag_of}
use Rattle.std.proofs.Common.{◌≡◌, ◌∙◌, ℕ, ap, refl}
use Rattle.std.specs.Prelude.{◌==◌}
use Rattle.source.specs.contracts.token.Sign.{the_type}
use Rattle.source.specs.declared.token.Sign.{Sign}
use Rattle.source.specs.declared.token.Sign.TheVariants.{OpenBrace, CloseBrace, OpenParen, CloseParen, OpenBracket}
use Rattle.source.specs.declared.token.Sign.TheVariants.{CloseBracket, Semicolon, Comma, Colon, Dot, Equals}
use Rattle.source.specs.declared.token.Sign.TheVariants.{DoubleEquals, NotEquals, Less, LessEquals, Greater}
use Rattle.source.specs.declared.token.Sign.TheVariants.{GreaterEquals, Plus, Minus, Star, Slash, Percent, And, Or}
use Rattle.source.specs.declared.token.Sign.TheVariants.{Not}
use Rattle.parser.specs.Working.Reading.{sign_code}
use Rattle.parser.proofs.take.is_same.Goals as goal

-- a sign's code is its place among the signs
code_is : (a : Sign) → tag_of the_type a ≡ sign_code a
code_is OpenBrace = refl
code_is CloseBrace = refl
code_is OpenParen = refl
code_is CloseParen = refl
code_is OpenBracket = refl
code_is CloseBracket = refl
code_is Semicolon = refl
code_is Comma = refl
code_is Colon = refl
code_is Dot = refl
code_is Equals = refl
code_is DoubleEquals = refl
code_is NotEquals = refl
code_is Less = refl
code_is LessEquals = refl
code_is Greater = refl
code_is GreaterEquals = refl
code_is Plus = refl
code_is Minus = refl
code_is Star = refl
code_is Slash = refl
code_is Percent = refl
code_is And = refl
code_is Or = refl
code_is Not = refl

pub returns : goal.returns
returns c = c.eq.ensures ∙ ap (λ (n : ℕ). n == tag_of the_type c.args.b) (code_is c.args.a) ∙ ap (λ (n : ℕ). sign_code c.args.a == n) (code_is c.args.b)
