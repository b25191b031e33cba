use Rattle.std.proofs.Common.{◌≡◌, ◌∙◌, Some, None, true, false, sym}
use Rattle.std.proofs.lemmas.Result.{on_ok_weaker}
use Rattle.lsp_texts.specs.Declarations.{is_inner, is_top, owner_at}
use Rattle.lsp_texts.proofs.TableLemmas.{keeps, not_inner_of, unnamed_is_no_inner, unnamed_is_no_top, with_inner, with_top, without_owner}
use Rattle.lsp_texts.proofs.tables.Tables.add.Goals as goal

pub returns-in_default : goal.returns-in_default
returns-in_default c =
    let tokens = c.args.tokens.now in
    let at = c.args.at in
    keeps tokens at c.args.self.now c.requires.before (unnamed_is_no_top tokens at c.in_default.ensures)
    (λ o q. unnamed_is_no_inner tokens at o q c.in_default.ensures)

pub returns-then-is_top : goal.returns-then-is_top
returns-then-is_top c =
    let tokens = c.args.tokens.now in
    let at = c.args.at in
    let is_one : is_top tokens at ≡ true = sym c.is_top.ensures ∙ c.if-is_top.true in
    on_ok_weaker c.add_top.result
    (with_top tokens at c.in-Some.text.now c.args.self.now c.add_top.new.self c.requires.before c.in-Some.ensures is_one) c.add_top.ensures

pub returns-in-Some-owner : goal.returns-in-Some-owner
returns-in-Some-owner c =
    let tokens = c.args.tokens.now in
    let at = c.args.at in
    let no_top : is_top tokens at ≡ false = sym c.is_top.ensures ∙ c.if-is_top.false in
    let is_one : is_inner tokens at ≡ true = sym c.is_inner.ensures ∙ c.if-is_inner.true in
    let owned : Some c.in-Some-owner.owner ≡ owner_at tokens at = sym c.in-Some-owner.is ∙ c.requires.place.owner in
    on_ok_weaker c.add_inner.result
    (with_inner tokens at c.in-Some-owner.owner c.in-Some.text.now c.args.self.now c.add_inner.new.self c.requires.before c.in-Some.ensures no_top owned is_one)
    c.add_inner.ensures

pub returns-in_default-owner : goal.returns-in_default-owner
returns-in_default-owner c =
    let tokens = c.args.tokens.now in
    let at = c.args.at in
    let no_top : is_top tokens at ≡ false = sym c.is_top.ensures ∙ c.if-is_top.false in
    let none : is_inner tokens at ≡ false = sym c.is_inner.ensures ∙ c.if-is_inner.false in
    keeps tokens at c.args.self.now c.requires.before no_top (λ o q. not_inner_of tokens at o q none)

pub returns-in_default-owner-2 : goal.returns-in_default-owner-2
returns-in_default-owner-2 c =
    let tokens = c.args.tokens.now in
    let at = c.args.at in
    let no_top : is_top tokens at ≡ false = sym c.is_top.ensures ∙ c.if-is_top.false in
    let owned : None ≡ owner_at tokens at = sym c.in_default-owner.is ∙ c.requires.place.owner in
    keeps tokens at c.args.self.now c.requires.before no_top (λ o q. without_owner tokens at o q owned)
