use Rattle.std.proofs.Common.{◌≡◌, ◌++◌, List, ℕ, rules, ◌∷◌, length, inl, refl, sym, ap, ◌∙◌}
use Rattle.std.specs.Prelude.{codes}
use Rattle.test_support.proofs.Words.{asked_read, nothing_asked, head_read, headless_read, want_read}
use Rattle.std.proofs.Math.Seq.{drop-append_seam}
use Rattle.std.proofs.lemmas.List.{length-append}
use Rattle.test_support.proofs.paragraph.read_paragraph.Goals as goal

pub returns-in-None-split_once-clause-unreadable :
    goal.returns-in-None-split_once-clause-unreadable
returns-in-None-split_once-clause-unreadable c =
    λ _. inl (λ text want is. c.in-None-split_once.ensures.cases (length text) (rw (is, length-append text (10 ∷ 61 ∷ 62 ∷ 32 ∷ want)) (search rules)) want (rw (is) (drop-append_seam text (10 ∷ 61 ∷ 62 ∷ 32 ∷ want))))

pub returns-in-Some-named : goal.returns-in-Some-named
returns-in-Some-named c =
    let cases = c.in-Some.ensures.cases in
    let is : c.args.paragraph.now ≡ codes "@ask " ++ c.in-Some.word.now = cases.1.1 ∙ ap (λ (s : List ℕ). codes "@ask " ++ s) (sym cases.2) in
    rw is (asked_read _ _ (rw c.in-Some-named.is at c.named.ensures))

pub returns-in-None : goal.returns-in-None
returns-in-None c =
    let cases = c.in-Some.ensures.cases in
    let is : c.args.paragraph.now ≡ codes "@ask " ++ c.in-Some.word.now = cases.1.1 ∙ ap (λ (s : List ℕ). codes "@ask " ++ s) (sym cases.2) in
    rw is (nothing_asked _ (rw c.in-None.is at c.named.ensures))

pub returns-in-Some-strip_prefix : goal.returns-in-Some-strip_prefix
returns-in-Some-strip_prefix c =
    let cases = c.in-Some-strip_prefix.ensures.cases in
    let is : c.args.paragraph.now ≡ codes "@head\n" ++ c.in-Some-strip_prefix.head.now = cases.1.1 ∙ ap (λ (s : List ℕ). codes "@head\n" ++ s) (sym cases.2) in
    rw is (head_read _)

pub returns-in-Some-strip_prefix-2 : goal.returns-in-Some-strip_prefix-2
returns-in-Some-strip_prefix-2 c =
    let cases = c.in-Some-strip_prefix-2.ensures.cases in
    let is : c.args.paragraph.now ≡ codes "=> " ++ c.in-Some-strip_prefix-2.want.now = cases.1.1 ∙ ap (λ (s : List ℕ). codes "=> " ++ s) (sym cases.2) in
    rw is (want_read _ _ refl)

pub returns-then-eq : goal.returns-then-eq
returns-then-eq c = headless_read _ c.if-eq.ensures
