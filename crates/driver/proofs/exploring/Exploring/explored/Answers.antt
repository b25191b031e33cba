use Rattle.std.proofs.Common.{◌≡◌, ◌∙◌, ap, refl, sym, subst, ℕ, Bool, List, [], ◌∷◌, ◌++◌, map, Option, Some, None}
use Rattle.std.specs.Prelude.{true, false, not, cond, ◌&&◌, option_map}
use Rattle.std.specs.List.{find, list_all}
use Rattle.std.specs.Option.{option_or}
use Rattle.std.proofs.lemmas.Bool.{true≢false}
use Rattle.std.proofs.lemmas.List.Folds.{find-append}
use Rattle.std.proofs.lemmas.Option.{none-some}
use Rattle.std.proofs.lemmas.Result.{IfOk-weaker}
use denote.Bor.{Bor}
use Rattle.core_lang.specs.declared.typed.Typed.{Typed}
use Rattle.report_runs.specs.Names.{is_known, names_in, names_together, first_unknown, IsUnknownIn}
use Rattle.report_runs.specs.ExpectationTexts.{said_of}
use Rattle.report_runs.specs.ExpectationCells.{has_reference, is_numeric, first_bad, names_of}
use Rattle.driver.specs.Outcomes.{AreExpectedNames, Expected, IsExpected, IsNoCell, is_given, names_given, text_given, unknown_named}
use Rattle.driver.specs.declared.exploring.Expected as exploring
use Rattle.driver.specs.Working.Answering.{expected_of}
use Rattle.driver.proofs.exploring.Exploring.explored.Goals.{in-Some, in-None}
use Rattle.driver.proofs.exploring.Exploring.explored.Goals as goal

-- no name is bad among names that all stand for sums
none_bad : (program : Typed) (names : List (List ℕ)) → list_all (is_numeric program) names ≡ true → first_bad program names ≡ None
none_bad program [] all = refl
none_bad program (n ∷ ns) all = by (is_numeric program n) (none_bad program ns) all
  where
    by : (b : Bool) → (list_all (is_numeric program) ns ≡ true → first_bad program ns ≡ None) →
        (b && list_all (is_numeric program) ns) ≡ true → cond (not b) (Some n) (first_bad program ns) ≡ None
    by true rest all = rest all
    by false rest all = absurd (true≢false (sym all))

-- and none is unknown
none_unknown : (program : Typed) (names : List (List ℕ)) → list_all (is_numeric program) names ≡ true →
    first_unknown program names ≡ None
none_unknown program [] all = refl
none_unknown program (n ∷ ns) all = by (is_known program n) (has_reference program n) (none_unknown program ns) all
  where
    by : (k h : Bool) → (list_all (is_numeric program) ns ≡ true → first_unknown program ns ≡ None) →
        ((k && not h) && list_all (is_numeric program) ns) ≡ true → cond (not k) (Some n) (first_unknown program ns) ≡ None
    by true true rest all = absurd (true≢false (sym all))
    by true false rest all = rest all
    by false h rest all = absurd (true≢false (sym all))

alone : {X : Type 0} (o : Option X) → option_or o None ≡ o
alone None = refl
alone (Some x) = refl

-- the first unknown name is one of the given ones, where all others are known
among_given : (program : Typed) (given names : List (List ℕ)) (name : List ℕ) → first_unknown program names ≡ None →
    first_unknown program (given ++ names) ≡ Some name → first_unknown program given ≡ Some name
among_given program given names name known first =
    let p = λ (n : List ℕ). not (is_known program n) in
    sym (alone (find p given)) ∙ ap (option_or (find p given)) (sym known) ∙ sym (find-append p given names) ∙ first

-- a name that is not known is given, since what is expected stands for sums
no_cell : (program : Typed) (text given : Option (List ℕ)) (expected : Option Expected) (name : List ℕ) →
    IsExpected program text expected →
    IsUnknownIn program (names_together given (option_map (λ (e : Expected). names_of e.said) expected)) name →
    (names : List (List ℕ)) × AreExpectedNames text names × IsNoCell program names given name
no_cell program None None None name is unknown = absurd unknown
no_cell program None (Some g) None name is unknown = ([], refl, is_given refl refl unknown)
no_cell program None given (Some e) name is unknown = absurd is
no_cell program (Some text) given None name is unknown = absurd is
no_cell program (Some text) None (Some e) name is unknown =
    absurd (none-some name (sym (none_unknown program (names_of e.said) is.2.numeric) ∙ unknown))
no_cell program (Some text) (Some g) (Some e) name is unknown =
    let names = names_of e.said in
    let numeric = is.2.numeric in (
      names,
      (e.said, is.1, refl),
      is_given (none_bad program names numeric) refl
          (among_given program (names_in g) names name (none_unknown program names numeric) unknown),
    )

-- the texts of borrowed names
abbrev texts : List (Bor (List ℕ)) → List (List ℕ)
texts names = map (λ (name : Bor (List ℕ)). name.now) names

abbrev lent : Option (Bor (List (Bor (List ℕ)))) → Option (List (List ℕ))
lent names = option_map (λ (more : Bor (List (Bor (List ℕ)))). texts more.now) names

-- the names that an expectation keeps, those of its comparison, and those of what it stands for
abbrev kept_names : Option (Bor exploring.Expected) → Option (List (List ℕ))
kept_names expected = option_map (λ (e : Bor exploring.Expected). texts e.now.names.items) expected

abbrev said_names : Option (Bor exploring.Expected) → Option (List (List ℕ))
said_names expected = option_map (λ (e : Bor exploring.Expected). names_of (said_of e.now.expectation)) expected

abbrev expected_names : Option (Bor exploring.Expected) → Option (List (List ℕ))
expected_names expected =
    option_map (λ (e : Expected). names_of e.said) (option_map (λ (e : Bor exploring.Expected). expected_of e.now) expected)

pub returns-in-Err : goal.returns-in-Err
returns-in-Err c =
    let program = c.args.self.now.prepared.now.program.now in
    let looking = c.args.self.now.looking in
    let expected = c.args.expected in
    let name = c.in-Err.name.now in
    let unknown = rw (c.in-Err.is, c.program-program.ensures) at c.in_ok-cells.ensures in
    let same : lent c.match-expected.names ≡ expected_names expected =
    elim c.match-expected.branch [
      | in-Some w ↦
          ap lent w.names-is ∙ ap (λ (names : List (Bor (List ℕ))). Some (texts names)) w.as_slice.ensures.value
          ∙ sym (ap kept_names w.in-Some.is) ∙ c.requires.names ∙ ap said_names w.in-Some.is ∙ sym (ap expected_names w.in-Some.is)
      | in-None w ↦ ap lent w.names-is ∙ sym (ap expected_names w.in-None.is)
    ] in
    let first =
    no_cell program (text_given looking) (names_given looking) (option_map (λ (e : Bor exploring.Expected). expected_of e.now) expected) name
    c.requires.expected
    (subst (λ (names : Option (List (List ℕ))). IsUnknownIn program (names_together (names_given looking) names) name) same unknown) in
    IfOk-weaker c.unknown_cell.result _ _
    (λ answer is. unknown_named (record {
      names = first.0;
      expected = first.1;
      name = name;
      first = first.2;
      ended = is.0;
      written = is.1;
      told = is.2;
    }))
    c.unknown_cell.ensures
