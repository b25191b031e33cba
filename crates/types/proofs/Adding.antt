-- The bodies of one more declaration.
use Rattle.std.proofs.Common.{◌≡◌, ℕ, ◌+◌, ◌<◌, List, [], ◌∷◌, ◌++◌, length, take, map, get_or, refl}
use Rattle.std.proofs.Common.{sym, ap, ◌∙◌}
use Rattle.std.proofs.lemmas.List.{map-append, take_more, append-nil}
use Rattle.syntax.specs.declared.tree.Decl as the_decl
use Rattle.syntax.specs.declared.tree.Decl.TheVariants as of
use Rattle.syntax.specs.declared.tree.Section as the_section
use Rattle.syntax.specs.Trees.{Section, Decl, lock, struct, global, array, pool, init, atomic, helper, thread}
use Rattle.syntax.specs.Views.{decl_of}
use Rattle.core_lang_helpers.specs.Graphs.{Body, Graph, with_helper, with_section}
use Rattle.resolution.specs.Limits.{section_limits, helper_limits}
use Rattle.resolution.specs.Statements.{ahead_of}
use Rattle.resolution.specs.CallGraphs.{body_in, helper_bodies, section_bodies}

helpers_push : (all ds : List Decl) (d : Decl) →
    helper_bodies all (ds ++ d ∷ []) ≡ helper_bodies all ds ++ helper_bodies all (d ∷ [])
helpers_push all [] d = refl
helpers_push all (helper s ∷ ds) d = ap (λ (l : List Body). body_in (ahead_of all helper_limits s) s ∷ l) (helpers_push all ds d)
helpers_push all (lock x ∷ ds) d = helpers_push all ds d
helpers_push all (struct x ∷ ds) d = helpers_push all ds d
helpers_push all (global x ∷ ds) d = helpers_push all ds d
helpers_push all (array x ∷ ds) d = helpers_push all ds d
helpers_push all (pool x ∷ ds) d = helpers_push all ds d
helpers_push all (init x ∷ ds) d = helpers_push all ds d
helpers_push all (atomic x ∷ ds) d = helpers_push all ds d
helpers_push all (thread x ∷ ds) d = helpers_push all ds d

sections_push : (all ds : List Decl) (d : Decl) →
    section_bodies all (ds ++ d ∷ []) ≡ section_bodies all ds ++ section_bodies all (d ∷ [])
sections_push all [] d = refl
sections_push all (atomic s ∷ ds) d = ap (λ (l : List Body). body_in (ahead_of all section_limits s) s ∷ l) (sections_push all ds d)
sections_push all (lock x ∷ ds) d = sections_push all ds d
sections_push all (struct x ∷ ds) d = sections_push all ds d
sections_push all (global x ∷ ds) d = sections_push all ds d
sections_push all (array x ∷ ds) d = sections_push all ds d
sections_push all (pool x ∷ ds) d = sections_push all ds d
sections_push all (init x ∷ ds) d = sections_push all ds d
sections_push all (helper x ∷ ds) d = sections_push all ds d
sections_push all (thread x ∷ ds) d = sections_push all ds d

-- the declarations up to one, and that one
decls_next : (items : List the_decl.Decl) (i : ℕ) (d : the_decl.Decl) → i < length items → d ≡ get_or items i d →
    map decl_of (take (i + 1) items) ≡ map decl_of (take i items) ++ decl_of d ∷ []
decls_next items i d lt is =
    ap (map decl_of) (take_more items i d lt ∙ ap (λ (x : the_decl.Decl). take i items ++ x ∷ []) (sym is)) ∙ map-append decl_of (take i items) (d ∷ [])

pub helpers_next : (all : List Decl) (items : List the_decl.Decl) (i : ℕ) (d : the_decl.Decl) → i < length items →
    d ≡ get_or items i d →
    helper_bodies all (map decl_of (take (i + 1) items)) ≡ helper_bodies all (map decl_of (take i items)) ++ helper_bodies all (decl_of d ∷ [])
helpers_next all items i d lt is = ap (helper_bodies all) (decls_next items i d lt is) ∙ helpers_push all (map decl_of (take i items)) (decl_of d)

pub sections_next : (all : List Decl) (items : List the_decl.Decl) (i : ℕ) (d : the_decl.Decl) → i < length items →
    d ≡ get_or items i d →
    section_bodies all (map decl_of (take (i + 1) items)) ≡ section_bodies all (map decl_of (take i items)) ++ section_bodies all (decl_of d ∷ [])
sections_next all items i d lt is = ap (section_bodies all) (decls_next items i d lt is) ∙ sections_push all (map decl_of (take i items)) (decl_of d)

-- ---- as the code goes over declarations

none_helper : (all : List Decl) (d : the_decl.Decl) → ((x : the_section.Section) → d ≡ of.Helper x → ⊥) →
    helper_bodies all (decl_of d ∷ []) ≡ []
none_helper all (of.Lock x) no_one = refl
none_helper all (of.Struct x) no_one = refl
none_helper all (of.Global x) no_one = refl
none_helper all (of.Array x) no_one = refl
none_helper all (of.Pool x) no_one = refl
none_helper all (of.Init x) no_one = refl
none_helper all (of.Atomic x) no_one = refl
none_helper all (of.Helper x) no_one = absurd (no_one _ refl)
none_helper all (of.Thread x) no_one = refl

none_section : (all : List Decl) (d : the_decl.Decl) → ((x : the_section.Section) → d ≡ of.Atomic x → ⊥) →
    section_bodies all (decl_of d ∷ []) ≡ []
none_section all (of.Lock x) no_one = refl
none_section all (of.Struct x) no_one = refl
none_section all (of.Global x) no_one = refl
none_section all (of.Array x) no_one = refl
none_section all (of.Pool x) no_one = refl
none_section all (of.Init x) no_one = refl
none_section all (of.Helper x) no_one = refl
none_section all (of.Atomic x) no_one = absurd (no_one _ refl)
none_section all (of.Thread x) no_one = refl

-- the helpers up to a declaration
abbrev pub HelpersSo : List Decl → List the_decl.Decl → Graph → Graph → ℕ → Type 0
HelpersSo all items first graph i = graph ≡ record first { helpers = helper_bodies all (map decl_of (take i items)) }

module _ (all : List Decl) (items : List the_decl.Decl) (i : ℕ) (d : the_decl.Decl) (first old new : Graph) (lt : i < length items) (is : d ≡ get_or items i d)
    (so : HelpersSo all items first old i) where
  abbrev before : List Body
  before = helper_bodies all (map decl_of (take i items))

  pub helper_added : (s : Section) (b : Body) → decl_of d ≡ helper s → b ≡ body_in (ahead_of all helper_limits s) s →
      new ≡ with_helper old b → HelpersSo all items first new (i + 1)
  helper_added s b seen made added =
      let next : helper_bodies all (map decl_of (take (i + 1) items)) ≡ before ++ b ∷ [] =
      helpers_next all items i d lt is ∙ ap (λ (x : Decl). before ++ helper_bodies all (x ∷ [])) seen ∙ ap (λ (x : Body). before ++ x ∷ []) (sym made) in
      added ∙ ap (λ (g : Graph). with_helper g b) so ∙ ap (λ (l : List Body). record first { helpers = l }) (sym next)

  pub helper_none : new ≡ old → ((x : the_section.Section) → d ≡ of.Helper x → ⊥) → HelpersSo all items first new (i + 1)
  helper_none same no_one =
      let next : helper_bodies all (map decl_of (take (i + 1) items)) ≡ before =
      helpers_next all items i d lt is ∙ ap (λ (l : List Body). before ++ l) (none_helper all d no_one) ∙ append-nil before in
      same ∙ so ∙ ap (λ (l : List Body). record first { helpers = l }) (sym next)

-- the sections up to a declaration
abbrev pub SectionsSo : List Decl → List the_decl.Decl → Graph → Graph → ℕ → Type 0
SectionsSo all items first graph i = graph ≡ record first { sections = section_bodies all (map decl_of (take i items)) }

module _ (all : List Decl) (items : List the_decl.Decl) (i : ℕ) (d : the_decl.Decl) (first old new : Graph) (lt : i < length items) (is : d ≡ get_or items i d)
    (so : SectionsSo all items first old i) where
  abbrev ahead : List Body
  ahead = section_bodies all (map decl_of (take i items))

  pub section_added : (s : Section) (b : Body) → decl_of d ≡ atomic s →
      b ≡ body_in (ahead_of all section_limits s) s → new ≡ with_section old b →
      SectionsSo all items first new (i + 1)
  section_added s b seen made added =
      let next : section_bodies all (map decl_of (take (i + 1) items)) ≡ ahead ++ b ∷ [] =
      sections_next all items i d lt is ∙ ap (λ (x : Decl). ahead ++ section_bodies all (x ∷ [])) seen ∙ ap (λ (x : Body). ahead ++ x ∷ []) (sym made) in
      added ∙ ap (λ (g : Graph). with_section g b) so ∙ ap (λ (l : List Body). record first { sections = l }) (sym next)

  pub section_none : new ≡ old → ((x : the_section.Section) → d ≡ of.Atomic x → ⊥) →
      SectionsSo all items first new (i + 1)
  section_none same no_one =
      let next : section_bodies all (map decl_of (take (i + 1) items)) ≡ ahead =
      sections_next all items i d lt is ∙ ap (λ (l : List Body). ahead ++ l) (none_section all d no_one) ∙ append-nil ahead in
      same ∙ so ∙ ap (λ (l : List Body). record first { sections = l }) (sym next)
