use Rattle.std.proofs.Common.{◌≡◌, ◌∙◌, ◌++◌, ◌∷◌, List, [], refl, sym, ap, subst}
use Rattle.std.proofs.lemmas.List.Elements.{All-push}
use Rattle.locks.specs.LockPaths.{StablePath}
use Rattle.lockpaths.specs.declared.found.PathCollector.TheInside.{Inside}
use Rattle.lockpaths.specs.declared.found.Destination.{Destination}
use Rattle.lockpaths.specs.Working.Gathering.{with_new}
use Rattle.lockpaths.specs.Working.Places.{path_at, IsPlace, AreFound}
use Rattle.lockpaths.specs.Working.Told.{Seen}
use Rattle.lockpaths.proofs.Placed.{told_same}
use Rattle.lockpaths.proofs.Reading.{seen, past_all, added_below, added_last, one_more_few}
use Rattle.lockpaths.proofs.found.PathCollector.add.Goals as goal
use Rattle.lockpaths.proofs.found.PathCollector.add.Goals.{then-number-eq-PATH_LIMIT, else-number-eq-PATH_LIMIT}

pub returns-then-number-gt-PATH_LIMIT : goal.returns-then-number-gt-PATH_LIMIT
returns-then-number-gt-PATH_LIMIT c =
    let now = c.args.self.now in
    told_same now.known.table now.known.table now.gathered _ refl
    (past_all (path_at c.self.inside.forms.paths) now.gathered c.args.start c.len-number.result _ (path_at now.known.paths c.args.place) c.self.inside.places.items
    c.if-number-gt-PATH_LIMIT.true c.len-number.ensures c.self.inside.places.ok.0 (ap (λ (s : Seen). s.gathered.paths) c.self.view_is))

pub returns : goal.returns
returns c =
    let x = c.self.inside in
    let at = path_at x.forms.paths in
    let now = c.args.self.now in
    let last = ap (λ (s : Seen). with_new now.gathered c.args.start (path_at s.known.paths c.args.place)) c.self.view_is in
    let table = ap (λ (s : Seen). s.known.table) c.self.view_is in
    elim c.if-number-eq-PATH_LIMIT.branch [
      | then-number-eq-PATH_LIMIT w ↦ (
          let k = w.self-inside-is in
          ap (λ (y : Inside). record { table = y.forms.table; gathered = seen (path_at y.forms.paths) c.push-2.new.self.items c.push.new.self.items y.ends.items y.least }) k
          ∙ told_same x.forms.table now.known.table _ _ table
          (added_last at c.args.place c.args.start c.len-number.result x.places.items c.push-2.new.self.items x.numbers.items c.push.new.self.items x.ends.items x.least now.gathered
          (ap (λ (s : Seen). s.gathered) c.self.view_is) (c.len-number.ensures ∙ x.places.ok.0) (c.in_ok-push-2.ensures.items ∙ ap (λ (y : Inside). y.places.items ++ c.args.place ∷ []) k)
          (c.in_ok-push.ensures.items ∙ ap (λ (y : Inside). y.numbers.items ++ c.len-number.result ∷ []) k) w.if-number-eq-PATH_LIMIT.true w.report.new.least w.report.ensures ∙ last))
      | else-number-eq-PATH_LIMIT w ↦ (
          let k = w.self-inside-is in
          ap (λ (y : Inside). record { table = y.forms.table; gathered = seen (path_at y.forms.paths) c.push-2.new.self.items c.push.new.self.items y.ends.items y.least }) k
          ∙ told_same x.forms.table now.known.table _ _ table
          (added_below at c.args.place c.args.start c.len-number.result x.places.items c.push-2.new.self.items x.numbers.items c.push.new.self.items x.ends.items x.least now.gathered
          (ap (λ (s : Seen). s.gathered) c.self.view_is) (c.len-number.ensures ∙ x.places.ok.0) (c.in_ok-push-2.ensures.items ∙ ap (λ (y : Inside). y.places.items ++ c.args.place ∷ []) k)
          (c.in_ok-push.ensures.items ∙ ap (λ (y : Inside). y.numbers.items ++ c.len-number.result ∷ []) k) c.if-number-gt-PATH_LIMIT.false w.if-number-eq-PATH_LIMIT.false ∙ last))
    ]

pub invariant_of-self : goal.invariant_of-self
invariant_of-self c = elim c.if-number-eq-PATH_LIMIT.branch [
  | then-number-eq-PATH_LIMIT w ↦ subst (λ (x : Inside). AreFound x.forms.paths x.places.items) (sym w.self-inside-is) c.self.invariant
  | else-number-eq-PATH_LIMIT w ↦ subst (λ (x : Inside). AreFound x.forms.paths x.places.items) (sym w.self-inside-is) c.self.invariant
]

pub invariant_of-self-in_err-push-2 : goal.invariant_of-self-in_err-push-2
invariant_of-self-in_err-push-2 c =
    let y = c.if-number-eq-PATH_LIMIT.self-inside in
    let are : AreFound y.forms.paths y.places.items = elim c.if-number-eq-PATH_LIMIT.branch [
      | then-number-eq-PATH_LIMIT w ↦ subst (λ (x : Inside). AreFound x.forms.paths x.places.items) (sym w.self-inside-is) c.self.invariant
      | else-number-eq-PATH_LIMIT w ↦ subst (λ (x : Inside). AreFound x.forms.paths x.places.items) (sym w.self-inside-is) c.self.invariant
    ] in
    subst (λ (ps : List Destination). AreFound y.forms.paths ps) (sym c.in_err-push-2.ensures.items) are

pub invariant_of-self-2 : goal.invariant_of-self-2
invariant_of-self-2 c =
    let x = c.self.inside in
    let y = c.if-number-eq-PATH_LIMIT.self-inside in
    let places : y.places.items ≡ x.places.items = elim c.if-number-eq-PATH_LIMIT.branch [
      | then-number-eq-PATH_LIMIT w ↦ ap (λ (z : Inside). z.places.items) w.self-inside-is
      | else-number-eq-PATH_LIMIT w ↦ ap (λ (z : Inside). z.places.items) w.self-inside-is
    ] in
    let paths : y.forms.paths ≡ x.forms.paths = elim c.if-number-eq-PATH_LIMIT.branch [
      | then-number-eq-PATH_LIMIT w ↦ ap (λ (z : Inside). z.forms.paths) w.self-inside-is
      | else-number-eq-PATH_LIMIT w ↦ ap (λ (z : Inside). z.forms.paths) w.self-inside-is
    ] in
    let here : IsPlace x.forms.paths c.args.place = subst (λ (s : Seen). IsPlace s.known.paths c.args.place) (sym c.self.view_is) c.requires in
    let all = subst (λ (ps : List Destination). AreFound x.forms.paths ps) (sym (c.in_ok-push-2.ensures.items ∙ ap (λ (ps : List Destination). ps ++ c.args.place ∷ []) places))
    (record {
      few = one_more_few c.len-number.result _ x.places.items x.places.items (x.places.items ++ c.args.place ∷ []) c.args.place
          c.if-number-gt-PATH_LIMIT.false c.len-number.ensures x.places.ok.0 refl refl;
      within = All-push (IsPlace x.forms.paths) x.places.items c.args.place c.self.invariant.within here;
    }) in
    subst (λ (ps : List StablePath). AreFound ps c.push-2.new.self.items) (sym paths) all
