use Rattle.std.proofs.Common.{◌<◌, length, ap, subst, arith}
use Rattle.std.proofs.lemmas.List.{length-map}
use Rattle.std.proofs.lemmas.Option.{slice_get_within}
use Rattle.lockpaths.specs.declared.forms.Bound.{Bound}
use Rattle.lockpaths.specs.Working.States.{Known, known, IsBranch}
use Rattle.lockpaths.proofs.Walked.{branch_here}
use Rattle.lockpaths.proofs.forms.Forms.branch_at.Goals as goal

pub returns : goal.returns
returns c =
    let bounds = c.self.inside.bounds.items in
    let f = known bounds c.self.inside.nodes in
    let seen = ap (λ (f : Known). length f.branches) c.self.view_is in
    let long = length-map bounds (λ (b : Bound). b.branch) in
    let within = slice_get_within c.args.self.now.branches c.args.bound _ c.requires.1 in
    let lt : c.args.bound < length bounds = omega (arith, within, long, seen) in
    subst (λ (f : Known). IsBranch f c.args.bound c.in-Some.branch) c.self.view_is
    (c.self.invariant.branches c.args.bound c.in-Some.branch
    (branch_here bounds c.self.inside.nodes c.args.bound c.index.result.now c.in-Some.branch lt c.index.ensures c.in-Some.is))
