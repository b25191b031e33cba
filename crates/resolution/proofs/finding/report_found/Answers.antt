use Rattle.std.proofs.Common.{true, Bool, List, sym, ap, ◌∙◌, arith, length, ◌≤◌}
use Rattle.std.specs.Prelude.{insert}
use Rattle.resolution.specs.declared.finding.Finding.{Finding}
use Rattle.resolution.specs.Working.Findings.{Firsts, MOST, placed}
use Rattle.resolution.proofs.Placing.{put_in, is_there, cut, uncut}
use Rattle.resolution.proofs.finding.report_found.Goals as goal

pub insert-requires : goal.insert-requires
insert-requires c =
    let put = put_in c.in-Some.at c.args.found c.args.firsts.now.kept (sym c.place.ensures ∙ c.in-Some.is) in
    let same = ap (λ (s : Firsts). length s.kept) c.firsts.view_is in
    ((omega arith), ((let le = put.0 in omega arith), (let le = c.firsts.invariant in omega arith)))

pub returns-then-len-gt-MOST : goal.returns-then-len-gt-MOST
returns-then-len-gt-MOST c =
    let now = c.args.firsts.now in
    let put = put_in c.in-Some.at c.args.found now.kept (sym c.place.ensures ∙ c.in-Some.is) in
    let same = c.insert.ensures.items ∙ ap (λ (s : Firsts). insert s.kept c.in-Some.at c.args.found) c.firsts.view_is ∙ sym put.1 in
    ap (λ (l : List Finding). record { kept = l; more = true }) c.truncate.ensures.items
    ∙ sym (cut MOST (placed c.args.found now.kept) c.insert.new.self.items now.more same
    (let is = c.len.ensures.value in let lt = c.if-len-gt-MOST.true in omega arith))

pub returns-else-len-gt-MOST : goal.returns-else-len-gt-MOST
returns-else-len-gt-MOST c =
    let now = c.args.firsts.now in
    let put = put_in c.in-Some.at c.args.found now.kept (sym c.place.ensures ∙ c.in-Some.is) in
    let same = c.insert.ensures.items ∙ ap (λ (s : Firsts). insert s.kept c.in-Some.at c.args.found) c.firsts.view_is ∙ sym put.1 in
    ap (λ (b : Bool). record { kept = c.insert.new.self.items; more = b }) (ap (λ (s : Firsts). s.more) c.firsts.view_is)
    ∙ sym (uncut MOST (placed c.args.found now.kept) c.insert.new.self.items now.more same
    (let is = c.len.ensures.value in let le = c.if-len-gt-MOST.false in omega arith))

pub returns-in_default : goal.returns-in_default
returns-in_default c =
    let now = c.args.firsts.now in
    let there = is_there 0 c.args.found now.kept (sym c.place.ensures ∙ c.in_default.is) in
    sym (uncut MOST (placed c.args.found now.kept) now.kept now.more (sym there)
    (let same = ap (λ (s : Firsts). length s.kept) c.firsts.view_is in let le = c.firsts.invariant in omega arith))
