use Rattle.std.proofs.Common.{◌≡◌, ℕ, ◌+◌, ◌<◌, List, length, get_or, take, ap, ◌∙◌, false, arith}
use Rattle.std.specs.List.{sum_by}
use Rattle.std.proofs.lemmas.List.{get_or_default}
use Rattle.std.proofs.lemmas.List.Sums.{sum_by_more}
use Rattle.source.specs.declared.fault.Code.TheVariants.{LimitExceeded}
use Rattle.source.specs.Mistakes.{least_of}
use Rattle.core_lang_helpers.specs.declared.graph.CallSite.{CallSite}
use Rattle.core_lang_helpers.specs.Graphs.{body_of}
use Rattle.core_lang_helpers.specs.Counts.{brought_locals, brought_points}
use Rattle.core_lang_helpers.specs.Faults.{LOCAL_LIMIT, POINT_LIMIT}
use Rattle.core_lang_helpers.specs.Working.Tables.{up_to}
use Rattle.core_lang_helpers.specs.Working.Knowledge.{bodies}
use Rattle.core_lang_helpers.specs.Working.FaultLists.{told_if, first_too_many}
use Rattle.core_lang_helpers.proofs.Noting.{call_next}
use Rattle.core_lang_helpers.proofs.graph_faults.Known.report_section.Goals as goal

pub loop-call-preserved : goal.loop-call-preserved
loop-call-preserved c =
    let helpers = bodies c.args.self.now in
    let b = body_of c.args.section.now in
    let cs = c.args.section.now.calls.items in
    let i = c.loop-call.call-index in
    let d : CallSite = record { helper = 0; start = 0; is_bound = false } in
    let same : c.deref-call-items.result.now ≡ cs = c.deref-call-items.ensures.value in
    let lt : i < length cs = omega (arith, c.loop-call-test.true, ap (λ (l : List CallSite). length l) same) in
    let x = get_or cs i d in
    let item : get_or c.deref-call-items.result.now i d ≡ x = ap (λ (l : List CallSite). get_or l i d) same in
    let old = c.loop-call.least in
    let ls = c.loop-call.locals.count in
    let ps = c.loop-call.points.count in
    let ml = c.brought-brought.result.locals in
    let mp = c.brought-brought.result.points in
    let ml_is : ml ≡ up_to LOCAL_LIMIT (brought_locals helpers x) = c.brought-brought.ensures.locals ∙ ap (λ (s : CallSite). up_to LOCAL_LIMIT (brought_locals helpers s)) item in
    let mp_is : mp ≡ up_to POINT_LIMIT (brought_points helpers x) = c.brought-brought.ensures.points ∙ ap (λ (s : CallSite). up_to POINT_LIMIT (brought_points helpers s)) item in
    let first : c.add.new.least ≡ least_of old (told_if (first_too_many LOCAL_LIMIT ls ml) LimitExceeded x.start) =
    c.add.ensures.faults ∙ ap (λ (n : ℕ). least_of old (told_if (first_too_many n ls ml) LimitExceeded (get_or c.deref-call-items.result.now i d).start)) c.loop-call.invariant.local_limit
    ∙ ap (λ (s : CallSite). least_of old (told_if (first_too_many LOCAL_LIMIT ls ml) LimitExceeded s.start)) item in
    let second : c.add-in-loop-call.new.least ≡ least_of c.add.new.least (told_if (first_too_many POINT_LIMIT ps mp) LimitExceeded x.start) =
    c.add-in-loop-call.ensures.faults
    ∙ ap (λ (n : ℕ). least_of c.add.new.least (told_if (first_too_many n ps mp) LimitExceeded (get_or c.deref-call-items.result.now i d).start)) c.loop-call.invariant.point_limit
    ∙ ap (λ (s : CallSite). least_of c.add.new.least (told_if (first_too_many POINT_LIMIT ps mp) LimitExceeded s.start)) item in
    let more_locals : sum_by (brought_locals helpers) (take (i + 1) cs) ≡ sum_by (brought_locals helpers) (take i cs) + brought_locals helpers x = sum_by_more (brought_locals helpers) cs i d lt in
    let more_points : sum_by (brought_points helpers) (take (i + 1) cs) ≡ sum_by (brought_points helpers) (take i cs) + brought_points helpers x = sum_by_more (brought_points helpers) cs i d lt in
    let l_is : ls ≡ up_to LOCAL_LIMIT (b.locals + sum_by (brought_locals helpers) (take i cs)) = c.loop-call.invariant.locals in
    let p_is : ps ≡ up_to POINT_LIMIT (sum_by (brought_points helpers) (take i cs)) = c.loop-call.invariant.points in
    let l_new : c.add.new.self.count ≡ up_to LOCAL_LIMIT (ls + ml) = c.add.ensures.count ∙ ap (λ (n : ℕ). up_to n (ls + ml)) c.loop-call.invariant.local_limit in
    let p_new : c.add-in-loop-call.new.self.count ≡ up_to POINT_LIMIT (ps + mp) = c.add-in-loop-call.ensures.count ∙ ap (λ (n : ℕ). up_to n (ps + mp)) c.loop-call.invariant.point_limit in
    record {
      local_limit = c.add.ensures.limit ∙ c.loop-call.invariant.local_limit;
      point_limit = c.add-in-loop-call.ensures.limit ∙ c.loop-call.invariant.point_limit;
      locals = omega (arith, l_new, l_is, ml_is, more_locals);
      points = omega (arith, p_new, p_is, mp_is, more_points);
      noted = call_next helpers b c.args.least.now old c.add.new.least c.add-in-loop-call.new.least i x ls ps ml mp lt (get_or_default cs i d x lt) c.loop-call.invariant.noted
          l_is ml_is p_is mp_is first second;
    }
