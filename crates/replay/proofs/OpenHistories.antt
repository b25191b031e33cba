-- A claim that holds if the scripts call holds if anyone may call.
use Rattle.std.proofs.Common.{◌≡◌, ◌∙◌, ◌<◌, ◌+◌, ◌^◌, ℕ, List, [], ◌∷◌, length, Some, arith, ap, subst}
use Rattle.std.proofs.lemmas.List.{length_push}
use Rattle.core_lang.specs.declared.typed.Typed.{Typed}
use Rattle.core_lang.specs.Serial.{Scheduled}
use Rattle.core_lang.specs.WellFormed.{IsChecked, CanCall}
use Rattle.input_files.specs.declared.format.Format.{Format}
use Rattle.replay.specs.declared.callers.Callers.TheVariants.{Scripts, Anyone}
use Rattle.replay.specs.Readers.{Reader, Comes, Come, IsOpenCall, due, call, cells, calls_by, next_call, opened}
use Rattle.replay.specs.Working.Laws.{AreScriptsTold, ScriptsAreOpen}
use Rattle.replay.proofs.Nexts.{next_counted, scripted_call}
use Rattle.replay.proofs.Scripts.{call_in_bounds, next_bounds}

module _ (turns : ℕ) (format : Format) (program : Typed) (well : IsChecked program) (told : AreScriptsTold program) where
  scripted_open : (order : List ℕ) (s : Scheduled) → next_call program order s.thread ≡ Some s → length order < 2 ^ 63 →
      IsOpenCall program order s
  scripted_open order s next few =
      let small = (next_bounds program order s.thread s next well).0 in
      let found = scripted_call program order s next in
      let bounds = call_in_bounds program s.thread (calls_by s.thread order) found.0 found.1 well in
      record {
        thread = omega (arith, small);
        counted = next_counted Scripts program order s next;
        fits = subst (λ (x : Scheduled). CanCall program x.call.section x.call.arguments) found.2 bounds.1;
        told = told s.thread (calls_by s.thread order) s next;
        few = few;
      }

  comes_open : (before after : Reader) (text : List ℕ) → length before.order < 2 ^ 63 →
      Comes turns Scripts format program before after text →
      Comes turns Anyone format program before after text × (length after.order < length before.order + 2)
  comes_open before after text few (due d) =
      let same = ap (λ (r : Reader). length r.order) d.leads in
      (due (record { more = d.more; is_due = d.is_due; leads = d.leads }), omega (arith, same))
  comes_open before after text few (call c) =
      let long = ap (λ (r : Reader). length r.order) c.leads ∙ length_push before.order c.entry.thread in (
        call (record {
          among = c.among;
          entry = c.entry;
          heap = c.heap;
          next = record { next = scripted_open before.order _ c.next.next few; begins = c.next.begins; told = c.next.told };
          settled = c.settled;
          leads = c.leads;
        }),
        omega (arith, long),
      )
  comes_open before after text few (cells c) =
      let same = ap (λ (r : Reader). length r.order) c.leads in
      (cells (record { among = c.among; all = tt; is_cells = c.is_cells; leads = c.leads }), omega (arith, same))

  come_open : (lines : List (List ℕ)) (before after : Reader) → length before.order + length lines < 2 ^ 63 →
      Come turns Scripts format program before lines after → Come turns Anyone format program before lines after
  come_open [] before after few came = came
  come_open (text ∷ more) before after few came =
      let step = comes_open before came.0 text (omega (arith, few)) came.1 in
      let long = step.1 in
      (came.0, step.0, come_open more came.0 after (omega (arith, few, long)) came.2)

pub scripts_open : ScriptsAreOpen
scripts_open turns format program lines well told few same = record {
  reader = same.reader;
  came = come_open turns format program well told lines (opened program) same.reader (omega (arith, few)) same.came;
  ended = same.ended;
}
