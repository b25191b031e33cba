-- The state under the Mutex after one hold of it.
use Rattle.std.proofs.Common.{◌≡◌, ◌≤◌, ℕ, List, [], ◌∷◌, ◌++◌, length, drop, sym, ap, ◌∙◌, subst, Some}
use Rattle.core_lang.specs.declared.value.Outcome.{Outcome}
use Rattle.std.proofs.lemmas.List.{length-map, drop_at}
use Rattle.std.proofs.lemmas.List.Elements.{All-push}
use Rattle.core_lang.specs.declared.value.Value.{Value}
use Rattle.core_lang.specs.declared.typed.Typed.{Typed}
use Rattle.core_lang.specs.declared.typed.Cell.{Cell}
use Rattle.core_lang.specs.Typing.{IsHeap, HasCells, cell_types}
use Rattle.core_lang.specs.Theory.Openings.{have_length}
use Rattle.core_lang.specs.WellFormed.{CanCall}
use Rattle.layout.specs.Layouts.{LayoutOf}
use Rattle.code.specs.Memory.{Agrees}
use Rattle.history.specs.Commits.{Commit, committed, IsLegal, IsTrueCommit, AreTrue}
use Rattle.history.specs.Working.Laws.{LegalOfOneMore, TrueOfOneMore}
use Rattle.lock_manager.specs.Working.Sessions.{ReceiptOf}
use Rattle.lock_manager.specs.Manager.{Managed}
use Rattle.lock_manager.specs.Working.Managers.{IsKept}
use Rattle.lock_manager.specs.Working.Calls.{KeepsEntries}
use Rattle.lowering.specs.Plans.{Plan}
use Rattle.worlds.specs.Working.InOrder.{SectionsStayInOrder}
use Rattle.runner.specs.Working.Opens.{OpenOf, ReadyOf, IsOpen, IsSame, IsItsEntry, CanBeReleased, Released, entry_of}
use Rattle.workers.specs.Working.Guarding.{IsManagerOf, AreCallable}
use Rattle.workers.specs.Working.Within.{IsEntered, SeesItsOwn}
use Rattle.workers.specs.Logs.{Begins, IsSound, NoneOf}

pub has_cells : (program : Typed) (heap : List Value) → IsHeap program heap → HasCells program heap
has_cells program heap h =
    have_length program.shape (cell_types program) heap h ∙ length-map program.cells.items (λ (cell : Cell). cell.value_type)

-- the log gets no entry
pub manager_kept : (plan : Plan) (m m' : Managed) → IsManagerOf plan m → KeepsEntries m m' → IsManagerOf plan m'
manager_kept plan m m' d k = record {
  layout = k.layout ∙ d.layout;
  ranks = k.ranks ∙ d.ranks;
  true_entries = subst (AreTrue plan.program) (sym k.history) d.true_entries;
  callable = subst (AreCallable plan.program) (sym k.history) d.callable;
  heap = subst (IsHeap plan.program) (sym k.values) d.heap;
}

-- a section that is open was called as it can be
called : (o : OpenOf) → IsOpen o → CanCall o.plan.program o.activation.call.section o.activation.call.arguments
unfolding CanCall
called o is_open = let ready = is_open.in_order.ready in (ready.section, ready.is, ready.fit)

-- the log gets an entry
pub released_manager : (m m' : Managed) (o : OpenOf) (ready : ReadyOf) (receipt : ReceiptOf) → SectionsStayInOrder →
    TrueOfOneMore →
    IsManagerOf o.plan m → IsOpen o → CanBeReleased m o → Released m o ready receipt m' → IsManagerOf o.plan m'
released_manager m m' o ready receipt laws more d is_open can r =
    let e = entry_of o r.outcome in
    let p = o.plan.program in
    let fits = (can.back r.grants r.outcome r.its r.over).1 in
    let after = r.releases.manager in
    record {
      layout = ap (λ (v : Managed). v.layout) after ∙ d.layout;
      ranks = ap (λ (v : Managed). v.ranks) after ∙ d.ranks;
      true_entries =
          subst (AreTrue p) (sym (ap (λ (v : Managed). v.history) after))
          (more p m.history e d.true_entries (laws.ends o.plan o.thread o.step o.activation r.outcome is_open.compiled is_open.in_order r.over));
      callable =
          subst (AreCallable p) (sym (ap (λ (v : Managed). v.history) after))
          (All-push (λ (c : Commit). CanCall p c.section c.arguments) m.history e d.callable (called o is_open));
      heap =
          subst (IsHeap p) (sym (ap (λ (v : Managed). v.values) after))
          (laws.leaves o.plan o.activation r.outcome m.values is_open.compiled is_open.in_order r.over (has_cells p m.values d.heap) d.heap fits.reads);
    }

pub entered : (m m' : Managed) (o : OpenOf) (ready : ReadyOf) (receipt : ReceiptOf) (floor : ℕ) → SectionsStayInOrder →
    IsManagerOf o.plan m → IsKept m → IsOpen o → CanBeReleased m o → Released m o ready receipt m' → floor ≤ o.activation.begun →
    o.activation.begun ≤ length m.history → IsEntered o.plan floor o receipt.position
entered m m' o ready receipt floor laws d kept is_open can r above begun =
    let p = o.plan.program in
    let fits = (can.back r.grants r.outcome r.its r.over).1 in
    let left : m.values ≡ committed o.plan.layout.opening m.history = kept.values ∙ ap (λ (l : LayoutOf). committed l.opening m.history) d.layout in
    record {
      log = m.history;
      long = sym r.releases.position;
      sound = record { legal = subst (λ (l : LayoutOf). IsLegal l.opening m.history) d.layout kept.legal; true_entries = d.true_entries };
      callable = d.callable;
      cells = subst (HasCells p) left (has_cells p m.values d.heap);
      agrees = subst (λ (h : List Value). Agrees h o.activation.machine.memory.reads) left fits.reads;
      is_true = λ outcome over. laws.ends o.plan o.thread o.step o.activation outcome is_open.compiled is_open.in_order over;
      above = above;
      begun = subst (λ (n : ℕ). o.activation.begun ≤ n) (sym r.releases.position) begun;
    }

-- ---- the log

some_same : (x y : Outcome) → Some x ≡ Some y → x ≡ y
some_same x y e = cc e

-- the history has the entry at its end
pub history_after : (m m' : Managed) (o : OpenOf) (ready : ReadyOf) (receipt : ReceiptOf) (e : Commit) → IsItsEntry o e →
    Released m o ready receipt m' → m'.history ≡ m.history ++ e ∷ []
history_after m m' o ready receipt e its r =
    let same : e ≡ entry_of o r.outcome = its.is ∙ ap (entry_of o) (some_same e.outcome r.outcome (sym its.over ∙ r.over)) in
    ap (λ (v : Managed). v.history) r.releases.manager ∙ ap (λ (x : Commit). m.history ++ x ∷ []) (sym same)

-- a sound log and an entry that follows it
more_sound : (plan : Plan) (log : List Commit) (o : OpenOf) (e : Commit) → LegalOfOneMore → TrueOfOneMore → IsItsEntry o e →
    IsSound plan log → Agrees (committed plan.layout.opening log) o.activation.machine.memory.reads →
    IsTrueCommit plan.program (entry_of o e.outcome) → IsSound plan (log ++ e ∷ [])
more_sound plan log o e legal more its sound agrees met =
    let heap = committed plan.layout.opening log in
    let reads : e.reads ≡ o.activation.machine.memory.reads = ap (λ (x : Commit). x.reads) its.is in
    record {
      legal = legal plan.layout.opening log e sound.legal (subst (Agrees heap) (sym reads) agrees);
      true_entries = more plan.program log e sound.true_entries (subst (IsTrueCommit plan.program) (sym its.is) met);
    }

pub sound_after : (m m' : Managed) (o : OpenOf) (ready : ReadyOf) (receipt : ReceiptOf) (e : Commit) (floor : ℕ) → LegalOfOneMore →
    TrueOfOneMore → SectionsStayInOrder → IsManagerOf o.plan m → IsKept m → IsOpen o → CanBeReleased m o → Released m o ready receipt m' →
    floor ≤ o.activation.begun → o.activation.begun ≤ length m.history → IsItsEntry o e → IsSound o.plan (m.history ++ e ∷ [])
unfolding entered
sound_after m m' o ready receipt e floor legal more laws d kept is_open can r above begun its =
    let stands = entered m m' o ready receipt floor laws d kept is_open can r above begun in
    more_sound o.plan m.history o e legal more its stands.sound stands.agrees (stands.is_true e.outcome its.over)

-- what a seat sees after its section's entry is appended to the log, of which it had seen a prefix
pub sees_its_own : (o : OpenOf) (e : Commit) (old log new : List Commit) (position floor thread : ℕ) → IsItsEntry o e → Begins old log →
    floor ≡ length old → thread ≡ e.thread → NoneOf thread (drop floor log) → new ≡ log ++ e ∷ [] → position ≡ length log →
    SeesItsOwn o position old new
sees_its_own o e old log new position floor thread its begins long same none is here =
    let rest = begins.rest in
    let own : thread ≡ o.thread = same ∙ ap (λ (x : Commit). x.thread) its.is in
    let behind : drop floor log ≡ rest = ap (drop floor) begins.is ∙ drop_at old rest floor (sym long) in
    record {
      entry = e;
      its = its;
      seen = record {
        between = rest;
        is = is ∙ ap (λ (xs : List Commit). xs ++ e ∷ []) begins.is;
        others = subst (λ (n : ℕ). NoneOf n rest) own (subst (NoneOf thread) behind none);
        long = ap length (sym begins.is) ∙ sym here;
      };
    }

-- ---- open sections, as each hold of the Mutex leaves them

pub same-trans : (o p q : OpenOf) → IsSame o p → IsSame p q → IsSame o q
same-trans o p q a b = record {
  plan = b.plan ∙ a.plan;
  thread = b.thread ∙ a.thread;
  step = b.step ∙ a.step;
  room = b.room ∙ a.room;
  call = b.call ∙ a.call;
  begun = b.begun ∙ a.begun;
}
