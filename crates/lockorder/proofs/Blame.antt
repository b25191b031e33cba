-- A cycle as a fault, which a program with ranks does not have.
use Rattle.std.proofs.Common.{◌≡◌, ℕ, ◌<◌, List, [], ◌∷◌, map, length, get_or, Some, refl, sym, ap, ◌∙◌, subst, arith}
use Rattle.std.specs.Prelude.{slice_get, string_bytes}
use Rattle.std.specs.Option.{option_map}
use Rattle.std.proofs.lemmas.Option.{same_Some, slice_get_within, slice_get_read, slice_get-map}
use Rattle.std.proofs.lemmas.List.{length-map}
use Rattle.source.specs.declared.fault.Fault.{Fault}
use Rattle.source.specs.declared.fault.Code.TheVariants.{LockOrderCycle}
use Rattle.core_lang.specs.declared.tree.Section.{Section}
use Rattle.core_lang.specs.declared.typed.Typed.{Typed}
use Rattle.core_lang.specs.WellFormed.{IsWellFormed}
use Rattle.flow.specs.Points.{points, start_of}
use Rattle.flow.specs.Working.PointList.{point_at}
use Rattle.flow.specs.declared.points.PointRef.{PointRef}
use Rattle.locks.specs.Working.Laws.{PathsHaveClasses}
use Rattle.lockorder.specs.declared.ranks.Edge as written
use Rattle.lockorder.specs.Edges.{Makes, MakesFirst, Edge}
use Rattle.lockorder.specs.Ranks.{AreRanks, LeadTo}
use Rattle.lockorder.specs.Faults.{cycle_text, second, StartsAt, cycle, HasNoFault, IsFaultAtFirst, at_first}
use Rattle.lockorder.specs.Faults.{classes_of, AllMakeFirst, IsCycleOf, IsFaultOf}
use Rattle.lockorder.proofs.Rising.{ranks_rise, no_cycle}
use Rattle.lockorder.proofs.Bridge.{edge_within}

pub no_fault : (program : Typed) (ranks : List ℕ) → IsWellFormed program → PathsHaveClasses →
    AreRanks (Edge program) (length program.classes.items) ranks → HasNoFault program
no_fault program ranks well classes are fault (cycle c rest number used bound h made starts code detail) =
    no_cycle (Edge program) (length program.classes.items) ranks (ranks_rise (Edge program) (length program.classes.items) ranks are)
    (λ b d e. let w = edge_within program well classes b d e in (omega (arith, w.0, are.long), omega (arith, w.1, are.long))) (c ∷ rest) h

module _ (program : Typed) where
  leads : (first : ℕ) (edges : List written.Edge) → AllMakeFirst program first edges →
      LeadTo (Edge program) first (classes_of edges)
  leads first [] m = tt
  leads first (e ∷ []) m = (e.section, e.used, e.bound, m.makes)
  leads first (e ∷ f ∷ rest) m = ((e.section, e.used, e.bound, m.0.makes), leads first (f ∷ rest) m.1)

  head_makes : (e : written.Edge) (rest : List written.Edge) → AllMakeFirst program e.class (e ∷ rest) →
      MakesFirst program e.section e.used e.bound e.class (second e.class (classes_of rest))
  head_makes e [] m = m
  head_makes e (f ∷ rest) m = m.0

  pub first_makes : (edges : List written.Edge) (first : written.Edge) → IsCycleOf program edges →
      first ≡ get_or edges 0 first →
      (d : ℕ) × Makes program first.section first.used first.bound first.class d
  first_makes [] first h e = absurd h
  first_makes (x ∷ rest) first h e =
      subst (λ (y : written.Edge). (d : ℕ) × Makes program y.section y.used y.bound y.class d) (sym e) (second x.class (classes_of rest), (head_makes x rest h.1).makes)

  pub fault_of : (edges : List written.Edge) (first : written.Edge) (fault : Fault) → IsCycleOf program edges →
      first ≡ get_or edges 0 first →
      StartsAt program first.section first.used fault.start → fault.code ≡ LockOrderCycle → string_bytes fault.detail ≡ cycle_text program (classes_of edges) → IsFaultOf program edges fault
  fault_of [] first fault h e starts code detail = absurd h
  fault_of (x ∷ rest) first fault h e starts code detail = record {
    starts = subst (λ (y : written.Edge). StartsAt program y.section y.used fault.start) e starts;
    code = code;
    detail = detail;
  }

  -- the fault of a cycle's edges is at the first point that makes the first of them
  pub is_at_first : (edges : List written.Edge) (fault : Fault) → IsCycleOf program edges → IsFaultOf program edges fault →
      IsFaultAtFirst program fault
  is_at_first [] fault h is = absurd h
  is_at_first (x ∷ rest) fault h is =
      at_first x.class (classes_of rest) x.section x.used x.bound (h.0, leads x.class (x ∷ rest) h.1) (head_makes x rest h.1)
      is.starts is.code is.detail

  pub used_within : (number used bound c d : ℕ) (s : Section) (items : List PointRef) →
      Makes program number used bound c d → s ≡ get_or program.sections.items number s →
      map point_at items ≡ points s → used < length items
  used_within number used bound c d s items m is listed =
      let here : slice_get program.sections.items number ≡ Some s =
      slice_get_read program.sections.items (length program.sections.items) number s refl (slice_get_within program.sections.items number m.section m.here) is in
      let same : m.section ≡ s = same_Some m.section s (sym m.here ∙ here) in
      let lt : used < length (points s) = subst (λ (x : Section). used < length (points x)) same (slice_get_within (points m.section) used m.uses.1.0 m.uses.1.1) in
      omega (arith, lt, ap length listed, length-map items point_at)

  pub starts_at : (number used bound c d : ℕ) (s : Section) (items : List PointRef) (r : PointRef) (start : ℕ) →
      Makes program number used bound c d →
      s ≡ get_or program.sections.items number s → map point_at items ≡ points s → r ≡ get_or items used r → start ≡ start_of (point_at r) → StartsAt program number used start
  starts_at number used bound c d s items r start m is listed read starts =
      let here : slice_get program.sections.items number ≡ Some s =
      slice_get_read program.sections.items (length program.sections.items) number s refl (slice_get_within program.sections.items number m.section m.here) is in
      let within : used < length items = used_within number used bound c d s items m is listed in
      let there : slice_get (points s) used ≡ Some (point_at r) =
      ap (λ l. slice_get l used) (sym listed) ∙ slice_get-map point_at items used ∙ ap (option_map point_at) (slice_get_read items (length items) used r refl within read) in
      record { section = s; here = here; point = point_at r; there = there; starts = sym starts }
