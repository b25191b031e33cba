use Rattle.std.proofs.Common.{◌≡◌, ◌∙◌, ◌++◌, length, map, Some, string_bytes, sym, ap, subst, arith}
use Rattle.std.specs.Prelude.{slice_get}
use Rattle.std.proofs.lemmas.Option.{slice_get_read, slice_get_within}
use Rattle.std.proofs.lemmas.Result.{on_ok_weaker}
use Rattle.core_lang.specs.declared.typed.Typed.{Typed}
use Rattle.locks.specs.LockPaths.{lock_path_of}
use Rattle.locks.specs.Theory.Written.{item_here, item_past}
use Rattle.lockpaths.specs.Paths.{ArePaths}
use Rattle.code.specs.Listing.{text_at, instr_text}
use Rattle.code.specs.Lowering.{lists_at}
use Rattle.code.specs.declared.instr.Instr.{Instr}
use Rattle.code.specs.Theory.LineTables.{table_rises}
use Rattle.code.specs.Working.NumberLists.{number_lists}
use Rattle.code.specs.Working.Places.{table_text}
use Rattle.lowering.specs.Working.Lowered.{IsLowered, IsCodeOf}
use Rattle.report_runs.proofs.Tables.{told_by, untold, none_put}
use Rattle.report_runs.proofs.step_teller.StepWriter.push_instruction.Goals as goal

pub index-requires-3 : goal.index-requires-3
index-requires-3 c =
    let x = c.args.self.now in
    let sections = c.expanded-typed.result.now.sections.items in
    let k = c.args.section in
    let at = item_here sections c.deref.result.now k c.deref.ensures.value c.in-Some.found c.in-Some.ensures.lookup in
    omega (
      arith,
      slice_get_within sections k _ at,
      ap (λ (p : Typed). length p.sections.items) c.expanded-typed.ensures.program,
      x.tables.long,
      x.places.ok.0,
    )

pub index-requires : goal.index-requires
index-requires c =
    let sections = c.expanded-typed.result.now.sections.items in
    let k = c.args.section in
    let at = item_here sections c.deref.result.now k c.deref.ensures.value c.in-Some.found c.in-Some.ensures.lookup in
    omega (
      arith,
      slice_get_within sections k _ at,
      ap (λ (p : Typed). length p.sections.items) c.expanded-typed.ensures.program,
      c.code-code.ensures.long,
      c.code-code.result.now.sections.ok.0,
    )

pub index-requires-2 : goal.index-requires-2
index-requires-2 c =
    let sections = c.expanded-typed.result.now.sections.items in
    let k = c.args.section in
    let at = item_here sections c.deref.result.now k c.deref.ensures.value c.in-Some.found c.in-Some.ensures.lookup in
    omega (
      arith,
      slice_get_within sections k _ at,
      ap (λ (p : Typed). length p.sections.items) c.expanded-typed.ensures.program,
      c.paths-paths.ensures.sections,
      c.paths-paths.result.now.sections.ok.0,
    )

pub push_at-requires-clause-paths : goal.push_at-requires-clause-paths
push_at-requires-clause-paths c =
    let program = c.expanded-typed.result.now in
    let sections = program.sections.items in
    let k = c.args.section in
    let paths = c.paths-paths.result.now in
    let listed = c.index-2.result.now in
    let at = item_here sections c.deref.result.now k c.deref.ensures.value c.in-Some.found c.in-Some.ensures.lookup in
    let are : ArePaths program paths =
    subst (λ p. ArePaths p paths) (sym c.expanded-typed.ensures.program) c.paths-paths.ensures in
    let there : slice_get paths.sections.items k ≡ Some listed =
    slice_get_read paths.sections.items (length sections) k listed (sym are.sections)
    (slice_get_within sections k _ at) c.index-2.ensures in
    ap (map lock_path_of) c.deref-2.ensures.value ∙ (are.each k c.in-Some.found.now listed at there).paths

pub push_at-requires-clause-names : goal.push_at-requires-clause-names
push_at-requires-clause-names c = c.args.self.now.names ∙ sym c.expanded-typed.ensures.program

pub returns-in_default : goal.returns-in_default
returns-in_default c =
    let x = c.args.self.now in
    let sections = c.expanded-typed.result.now.sections.items in
    let k = c.args.section in
    let past = item_past sections c.deref.result.now k c.deref.ensures.value c.in_default.ensures.lookup in
    let gone = ap (λ (p : Typed). slice_get p.sections.items k) (sym c.expanded-typed.ensures.program) ∙ past in
    none_put (string_bytes c.args.out.now) _ (untold x.text.now x.program.now k c.args.place gone)

-- the code of this section
pub push_at-requires-clause-rises : goal.push_at-requires-clause-rises
push_at-requires-clause-rises c =
    let x = c.args.self.now in
    let plan = x.program.now in
    let program = c.expanded-typed.result.now in
    let sections = program.sections.items in
    let k = c.args.section in
    let code = c.code-code.result.now in
    let found = c.in-Some.found.now in
    let made = c.index.result.now in
    let at = item_here sections c.deref.result.now k c.deref.ensures.value c.in-Some.found c.in-Some.ensures.lookup in
    let is : IsCodeOf program plan.lists code = subst (λ p. IsCodeOf p plan.lists code) (sym c.expanded-typed.ensures.program) c.code-code.ensures in
    let lowered : IsLowered found (lists_at plan.lists k) made =
    is.each k found made at
    (slice_get_read code.sections.items (length sections) k made (sym is.long) (slice_get_within sections k _ at) c.index.ensures) in
    table_rises (lists_at plan.lists k) found made.begins.items lowered.begins

pub returns : goal.returns
returns c =
    let x = c.args.self.now in
    let plan = x.program.now in
    let program = c.expanded-typed.result.now in
    let sections = program.sections.items in
    let k = c.args.section in
    let place = c.args.place in
    let lists = plan.lists in
    let code = c.code-code.result.now in
    let found = c.in-Some.found.now in
    let made = c.index.result.now in
    let places = c.index-3.result.now in
    let typed = c.expanded-typed.ensures.program in
    let own = number_lists c.lists_before.result.now in
    let at = item_here sections c.deref.result.now k c.deref.ensures.value c.in-Some.found c.in-Some.ensures.lookup in
    let lt = slice_get_within sections k _ at in
    let here : slice_get plan.program.sections.items k ≡ Some found =
    ap (λ (p : Typed). slice_get p.sections.items k) (sym typed) ∙ at in
    let is : IsCodeOf program lists code = subst (λ p. IsCodeOf p lists code) (sym typed) c.code-code.ensures in
    let lowered : IsLowered found (lists_at lists k) made =
    is.each k found made at
    (slice_get_read code.sections.items (length sections) k made (sym is.long) lt c.index.ensures) in
    let its =
    x.tables.each k found places here
    (slice_get_read x.places.items (length plan.program.sections.items) k places (sym x.tables.long)
    (slice_get_within plan.program.sections.items k _ here) c.index-3.ensures) in
    let told = told_by x.text.now plan k place found places made own here its lowered c.lists_before.ensures in
    let named : text_at (λ (i : Instr). table_text places made.begins.items place ++ instr_text program found own place i) made.instructions.items place
    ≡ text_at (λ (i : Instr). table_text places made.begins.items place ++ instr_text plan.program found own place i) made.instructions.items place =
    ap (λ p. text_at (λ (i : Instr). table_text places made.begins.items place ++ instr_text p found own place i) made.instructions.items place) typed in
    on_ok_weaker c.push_at.result (λ e. e ∙ ap (λ t. string_bytes c.args.out.now ++ t) (named ∙ told)) c.push_at.ensures
