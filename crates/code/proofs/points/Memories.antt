-- A whole heap and held cells are memories.
use Rattle.std.proofs.Common.{◌≡◌, ℕ, Option, Some, None, refl, sym, ap}
use Rattle.std.specs.Prelude.{slice_get, slice_set}
use Rattle.std.proofs.lemmas.Option.{slice_get_within}
use Rattle.core_lang.specs.declared.value.Value.{Value}
use Rattle.code.specs.Memory.{HeldCells, value_at, with_value, with_changed, noted, read_if_held, load_held}
use Rattle.code.specs.Memory.{write_if_held, store_held, beside, load_from, written_where, store_to}
use Rattle.code.specs.Working.Seen.{IsMemory, held_value}
use Rattle.code.specs.Theory.Values.{set_here, set_there, changed_same, changed_other}

pub heap_is_memory : IsMemory load_from store_to slice_get
heap_is_memory = record {
  loads = λ heap cell v e. (heap, ap (beside heap) e, λ c. refl);
  stores = λ heap cell old v e. (
    slice_set heap cell v,
    ap (λ o. written_where o heap cell v) e,
    set_here heap cell v (slice_get_within heap cell old e),
    λ c ne. set_there heap cell c v ne,
  );
}

noted-cells : (held : HeldCells) (cell : ℕ) (v : Value) (o : Option Value) → (noted held cell v o).cells ≡ held.cells
noted-cells held cell v None = refl
noted-cells held cell v (Some w) = refl

pub held_is_memory : IsMemory load_held store_held held_value
held_is_memory = record {
  loads = λ held cell v e.
      let written = value_at held.writes cell in
      (noted held cell v written, ap (read_if_held held cell) e, λ c. ap (λ cells. value_at cells c) (noted-cells held cell v written));
  stores = λ held cell old v e. (
    record held { cells = with_changed held.cells cell v; writes = with_value held.writes cell v },
    ap (λ o. write_if_held held o cell v) e,
    changed_same held.cells cell old v e,
    λ c ne. changed_other held.cells cell c v (λ same. ne (sym same)),
  );
}
